-- What the numbers of a good first line keep to.
mod Good
