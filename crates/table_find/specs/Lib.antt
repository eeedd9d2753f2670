-- Laws that the calls on a table rest on: the surroundings of a home, a key's entry, find, and the count of the fill.
pub mod Around
pub mod Count
pub mod Finding
