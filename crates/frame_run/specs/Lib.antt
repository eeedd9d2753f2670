-- What a whole line leaves of a run, as the code has it, and the laws of its branches, by subject.
-- Closing: what is left. Printing: texts at the front of the output. Framing: a line of keys, and any line.
pub mod Closing
pub mod Printing
pub mod Framing
