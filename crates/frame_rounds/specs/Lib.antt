-- The rounds of a line, task by task, and what the loops over them keep. Keys: a line's keys by number.
-- Sitting: one task's turn on its own record. Desk: the sixteen places for tasks, of which the first n sit.
pub mod Keys
pub mod Sitting
pub mod Desk
