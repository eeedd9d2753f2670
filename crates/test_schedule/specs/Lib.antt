-- What two digits and a stored record's line say, and what an action shows; a record that is shown is read back; what
-- the first and the second line make of a run of a schedule.
pub mod Begins
pub mod Record
pub mod Shown
pub mod ReadBack
