-- The laws that the call list rests on. Check: a whole table in two passes. Sound: these tell whether it is sound.
-- Queue: its entries by one queue of homes. Scan, Write: the steps of the loops that find and write the keys.
pub mod Check
pub mod Sound
pub mod Queue
pub mod Scan
pub mod Write
