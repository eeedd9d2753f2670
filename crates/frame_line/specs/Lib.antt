-- What the call for one line rests on. Play: a line's keys run through idle tasks.
pub mod Play
