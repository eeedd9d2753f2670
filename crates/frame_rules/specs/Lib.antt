-- The frame program of document 01, as definitions.
pub mod Digits
pub mod Lines
pub mod TableLine
pub mod Rounds
pub mod Frame
pub mod Call
pub mod Feed
pub mod Examples
pub mod FeedExamples
