-- The lemmas of this crate, by topic.
pub mod Further
pub mod Answered
pub mod Taken
pub mod Running
pub mod Views
pub mod Marks
pub mod Parts
