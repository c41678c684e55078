-- The definitions that the contracts of `script` cite.
pub mod Answers
pub mod Replies
pub mod Texts
