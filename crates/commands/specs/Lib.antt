-- The definitions that the contracts of `commands` cite.
pub mod Pieces
pub mod Numbers
pub mod Arguments
pub mod Commands
pub mod Files
pub mod Texts
