-- The definitions that the contracts of this crate cite, besides those of typing.
pub mod Operators
pub mod Records
pub mod Files
pub mod Names
pub mod Arguments
