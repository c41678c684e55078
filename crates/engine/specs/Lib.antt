-- The definitions that the contracts of this crate cite, besides those of semantics.
pub mod View
pub mod Lending
pub mod Shape
pub mod Standing
pub mod Running
pub mod Passing
pub mod Opening
