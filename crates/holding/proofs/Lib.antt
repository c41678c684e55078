-- Lemmas of holdings.
pub mod ByShare
