-- What the contracts of holdings cite.
pub mod Stands
pub mod Counts
pub mod Splitting
