pub mod Rules
pub mod Kinds
pub mod Sets
pub mod Subsets
