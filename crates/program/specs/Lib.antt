pub mod Fields
pub mod Refusals
pub mod Decode
pub mod Layout
pub mod Program
pub mod Encode
