pub mod Ints
pub mod Numbers
pub mod Operators
pub mod Worked
