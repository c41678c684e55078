pub mod Bytes
pub mod Files
pub mod Inverses
pub mod Layouts
pub mod Recoded
pub mod Rows
pub mod Statements
