pub mod Meeting
pub mod Passing
pub mod Turning
pub mod Opened
