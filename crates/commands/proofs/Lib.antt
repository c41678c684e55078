-- Lemmas of lines, fields, numbers and digits.
pub mod Cuts
pub mod Decimals
pub mod Digits
