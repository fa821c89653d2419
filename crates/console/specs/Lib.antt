pub mod Meaning
pub mod Prints
