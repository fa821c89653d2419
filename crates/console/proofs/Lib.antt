pub mod Printing
pub mod Telling
