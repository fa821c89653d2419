pub mod Kept
pub mod Sameness
