pub mod Ended
pub mod Found
pub mod Passing
pub mod Told
