pub mod Commands
pub mod Held
pub mod Lengths
pub mod Replies
pub mod Sessions
pub mod Spelled
pub mod Spots
pub mod Words
