pub mod HeldPrograms
pub mod ManyWords
pub mod Naming
pub mod Newest
pub mod Numbers
pub mod Placed
pub mod Replays
