-- That each machine keeps the laws of a machine. These are proofs; an `impl` names them, and takes them from here alone.
pub mod Bounded
pub mod Bounds
pub mod Grounded
pub mod Lists
pub mod Machines
pub mod Pending
pub mod Runs
pub mod Sameness
pub mod Shape
pub mod Steps
pub mod UnbufferedShape
pub mod UnbufferedSteps
pub mod Values
