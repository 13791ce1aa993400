pub mod Sums
pub mod Bounds
pub mod Calls
pub mod Lines
pub mod Bursts
pub mod Systems
pub mod Sigma
