pub mod Arrays
pub mod Counts
pub mod Delays
pub mod Least
pub mod Over
