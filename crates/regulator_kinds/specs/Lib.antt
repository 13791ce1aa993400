pub mod Kinds
pub mod Counters
