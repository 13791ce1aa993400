pub mod Tables
pub mod Samples
