pub mod Paths
pub mod Walks
