pub mod Rings
pub mod Turned
pub mod Walked
