pub mod Clipped
pub mod Said
