pub mod Ranges
pub mod Meaning
pub mod Making
pub mod Banks
