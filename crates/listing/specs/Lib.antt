pub mod Lines
pub mod Small
pub mod Shown
pub mod Plans
pub mod Listed
