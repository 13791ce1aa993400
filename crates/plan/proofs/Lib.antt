pub mod Checked
pub mod Filled
pub mod NoFlows
pub mod Searches
pub mod Alone
