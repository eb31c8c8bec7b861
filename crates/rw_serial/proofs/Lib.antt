pub mod Counting
pub mod Left
pub mod Lists
pub mod Midrun
pub mod Onward
pub mod Permuted
pub mod Sanity
pub mod Until
