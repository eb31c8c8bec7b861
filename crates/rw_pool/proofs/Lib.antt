pub mod Lists
pub mod Asking
pub mod Dealing
pub mod Sums
pub mod Zipped
