mod ByTime
mod First
mod Lists
mod Marking
mod Moving
mod Next
mod Places
mod Queue
mod Waiting
mod Wheels
pub mod Cited
