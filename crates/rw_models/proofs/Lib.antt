mod Ending
mod Lists
mod Sorts
mod Recording
mod Between
mod Segments
