pub mod Happenings
pub mod OrderedRows
pub mod Reversing
pub mod ValidRows
pub mod Stores
pub mod Clears
