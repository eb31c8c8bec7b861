pub mod Batches
pub mod Beginning
pub mod Running
pub mod Working
