pub mod Parcels
pub mod Notes
