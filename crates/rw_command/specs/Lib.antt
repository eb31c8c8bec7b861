pub mod Status
pub mod Written
pub mod Left
pub mod Said
