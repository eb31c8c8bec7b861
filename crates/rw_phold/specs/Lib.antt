pub mod Draws
pub mod Settings
pub mod Balls
pub mod Beginning
pub mod Reports
