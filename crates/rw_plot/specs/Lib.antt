-- what contracts say
pub mod Escape
pub mod Names
-- what a table means
pub mod Layouts
pub mod Tables
