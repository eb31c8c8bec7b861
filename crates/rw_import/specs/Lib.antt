-- what public contracts say
pub mod Limits
pub mod Written
pub mod Log
pub mod Oracle
pub mod Csv
pub mod Spread
pub mod Streamed
pub mod Formats
pub mod OracleRows
-- what private contracts say
pub mod Lines
pub mod Sheet
pub mod Stream
pub mod CsvStream
pub mod OracleStream
