pub mod FirstWorker
pub mod LaterPorts
pub mod Sourced
