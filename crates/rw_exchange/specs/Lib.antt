-- what public contracts say
pub mod Limits
pub mod Ports
-- the ends of rings, of which only private contracts and a port's invariant speak
pub mod Rings
