-- Laws on automata.
pub mod Walks
pub mod Alikes
pub mod Settling
pub mod Tellings
pub mod Lineage
pub mod Rekinding
pub mod Reaching
pub mod Rowlists
pub mod Quotients
pub mod Fewest
