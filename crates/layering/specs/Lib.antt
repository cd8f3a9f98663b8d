-- Classes by layers, in lent memory.
pub mod Sized
pub mod Work
pub mod Layered
pub mod Slices
pub mod Calls
