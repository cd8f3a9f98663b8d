-- Laws on lent memory.
pub mod Halves
pub mod Grids
pub mod Memories
