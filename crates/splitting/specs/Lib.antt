-- Classes by splitting, in lent memory.
pub mod Work
pub mod Parts
pub mod Slices
pub mod Running
pub mod RunCall
pub mod Filling
pub mod StartCall
pub mod Sequence
pub mod Starting
