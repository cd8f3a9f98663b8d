-- Laws of running words and lines.
pub mod Walking
pub mod Signs
pub mod Answering
pub mod Equivalence
pub mod Uniqueness
