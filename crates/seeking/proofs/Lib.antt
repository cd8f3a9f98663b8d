-- Laws of seeking.
pub mod Numbers
pub mod Backwards
pub mod Searching
pub mod Linking
pub mod Pairing
pub mod Turning
pub mod Backtracing
