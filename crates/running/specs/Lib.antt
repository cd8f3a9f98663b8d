-- Running words and lines.
pub mod Plan
pub mod Running
