pub mod Lines
pub mod Texts
pub mod Numbers
pub mod Workers
pub mod Lanes
pub mod Skipping
