-- streams: tokens passed over, and what positions tell
pub mod Distances
pub mod FirstCharacter
pub mod Movement
