pub mod Distances
pub mod Error
pub mod Functions
pub mod Parser
pub mod Predicates
pub mod Refusals
pub mod Sequence
pub mod Stream
