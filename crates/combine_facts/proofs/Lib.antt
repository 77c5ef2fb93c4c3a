pub mod TokenFacts
pub mod MapFacts
pub mod ChoiceFacts
pub mod TupleFacts
pub mod CountFacts
pub mod TurnFacts
pub mod DriverFacts
pub mod Facts
