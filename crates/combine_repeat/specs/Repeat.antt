-- repetitions of one parser, and counts
pub mod Counts
pub mod OneThenTurns
pub mod RepeatParsers
pub mod Repeated
