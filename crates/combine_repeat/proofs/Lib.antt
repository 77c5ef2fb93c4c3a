pub mod TurnSteps
pub mod TurnCalls
pub mod OneTurn
pub mod SoundValues
pub mod RepeatCalls
pub mod TurnRefusals
pub mod PlainTurns
pub mod DroppedValues
pub mod OneThenTurns
mod CutValues
mod IteratorDivision
mod EachItem
mod ItemErrors
mod IteratorBlocks
pub mod OneAsked
pub mod NumberRanges
mod NextCalls
