pub mod Attempts
pub mod AttemptReasons
mod NotFollowedBy
mod TableAnswers
mod TokenCollection
mod RecognizedAnswers
mod MadeAnswers
pub mod OneMade
