mod OneMessage
mod FeedCalls
mod TokenTurns
mod FrameAnswers
pub mod MessageDivision
pub mod DecodedPieces
