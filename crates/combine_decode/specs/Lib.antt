pub mod Messages
pub mod Decoders
pub mod DecodedPieces
pub mod MessageLaws
pub mod Frames
