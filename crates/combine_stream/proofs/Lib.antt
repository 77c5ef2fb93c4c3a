mod BlockWalks
pub mod IndexedSlices
pub mod MarkedStreams
pub mod TokenWalks
pub mod PlacedTexts
pub mod SliceLengths
pub mod TextCuts
mod TextParts
