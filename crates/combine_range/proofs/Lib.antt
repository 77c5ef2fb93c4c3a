mod RecognizedRange
pub mod KeptDistance
pub mod LengthCalls
pub mod PeekedRefusals
pub mod RangeReasons
pub mod RecognizedCalls
pub mod RangePlaces
pub mod CheckpointRanges
pub mod UntilRange
pub mod RangeTests
pub mod FairTests
pub mod BeginningCalls
pub mod OneLengths
pub mod LengthAndItems
pub mod PrefixErrors
