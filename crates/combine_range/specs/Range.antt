-- parsers of ranges: of a length, under a test, up to a range, and of what a parser takes
pub mod Beginnings
pub mod Lengths
pub mod RangeParsers
pub mod RecognizedRange
pub mod UntilRange
