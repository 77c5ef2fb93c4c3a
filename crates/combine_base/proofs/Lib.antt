pub mod Errors
pub mod Streams
pub mod Sequences
pub mod Parsers
