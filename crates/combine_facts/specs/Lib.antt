pub mod Reads
pub mod PartReads
pub mod TurnReads
pub mod DriverReads
