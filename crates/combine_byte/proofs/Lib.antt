pub mod ItemLimit
pub mod SearchCalls
pub mod ByteSearch
pub mod SearchReasons
pub mod ByteScans
pub mod ByteSums
pub mod NumberCalls
