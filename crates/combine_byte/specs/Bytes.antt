-- bytes of tokens, and searches in them
pub mod ByteScans
pub mod ByteSearch
pub mod Encoding
