-- searches: places in a list of tokens, and what is read from them
pub mod ItemLimit
pub mod SearchParsers
pub mod SearchReasons
pub mod Searches
pub mod StableFunctions
pub mod TakeFn
