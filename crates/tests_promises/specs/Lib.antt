pub mod NeedsOfMore
