pub mod Again
pub mod FunctionCalls
pub mod Changes
pub mod Once
pub mod PlainFunctions
