-- calls of parsers: inside others, from later places, and with values changed
pub mod CallStarts
pub mod GivenValues
pub mod InnerCalls
pub mod Progress
pub mod SameMeanings
pub mod ValueMap
