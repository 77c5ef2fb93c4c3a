pub mod RestartCalls
pub mod Letters
pub mod ValueChanges
pub mod SpelledLists
