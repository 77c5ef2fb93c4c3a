-- choices: alternatives tried one after another
pub mod ChoiceOutcomes
pub mod ChoiceReasons
pub mod FirstAlternative
pub mod HalfCalls
pub mod LaterAlternatives
pub mod MergedRefusals
pub mod Optionals
