-- tuples, by the calls of their parts
pub mod SequenceAnswers
pub mod SequenceCalls
pub mod SequenceResumes
pub mod SingleAnswers
