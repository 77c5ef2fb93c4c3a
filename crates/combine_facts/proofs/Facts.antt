-- all words and lemmas for callers, from one place
pub use Rattle.combine_facts.specs.DriverReads.{Fed, IfAccepted}
pub use Rattle.combine_facts.specs.TurnReads.{all_where, each, first_and_each, gathers, listed, none_or_more, one_or_more, passed, so_many}
pub use Rattle.combine_facts.specs.PartReads.{eight, first_of, five, four, middle_of, second_of, seven, six, three, two}
pub use Rattle.combine_facts.specs.Reads.{Reads, any_one, changed, either, maybe, nothing, one_of, one_where, tested, this_one}
pub use Rattle.combine_facts.proofs.MapFacts.{mapped_reads}
pub use Rattle.combine_facts.proofs.ChoiceFacts.{either_reads, optional_reads, or_reads}
pub use Rattle.combine_facts.proofs.DriverFacts.{outcome_says, begun_fed, more_fed, parse_reads, pieces_read, session_reads}
pub use Rattle.combine_facts.proofs.TokenFacts.{any_reads, byte_reads, end_reads, given_reads, reads_as, reads_by, satisfied_reads, tested_reads, token_reads, where_reads}
pub use Rattle.combine_facts.proofs.TupleFacts.{between_reads, eight_reads, five_reads, four_reads, seven_reads, six_reads, skip_reads, three_reads, two_reads, with_reads}
pub use Rattle.combine_facts.proofs.TurnFacts.{all_where_reads, each_where, listed_reads, passed_reads, turns_reads, vec_reads, vec_where_reads}
