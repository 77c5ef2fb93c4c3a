use Rattle.std.proofs.Common.{of_calls, ◌∙◌}
use Rattle.combine_byte.specs.declared.search.TakeRange.TheVariants.{Found}
use Rattle.tests_promises.proofs.ranges.found.Goals as goal

pub puts_back_without_memory-requires-clause-determined : goal.puts_back_without_memory-requires-clause-determined
puts_back_without_memory-requires-clause-determined g c = c.stable_has_one_outcome.ensures (λ us. Found 1) (record { answers_by = λ r us t s a. a.2 ∙ search of_calls; stays = λ us x i e. e; again = λ us x n k e l z. absurd (cc) })
