use Rattle.std.proofs.Common.{◌≡◌, of_calls, refl, true}
use Rattle.combine_choice.specs.declared.variants.either.Either.TheVariants.{Left}
use Rattle.combine_token.specs.Token.OneToken.{of_function, of_function_is_predicate, one_token_is_single, satisfied, satisfied_is_test}
use Rattle.combine_token.specs.Token.TokenParsers.{any_parser}
use Rattle.combine_repeat.proofs.OneAsked.{one_asked}
use Rattle.tests_promises.proofs.made.answered_for_items.Goals as goal

pub keeps-requires-clause-determined : goal.keeps-requires-clause-determined
keeps-requires-clause-determined g c = rw c.iterate.ensures (one_asked (λ b. Left any_parser) (λ b n m. let p = m.met.met in search of_calls) (λ b. one_token_is_single (satisfied (of_function (λ t. true))) (satisfied_is_test _ (of_function_is_predicate (λ t. true)))), λ n h. let p = h.answered.met.met in let e : n ≡ Left any_parser = search of_calls in rw e tt, (_, _, (refl, refl), refl))

pub keeps_without_memory-requires-clause-determined : goal.keeps_without_memory-requires-clause-determined
keeps_without_memory-requires-clause-determined g c = rw c.iterate-2.ensures (one_asked (λ b. Left any_parser) (λ b n m. let p = m.met.met in search of_calls) (λ b. one_token_is_single (satisfied (of_function (λ t. true))) (satisfied_is_test _ (of_function_is_predicate (λ t. true)))), λ n h. let p = h.answered.met.met in let e : n ≡ Left any_parser = search of_calls in rw e tt, (_, _, (refl, refl), refl))
