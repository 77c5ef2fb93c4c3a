use Rattle.std.proofs.Common.{nat_eq, of_calls, refl, sym}
use Rattle.combine_token.specs.Token.OneToken.{of_function, of_function_is_predicate, one_token_is_single, satisfied, satisfied_is_test}
use Rattle.combine_token.specs.Token.TokenParsers.{token_parser}
use Rattle.combine_combinator.proofs.OneMade.{one_made}
use Rattle.combine_repeat.proofs.OneAsked.{one_asked}
use Rattle.tests_promises.proofs.made.made.Goals as goal

pub keeps_without_memory-requires-2-clause-determined : goal.keeps_without_memory-requires-2-clause-determined
keeps_without_memory-requires-2-clause-determined g c = (λ n h. tt, one_made (token_parser 97) (λ v n m. let p = m.met.met in search of_calls) (one_token_is_single (satisfied (of_function (λ t. nat_eq t 97))) (satisfied_is_test _ (of_function_is_predicate (λ t. nat_eq t 97)))))

pub keeps-requires-clause-determined : goal.keeps-requires-clause-determined
keeps-requires-clause-determined g c = rw c.iterate.ensures (one_asked (λ b. token_parser b) (λ b n m. let p = m.met.met in let e = m.met.lends in rw (sym e) (search of_calls)) (λ b. one_token_is_single (satisfied (of_function (λ t. nat_eq t b))) (satisfied_is_test _ (of_function_is_predicate (λ t. nat_eq t b)))), λ n h. tt, (_, _, (refl, refl), refl))

pub keeps_without_memory-requires-3-clause-determined : goal.keeps_without_memory-requires-3-clause-determined
keeps_without_memory-requires-3-clause-determined g c = rw c.iterate-2.ensures (one_asked (λ b. token_parser b) (λ b n m. let p = m.met.met in let e = m.met.lends in rw (sym e) (search of_calls)) (λ b. one_token_is_single (satisfied (of_function (λ t. nat_eq t b))) (satisfied_is_test _ (of_function_is_predicate (λ t. nat_eq t b)))), λ n h. tt, (_, _, (refl, refl), refl))
