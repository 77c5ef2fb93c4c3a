use Rattle.std.proofs.Common.{nat_eq, rules}
use Rattle.combine_base.specs.Error.Errors.{Only}
use Rattle.combine_base.specs.Error.Items.{Expected, OfToken}
use Rattle.combine_base.specs.Error.NoItems.{no_items}
use Rattle.combine_base.specs.Error.Results.{from_standard}
use Rattle.combine_token.specs.Token.OneToken.{of_function, of_function_is_predicate, one_token_is_reading, one_token_is_single, satisfied, satisfied_is_test, takes_one}
use Rattle.combine_function.proofs.PlainFunctions.{env_is_single, env_needs_no_memory, plain_is_single, plain_needs_no_memory, runs_at, runs_with}
use Rattle.tests_promises.proofs.called.of_functions.Goals as goal

pub puts_back_without_memory-requires-clause-determined : goal.puts_back_without_memory-requires-clause-determined
puts_back_without_memory-requires-clause-determined c =
    let test = satisfied (of_function (λ t. nat_eq t 97)) in
    plain_is_single _ no_items _ _ _ (λ s. Unit {0}) (takes_one no_items test (Unit {0}) (Only (Expected (OfToken 97)))) from_standard _ (runs_at _ no_items _ _ _ (λ s. Unit {0}) _ from_standard _ _ (λ shown after own p. p)) (one_token_is_reading test) (one_token_is_single test (satisfied_is_test _ (of_function_is_predicate (λ t. nat_eq t 97))))

pub puts_back_without_memory-requires-clause-puts_back : goal.puts_back_without_memory-requires-clause-puts_back
puts_back_without_memory-requires-clause-puts_back c =
    let test = satisfied (of_function (λ t. nat_eq t 97)) in
    (search rules, (tt, plain_needs_no_memory _ no_items _ _ _ (λ s. Unit {0}) (takes_one no_items test (Unit {0}) (Only (Expected (OfToken 97)))) from_standard _ (runs_at _ no_items _ _ _ (λ s. Unit {0}) _ from_standard _ _ (λ shown after own p. p)) tt tt))

pub puts_back_without_memory-requires-2-clause-determined : goal.puts_back_without_memory-requires-2-clause-determined
puts_back_without_memory-requires-2-clause-determined c =
    let test = satisfied (of_function (λ t. nat_eq t 97)) in
    rw c.env_parser.ensures (env_is_single _ no_items _ _ _ (λ s. Unit {0}) (takes_one no_items test (Unit {0}) (Only (Expected (OfToken 97)))) from_standard _ _ (runs_with _ no_items _ _ _ (λ s. Unit {0}) _ from_standard _ _ _ (λ env shown after own i p. rw i at p)) (one_token_is_reading test) (one_token_is_single test (satisfied_is_test _ (of_function_is_predicate (λ t. nat_eq t 97)))))

pub puts_back_without_memory-requires-2-clause-puts_back : goal.puts_back_without_memory-requires-2-clause-puts_back
puts_back_without_memory-requires-2-clause-puts_back c =
    let test = satisfied (of_function (λ t. nat_eq t 97)) in
    rw c.env_parser.ensures (search rules, (tt, env_needs_no_memory _ no_items _ _ _ (λ s. Unit {0}) (takes_one no_items test (Unit {0}) (Only (Expected (OfToken 97)))) from_standard _ _ (runs_with _ no_items _ _ _ (λ s. Unit {0}) _ from_standard _ _ _ (λ env shown after own i p. rw i at p)) tt tt))
