use Rattle.std.proofs.Common.{[], ◌∙◌, ◌∷◌, ◌≡◌, arith, nat_eq, of_calls, rules}
use Rattle.std.proofs.lemmas.List.Elements.{same_from_all_zip}
use Rattle.combine_token.proofs.Lists.ListClones.{iterated_compares_once}
use Rattle.combine_token.proofs.Lists.StdLists.{array_is_iterated, array_lists}
use Rattle.tests_promises.proofs.lists.one_by_one.Goals as goal

pub keeps_and_asks-requires-clause-lawful : goal.keeps_and_asks-requires-clause-lawful
keeps_and_asks-requires-clause-lawful g c = rw c.tokens.ensures.2 (search rules, array_is_iterated 2 _ _ _ (97 ∷ 98 ∷ []) (λ clone start i j. j.0 ∙ same_from_all_zip _ _ _ i.whole (λ x y e. e)) (omega arith))

pub keeps_and_asks-requires-clause-determined : goal.keeps_and_asks-requires-clause-determined
keeps_and_asks-requires-clause-determined g c = rw c.tokens.ensures.2 (iterated_compares_once _ _ _ _ (λ x. x) (97 ∷ 98 ∷ []) (array_lists 2 _ _ _ (97 ∷ 98 ∷ []) (λ clone start i j. j.0 ∙ same_from_all_zip _ _ _ i.whole (λ x y e. e))) _ (λ x t b. b ≡ nat_eq x t) (λ x t b p. search of_calls) (λ x t p q. cc))

pub keeps_and_asks-requires-2-clause-lawful : goal.keeps_and_asks-requires-2-clause-lawful
keeps_and_asks-requires-2-clause-lawful g c = rw c.tokens_cmp.ensures (search rules, array_is_iterated 2 _ _ _ (97 ∷ 98 ∷ []) (λ clone start i j. j.0 ∙ same_from_all_zip _ _ _ i.whole (λ x y e. e)) (omega arith))

pub keeps_and_asks-requires-2-clause-determined : goal.keeps_and_asks-requires-2-clause-determined
keeps_and_asks-requires-2-clause-determined g c = rw c.tokens_cmp.ensures (iterated_compares_once _ _ _ _ (λ x. x) (97 ∷ 98 ∷ []) (array_lists 2 _ _ _ (97 ∷ 98 ∷ []) (λ clone start i j. j.0 ∙ same_from_all_zip _ _ _ i.whole (λ x y e. e))) _ (λ x t b. b ≡ nat_eq x t) (λ x t b p. search of_calls) (λ x t p q. cc))
