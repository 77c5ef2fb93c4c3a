use Rattle.std.proofs.Common.{[], ◌∙◌, ◌∷◌, nat_eq, refl}
use Rattle.std.proofs.lemmas.List.Elements.{same_from_all_zip}
use Rattle.combine_token.proofs.Lists.KnownItems.{among_is_predicate}
use Rattle.combine_token.proofs.Lists.StdLists.{array_lists}
use Rattle.tests_promises.proofs.lists.among.Goals as goal

pub keeps_without_memory-requires-clause-determined : goal.keeps_without_memory-requires-clause-determined
keeps_without_memory-requires-clause-determined g c = rw c.one_of.ensures (among_is_predicate _ _ _ _ (λ x. x) (97 ∷ 98 ∷ []) (array_lists 2 _ _ _ (97 ∷ 98 ∷ []) (λ clone start i j. j.0 ∙ same_from_all_zip _ _ _ i.whole (λ x y e. e))) _ nat_eq (λ x t. refl))

pub keeps_without_memory-requires-2-clause-determined : goal.keeps_without_memory-requires-2-clause-determined
keeps_without_memory-requires-2-clause-determined g c = rw c.none_of.ensures (among_is_predicate _ _ _ _ (λ x. x) (97 ∷ 98 ∷ []) (array_lists 2 _ _ _ (97 ∷ 98 ∷ []) (λ clone start i j. j.0 ∙ same_from_all_zip _ _ _ i.whole (λ x y e. e))) _ nat_eq (λ x t. refl))
