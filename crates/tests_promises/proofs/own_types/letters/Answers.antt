use Rattle.std.proofs.Common.{[], ◌∙◌, ◌∷◌, arith, rules}
use Rattle.std.proofs.lemmas.List.Elements.{same_from_all_zip}
use Rattle.combine_token.proofs.Lists.StdLists.{array_is_iterated}
use Rattle.tests_promises.proofs.own_types.letters.Goals as goal

pub parse_pieces-requires : goal.parse_pieces-requires
parse_pieces-requires c = rw c.tokens_cmp.ensures (search rules, (search rules, array_is_iterated 2 _ _ _ (97 ∷ 98 ∷ []) (λ clone start i j. j.0 ∙ same_from_all_zip _ _ _ i.whole (λ x y e. e)) (omega arith)))
