use Rattle.std.proofs.Common.{rules, arith}
use Rattle.combine_token.proofs.Lists.StdLists.{slice_is_iterated}
use Rattle.tests_rows.proofs.tokens.any_case.Goals as goal

pub check-requires : goal.check-requires
check-requires g c = rw c.tokens_cmp.ensures (search rules, slice_is_iterated _ _ c.args.list c.args.list.now (λ clone start i j. cc) (omega arith))
