use Rattle.std.proofs.Common.{sym, ◌∙◌, ap, ◌++◌, drop}
use Rattle.std.proofs.lemmas.List.{take-append-drop}
use Rattle.combine_byte.proofs.ByteScans.{without_more}
use Rattle.combine_byte.proofs.find.skip_blocks.Goals as goal

pub loop-rest-preserved : goal.loop-rest-preserved
loop-rest-preserved g c =
    let s = c.split_at.ensures in
    record { without = without_more _ _ c.loop-rest.rest.now c.split_at.result.0.now c.split_at.result.1.now c.loop-rest.invariant.without (sym (take-append-drop g.row.N c.loop-rest.rest.now) ∙ ap (λ xs. xs ++ drop g.row.N c.loop-rest.rest.now) (sym s.front) ∙ ap (λ xs. c.split_at.result.0.now ++ xs) (sym s.back)) (c.any.ensures c.if-any.false) }
