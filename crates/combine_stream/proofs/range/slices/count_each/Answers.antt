use Rattle.std.proofs.Common.{refl, arith, ap, sym, ◌∙◌, ◌∷◌, ◌+◌, drop}
use Rattle.std.proofs.lemmas.List.{drop_more, drop_all}
use Rattle.combine_stream.proofs.TokenWalks.{passed_none, passed_more, passed_stop, passed_end}
use Rattle.combine_stream.proofs.range.slices.count_each.Goals as goal

pub loop-token-init : goal.loop-token-init
loop-token-init g c = record { count = refl; passed = passed_none _ _ _ }

pub returns-then-not-call : goal.returns-then-not-call
returns-then-not-call g c =
    let at = drop_more c.args.tokens.now c.loop-token.token-index c.token-item.result c.loop-token-test.true ∙ ap (λ t. t ∷ drop (c.loop-token.token-index + 1) c.args.tokens.now) (sym c.token-item.is) in
    passed_stop _ _ _ _ _ c.loop-token.invariant.passed _ _ at (c.if-not-call.ensures)

pub loop-token-preserved : goal.loop-token-preserved
loop-token-preserved g c =
    let at = drop_more c.args.tokens.now c.loop-token.token-index c.token-item.result c.loop-token-test.true ∙ ap (λ t. t ∷ drop (c.loop-token.token-index + 1) c.args.tokens.now) (sym c.token-item.is) in
    record { count = ap (λ n. n + 1) c.loop-token.invariant.count; passed = passed_more _ _ _ _ _ c.loop-token.invariant.passed _ _ at (c.if-not-call.ensures) }

pub returns : goal.returns
returns g c =
    passed_end _ _ _ _ _ c.loop-token.invariant.passed (drop_all c.loop-token.token-index c.args.tokens.now (omega arith))
