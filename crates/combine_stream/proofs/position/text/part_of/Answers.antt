use Rattle.std.proofs.Common.{arith, sym, subst, ◌-◌}
use Rattle.combine_stream.specs.Position.Lines.{CountsFit}
use Rattle.combine_stream.proofs.TextParts.{chars_between, text_fits_behind}
use Rattle.combine_stream.proofs.position.text.part_of.Goals as goal

pub invariant_of-result : goal.invariant_of-result
invariant_of-result c =
    let a = c.split_at.ensures.front_len in
    let b = c.split_at-2.ensures.back_len in
    let d = c.requires.order in
    let e = c.requires.to.0 in
    let f = subst (λ p. CountsFit p (c.args.to - c.args.from)) (sym c.requires.place) (text_fits_behind c.args.text.now c.args.from (c.args.to - c.args.from) c.utf8.text c.requires.from (omega arith) (omega arith)) in
    let g = f.0 in
    let h = f.1 in
    record { lines = omega arith; columns = omega arith }

pub returns-clause-rest : goal.returns-clause-rest
returns-clause-rest c = rw (c.split_at-2.ensures.back, c.split_at.ensures.front) (chars_between _ _ _ c.utf8.text c.requires.from c.requires.to c.requires.order)
