use Rattle.std.proofs.Common.{sym, ◌∙◌, nat_eq, ap}
use Rattle.std.specs.Cmp.Lexicographic.{pointwise}
use Rattle.combine_byte.proofs.ByteScans.{equal_stands, stands_equal}
use Rattle.combine_byte.proofs.find.begins.Goals as goal

pub returns : goal.returns
returns c =
    let f = ap (λ xs. pointwise nat_eq xs c.args.needle.now) c.split_at.ensures.front in
    (λ e. equal_stands c.args.needle.now c.args.bytes.now c.if-bytes-needle.false (sym f ∙ sym c.eq.ensures ∙ e), λ s. c.eq.ensures ∙ f ∙ stands_equal c.args.needle.now c.args.bytes.now s)
