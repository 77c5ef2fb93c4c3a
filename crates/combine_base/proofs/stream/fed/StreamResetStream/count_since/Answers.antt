use Rattle.std.proofs.Common.{◌∙◌, take, ap, arith}
use Rattle.std.proofs.lemmas.List.{length-take-le}
use Rattle.combine_base.specs.Stream.View.{View}
use Rattle.combine_base.specs.Stream.Fed.{after_count}
use Rattle.combine_base.proofs.stream.fed.StreamResetStream.count_since.Goals as goal

pub returns : goal.returns
returns g c n v h t =
    let p = t.position ∙ after_count v.position (take n v.unread) in
    let l = length-take-le n v.unread t.enough in
    let q = ap (λ (u : View _ _). u.position) h.seen in
    let d = c.saturating_sub.ensures in
    omega arith
