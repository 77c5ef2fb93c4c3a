use Rattle.std.proofs.Common.{arith, ap, refl, sym, take}
use Rattle.std.proofs.lemmas.List.{length-take-le}
use Rattle.combine_stream.proofs.BlockWalks.{few}
use Rattle.combine_stream.proofs.IndexedSlices.{index_takes, index_within, longest_same}
use Rattle.combine_stream.proofs.TokenWalks.{while_by_range}
use Rattle.combine_stream.proofs.SliceLengths.{slice_place}
use Rattle.combine_stream.proofs.position.slice.SliceStreamRangeStream.uncons_while.Goals as goal

pub overflow_add-self : goal.overflow_add-self
overflow_add-self g c =
    let h = index_within c.args.self.now _ _ c.unread-unread.ensures (few _ _ _ c.count_while-n.ensures) in
    omega arith

pub invariant_of-self : goal.invariant_of-self
invariant_of-self g c =
    let h = index_within c.args.self.now _ _ c.unread-unread.ensures (few _ _ _ c.count_while-n.ensures) in
    omega arith

pub slice_bounds-result-end : goal.slice_bounds-result-end
slice_bounds-result-end g c = sym (length-take-le c.count_while-n.result c.unread-unread.result.now (few _ _ _ c.count_while-n.ensures))

pub returns-clause-read : goal.returns-clause-read
returns-clause-read g c =
    let longest = longest_same (g.F.Function.returns c.args.f.now) _ _ _ c.unread-unread.ensures c.count_while-n.ensures in
    let m = few _ _ _ longest in
    while_by_range (λ t. omega arith) longest (record { is = (_, slice_place _ _ m, record { taken = index_takes c.args.self.now _ m; spelled = ap (take c.count_while-n.result) c.unread-unread.ensures; failures = λ s. refl }) })
