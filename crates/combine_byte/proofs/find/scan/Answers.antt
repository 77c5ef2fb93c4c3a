use Rattle.std.proofs.Common.{sym, ap, subst, ◌∙◌, ◌+◌}
use Rattle.std.proofs.lemmas.List.{drop_more}
use Rattle.combine_byte.specs.Bytes.ByteScans.{FirstByte}
use Rattle.combine_byte.proofs.ByteScans.{first_here, none_more}
use Rattle.combine_byte.proofs.find.scan.Goals as goal

pub returns-then-holds : goal.returns-then-holds
returns-then-holds g c =
    let h = c.holds.ensures in
    let t = c.if-holds.true in
    subst (FirstByte _ c.args.bytes.now) (sym c.loop-byte.invariant.count) (first_here _ c.args.bytes.now c.loop-byte.byte-index _ _ c.loop-byte.invariant.none (drop_more c.args.bytes.now c.loop-byte.byte-index 0 c.loop-byte-test.true) (sym h ∙ t))

pub loop-byte-preserved : goal.loop-byte-preserved
loop-byte-preserved g c =
    let h = c.holds.ensures in
    let t = c.if-holds.false in
    record {
      count = ap (λ n. n + 1) c.loop-byte.invariant.count;
      none = none_more _ c.args.bytes.now c.loop-byte.byte-index _ _ c.loop-byte.invariant.none (drop_more c.args.bytes.now c.loop-byte.byte-index 0 c.loop-byte-test.true) (sym h ∙ t);
    }
