use Rattle.std.proofs.Common.{◌≡◌, ◌||◌, Bool, true, false, refl}
use Rattle.std.proofs.lemmas.List.{drop_more}
use Rattle.combine_byte.proofs.ByteScans.{none_more}
use Rattle.combine_byte.proofs.find.any.Goals as goal

neither : (a b : Bool) → (a || b) ≡ false → (a ≡ false) × (b ≡ false)
neither true b e = (e, absurd (cc))
neither false b e = (refl, e)

pub loop-byte-preserved : goal.loop-byte-preserved
loop-byte-preserved g c = record {
  none = λ e.
      let n = neither _ _ e in
      let h = c.holds-found.ensures in
      none_more _ _ _ _ _ (c.loop-byte.invariant.none n.0) (drop_more c.args.block.now c.loop-byte.byte-index 0 c.loop-byte-test.true) (let z = n.1 in cc);
}
