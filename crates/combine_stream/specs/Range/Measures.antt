-- slices measured by their tokens
use Rattle.std.specs.Prelude.{◌≡◌, List, [], ◌∷◌, length, refl}
use Rattle.std.proofs.Common.{arith, ap, sym, ◌∙◌}
use Rattle.combine_stream.specs.Range.Ranges.{size_of}

-- tokens that are one item each
pub ones : {T : Type 0} (ts : List T) → size_of (λ t. 1) ts ≡ length ts
ones [] = refl
ones (t ∷ ts) = let e = ones ts in omega arith

pub slice_measured : {T : Type 0} (xs ts : List T) → xs ≡ ts → length xs ≡ size_of (λ t. 1) ts
slice_measured xs ts e = ap length e ∙ sym (ones ts)
