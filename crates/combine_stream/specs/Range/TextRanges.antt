-- ranges of a text
use Rattle.std.specs.Prelude.{ℕ, ◌<◌, ◌≡◌, List, [], ◌∷◌, length, take, refl}
use Rattle.std.proofs.Common.{arith, ap, ◌∙◌}
use Rattle.std.proofs.lemmas.Str.{len_utf8_bounds, length-encode}
use Rattle.std.proofs.lemmas.List.{length-append}
use Rattle.std.proofs.Math.Utf8.{encode, encodes}
use Rattle.std.specs.Char.{len_utf8}
use Rattle.std.specs.Str.{chars}
use Rattle.combine_base.specs.Stream.View.{Takes}
use Rattle.combine_base.specs.Stream.Texts.{text_view, less_char}
use Rattle.combine_stream.specs.Range.Ranges.{size_of, IsItemPlace, EndsInsideToken}
use Rattle.combine_base.specs.declared.stream.Kind.{Kind}
use Rattle.combine_base.specs.declared.stream.Kind.TheVariants as kinds

-- the text of these characters
abbrev pub text_of : List ℕ → List ℕ → Type 0
text_of bytes cs = bytes ≡ encodes cs

pub size_encodes : (cs : List ℕ) → length (encodes cs) ≡ size_of len_utf8 cs
size_encodes [] = refl
size_encodes (c ∷ cs) = let a = length-append (encode c) (encodes cs) in let b = length-encode c in let d = size_encodes cs in omega arith

pub char_filled : (c : ℕ) → 0 < len_utf8 c
char_filled c = let b = (len_utf8_bounds c).0 in omega arith

-- the first n bytes are the first k characters, and the rest is left
pub record Cut (bytes : List ℕ) (n k : ℕ) (front back : List ℕ) : Type 0 where
  pub place : IsItemPlace len_utf8 (chars bytes) n k
  pub spelled : text_of front (take k (chars bytes))
  pub taken : Takes less_char k (text_view bytes) (text_view back)

-- why the first n bytes are no text
abbrev pub uncut : List ℕ → ℕ → Kind → Type 0
uncut bytes n kinds.End = size_of len_utf8 (chars bytes) < n
uncut bytes n kinds.Refused = EndsInsideToken len_utf8 (chars bytes) n
uncut bytes n kinds.Memory = ⊥
uncut bytes n kinds.Read = ⊥
uncut bytes n kinds.Reset = ⊥
uncut bytes n kinds.Lost = ⊥

pub text_measured : (bytes cs : List ℕ) → text_of bytes cs → length bytes ≡ size_of len_utf8 cs
text_measured bytes cs e = ap length e ∙ size_encodes cs
