-- the bytes of tokens that are bytes or characters
use Rattle.std.specs.Prelude.{ℕ, ◌≡◌, List, [], ◌∷◌, ◌++◌, length, refl}
use Rattle.std.proofs.Common.{ap, sym, ◌∙◌}
use Rattle.std.proofs.lemmas.Str.{length-encode}
use Rattle.std.proofs.Math.Utf8.{encode, encodes}
use Rattle.std.specs.Char.{len_utf8}
use Rattle.combine_stream.specs.Range.TextRanges.{text_of}
use Rattle.combine_byte.specs.Bytes.ByteSearch.{encoded_bytes}

abbrev pub one_byte : ℕ → List ℕ
one_byte b = b ∷ []

pub bytes_of_bytes : (bs ts : List ℕ) → bs ≡ ts → bs ≡ encoded_bytes one_byte ts
bytes_of_bytes bs ts e = e ∙ sym (alike ts)
  where
    alike : (ts : List ℕ) → encoded_bytes one_byte ts ≡ ts
    alike [] = refl
    alike (t ∷ ts) = ap (λ us. t ∷ us) (alike ts)

pub sized_encode : (c : ℕ) → len_utf8 c ≡ length (encode c)
sized_encode c = sym (length-encode c)

pub bytes_of_chars : (bs cs : List ℕ) → text_of bs cs → bs ≡ encoded_bytes encode cs
bytes_of_chars bs cs e = e ∙ alike cs
  where
    alike : (cs : List ℕ) → encodes cs ≡ encoded_bytes encode cs
    alike [] = refl
    alike (c ∷ cs) = ap (λ bs. encode c ++ bs) (alike cs)
