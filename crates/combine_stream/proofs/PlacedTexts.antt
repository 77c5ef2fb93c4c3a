-- ranges of a text with a place
use Rattle.std.proofs.Common.{ℕ, ◌+◌, ◌-◌, ◌≤◌, ◌≡◌, List, [], ◌∷◌, Bool, true, false, if◌then◌else◌, nat_eq, nat_lt, not, take, drop, length, arith, ap, sym, ◌∙◌}
use Rattle.std.proofs.lemmas.Str.{chars_from_encodes, len_utf8_bounds}
use Rattle.std.specs.Char.{len_utf8}
use Rattle.std.specs.Str.{IsUtf8, chars}
use Rattle.combine_base.specs.Stream.View.{View, after_all}
use Rattle.combine_base.proofs.Streams.FirstCharacter.{few_chars}
use Rattle.combine_base.proofs.Streams.Movement.{lengths_apart}
use Rattle.combine_base.specs.declared.stream.slices.Left.{Left}
use Rattle.combine_stream.specs.Range.Ranges.{size_of, size_take, size_rises}
use Rattle.combine_stream.specs.Range.TextRanges.{Cut, text_measured}
use Rattle.combine_stream.proofs.SliceLengths.{left_after}
use Rattle.combine_stream.proofs.TextCuts.{text_size}
use Rattle.combine_stream.specs.Position.Lines.{CountsFit, next_place}
use Rattle.combine_stream.specs.declared.position.text.SourcePosition.{SourcePosition}

pub fits_next : (p : SourcePosition) (c n m : ℕ) → CountsFit p n → m + 1 ≤ n → CountsFit (next_place p c) m
fits_next p c n m h l = by_test (nat_eq c 10)
  where
    by_test : (b : Bool) → CountsFit (if b then record { line = p.line + 1; column = 1 } else record { line = p.line; column = p.column + 1 }) m
    by_test true = let a = h.0 in let b = h.1 in (omega arith, omega arith)
    by_test false = let a = h.0 in let b = h.1 in (omega arith, omega arith)

pub fits_after : (p : SourcePosition) (cs : List ℕ) (n m : ℕ) → CountsFit p n → length cs + m ≤ n → CountsFit (after_all next_place p cs) m
fits_after p [] n m h l = let a = h.0 in let b = h.1 in (omega arith, omega arith)
fits_after p (c ∷ cs) n m h l = fits_after (next_place p c) cs (length cs + m) m (fits_next p c n (length cs + m) h (omega arith)) (omega arith)

module _ (bytes front back : List ℕ) (n k : ℕ) (c : Cut bytes n k front back) where
  pub front_size : length front ≡ n
  front_size = text_measured front (take k (chars bytes)) c.spelled ∙ c.place.items

  pub back_size : length back ≡ length bytes - n
  back_size = ap (λ (v : View Left ℕ). v.position.0) c.taken.rest ∙ ap (λ (p : Left). p.0) (left_after len_utf8 (record { 0 = length bytes }) (take k (chars bytes))) ∙ ap (λ i. length bytes - i) c.place.items

  pub front_within : IsUtf8 bytes → n ≤ length bytes
  front_within u = let a = text_size bytes u in let b = size_take len_utf8 k (chars bytes) in let e = c.place.items in omega arith

  pub front_chars : IsUtf8 front → chars front ≡ take k (chars bytes)
  front_chars u = sym (chars_from_encodes (take k (chars bytes)) front u (sym c.spelled))

  pub back_fits : (p : SourcePosition) → CountsFit p (length bytes) → IsUtf8 bytes → IsUtf8 front → CountsFit (after_all next_place p (chars front)) (length back)
  back_fits p h u w = fits_after p (chars front) (length bytes) (length back) h (let a = few_chars front w in let b = front_size in let d = back_size in let e = front_within u in omega arith)

pub bytes_apart : (from to : List ℕ) (k : ℕ) → IsUtf8 from → IsUtf8 to → chars to ≡ drop k (chars from) → length from - length to ≡ size_of len_utf8 (take k (chars from))
bytes_apart from to k u w e = let a = text_size from u in let b = text_size to w in let d = size_take len_utf8 k (chars from) in let f = ap (size_of len_utf8) e in omega arith

-- parts of a text have other lengths, where they have other characters
pub other_part : (from to : List ℕ) (k : ℕ) → IsUtf8 from → IsUtf8 to → k ≤ length (chars from) → chars to ≡ drop k (chars from) → not (nat_eq (length to) (length from)) ≡ nat_lt 0 k
other_part from to k u w h e =
    let a = text_size from u in
    let b = text_size to w ∙ ap (size_of len_utf8) e in
    lengths_apart (length to) (length from) k
    (λ z. b ∙ ap (λ n. size_of len_utf8 (drop n (chars from))) z ∙ sym a)
    (λ i. let d = size_take len_utf8 k (chars from) in let r = size_rises len_utf8 (λ c. let m = (len_utf8_bounds c).0 in omega arith) (chars from) 0 k i h in omega arith)
