-- a length and then so many turns of any byte, as `frame` composes them, answer a message behind its length
use Rattle.std.specs.Global.{Vec}
use Rattle.std.proofs.Common.{ℕ, ◌<◌, ◌≤◌, ◌≡◌, refl, sym, ◌∙◌, ap, subst, length, take, drop, Bool, true, false, ◌||◌, nat_lt, arith, lt-ltb, ltb-true}
use Rattle.std.proofs.lemmas.List.{length-drop}
use Rattle.combine_base.specs.Parser.Meaning.{Reading}
use Rattle.combine_base.specs.Parser.Outcome.{Outcome, Accepted, Refused, Undecided}
use Rattle.combine_base.specs.Sequence.JoinedOutcome.{joined}
use Rattle.combine_base.specs.Sequence.Readings.{continues, sequel}
use Rattle.combine_base.specs.Stream.View.{View, advanced}
use Rattle.combine_decode.proofs.TokenTurns.{takes_so_many}
use Rattle.combine_decode.specs.Frames.{framed, length_read, short_of}
use Rattle.combine_byte.specs.Numbers.{big_endian}
use Rattle.combine_byte.specs.WholeNumbers.{whole_number}

module _ {P N : Type 0} (step : P → ℕ → P) (made : ℕ → N) (means : N → Reading P ℕ (Vec ℕ)) (takes : (n : ℕ) (v : View P ℕ) (o : Outcome (Vec ℕ)) → means (made n) v o → takes_so_many step n (λ (m : Vec ℕ). m.items) ⊥ v o) where
  -- what is answered for a length
  abbrev bytes_read : ℕ → Reading P ℕ (Vec ℕ)
  bytes_read n v o = (p : N) × (p ≡ made n) × means p v o

  abbrev pub composed_frame : Reading P ℕ (Vec ℕ)
  composed_frame = sequel step (λ n m. m) (whole_number 2 big_endian) bytes_read

  module _ (v : View P ℕ) where
    behind : (a n : ℕ) (k : Bool) → 2 ≤ length v.unread → a ≡ length_read v.unread → n ≡ 2 → k ≡ true → (p o : Outcome (Vec ℕ)) → takes_so_many step a (λ (m : Vec ℕ). m.items) ⊥ (advanced step n v) p → o ≡ joined n k (λ m. m) p → framed v o
    behind a n k w e f g (Accepted m i c) o h j = subst (framed v) (sym j) (record {
      two = w;
      enough = let b = h.0 in omega (arith, length-drop n v.unread);
      items = h.1 ∙ ap (λ z. take z (drop n v.unread)) e ∙ ap (λ z. take (length_read v.unread) (drop z v.unread)) f;
      count = let b = h.2 in omega arith;
      committed = ap (λ b. b || c) g;
    })
    behind a n k w e f g (Refused c) o h j =
        let b = h.1 in
        let s : short_of v.unread = omega (arith, length-drop n v.unread) in
        subst (framed v) (sym j) (h.0, s, ap (λ b. b || c) g ∙ sym (lt-ltb 1 (length v.unread) (omega arith)))
    behind a n k w e f g Undecided o h j =
        let b = h.1 in
        let s : short_of v.unread = omega (arith, length-drop n v.unread) in
        subst (framed v) (sym j) (h.0, s)

    one_at_most : (n : ℕ) (b : Bool) → nat_lt 1 n ≡ b → n < 2 → b ≡ false
    one_at_most n true e w = absurd (let f = ltb-true 1 n e in omega arith)
    one_at_most n false e w = refl

    after_length : (p : Outcome ℕ) → whole_number 2 big_endian v p → (o : Outcome (Vec ℕ)) → continues step (λ n m. m) bytes_read v p o → framed v o
    after_length (Accepted a n k) w o u = behind a n k w.0 w.1 w.2 w.3 u.0 o (takes a (advanced step n v) u.0 (subst (λ p. means p (advanced step n v) u.0) u.1.1 u.1.2)) u.2
    after_length (Refused c) w o u =
        let few = w.0 in
        let s : short_of v.unread = omega arith in
        subst (framed v) (sym u) (w.1, s, w.2 ∙ sym (one_at_most (length v.unread) (nat_lt 1 (length v.unread)) refl few))
    after_length Undecided w o u =
        let few = w.0 in
        let s : short_of v.unread = omega arith in
        subst (framed v) (sym u) (w.1, s)

    pub is_framed : (o : Outcome (Vec ℕ)) → composed_frame v o → framed v o
    is_framed o x = after_length x.0 x.1 o x.2
