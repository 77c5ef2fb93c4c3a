-- what a text with a place is seen as
use Rattle.std.specs.Prelude.{ℕ, zero, suc, ◌+◌, ◌<◌, ◌≤◌, ◌≡◌, List, [], ◌∷◌, Bool, true, false, length, take, nat_eq, if◌then◌else◌, refl}
use Rattle.std.proofs.Common.{arith, sym}
use Rattle.std.specs.Str.{chars}
use Rattle.std.specs.Cmp.{nat_cmp_is}
use Rattle.std.specs.Ordering.{nat_cmp, then_cmp, on}
use Rattle.std.specs.declared.cmp.Ordering.TheVariants.{Less, Equal}
use Rattle.combine_base.specs.Stream.View.{View, after_all}
use Rattle.combine_stream.specs.Position.Lines.{next_place}
use Rattle.combine_stream.specs.declared.position.text.SourcePosition.{SourcePosition}
use Rattle.combine_stream.specs.declared.position.text.TextStream.{TextStream}

abbrev pub placed_view : TextStream → View SourcePosition ℕ
placed_view s = record { position = s.place; unread = chars s.rest.now; is_open = false }

-- a later line, or a later column of the line
pub data IsLater (p q : SourcePosition) : Type 0 where
  Line : p.line < q.line → IsLater p q
  Column : p.line ≡ q.line → p.column < q.column → IsLater p q

next_later : (p : SourcePosition) (c : ℕ) → IsLater p (next_place p c)
next_later p c = by_test (nat_eq c 10)
  where
    by_test : (b : Bool) → IsLater p (if b then record { line = p.line + 1; column = 1 } else record { line = p.line; column = p.column + 1 })
    by_test true = Line (omega arith)
    by_test false = Column refl (omega arith)

later_still : (p q r : SourcePosition) → IsLater p q → IsLater q r → IsLater p r
later_still p q r (Line a) (Line b) = Line (omega arith)
later_still p q r (Line a) (Column b c) = Line (omega arith)
later_still p q r (Column a b) (Line c) = Line (omega arith)
later_still p q r (Column a b) (Column c d) = Column (omega arith) (omega arith)

all_later : (p : SourcePosition) (n : ℕ) (cs : List ℕ) → 0 < n → n ≤ length cs → IsLater p (after_all next_place p (take n cs))
all_later p zero cs h k = absurd (omega arith)
all_later p (suc n) [] h k = absurd (omega arith)
all_later p (suc zero) (c ∷ cs) h k = next_later p c
all_later p (suc (suc n)) (c ∷ cs) h k = later_still p (next_place p c) (after_all next_place (next_place p c) (take (suc n) cs)) (next_later p c) (all_later (next_place p c) (suc n) cs (omega arith) (omega arith))

pub is_less : (p q : SourcePosition) → IsLater p q → then_cmp (on (λ (p : SourcePosition). p.line) nat_cmp) (on (λ (p : SourcePosition). p.column) nat_cmp) p q ≡ Less
is_less p q (Line a) = let e = sym (nat_cmp_is p.line q.line Less a) in rw e refl
is_less p q (Column a b) = let d = sym (nat_cmp_is p.line q.line Equal a) in let e = sym (nat_cmp_is p.column q.column Less b) in rw (d, e) refl

pub placed_moves : (p : SourcePosition) (n : ℕ) (cs : List ℕ) → 0 < n → n ≤ length cs → then_cmp (on (λ (p : SourcePosition). p.line) nat_cmp) (on (λ (p : SourcePosition). p.column) nat_cmp) p (after_all next_place p (take n cs)) ≡ Less
placed_moves p n cs h k = is_less p (after_all next_place p (take n cs)) (all_later p n cs h k)
