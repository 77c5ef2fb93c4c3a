-- how many turns there are
use Rattle.std.specs.Prelude.{ℕ, suc, ◌≡◌, ◌+◌, ◌-◌, ◌≤◌, ◌<◌, Bool, true, false, not, min, nat_lt, if◌then◌else◌, None, Some, refl}
use Rattle.std.proofs.Common.{arith, ltb-false, ltb-true}
use Rattle.combine_base.specs.Stream.View.{View}
use Rattle.combine_base.specs.Parser.Outcome.{Outcome, Accepted, Refused, Undecided}
use Rattle.combine_base.specs.Parser.Meaning.{Reading}
use Rattle.combine_repeat.specs.Turns.Bounds.{accepted_at, bounded, counted_to, full_at, is_enough, is_block_at, judged, turn_after, refused_at}
use Rattle.combine_repeat.specs.Repeat.Repeated.{no_value_ends}
use Rattle.combine_repeat.specs.Turns.Blocks.{StopsTurns, StopsHere}
use Rattle.combine_repeat.specs.declared.bounds.Bounds.{Bounds}
use Rattle.combine_repeat.specs.declared.bounds.Bounds.TheVariants.{Unbounded, OwnFirst, Counted}
use Rattle.combine_repeat.specs.declared.bounds.TurnIndex.{TurnIndex}
use Rattle.combine_facts.specs.TurnReads.{so_many}

-- what a test says that is turned round
below : (n m : ℕ) → not (nat_lt n m) ≡ false → n < m
below n m e = ltb-true n m (is_true (nat_lt n m) e)
  where
    is_true : (b : Bool) → not b ≡ false → b ≡ true
    is_true true e = cc
    is_true false e = absurd (cc)

reached : (n m : ℕ) → not (nat_lt n m) ≡ true → m ≤ n
reached n m e = ltb-false n m (is_false (nat_lt n m) e)
  where
    is_false : (b : Bool) → not b ≡ true → b ≡ false
    is_false true e = absurd (cc)
    is_false false e = cc

-- from so many turns on the rest may be accepted
abbrev pub fewest : Bounds → ℕ
fewest Unbounded = 0
fewest (OwnFirst least None) = least
fewest (OwnFirst least (Some most)) = min least most
fewest (Counted least most) = min least most

abbrev pub within_bounds : Bounds → ℕ → Type 0
within_bounds Unbounded n = Unit {0}
within_bounds (OwnFirst least None) n = Unit {0}
within_bounds (OwnFirst least (Some most)) n = n ≤ most
within_bounds (Counted least most) n = n ≤ most

-- a number that is counted up to a limit
pub counts_up : (most n : ℕ) → counted_to most n ≤ n + 1
counts_up most n = by_case (nat_lt n most) (λ e. ltb-false n most e)
  where
    by_case : (less : Bool) → (less ≡ false → most ≤ n) → (if less then n + 1 else most) ≤ n + 1
    by_case true h = omega arith
    by_case false h = let i = h (cc) in omega arith

counts_below : (most n : ℕ) → n < most → counted_to most n ≡ n + 1
counts_below most n h = by_case (nat_lt n most) (λ e. ltb-false n most e)
  where
    by_case : (less : Bool) → (less ≡ false → most ≤ n) → (if less then n + 1 else most) ≡ n + 1
    by_case true h = cc
    by_case false f = let i = f (cc) in absurd (omega arith)

enough_has : (b : Bounds) (g : TurnIndex) → is_enough b g ≡ true → fewest b ≤ g.number
enough_has Unbounded g e = omega arith
enough_has (OwnFirst least None) g e = let i = reached 0 (least - g.number) e in omega arith
enough_has (OwnFirst least (Some most)) g e = let i = reached 0 (least - g.number) e in omega arith
enough_has (Counted least most) g e = let i = reached 0 (least - g.number) e in omega arith

full_has : (b : Bounds) (g : TurnIndex) → full_at b g ≡ true → fewest b ≤ g.number
full_has Unbounded g e = absurd (cc)
full_has (OwnFirst least None) g e = absurd (cc)
full_has (OwnFirst least (Some most)) g e = let i = reached g.number most e in omega arith
full_has (Counted least most) g e = let i = reached g.number most e in omega arith

pub none_within : (b : Bounds) → within_bounds b 0
none_within Unbounded = tt
none_within (OwnFirst least None) = tt
none_within (OwnFirst least (Some most)) = omega arith
none_within (Counted least most) = omega arith

-- where there aren't as many as there may be, one more is within
pub next_fits : (b : Bounds) (g : TurnIndex) → full_at b g ≡ false → within_bounds b (turn_after b g).number
next_fits Unbounded g e = tt
next_fits (OwnFirst least None) g e = tt
next_fits (OwnFirst least (Some most)) g e = let h = below g.number most e in let i = counts_up most g.number in omega arith
next_fits (Counted least most) g e = let h = below g.number most e in let i = counts_up most g.number in omega arith

pub next_within : (b : Bounds) (g : TurnIndex) (n : ℕ) → full_at b g ≡ false → within_bounds b ((turn_after b g).number + n) → within_bounds b (g.number + suc n)
next_within Unbounded g n e w = tt
next_within (OwnFirst least None) g n e w = tt
next_within (OwnFirst least (Some most)) g n e w = let i = counts_below most g.number (below g.number most e) in omega arith
next_within (Counted least most) g n e w = let i = counts_below most g.number (below g.number most e) in omega arith

pub so_many_is : (b : Bounds) (n : ℕ) → fewest b ≤ n → within_bounds b n → so_many b n
so_many_is Unbounded n h w = tt
so_many_is (OwnFirst least None) n h w = h
so_many_is (OwnFirst least (Some most)) n h w = (h, w)
so_many_is (Counted least most) n h w = (h, w)

module _ {P T A : Type 0} (step : P → T → P) (b : Bounds) (turn : TurnIndex → Reading P T A) (n : ℕ) (k : Bool) (g : TurnIndex) where
  judged_so : (o : Outcome A) → judged b no_value_ends g o ≡ StopsTurns (Accepted tt n k) → (n ≡ 0) × (is_enough b g ≡ true)
  judged_so (Accepted a m c) e = by_goes (is_block_at b g m c) e
    where
      by_goes : (goes : Bool) → accepted_at m c false goes ≡ StopsTurns (Accepted tt n k) → (n ≡ 0) × (is_enough b g ≡ true)
      by_goes true e = absurd (cc)
      by_goes false e = absurd (cc)
  judged_so (Refused c) e = by_case (is_enough b g) c e
    where
      by_case : (there c : Bool) → refused_at there c ≡ StopsTurns (Accepted tt n k) → (n ≡ 0) × (there ≡ true)
      by_case true true e = absurd (cc)
      by_case false true e = absurd (cc)
      by_case true false e = (cc, refl)
      by_case false false e = absurd (cc)
  judged_so Undecided e = absurd (cc)

  -- where the turns stop accepted nothing is taken any more, and there are enough
  pub stops_with_enough : (running : Reading P T A) (v : View P T) → StopsHere step (bounded b no_value_ends) turn (Accepted tt n k) running g v (full_at b g) → (n ≡ 0) × (fewest b ≤ g.number)
  stops_with_enough running v = by_full (full_at b g) refl
    where
      by_full : (full : Bool) → full_at b g ≡ full → StopsHere step (bounded b no_value_ends) turn (Accepted tt n k) running g v full → (n ≡ 0) × (fewest b ≤ g.number)
      by_full true e w = (cc, full_has b g e)
      by_full false e w = let i = judged_so w.0 w.2 in (i.0, enough_has b g i.1)
