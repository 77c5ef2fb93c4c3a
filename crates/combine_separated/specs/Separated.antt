-- a first part, and then turns of another parser
use Rattle.std.specs.Prelude.{◌≡◌, Bool, true, false, ◌↔◌}
use Rattle.combine_base.specs.Stream.View.{View}
use Rattle.combine_base.specs.Parser.Outcome.{Outcome}
use Rattle.combine_base.specs.Parser.Meaning.{Meaning, Reading, Refusing, SameReasons, IsReading, IsMeaning, MeansOne, MeansSame}
use Rattle.combine_base.specs.Sequence.Readings.{following, following_is_reading, following_is_single, following_same}
use Rattle.combine_repeat.specs.Turns.Turn.{Start, IsTurn, TurnsSame, EndsTurnsOnce, TurnsOnce, never_ends}
use Rattle.combine_separated.specs.declared.pair.PairState.{PairState}
use Rattle.combine_separated.specs.declared.pair.PairState.TheVariants as pairs
use Rattle.combine_separated.specs.declared.separated.Lead.TheVariants as leads
use Rattle.combine_separated.specs.declared.separated.SeparatedState.{SeparatedState}
use Rattle.combine_separated.specs.declared.separated.SeparatedState.TheVariants as kept
use Rattle.combine_separated.specs.declared.separated.TurnPlace.{TurnPlace}
use Rattle.combine_separated.specs.declared.separated.TurnPlace.TheVariants as at
use Rattle.combine_separated.specs.declared.separated.Element.{Element}
use Rattle.combine_separated.specs.declared.separated.Element.TheVariants.{First, Then}
use Rattle.combine_separated.specs.declared.separated.Separated.{Separated}

abbrev pub part_of : {X Y K : Type 0} → Separated X Y K → X
part_of p = p.parser

abbrev pub separator_of : {X Y K : Type 0} → Separated X Y K → Y
separator_of p = p.separator

-- the first element, and a later one with what its separator gave
abbrev pub first_element : {O V : Type 0} → V → Element O V
first_element v = First v

abbrev pub then_element : {O V : Type 0} → O × V → Element O V
then_element t = Then t.0 t.1

-- nothing is asked of what a separator gives
abbrev pub any_lead : {O : Type 0} → O → Type 0
any_lead o = Unit {0}

-- what the separator of a later element gave is good
abbrev pub lead_good : {O V : Type 0} → (O → Type 0) → Element O V → Type 0
lead_good good (First v) = Unit {0}
lead_good good (Then o v) = good o

-- the first part runs, or a later separator and part
abbrev pub turn_place : {O W U : Type 0} → SeparatedState O W U → TurnPlace U (PairState O W U)
turn_place (kept.Separator w) = at.Later (pairs.Separator w)
turn_place (kept.Part leads.Nothing u) = at.First u
turn_place (kept.Part (leads.Separator o c) u) = at.Later (pairs.Part o c u)

-- what is kept of a later separator and part
abbrev pub later_kept : {O W U : Type 0} → PairState O W U → SeparatedState O W U
later_kept (pairs.Separator w) = kept.Separator w
later_kept (pairs.Part o c u) = kept.Part (leads.Separator o c) u

abbrev pub begins_turn_place : {U Z : Type 0} → (U → Type 0) → TurnPlace U Z → Type 0
begins_turn_place fresh (at.First s) = fresh s
begins_turn_place fresh (at.Later s) = ⊥

abbrev pub valid_at : {U Z : Type 0} → (U → Type 0) → (Z → Type 0) → TurnPlace U Z → Type 0
valid_at valid valid' (at.First s) = valid s
valid_at valid valid' (at.Later s) = valid' s

-- the first part begins
abbrev pub separated_fresh : {O W U : Type 0} → (U → Type 0) → SeparatedState O W U → Type 0
separated_fresh fresh z = begins_turn_place fresh (turn_place z)

abbrev pub separated_valid : {O W U : Type 0} → (U → Type 0) → (PairState O W U → Type 0) → SeparatedState O W U → Type 0
separated_valid valid valid' z = valid_at valid valid' (turn_place z)

default_at : {U Z : Type 0} (fresh valid : U → Type 0) (valid' : Z → Type 0) → ((s : U) → fresh s → valid s) → (p : TurnPlace U Z) → begins_turn_place fresh p → valid_at valid valid' p
default_at fresh valid valid' h (at.First s) d = h s d
default_at fresh valid valid' h (at.Later s) d = absurd d

pub separated_default : {O W U : Type 0} (fresh valid : U → Type 0) (valid' : PairState O W U → Type 0) → ((s : U) → fresh s → valid s) → (s : SeparatedState O W U) → separated_fresh fresh s → separated_valid valid valid' s
separated_default fresh valid valid' h s d = default_at fresh valid valid' h (turn_place s) d

-- the first turn begins, or a later one
abbrev pub begins_turn : {O W U : Type 0} → (U → Type 0) → (PairState O W U → Type 0) → Bool → TurnPlace U (PairState O W U) → Type 0
begins_turn fresh fresh' false (at.First s) = fresh s
begins_turn fresh fresh' false (at.Later s) = ⊥
begins_turn fresh fresh' true (at.First s) = ⊥
begins_turn fresh fresh' true (at.Later s) = fresh' s

-- which turn a call runs: one that begins, or the one that is kept
abbrev pub runs_turn : {O W U : Type 0} → (U → Type 0) → (PairState O W U → Type 0) → (later first : Bool) → SeparatedState O W U → TurnPlace U (PairState O W U) → Type 0
runs_turn fresh fresh' later true given p = begins_turn fresh fresh' later p
runs_turn fresh fresh' later false given p = turn_place given ≡ p

-- the errors of the turn that runs
abbrev pub kept_refuses : {P T R E C D O W U : Type 0} → Meaning P T R E D U → Meaning P T R E C (PairState O W U) → TurnPlace U (PairState O W U) → Refusing P T E
kept_refuses m n (at.First s) = m.refuses_from s
kept_refuses m n (at.Later s) = n.refuses_from s

-- a later turn, whose value is changed by f
abbrev pub later_turn : {P T R E A C W : Type 0} → (C → A) → Meaning P T R E C W → Start P T E A
later_turn f n = record { reads = following false f n.whole; refuses = n.refuses }

module _ {P T R E A C D O W U : Type 0} (e : D → A) (f : C → A) where
  abbrev pub kept_reading : Meaning P T R E D U → Meaning P T R E C (PairState O W U) → TurnPlace U (PairState O W U) → Reading P T A
  kept_reading m n (at.First s) = following false e (m.rest s)
  kept_reading m n (at.Later s) = following false f (n.rest s)

  abbrev pub kept_lost : Meaning P T R E D U → Meaning P T R E C (PairState O W U) → TurnPlace U (PairState O W U) → View P T → Type 0
  kept_lost m n (at.First s) = m.lost s
  kept_lost m n (at.Later s) = n.lost s

  -- the first turn is m, and later ones are n, whose value is changed by f
  abbrev pub first_then : Meaning P T R E D U → Meaning P T R E C (PairState O W U) → Meaning P T R E A (SeparatedState O W U)
  first_then m n = record {
    whole = following false e m.whole;
    rest = λ z. kept_reading m n (turn_place z);
    lost = λ z. kept_lost m n (turn_place z);
    keeps = m.keeps × n.keeps;
    puts_back = ⊥;
    heapless = m.heapless × n.heapless;
    adds = m.adds;
    refuses = m.refuses;
    refuses_from = λ z. kept_refuses m n (turn_place z);
  }

  module _ {fresh valid : U → Type 0} {fresh' valid' : PairState O W U → Type 0} {m : Meaning P T R E D U} {n : Meaning P T R E C (PairState O W U)} where
    pub then_is_turn : IsMeaning fresh valid m → IsMeaning fresh' valid' n → IsTurn (separated_fresh fresh) (separated_valid valid valid') (first_then m n) (later_turn f n)
    then_is_turn h k = record {
      meaning = record {
        whole = following_is_reading false e m.whole h.whole;
        rest = λ z. resting (turn_place z);
        start = λ z. starting (turn_place z);
        found = λ z. finding (turn_place z);
        reasons = λ z. reasoning (turn_place z);
      };
      later = following_is_reading false f n.whole k.whole;
    }
      where
        resting : (s : TurnPlace U (PairState O W U)) → valid_at valid valid' s → IsReading (kept_reading m n s)
        resting (at.First s) d = following_is_reading false e (m.rest s) (h.rest s d)
        resting (at.Later s) d = following_is_reading false f (n.rest s) (k.rest s d)

        starting : (s : TurnPlace U (PairState O W U)) (v : View P T) (o : Outcome A) → begins_turn_place fresh s → kept_reading m n s v o ↔ following false e m.whole v o
        starting (at.First s) v o d = following_same false e (m.rest s) m.whole (λ v o. h.start s v o d) v o
        starting (at.Later s) v o d = absurd d

        finding : (s : TurnPlace U (PairState O W U)) (v : View P T) → begins_turn_place fresh s → kept_lost m n s v → ⊥
        finding (at.First s) v d = h.found s v d
        finding (at.Later s) v d = absurd d

        reasoning : (s : TurnPlace U (PairState O W U)) → begins_turn_place fresh s → SameReasons (kept_refuses m n s) m.refuses
        reasoning (at.First s) d = h.reasons s d
        reasoning (at.Later s) d = absurd d

  module _ {valid : U → Type 0} {valid' : PairState O W U → Type 0} {m : Meaning P T R E D U} {n : Meaning P T R E C (PairState O W U)} where
    pub then_once : MeansOne valid m → MeansOne valid' n → TurnsOnce (separated_valid valid valid') (λ _. false) (first_then m n) (later_turn f n)
    then_once h k = record {
      whole = never_ends (following_is_single false e m.whole h.whole);
      rest = λ z. resting (turn_place z);
      later = never_ends (following_is_single false f n.whole k.whole);
    }
      where
        resting : (s : TurnPlace U (PairState O W U)) → valid_at valid valid' s → EndsTurnsOnce (λ _. false) (kept_reading m n s)
        resting (at.First s) d = never_ends (following_is_single false e (m.rest s) (h.rest s d))
        resting (at.Later s) d = never_ends (following_is_single false f (n.rest s) (k.rest s d))

  pub then_same : (m m' : Meaning P T R E D U) (n n' : Meaning P T R E C (PairState O W U)) → MeansSame m m' → MeansSame n n' → TurnsSame (first_then m n) (later_turn f n) (first_then m' n') (later_turn f n')
  then_same m m' n n' h k = record {
    meaning = record {
      whole = following_same false e m.whole m'.whole h.whole;
      rest = λ z. resting (turn_place z);
      lost = λ z. losing (turn_place z);
      keeps = (λ x. (h.keeps.0 x.0, k.keeps.0 x.1), λ x. (h.keeps.1 x.0, k.keeps.1 x.1));
      puts_back = (λ x. x, λ x. x);
      heapless = (λ x. (h.heapless.0 x.0, k.heapless.0 x.1), λ x. (h.heapless.1 x.0, k.heapless.1 x.1));
      adds = h.adds;
      refuses = h.refuses;
      refuses_from = λ z. same_reasons (turn_place z);
    };
    later = record { reads = following_same false f n.whole n'.whole k.whole; refuses = k.refuses };
  }
    where
      resting : (s : TurnPlace U (PairState O W U)) (v : View P T) (o : Outcome A) → kept_reading m n s v o ↔ kept_reading m' n' s v o
      resting (at.First s) = following_same false e (m.rest s) (m'.rest s) (h.rest s)
      resting (at.Later s) = following_same false f (n.rest s) (n'.rest s) (k.rest s)

      losing : (s : TurnPlace U (PairState O W U)) (v : View P T) → kept_lost m n s v ↔ kept_lost m' n' s v
      losing (at.First s) = h.lost s
      losing (at.Later s) = k.lost s

      same_reasons : (s : TurnPlace U (PairState O W U)) → SameReasons (kept_refuses m n s) (kept_refuses m' n' s)
      same_reasons (at.First s) = h.refuses_from s
      same_reasons (at.Later s) = k.refuses_from s
