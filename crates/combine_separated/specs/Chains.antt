-- operands with an operator between two of them, folded from one side
use Rattle.std.specs.Prelude.{◌≡◌, List, [], ◌∷◌, ◌++◌, Bool, true, Option, Some, None, false, ◌↔◌}
use Rattle.combine_base.specs.Error.Errors.{Observers}
use Rattle.combine_base.specs.Parser.ValueMap.{mapped}
use Rattle.combine_base.specs.Parser.Meaning.{Meaning}
use Rattle.combine_base.specs.Parser.Outcome.{Outcome}
use Rattle.combine_base.specs.Sequence.Readings.{following}
use Rattle.combine_base.specs.Stream.View.{View}
use Rattle.combine_combinator.specs.Tables.{by_table, same_outcome}
use Rattle.combine_repeat.specs.Turns.Blocks.{Collecting}
use Rattle.combine_repeat.specs.Turns.Bounds.{gathered}
use Rattle.combine_repeat.specs.Turns.SoundValues.{KeepsSound, kept_sound}
use Rattle.combine_repeat.specs.Repeat.OneThenTurns.{one_then_turns}
use Rattle.combine_separated.specs.Pair.{pair}
use Rattle.combine_separated.specs.Separated.{first_element, later_turn, lead_good, then_element}
use Rattle.combine_separated.specs.Elements.{elements_meaning}
use Rattle.combine_separated.specs.declared.separated.Element.{Element}
use Rattle.combine_separated.specs.declared.separated.SeparatedState.{SeparatedState}
use Rattle.combine_separated.specs.declared.separated.Element.TheVariants.{First, Then}
use Rattle.combine_repeat.specs.declared.bounds.Bounds.TheVariants.{OwnFirst}
use Rattle.combine_repeat.specs.declared.turns.Earlier.TheVariants.{Nothing}
use Rattle.combine_repeat.specs.declared.turns.TurnsState.{TurnsState}
use Rattle.combine_separated.specs.declared.operands.PendingOperand.{PendingOperand}
use Rattle.combine_separated.specs.declared.operands.ChainOperands.{ChainOperands}

-- one more element, joined by an operator that may answer any value that its relation allows
abbrev pub folds : {O V : Type 0} → (O → V → V → V → Type 0) → Option V → Element O V → Option V → Type 0
folds post h (First v) i = i ≡ Some v
folds post None (Then f v) i = i ≡ Some v
folds {V = V} post (Some a) (Then f v) i = (b : V) × post f a v b × (i ≡ Some b)

-- the operands with an operator behind them, and the last operand
abbrev pub operands_to : {O V : Type 0} → List (PendingOperand O V) → Option V → Option (List (PendingOperand O V) × V)
operands_to xs None = None
operands_to xs (Some v) = Some (xs, v)

abbrev pub kept_operands : {O V : Type 0} → ChainOperands O V → Option (List (PendingOperand O V) × V)
kept_operands z = operands_to z.before.items z.last

-- one more element: the first alone, or an operator, to the left of which stands what was last, and an operand
abbrev pub keeps_operand : {O V : Type 0} → Option (List (PendingOperand O V) × V) → Element O V → Option (List (PendingOperand O V) × V) → Type 0
keeps_operand h (First v) i = i ≡ Some ([], v)
keeps_operand None (Then f v) i = i ≡ Some ([], v)
keeps_operand (Some z) (Then f v) i = i ≡ Some (z.0 ++ record { operand = z.1; operator = f } ∷ [], v)

-- after a turn something is held
abbrev pub holds_one : {A : Type 0} → Bool → Option A → Type 0
holds_one false h = Unit {0}
holds_one true None = ⊥
holds_one true (Some a) = Unit {0}

holds_some : {A : Type 0} (k : Bool) (a : A) → holds_one k (Some a)
holds_some true a = tt
holds_some false a = tt

-- each operator is good
abbrev pub all_good : {O V : Type 0} → (O → Type 0) → List (PendingOperand O V) → Type 0
all_good good [] = Unit {0}
all_good good (x ∷ xs) = good x.operator × all_good good xs

abbrev pub held_good : {O V : Type 0} → (O → Type 0) → Option (List (PendingOperand O V) × V) → Type 0
held_good good None = Unit {0}
held_good good (Some z) = all_good good z.0

abbrev pub good_operands : {O V : Type 0} → (O → Type 0) → Bool → Option (List (PendingOperand O V) × V) → Type 0
good_operands good k h = held_good good h × holds_one k h

module _ {O V : Type 0} (post : O → V → V → V → Type 0) (good : O → Type 0) where
  -- one operand is held after each turn
  pub keeps_one : KeepsSound {A = Element O V} None (folds post) (lead_good good) holds_one
  keeps_one = record { begins = tt; stays = stays }
    where
      stays : (k : Bool) (h : Option V) (a : Element O V) (i : Option V) → holds_one k h → lead_good good a → folds post h a i → (j : Bool) → holds_one j i
      stays k h (First v) i d g m j = rw m (holds_some j v)
      stays k None (Then f v) i d g m j = rw m (holds_some j v)
      stays k (Some a) (Then f v) i d g m j = rw m.2 (holds_some j m.0)

module _ {O V : Type 0} (good : O → Type 0) where
  more_good : (xs : List (PendingOperand O V)) (x : PendingOperand O V) → all_good good xs → good x.operator → all_good good (xs ++ x ∷ [])
  more_good [] x d g = (g, tt)
  more_good (y ∷ xs) x d g = (d.0, more_good xs x d.1 g)

  -- operators stay good where each one that is kept is
  pub keeps_good : KeepsSound {A = Element O V} None keeps_operand (lead_good good) (good_operands good)
  keeps_good = record { begins = (tt, tt); stays = stays }
    where
      stays : (k : Bool) (h : Option (List (PendingOperand O V) × V)) (a : Element O V) (i : Option (List (PendingOperand O V) × V)) → good_operands good k h → lead_good good a → keeps_operand h a i → (j : Bool) → good_operands good j i
      stays k h (First v) i d g m j = rw m (tt, holds_some j ([], v))
      stays k None (Then f v) i d g m j = rw m (tt, holds_some j ([], v))
      stays k (Some z) (Then f v) i d g m j = rw m (more_good z.0 (record { operand = z.1; operator = f }) d.0 g, holds_some j (z.0 ++ record { operand = z.1; operator = f } ∷ [], v))

-- nothing is kept
pub nothing_sound : {V S : Type 0} (sound : Bool → V → Type 0) (s : TurnsState V S) → s.earlier ≡ Nothing → kept_sound sound s
nothing_sound sound s d = λ t e. absurd (cc)

module _ {O V : Type 0} (post : O → V → V → V → Type 0) where
  -- what operands and operators give, folded from the right, each operator by any value that its relation allows
  abbrev pub folded_right : List (PendingOperand O V) → V → V → Type 0
  folded_right [] last r = r ≡ last
  folded_right (x ∷ xs) last r = (b : V) × folded_right xs last b × post x.operator x.operand b r

  abbrev pub gives_right : Option (List (PendingOperand O V) × V) → V → Type 0
  gives_right None r = ⊥
  gives_right (Some z) r = folded_right z.0 z.1 r

-- operands folded from the left as they come
abbrev pub folded : {O V : Type 0} → (O → V → V → V → Type 0) → Collecting (Element O V) (Option V)
folded post = gathered (λ v. v) None (folds post) (Unit {0})

-- operands kept one after another
abbrev pub each_operand : {O V : Type 0} → Collecting (Element O V) (ChainOperands O V)
each_operand = gathered kept_operands None keeps_operand ⊥

module _ {P T R E O V Z U W : Type 0} (step : P → T → P) (errors : Observers T R P E) (c : Collecting (Element O V) Z) (gives : Z → V → Type 0) where
  -- an operand, and then turns of an operator and an operand; what they are gathered into gives a value
  abbrev pub chained : Meaning P T R E V U → Meaning P T R E O W → Meaning P T R E V (TurnsState Z (SeparatedState O W U))
  chained m s = mapped (elements_meaning step errors (OwnFirst 1 None) c m s) gives

module _ {P T R E O V U W : Type 0} (step : P → T → P) (errors : Observers T R P E) where
  -- an operand, and then turns of an operator and an operand
  abbrev pub operands : Meaning P T R E V U → Meaning P T R E O W → Meaning P T R E (ChainOperands O V) (TurnsState (ChainOperands O V) (SeparatedState O W U))
  operands = elements_meaning step errors (OwnFirst 1 None) each_operand

  module _ (post : O → V → V → V → Type 0) where
    -- the same, folded from the left
    abbrev pub chainl1 : Meaning P T R E V U → Meaning P T R E O W → Meaning P T R E V (TurnsState (Option V) (SeparatedState O W U))
    chainl1 = chained step errors (folded post) (λ h v. h ≡ Some v)

    -- the same, folded from the right
    abbrev pub right_fold : Meaning P T R E V U → Meaning P T R E O W → Meaning P T R E V (TurnsState (ChainOperands O V) (SeparatedState O W U))
    right_fold = chained step errors each_operand (λ z. gives_right post (kept_operands z))

    -- the same, of which each call begins again
    abbrev pub chainr1 : Meaning P T R E V U → Meaning P T R E O W → Meaning P T R E V (Unit {0})
    chainr1 m s = by_table same_outcome (right_fold m s) m.adds (right_fold m s).refuses

module _ {P T R E O V U W : Type 0} (step : P → T → P) (errors : Observers T R P E) (m : Meaning P T R E V U) (s : Meaning P T R E O W) where
  -- the operands are one, and then turns of an operator and an operand
  abbrev pub OperandsAreOneThenTurns : Type 0
  OperandsAreOneThenTurns = (v : View P T) (o : Outcome (ChainOperands O V)) → (operands step errors m s).whole v o ↔ one_then_turns step each_operand (following false first_element m.whole) (later_turn then_element (pair step errors s m)).reads v o
