-- what the error of a choice is: its alternatives' errors, merged in order
use Rattle.std.specs.Prelude.{◌≡◌, ◌⊎◌, codes, List, [], ◌∷◌, drop, Bool, true, false}
use Rattle.std.specs.declared.cmp.Ordering.{Ordering}
use Rattle.combine_base.specs.Stream.View.{View}
use Rattle.combine_base.specs.Error.Items.{ErrorItem, Message, Fixed}
use Rattle.combine_base.specs.Error.Errors.{Observers, Only}
use Rattle.combine_base.specs.Parser.Meaning.{Meaning, MeantRefusal, Reading, Refusing, refusals}
use Rattle.combine_base.specs.Parser.Outcome.{Refused}
use Rattle.combine_base.specs.Refusals.{HasItems}
use Rattle.combine_base.specs.declared.stream.Kind.TheVariants as kinds
use Rattle.combine_choice.specs.Choice.Alternatives.{both_merged}
use Rattle.combine_token.specs.Token.TokenReasons.{peeked_only}
use Rattle.combine_choices.specs.declared.choice.slice.SliceState.{SliceState}
use Rattle.combine_choices.specs.declared.choice.slice.SliceState.TheVariants.{Peek, At}

abbrev pub choice_is_empty : {T R : Type 0} → ErrorItem T R
choice_is_empty = Message (Fixed (codes "parser choice is empty"))

module _ {X P T R E V S : Type 0} (s : Observers T R P E) (cmp : P → P → Ordering) (m : X → Meaning P T R E V S) where
  -- an error of those so far and one of the next alternative, which leaves the second view, make this one
  pub record Joins (so_far : E) (x : X) (v w : View P T) (both : E) : Type 0 where
    pub other : E
    pub refused : refusals (m x) v w false other
    pub joined : both_merged s cmp so_far other both

  -- one of the alternatives is refused committed, with such an error, and those before it peeked; they all begin afresh
  abbrev pub one_commits : List X → View P T → View P T → E → Type 0
  one_commits [] v w e = ⊥
  one_commits (x ∷ xs) v w e = refusals (m x) v w true e ⊎ ((m x).whole v (Refused false) × one_commits xs v w e)

  -- the error so far, with the view that was left, merged with those of the alternatives, in order, which all begin afresh and are refused peeked; the last of them leaves the second view
  abbrev pub merges : E → View P T → List X → View P T → View P T → E → Type 0
  merges so_far left [] v w e = (w ≡ left) × (e ≡ so_far)
  merges so_far left (x ∷ xs) v w e = (both : E) × (next : View P T) × Joins so_far x v next both × merges both next xs v w e

  -- one that has such outcomes, and such errors where it is meant to be refused so, and then others; where a later one is refused committed, it is refused peeked
  abbrev pub alternative_refuses : Reading P T V → Refusing P T E → List X → Refusing P T E
  alternative_refuses reads first xs v w true e = MeantRefusal reads first v w true e ⊎ (reads v (Refused false) × one_commits xs v w e)
  alternative_refuses reads first xs v w false e = (own : E) × (left : View P T) × MeantRefusal reads first v left false own × merges own left xs v w e

  -- the first of those has such outcomes and errors; where there is none, nothing is taken
  abbrev pub tried_refuses : (X → Reading P T V) → (X → Refusing P T E) → List X → Refusing P T E
  tried_refuses reads first [] v w committed e = peeked_only (λ e. (w ≡ v) × HasItems s kinds.Refused v.position (Only choice_is_empty) e) committed e
  tried_refuses reads first (x ∷ xs) v w committed e = alternative_refuses (reads x) (first x) xs v w committed e

  -- the running one goes on, and then the later ones; an index past the last alternative is the beginning
  abbrev pub on_refuses : List X → List X → S → Refusing P T E
  on_refuses xs [] k v w committed e = tried_refuses (λ x. (m x).whole) (λ x. (m x).refuses) xs v w committed e
  on_refuses xs (y ∷ ys) k v w committed e = alternative_refuses ((m y).rest k) ((m y).refuses_from k) ys v w committed e

  abbrev pub chosen_refuses : List X → SliceState S → Refusing P T E
  chosen_refuses xs Peek v w committed e = tried_refuses (λ x. (m x).whole) (λ x. (m x).refuses) xs v w committed e
  chosen_refuses xs (At i k) v w committed e = on_refuses xs (drop i xs) k v w committed e

  -- the error of a choice over a list of alternatives, from the start
  pub record RefusesChoice (xs : List X) (v w : View P T) (committed : Bool) (e : E) : Type 0 where
    pub is : tried_refuses (λ x. (m x).whole) (λ x. (m x).refuses) xs v w committed e

  -- and from a kept state
  pub record RefusesChoiceFrom (xs : List X) (k : SliceState S) (v w : View P T) (committed : Bool) (e : E) : Type 0 where
    pub is : chosen_refuses xs k v w committed e
