-- the errors of a part that is run behind others
use Rattle.std.specs.Prelude.{◌≡◌, ◌⊎◌, ℕ, List, [], ◌∷◌, Bool, true}
use Rattle.std.proofs.Common.{inl, inr}
use Rattle.combine_base.specs.Error.Errors.{Observers, AddsItems, Added, Unstored}
use Rattle.combine_base.specs.Error.Items.{ErrorItem}
use Rattle.combine_base.specs.Parser.Drivers.{AtToken, ExplainsRefusal}
use Rattle.combine_base.specs.Parser.Meaning.{Meaning, MeansSame, Reading, Refusing, SameReasons}
use Rattle.combine_base.specs.Parser.Outcome.{Outcome, Accepted}
use Rattle.combine_base.specs.Stream.View.{View, advanced}

pub says_into : {T R P E : Type 0} (s : Observers T R P E) (heapless heapless' : Type 0) (adds adds' : List (ErrorItem T R) → Type 0) (e e' : E) → (heapless' → heapless) → ((is : List (ErrorItem T R)) → adds is → adds' is) → AddsItems s heapless adds e e' → AddsItems s heapless' adds' e e'
says_into s heapless heapless' adds adds' e e' f g a = record { is = by_case a.is }
  where
    by_case : ((is : List (ErrorItem _ _)) × adds is × Added s is e e') ⊎ Unstored s heapless e e' → ((is : List (ErrorItem _ _)) × adds' is × Added s is e e') ⊎ Unstored s heapless' e e'
    by_case (inl k) = inl (k.0, g k.0 k.1, k.2)
    by_case (inr u) = inr (record { kind = u.kind; position = u.position; memory = λ i l. u.memory i (f l) })

pub at_token_into : {T R : Type 0} (adds adds' : List (ErrorItem T R) → Type 0) → ((is : List (ErrorItem T R)) → adds is → adds' is) → (us : List T) (is : List (ErrorItem T R)) → AtToken adds us is → AtToken adds' us is
at_token_into adds adds' g [] is a = g is a
at_token_into adds adds' g (t ∷ ts) [] a = a
at_token_into adds adds' g (t ∷ ts) (i ∷ is) a = (a.0, g is a.1)

-- A part refused, with such an error of its own: committed, or peeked, and then it was put back to where it began, and explained. c says whether something was committed to before it.
pub record RefusesLast {P T R E B U : Type 0} (errors : Observers T R P E) (m : Meaning P T R E B U) (own : Refusing P T E) (c : Bool) (v w : View P T) (committed : Bool) (e : E) : Type 0 where
  pub is : ((committed ≡ true) × own v w true e) ⊎ ((committed ≡ c) × ExplainsRefusal errors m own v w e)

module _ {P T R E B U : Type 0} (errors : Observers T R P E) where
  module _ (m m' : Meaning P T R E B U) (own own' : Refusing P T E) (heapless : m'.heapless → m.heapless) (adds : (is : List (ErrorItem T R)) → m.adds is → m'.adds is) (refuses : (v w : View P T) (k : Bool) (e : E) → own v w k e → own' v w k e) where
    pub refusal_into : (v w : View P T) (e : E) → ExplainsRefusal errors m own v w e → ExplainsRefusal errors m' own' v w e
    refusal_into v w e x = record {
      own = x.own;
      left = x.left;
      refused = refuses v x.left _ x.own x.refused;
      back = x.back;
      says = says_into errors m.heapless m'.heapless (AtToken m.adds v.unread) (AtToken m'.adds v.unread) x.own e heapless (at_token_into m.adds m'.adds adds v.unread) x.says;
    }

    pub last_into : (c : Bool) (v w : View P T) (k : Bool) (e : E) → RefusesLast errors m own c v w k e → RefusesLast errors m' own' c v w k e
    last_into c v w k e x = record { is = by_case x.is }
      where
        by_case : ((k ≡ true) × own v w true e) ⊎ ((k ≡ c) × ExplainsRefusal errors m own v w e) → ((k ≡ true) × own' v w true e) ⊎ ((k ≡ c) × ExplainsRefusal errors m' own' v w e)
        by_case (inl y) = inl (y.0, refuses v w true e y.1)
        by_case (inr y) = inr (y.0, refusal_into v w e y.1)

  -- parsers that mean the same, with errors of their own that are the same
  pub last_same : (m m' : Meaning P T R E B U) (own own' : Refusing P T E) → MeansSame m m' → SameReasons own own' → (c : Bool) → SameReasons (RefusesLast errors m own c) (RefusesLast errors m' own' c)
  last_same m m' own own' h r c v w k e = (
    last_into m m' own own' h.heapless.1 (λ is. (h.adds is).0) (λ v w k e. (r v w k e).0) c v w k e,
    last_into m' m own' own h.heapless.0 (λ is. (h.adds is).1) (λ v w k e. (r v w k e).1) c v w k e,
  )

module _ {P T A E : Type 0} (step : P → T → P) (behind : A → Bool → Refusing P T E) where
  -- the parts before the last were accepted, and the last refused behind them
  pub record RefusesBehind (r : Reading P T A) (v w : View P T) (committed : Bool) (e : E) : Type 0 where
    pub value : A
    pub count : ℕ
    pub before : Bool
    pub accepted : r v (Accepted value count before)
    pub refuses : behind value before (advanced step count v) w committed e

-- by the outcomes of the parts before it, and by its errors behind them
pub behind_into : {P T A E : Type 0} (step : P → T → P) (behind behind' : A → Bool → Refusing P T E) (r r' : Reading P T A) → ((v : View P T) (o : Outcome A) → r v o → r' v o) → ((a : A) (c : Bool) (v w : View P T) (k : Bool) (e : E) → behind a c v w k e → behind' a c v w k e) → (v w : View P T) (k : Bool) (e : E) → RefusesBehind step behind r v w k e → RefusesBehind step behind' r' v w k e
behind_into step behind behind' r r' f g v w k e x = record { value = x.value; count = x.count; before = x.before; accepted = f v _ x.accepted; refuses = g x.value x.before _ w k e x.refuses }
