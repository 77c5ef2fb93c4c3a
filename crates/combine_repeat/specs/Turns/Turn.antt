-- what runs in a turn: a first one, and later ones, which may differ from it
use Rattle.std.specs.Prelude.{ℕ, ◌≡◌, Bool, true, false, ◌↔◌, refl}
use Rattle.combine_base.specs.Stream.View.{View}
use Rattle.combine_base.specs.Parser.GivenValues.{GivesOnly, ReadsOnly}
use Rattle.combine_base.specs.Parser.Outcome.{Outcome, Accepted, shape}
use Rattle.combine_base.specs.Parser.Meaning.{Meaning, Reading, Refusing, IsReading, IsSingle, IsMeaning, MeansOne, MeansSame, SameReasons, begun, begun_refuses}

-- how a turn begins: its reading, and the errors of its refusals
pub record Start (P T E A : Type 0) : Type 1 where
  pub reads : Reading P T A
  pub refuses : Refusing P T E

-- it begins the same
pub record TurnStartsSame {P T E A : Type 0} (s s' : Start P T E A) : Type 0 where
  pub reads : (v : View P T) (o : Outcome A) → s.reads v o ↔ s'.reads v o
  pub refuses : SameReasons s.refuses s'.refuses

module _ {P T R E A S : Type 0} where
  -- as a parser from its start
  abbrev pub from_start : Meaning P T R E A S → Start P T E A
  from_start m = record { reads = m.whole; refuses = m.refuses }

  -- as a parser from a kept state
  abbrev pub from_state : Meaning P T R E A S → S → Start P T E A
  from_state m s = record { reads = m.rest s; refuses = m.refuses_from s }

  -- as a call of a parser, begun afresh or from a state
  abbrev pub started : Meaning P T R E A S → Bool → S → Start P T E A
  started m first s = record { reads = begun m first s; refuses = begun_refuses m first s }

  -- where a turn begins afresh it is the first, or a later one
  abbrev pub turn_start : Meaning P T R E A S → Start P T E A → Bool → Start P T E A
  turn_start m again true = again
  turn_start m again false = from_start m

  abbrev pub called : Meaning P T R E A S → Start P T E A → Bool → Meaning P T R E A S
  called m again later = record { whole = (turn_start m again later).reads; rest = m.rest; lost = m.lost; keeps = m.keeps; puts_back = m.puts_back; heapless = m.heapless; adds = m.adds; refuses = (turn_start m again later).refuses; refuses_from = m.refuses_from }

  pub record IsTurn (fresh valid : S → Type 0) (m : Meaning P T R E A S) (again : Start P T E A) : Type 0 where
    pub meaning : IsMeaning fresh valid m
    pub later : IsReading again.reads

  pub record TurnsSame (m : Meaning P T R E A S) (again : Start P T E A) (m' : Meaning P T R E A S) (again' : Start P T E A) : Type 0 where
    pub meaning : MeansSame m m'
    pub later : TurnStartsSame again again'

-- each value that a turn gives is good: from the start, as the first turn or a later one, and from each valid state
pub record TurnsGive {P T R E A S : Type 0} (valid : S → Type 0) (m : Meaning P T R E A S) (again : Start P T E A) (good : A → Type 0) : Type 0 where
  pub first : GivesOnly valid m good
  pub later : ReadsOnly again.reads good

-- where nothing is asked of values, they may be any
pub gives_any : {P T R E A S : Type 0} {valid : S → Type 0} {m : Meaning P T R E A S} {again : Start P T E A} → TurnsGive valid m again (λ _. Unit {0})
gives_any = record {
  first = record { whole = record { one = λ v a n c w. tt }; rest = λ s k. record { one = λ v a n c w. tt } };
  later = record { one = λ v a n c w. tt };
}

-- one outcome but for its value, and all values that it may have end the turns, or none of them
pub record EndsTurnsOnce {P T A : Type 0} (ending : A → Bool) (r : Reading P T A) : Type 0 where
  pub one : (v : View P T) (o o' : Outcome A) → r v o → r v o' → shape o ≡ shape o'
  pub ends : (v : View P T) (a a' : A) (n : ℕ) (k : Bool) → r v (Accepted a n k) → r v (Accepted a' n k) → ending a ≡ ending a'

pub record TurnsOnce {P T R E A S : Type 0} (valid : S → Type 0) (ending : A → Bool) (m : Meaning P T R E A S) (again : Start P T E A) : Type 0 where
  pub whole : EndsTurnsOnce ending m.whole
  pub rest : (s : S) → valid s → EndsTurnsOnce ending (m.rest s)
  pub later : EndsTurnsOnce ending again.reads

module _ {P T A : Type 0} where
  pub never_ends : {r : Reading P T A} → IsSingle r → EndsTurnsOnce (λ _. false) r
  never_ends h = record { one = h.one; ends = λ v a a' n k p q. refl }

-- the same parser in each turn, whose values don't end the turns
module _ {P T R E A S : Type 0} where
  pub plain_is_turn : {fresh valid : S → Type 0} {m : Meaning P T R E A S} → IsMeaning fresh valid m → IsTurn fresh valid m (from_start m)
  plain_is_turn h = record { meaning = h; later = h.whole }

  pub plain_same : {m m' : Meaning P T R E A S} → MeansSame m m' → TurnsSame m (from_start m) m' (from_start m')
  plain_same h = record { meaning = h; later = record { reads = h.whole; refuses = h.refuses } }

  pub plain_once : {valid : S → Type 0} {m : Meaning P T R E A S} → MeansOne valid m → TurnsOnce valid (λ _. false) m (from_start m)
  plain_once h = record { whole = never_ends h.whole; rest = λ s k. never_ends (h.rest s k); later = never_ends h.whole }
