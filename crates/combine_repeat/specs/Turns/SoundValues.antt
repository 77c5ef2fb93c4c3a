-- what is known of what is gathered, where each value of it could be, before any turn is over and after that
use Rattle.std.specs.Prelude.{◌≡◌, Bool, true, false, nat_lt}
use Rattle.combine_base.specs.declared.error.result.ParseResult.{ParseResult}
use Rattle.combine_base.specs.declared.error.result.ParseResult.TheVariants.{CommitOk, PeekOk, CommitErr, PeekErr}
use Rattle.combine_repeat.specs.Turns.Bounds.{full_at, is_enough}
use Rattle.combine_repeat.specs.declared.bounds.Bounds.{Bounds}
use Rattle.combine_repeat.specs.declared.bounds.TurnIndex.{TurnIndex}
use Rattle.combine_repeat.specs.declared.turns.TurnProgress.{TurnProgress}
use Rattle.combine_repeat.specs.declared.turns.TurnsState.{TurnsState}
use Rattle.combine_repeat.specs.declared.turns.Earlier.TheVariants.{Gathered}

-- what is held is sound where no turn is over, and, where one is over or none, with each value that is good
pub record KeepsSound {A Held : Type 0} (none : Held) (more : Held → A → Held → Type 0) (good : A → Type 0) (sound : Bool → Held → Type 0) : Type 0 where
  pub begins : sound false none
  pub stays : (k : Bool) (h : Held) (a : A) (i : Held) → sound k h → good a → more h a i → (j : Bool) → sound j i

-- where nothing is asked of what is held
pub any_sound : {A Held : Type 0} {none : Held} {more : Held → A → Held → Type 0} {good : A → Type 0} → KeepsSound none more good (λ _ _. Unit {0})
any_sound = record { begins = tt; stays = λ k h a i s g m j. tt }

-- the turns at a place are sound
abbrev pub sound_at : {V : Type 0} → (Bool → V → Type 0) → TurnProgress V → Type 0
sound_at sound t = sound (nat_lt 0 t.index.number) t.into

-- what is kept of the turns so far is sound
abbrev pub kept_sound : {V S : Type 0} → (Bool → V → Type 0) → TurnsState V S → Type 0
kept_sound {V = V} sound s = (t : TurnProgress V) → s.earlier ≡ Gathered t → sound_at sound t

-- why turns end at a place
pub data EndsAt {A : Type 0} (b : Bounds) (ending : A → Bool) (g : TurnIndex) : Type 0 where
  Full : (full : full_at b g ≡ true) → EndsAt b ending g
  Enough : (there : is_enough b g ≡ true) → EndsAt b ending g
  ByValue : (value : A) (ends : ending value ≡ true) → EndsAt b ending g

module _ {A V : Type 0} (b : Bounds) (ending : A → Bool) where
  -- turns end with that
  pub record EndsSound (sound : Bool → V → Type 0) (v : V) : Type 0 where
    pub place : TurnIndex
    pub ends : EndsAt b ending place
    pub is : sound (nat_lt 0 place.number) v

  -- the value of an acceptance is what turns end with
  abbrev pub of_value : {E : Type 0} → (Bool → V → Type 0) → ParseResult V E → Type 0
  of_value sound (CommitOk v) = EndsSound sound v
  of_value sound (PeekOk v) = EndsSound sound v
  of_value sound (CommitErr e) = Unit {0}
  of_value sound (PeekErr t) = Unit {0}

  -- and so is what a call returns, and what it keeps is sound
  pub record LeavesSound {S E : Type 0} (sound : Bool → V → Type 0) (left : TurnsState V S) (result : ParseResult V E) : Type 0 where
    pub kept : kept_sound sound left
    pub value : of_value sound result
