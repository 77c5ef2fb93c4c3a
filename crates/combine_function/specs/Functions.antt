-- parsers that are functions: each is known by what its calls answer
use Rattle.std.specs.Prelude.{ℕ, ◌<◌, ◌≤◌, ◌≡◌, ◌⊎◌, List, ◌++◌, Bool, true, false, length, refl}
use Rattle.std.proofs.Common.{arith, ap, subst, inl, inr, append_assoc, length-append, ◌∙◌}
use Rattle.combine_base.specs.Stream.View.{View, Takes, Moves, extended}
use Rattle.combine_base.specs.Stream.Calls.{Passes}
use Rattle.combine_base.specs.Error.Errors.{AddsNothing}
use Rattle.combine_base.specs.Parser.Outcome.{Outcome, Accepted, Refused, Undecided, IsDecided}
use Rattle.combine_base.specs.Parser.Meaning.{Meaning, IsReading, IsSingle, IsMeaning, MeansOne}
use Rattle.combine_base.specs.declared.stream.Kind.{Kind}
use Rattle.combine_base.specs.declared.stream.Kind.TheVariants as kinds
use Rattle.combine_base.specs.declared.stream.Failures.{Failures}
use Rattle.combine_base.specs.declared.error.result.ParseResult.{ParseResult}
use Rattle.combine_base.specs.declared.error.result.ParseResult.TheVariants.{CommitOk, PeekOk, CommitErr, PeekErr}
use Rattle.combine_token.specs.Token.Stateless.{stateless, stateless_is_meaning, stateless_means_one}
use Rattle.combine_function.specs.declared.function.types.Called.{Called}
use Rattle.combine_function.specs.declared.function.types.WithoutEnv.{WithoutEnv}
use Rattle.combine_function.specs.declared.function.types.WithEnv.{WithEnv}

-- the parsers of this module, of their parts
abbrev pub function_parser : {Input F : Type 0} → F → Called Input (WithoutEnv F)
function_parser f = record { call = record { 0 = f }; reads = record {} }

abbrev pub env_parser_of : {Input E F : Type 0} → E → F → Called Input (WithEnv E F)
env_parser_of env f = record { call = record { env = env; function = f }; reads = record {} }

abbrev pub call_of : {Input C : Type 0} → Called Input C → C
call_of p = p.call

-- a function may answer this for that stream, and leave it so; into is what its answer is turned into
pub record AnswersAt {I X A : Type 0} (returns : I → X → I → Type 0) (into : X → A) (input : I) (answer : A) (left : I) : Type 0 where
  pub own : X
  pub met : returns input own left
  pub is : answer ≡ into own

-- the same of a function that is given a clone of what it needs
pub record AnswersWith {I X A E : Type 0} (clone : E → Type 0) (returns : E → I → X → I → Type 0) (into : X → A) (input : I) (answer : A) (left : I) : Type 0 where
  pub env : E
  pub cloned : clone env
  pub answers : AnswersAt (returns env) into input answer left

module _ {P T V E : Type 0} (step : P → T → P) (kind : E → Kind) (old new : View P T) where
  abbrev pub error_outcome : Bool → Kind → Outcome V → Type 0
  error_outcome is_open kinds.Refused o = o ≡ Refused true
  error_outcome true kinds.End o = o ≡ Undecided
  error_outcome false kinds.End o = o ≡ Refused true
  error_outcome is_open kinds.Memory o = ⊥
  error_outcome is_open kinds.Read o = ⊥
  error_outcome is_open kinds.Reset o = ⊥
  error_outcome is_open kinds.Lost o = ⊥

  -- the outcome that an answer stands for; a fault has none
  abbrev pub answer_outcome : ParseResult V E → Outcome V → Type 0
  answer_outcome (CommitOk a) o = (n : ℕ) × Takes step n old new × (o ≡ Accepted a n true)
  answer_outcome (PeekOk a) o = o ≡ Accepted a 0 false
  answer_outcome (CommitErr e) o = error_outcome old.is_open (kind e) o
  answer_outcome (PeekErr t) o = o ≡ Refused false

  error_refused : (b : Bool) (k : Kind) (a : V) (n : ℕ) (c : Bool) → error_outcome b k (Accepted a n c) → ⊥
  error_refused b kinds.Refused a n c e = cc
  error_refused true kinds.End a n c e = cc
  error_refused false kinds.End a n c e = cc
  error_refused b kinds.Memory a n c e = e
  error_refused b kinds.Read a n c e = e
  error_refused b kinds.Reset a n c e = e
  error_refused b kinds.Lost a n c e = e

  undecided_open : (r : ParseResult V E) → answer_outcome r Undecided → old.is_open ≡ true
  undecided_open (CommitOk a) p = let e = p.2 in absurd (cc)
  undecided_open (PeekOk a) p = absurd (cc)
  undecided_open (PeekErr t) p = absurd (cc)
  undecided_open (CommitErr e) p = by_kind old.is_open (kind e) p
    where
      by_kind : (b : Bool) (k : Kind) → error_outcome b k Undecided → b ≡ true
      by_kind b kinds.Refused e = absurd (cc)
      by_kind true kinds.End e = refl
      by_kind false kinds.End e = absurd (cc)
      by_kind b kinds.Memory e = absurd e
      by_kind b kinds.Read e = absurd e
      by_kind b kinds.Reset e = absurd e
      by_kind b kinds.Lost e = absurd e

  accepted_peeked : (r : ParseResult V E) (a : V) (n : ℕ) → answer_outcome r (Accepted a n false) → n ≡ 0
  accepted_peeked (CommitOk b) a n p = let e = p.2 in absurd (cc)
  accepted_peeked (PeekOk b) a n p = cc
  accepted_peeked (CommitErr e) a n p = absurd (error_refused old.is_open (kind e) a n false p)
  accepted_peeked (PeekErr t) a n p = absurd (cc)

  accepted_within : (r : ParseResult V E) (a : V) (n : ℕ) (k : Bool) → answer_outcome r (Accepted a n k) → n ≤ length old.unread
  accepted_within (CommitOk b) a n k p = let m : n ≡ p.0 = (let e = p.2 in cc) in let t = p.1.enough in omega arith
  accepted_within (PeekOk b) a n k p = let m : n ≡ 0 = cc in omega arith
  accepted_within (CommitErr e) a n k p = absurd (error_refused old.is_open (kind e) a n k p)
  accepted_within (PeekErr t) a n k p = absurd (cc)

-- a list that goes on from an open one
pub record ExtendsOpen {P T : Type 0} (u v : View P T) : Type 0 where
  pub is_open : u.is_open ≡ true
  pub more : List T
  pub mark : Bool
  pub is : v ≡ extended more mark u

module _ {I P T V E : Type 0} (step : P → T → P) (kind : E → Kind) (view : I → View P T) (answers : I → ParseResult V E → I → Type 0) where
  -- what the function answers on the list, or answered, decided, on an open list from which this one goes on
  pub record FunctionReading (v : View P T) (o : Outcome V) : Type 0 where
    pub input : I
    pub left : I
    pub answer : ParseResult V E
    pub met : answers input answer left
    pub stands : answer_outcome step kind (view input) (view left) answer o
    pub place : (v ≡ view input) ⊎ (IsDecided o × ExtendsOpen (view input) v)

  goes_further : (u v : View P T) (x : List T) (m : Bool) → v.is_open ≡ true → ExtendsOpen u v → ExtendsOpen u (extended x m v)
  goes_further u v x m e g = record { is_open = g.is_open; more = g.more ++ x; mark = m; is = ap (extended x m) g.is ∙ ap (λ us. record { position = u.position; unread = us; is_open = m }) (append_assoc u.unread g.more x) }

  placed : (u v : View P T) (o : Outcome V) (x : List T) (m : Bool) → v.is_open ≡ true → IsDecided o → (v ≡ u) ⊎ (IsDecided o × ExtendsOpen u v) → (extended x m v ≡ u) ⊎ (IsDecided o × ExtendsOpen u (extended x m v))
  placed u v o x m e d (inl p) = inr (d, record { is_open = subst (λ (w : View P T). w.is_open ≡ true) p e; more = x; mark = m; is = ap (extended x m) p })
  placed u v o x m e d (inr p) = inr (d, goes_further u v x m e p.1)

  ended : (v : View P T) → v.is_open ≡ false → FunctionReading v Undecided → ⊥
  ended v e p = by_place p.place
    where
      by_place : (v ≡ view p.input) ⊎ (⊥ × ExtendsOpen (view p.input) v) → ⊥
      by_place (inl q) =
          let o = undecided_open step kind (view p.input) (view p.left) p.answer p.stands in
          let c = subst (λ (w : View P T). w.is_open ≡ false) q e in
          cc
      by_place (inr q) = q.0

  within : (v : View P T) (a : V) (n : ℕ) (k : Bool) → FunctionReading v (Accepted a n k) → n ≤ length v.unread
  within v a n k p = by_place p.place
    where
      few : n ≤ length (view p.input).unread
      few = accepted_within step kind (view p.input) (view p.left) p.answer a n k p.stands

      by_place : (v ≡ view p.input) ⊎ (Unit {0} × ExtendsOpen (view p.input) v) → n ≤ length v.unread
      by_place (inl q) = rw q few
      by_place (inr q) =
          let e : length v.unread ≡ length ((view p.input).unread ++ q.1.more) = ap (λ (w : View P T). length w.unread) q.1.is in
          let f = few in
          omega (arith, length-append (view p.input).unread q.1.more)

  pub function_is_reading : IsReading FunctionReading
  function_is_reading = record {
    ended = ended;
    stays = λ v x m o e d p. record { input = p.input; left = p.left; answer = p.answer; met = p.met; stands = p.stands; place = placed (view p.input) v o x m e d p.place };
    peeked = λ v a n p. accepted_peeked step kind (view p.input) (view p.left) p.answer a n p.stands;
    within = within;
  }

  module _ {C : Type 0} (marks : I → C → View P T → Type 0) (failures : I → Failures) (counts_failures : Type 0) where
    module _ (input left : I) where
      -- some tokens were taken, or none, and no failure came
      pub record MovesUnfailing : Type 0 where
        pub moves : Moves step (view input) (view left)
        pub counts : counts_failures → failures left ≡ failures input

      abbrev pub keeps_error : Kind → Type 0
      keeps_error kinds.Refused = MovesUnfailing
      keeps_error kinds.End = MovesUnfailing
      keeps_error kinds.Memory = Moves step (view input) (view left)
      keeps_error kinds.Read = ((failures input).reads < (failures left).reads) × Moves step (view input) (view left)
      keeps_error kinds.Reset = ((failures input).resets < (failures left).resets) × Moves step (view input) (view left)
      keeps_error kinds.Lost = ⊥

      abbrev pub keeps_peek : Kind → Type 0
      keeps_peek kinds.Refused = MovesUnfailing
      keeps_peek kinds.End = ((view input).is_open ≡ false) × MovesUnfailing
      keeps_peek kinds.Memory = ⊥
      keeps_peek kinds.Read = ⊥
      keeps_peek kinds.Reset = ⊥
      keeps_peek kinds.Lost = ⊥

      -- a peeked acceptance takes nothing, a fault is committed, and a failed read or reset is counted
      abbrev pub keeps_laws : ParseResult V E → Type 0
      keeps_laws (CommitOk a) = MovesUnfailing
      keeps_laws (PeekOk a) = (view left ≡ view input) × (counts_failures → failures left ≡ failures input)
      keeps_laws (CommitErr e) = keeps_error (kind e)
      keeps_laws (PeekErr t) = keeps_peek (kind t.error)

      pub record KeepsLaws (answer : ParseResult V E) : Type 0 where
        pub is : keeps_laws answer
        pub passes : Passes (marks input) (marks left) (failures input) (failures left)

    -- the laws of a parser, as each call of the function keeps them
    pub record IsFunction : Type 0 where
      pub each : (input left : I) (answer : ParseResult V E) → answers input answer left → KeepsLaws input left answer

  -- no call finds no memory
  abbrev pub NeedsNoMemory : Type 0
  NeedsNoMemory = (input left : I) (e : E) → answers input (CommitErr e) left → kind e ≡ kinds.Memory → ⊥

-- the error of a refusal is one that the function answered there, and so it left the stream
module _ {I P T V E : Type 0} (view : I → View P T) (answers : I → ParseResult V E → I → Type 0) where
  abbrev pub refused_by : ParseResult V E → Bool → E → Type 0
  refused_by (CommitOk a) committed e = ⊥
  refused_by (PeekOk a) committed e = ⊥
  refused_by (CommitErr x) committed e = (committed ≡ true) × (e ≡ x)
  refused_by (PeekErr t) committed e = (committed ≡ false) × (e ≡ t.error)

  pub record RefusesCalled (v w : View P T) (committed : Bool) (e : E) : Type 0 where
    pub input : I
    pub left : I
    pub answer : ParseResult V E
    pub met : answers input answer left
    pub place : view input ≡ v
    pub leaves : view left ≡ w
    pub refused : refused_by answer committed e

module _ {I P T R V S E : Type 0} (step : P → T → P) (kind : E → Kind) (view : I → View P T) (answers : I → ParseResult V E → I → Type 0) (heapless : Type 0) where
  -- each call begins again
  abbrev pub as_function : Meaning P T R E V S
  as_function = stateless (FunctionReading step kind view answers) ⊥ heapless AddsNothing (RefusesCalled view answers)

  pub as_function_is_meaning : (fresh valid : S → Type 0) → IsMeaning fresh valid as_function
  as_function_is_meaning fresh valid = stateless_is_meaning fresh valid (FunctionReading step kind view answers) ⊥ heapless AddsNothing (RefusesCalled view answers) (function_is_reading step kind view answers)

  pub as_function_means_one : (valid : S → Type 0) → IsSingle (FunctionReading step kind view answers) → MeansOne valid as_function
  as_function_means_one valid h = stateless_means_one valid (FunctionReading step kind view answers) ⊥ heapless AddsNothing (RefusesCalled view answers) h
