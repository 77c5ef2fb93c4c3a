-- what comes first, a token or the end of an ended list, under a test that answers a value or none; the test is known by its relation
use Rattle.std.specs.Prelude.{ℕ, ◌≡◌, ◌≤◌, List, [], ◌∷◌, ◌++◌, length, Bool, true, false, Option, Some, None, refl}
use Rattle.std.proofs.Common.{arith}
use Rattle.combine_base.specs.Stream.View.{View}
use Rattle.combine_base.specs.Error.Items.{ErrorItem}
use Rattle.combine_base.specs.Error.Errors.{Observers, AddsNothing}
use Rattle.combine_base.specs.Parser.Outcome.{Outcome, Accepted, Refused, Undecided, IsDecided, shape}
use Rattle.combine_base.specs.Parser.Meaning.{Meaning, Reading, IsReading, IsSingle, IsMeaning, MeansOne}
use Rattle.combine_base.specs.Parser.Answer.{World, Answers}
use Rattle.combine_base.specs.Predicates.{IsPredicate}
use Rattle.combine_base.specs.declared.stream.Failures.{Failures}
use Rattle.combine_base.specs.declared.error.result.ParseResult.{ParseResult}
use Rattle.combine_base.specs.declared.error.result.ParseResult.TheVariants.{CommitOk, PeekOk, CommitErr, PeekErr}
use Rattle.combine_token.specs.Token.TokenReasons.{RefusesToken}
use Rattle.combine_token.specs.Token.Stateless.{never_refused, stateless, stateless_is_meaning, stateless_means_one}

-- nothing is both accepted and refused
pub record IsTest {I B : Type 0} (f : I → Option B → Type 0) : Type 0 where
  pub one : (i : I) (b : B) → f i (Some b) → f i None → ⊥

-- a predicate that is a function
abbrev pub of_function : {T : Type 0} → (T → Bool) → T → Bool → Type 0
of_function f t b = b ≡ f t

pub of_function_is_predicate : {T : Type 0} (f : T → Bool) → IsPredicate (of_function f)
of_function_is_predicate f = record { one = λ t a b. cc }

-- a test of tokens; the end is refused
abbrev pub of_token : {T B : Type 0} → (T → Option B → Type 0) → Option T → Option B → Type 0
of_token f None None = Unit {0}
of_token f None (Some b) = ⊥
of_token f (Some t) o = f t o

pub of_token_is_test : {T B : Type 0} (f : T → Option B → Type 0) → IsTest f → IsTest (of_token f)
of_token_is_test {T} {B} f h = record { one = by_case }
  where
    by_case : (i : Option T) (b : B) → of_token f i (Some b) → of_token f i None → ⊥
    by_case None b p q = p
    by_case (Some t) b p q = h.one t b p q

-- the end, and no token
abbrev pub ends_there : {T : Type 0} → Option T → Option (Unit {0}) → Type 0
ends_there None None = ⊥
ends_there None (Some u) = Unit {0}
ends_there (Some t) None = Unit {0}
ends_there (Some t) (Some u) = ⊥

pub ends_there_is_test : {T : Type 0} → IsTest (ends_there {T = T})
ends_there_is_test {T} = record { one = by_case }
  where
    by_case : (i : Option T) (u : Unit {0}) → ends_there i (Some u) → ends_there i None → ⊥
    by_case None u p q = q
    by_case (Some t) u p q = p

-- the token itself, if the predicate holds of it
abbrev pub holds : {T : Type 0} → (T → Bool → Type 0) → T → Option T → Type 0
holds p t (Some u) = (u ≡ t) × p t true
holds p t None = p t false

-- a token that a predicate holds of
abbrev pub satisfied : {T : Type 0} → (T → Bool → Type 0) → Option T → Option T → Type 0
satisfied p = of_token (holds p)

pub satisfied_is_test : {T : Type 0} (p : T → Bool → Type 0) → IsPredicate p → IsTest (satisfied p)
satisfied_is_test p h = of_token_is_test (holds p) (record { one = λ t u a b. h.one t a.1 b })

module _ {T B : Type 0} (f : Option T → Option B → Type 0) where
  -- an accepted token is taken, committed; an accepted end is accepted peeked
  abbrev pub one_token_at : Bool → List T → Outcome B → Type 0
  one_token_at is_open [] (Accepted b n k) = (is_open ≡ false) × f None (Some b) × (n ≡ 0) × (k ≡ false)
  one_token_at is_open [] (Refused k) = (is_open ≡ false) × f None None × (k ≡ false)
  one_token_at is_open [] Undecided = is_open ≡ true
  one_token_at is_open (t ∷ ts) (Accepted b n k) = f (Some t) (Some b) × (n ≡ 1) × (k ≡ true)
  one_token_at is_open (t ∷ ts) (Refused k) = f (Some t) None × (k ≡ false)
  one_token_at is_open (t ∷ ts) Undecided = ⊥

  one_shape : IsTest f → (is_open : Bool) (us : List T) (o o' : Outcome B) → one_token_at is_open us o → one_token_at is_open us o' → shape o ≡ shape o'
  one_shape h i [] (Accepted b n k) (Accepted b' n' k') p q = cc
  one_shape h i [] (Accepted b n k) (Refused k') p q = absurd (h.one None b p.1 q.1)
  one_shape h i [] (Accepted b n k) Undecided p q = absurd (cc)
  one_shape h i [] (Refused k) (Accepted b n k') p q = absurd (h.one None b q.1 p.1)
  one_shape h i [] (Refused k) (Refused k') p q = cc
  one_shape h i [] (Refused k) Undecided p q = absurd (cc)
  one_shape h i [] Undecided (Accepted b n k') p q = absurd (cc)
  one_shape h i [] Undecided (Refused k') p q = absurd (cc)
  one_shape h i [] Undecided Undecided p q = refl
  one_shape h i (t ∷ ts) (Accepted b n k) (Accepted b' n' k') p q = cc
  one_shape h i (t ∷ ts) (Accepted b n k) (Refused k') p q = absurd (h.one (Some t) b p.0 q.0)
  one_shape h i (t ∷ ts) (Accepted b n k) Undecided p q = absurd q
  one_shape h i (t ∷ ts) (Refused k) (Accepted b n k') p q = absurd (h.one (Some t) b q.0 p.0)
  one_shape h i (t ∷ ts) (Refused k) (Refused k') p q = cc
  one_shape h i (t ∷ ts) (Refused k) Undecided p q = absurd q
  one_shape h i (t ∷ ts) Undecided o' p q = absurd p

  stays_at : (is_open m : Bool) (us x : List T) (o : Outcome B) → is_open ≡ true → IsDecided o → one_token_at is_open us o → one_token_at m (us ++ x) o
  stays_at i m [] x (Accepted b n k) e d p = absurd (cc)
  stays_at i m [] x (Refused k) e d p = absurd (cc)
  stays_at i m [] x Undecided e d p = absurd d
  stays_at i m (t ∷ ts) x (Accepted b n k) e d p = p
  stays_at i m (t ∷ ts) x (Refused k) e d p = p
  stays_at i m (t ∷ ts) x Undecided e d p = absurd d

  never_undecided : (is_open : Bool) (us : List T) → is_open ≡ false → one_token_at is_open us Undecided → ⊥
  never_undecided i [] e p = cc
  never_undecided i (t ∷ ts) e p = p

  peeked_at : (is_open : Bool) (us : List T) (b : B) (n : ℕ) → one_token_at is_open us (Accepted b n false) → n ≡ 0
  peeked_at i [] b n p = p.2
  peeked_at i (t ∷ ts) b n p = absurd (let e = p.2 in cc)

  within_at : (is_open : Bool) (us : List T) (b : B) (n : ℕ) (k : Bool) → one_token_at is_open us (Accepted b n k) → n ≤ length us
  within_at i [] b n k p = let e = p.2 in omega arith
  within_at i (t ∷ ts) b n k p = let e = p.1 in omega arith

module _ {P T B : Type 0} where
  abbrev pub one_token : (Option T → Option B → Type 0) → Reading P T B
  one_token f v o = one_token_at f v.is_open v.unread o

  pub one_token_is_reading : (f : Option T → Option B → Type 0) → IsReading (one_token f)
  one_token_is_reading f = record {
    ended = λ v. never_undecided f v.is_open v.unread;
    stays = λ v x m o. stays_at f v.is_open m v.unread x o;
    peeked = λ v b n. peeked_at f v.is_open v.unread b n;
    within = λ v b n k. within_at f v.is_open v.unread b n k;
  }

  pub one_token_is_single : (f : Option T → Option B → Type 0) → IsTest f → IsSingle (one_token f)
  one_token_is_single f h = record { one = λ v o o'. one_shape f h v.is_open v.unread o o' }

module _ {P T R E B S : Type 0} (errors : Observers T R P E) (f : Option T → Option B → Type 0) (heapless : Type 0) (adds : List (ErrorItem T R) → Type 0) where
  -- more is asked for only where nothing is unread
  abbrev pub takes_one : Meaning P T R E B S
  takes_one = stateless (one_token f) (Unit {0}) heapless adds (RefusesToken errors)

  pub takes_one_is_meaning : (fresh valid : S → Type 0) → IsMeaning fresh valid takes_one
  takes_one_is_meaning fresh valid = stateless_is_meaning fresh valid (one_token f) (Unit {0}) heapless adds (RefusesToken errors) (one_token_is_reading f)

  pub takes_one_means_one : (valid : S → Type 0) → IsTest f → MeansOne valid takes_one
  takes_one_means_one valid h = stateless_means_one valid (one_token f) (Unit {0}) heapless adds (RefusesToken errors) (one_token_is_single f h)

-- a peeked refusal leaves the stream as it was
abbrev pub PeekedLeaves : {P T B E : Type 0} → View P T → View P T → ParseResult B E → Type 0
PeekedLeaves old new (CommitOk b) = Unit {0}
PeekedLeaves old new (PeekOk b) = Unit {0}
PeekedLeaves old new (CommitErr e) = Unit {0}
PeekedLeaves old new (PeekErr t) = new ≡ old

-- what a call answers that reads one token under a test: what a parser does that takes no memory, in first mode or not, and from any state
pub record ReadsToken {P T B S E : Type 0} (w : World P T S E) (f : Option T → Option B → Type 0) (old new : View P T) (before after : Failures) (result : ParseResult B E) : Type 0 where
  pub answers : (first : Bool) (state left : S) → w.fresh left → Answers w (stateless {R = Unit {0}} {E = E} (one_token f) (Unit {0}) (Unit {0}) AddsNothing never_refused) (record { first = first; state = state; left = left; old = old; new = new; before = before; after = after }) result

-- the same under a predicate
pub record ReadsTokenIf {P T S E : Type 0} (w : World P T S E) (p : T → Bool → Type 0) (old new : View P T) (before after : Failures) (result : ParseResult T E) : Type 0 where
  pub reads : ReadsToken w (satisfied p) old new before after result
