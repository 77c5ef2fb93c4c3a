-- a list whose items are known
use Rattle.std.specs.Prelude.{ℕ, ◌<◌, ◌≡◌, List, length, Bool, Some, slice_get}
use Rattle.std.proofs.lemmas.Iterator.{YieldsList}
use Rattle.std.specs.declared.option.Option.{Option}
use Rattle.combine_token.specs.Token.Lists.TokenLists.{TokenList}

-- the items of a list, each compared with the token at its place
abbrev pub listed_tokens : {A T : Type 0} → (A → T → Bool → Type 0) → List A → TokenList T
listed_tokens {A} compares xs = record {
  fits = λ k t b. (x : A) × (slice_get xs k ≡ Some x) × compares x t b;
  has = λ k. k < length xs;
  ends = λ m. m ≡ length xs;
}

-- what each clone of a list gives, as v reads it
pub record ListGives {L I A B : Type 0} (clones : L → L → Type 0) (makes : L → I → Type 0) (steps : I → Option A → I → Type 0) (list : L) (v : A → B) (ys : List B) : Type 0 where
  pub each : (clone : L) (start : I) → clones list clone → makes clone start → YieldsList steps v start ys

-- all that is known of one list is known of another
pub record IsListWithin {T : Type 0} (l l' : TokenList T) : Type 0 where
  pub fits : (n : ℕ) (t : T) (b : Bool) → l.fits n t b → l'.fits n t b
  pub has : (n : ℕ) → l.has n → l'.has n
  pub ends : (m : ℕ) → l.ends m → l'.ends m
