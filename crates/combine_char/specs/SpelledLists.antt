-- lists that are spelled out
use Rattle.std.specs.Prelude.{◌≡◌, List, Bool, true, false}
use Rattle.std.proofs.Common.{arith, ◌∙◌, sym}
use Rattle.combine_base.specs.Error.Errors.{Only}
use Rattle.combine_base.specs.Error.Items.{ErrorItem, Expected, OfRange}
use Rattle.combine_token.specs.Token.Lists.KnownLists.{listed_tokens}
use Rattle.combine_token.specs.Token.Lists.TokenLists.{ListEndsOnce, ComparesOnce}

-- no token is found both to fit an item and not to
pub record ComparesOnceBy {A T : Type 0} (compares : A → T → Bool → Type 0) : Type 0 where
  pub once : (a : A) (t : T) → compares a t true → compares a t false → ⊥

module _ {A T : Type 0} (compares : A → T → Bool → Type 0) (xs : List A) where
  pub listed_ends_once : ListEndsOnce (listed_tokens compares xs)
  listed_ends_once = record { before = λ k m p q. omega (arith, p, q); one = λ m m' p q. p ∙ sym q }

  pub listed_compares_once : ((a : A) (t : T) → compares a t true → compares a t false → ⊥) → ComparesOnce (listed_tokens compares xs)
  listed_compares_once h = record { one = λ n t p q. let e : p.0 ≡ q.0 = cc in h q.0 t (rw e at p.2) q.2 }

-- what was expected is one of these ranges
abbrev pub SaysRange : {T R : Type 0} → (R → Type 0) → List (ErrorItem T R) → Type 0
SaysRange {R} shows is = (range : R) × shows range × Only (Expected (OfRange range)) is
