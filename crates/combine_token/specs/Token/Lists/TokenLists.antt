-- a list of tokens that is matched one by one: the list is known by what its items answer, and by where it ends
use Rattle.std.specs.Prelude.{ℕ, ◌+◌, ◌-◌, ◌<◌, ◌≤◌, ◌≡◌, List, [], ◌∷◌, take, drop, length, Bool, true, false, nat_lt}
use Rattle.combine_base.specs.Parser.Outcome.{Outcome, Accepted, Refused, Undecided}
use Rattle.combine_base.specs.Parser.Meaning.{Reading}

-- what is known of a list, and of how its items compare with tokens
pub record TokenList (T : Type 0) : Type 1 where
  -- compared with the item at that place, the token may be found to fit, or not to
  pub fits : ℕ → T → Bool → Type 0
  -- an item stands at that place
  pub has : ℕ → Type 0
  -- the list may end after that many items
  pub ends : ℕ → Type 0

-- the list ends once, and no item stands there or behind
pub record ListEndsOnce {T : Type 0} (l : TokenList T) : Type 0 where
  pub before : (k m : ℕ) → l.has k → l.ends m → k < m
  pub one : (m m' : ℕ) → l.ends m → l.ends m' → m ≡ m'

-- no token is found both to fit and not to
pub record ComparesOnce {T : Type 0} (l : TokenList T) : Type 0 where
  pub one : (n : ℕ) (t : T) → l.fits n t true → l.fits n t false → ⊥

module _ {T : Type 0} (l : TokenList T) where
  -- the tokens fit the items from place n on, one by one
  abbrev pub all_fit : ℕ → List T → Type 0
  all_fit n [] = Unit {0}
  all_fit n (t ∷ ts) = l.fits n t true × all_fit (n + 1) ts

  -- the first i of these tokens do
  pub record Matched (n i : ℕ) (us : List T) : Type 0 where
    pub enough : i ≤ length us
    pub each : all_fit n (take i us)

  -- a token that doesn't fit the item at place n, or the end of an ended list
  abbrev pub mismatch_at : ℕ → Bool → List T → Type 0
  mismatch_at n is_open [] = is_open ≡ false
  mismatch_at n is_open (t ∷ ts) = l.fits n t false

  -- The items from place n on are matched. An acceptance or a refusal is committed if an item was matched, those before place n counted.
  abbrev pub matching_at : {V : Type 0} → (V → Type 0) → ℕ → Bool → List T → Outcome V → Type 0
  matching_at gives n is_open us (Accepted value count k) = (m : ℕ) × l.ends m × (count ≡ m - n) × Matched n count us × (k ≡ nat_lt 0 m) × gives value
  matching_at gives n is_open us (Refused k) = (i : ℕ) × l.has (n + i) × Matched n i us × mismatch_at (n + i) is_open (drop i us) × (k ≡ nat_lt 0 (n + i))
  matching_at gives n is_open us Undecided = (is_open ≡ true) × l.has (n + length us) × Matched n (length us) us

  module _ {P V : Type 0} where
    abbrev pub matching : (V → Type 0) → ℕ → Reading P T V
    matching gives n v o = matching_at gives n v.is_open v.unread o
