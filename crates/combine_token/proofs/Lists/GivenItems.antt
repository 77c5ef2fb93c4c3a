-- what a list must be able to give, where its items are known
use Rattle.std.proofs.Common.{ℕ, zero, suc, ◌<◌, ◌≡◌, List, [], ◌∷◌, length, Bool, Some, None, Option, refl, sym, ap, subst, arith, slice_get, ◌↔◌}
use Rattle.combine_base.specs.Stream.View.{View}
use Rattle.combine_base.specs.Error.Items.{ErrorItem}
use Rattle.combine_base.specs.Error.Errors.{Observers}
use Rattle.combine_base.specs.Parser.Outcome.{Outcome}
use Rattle.combine_base.specs.Parser.Meaning.{Alike, MeansSame, SameReasons}
use Rattle.combine_base.specs.Parser.Answer.{Answers, CallRecord, World}
use Rattle.combine_base.proofs.Parsers.SameMeanings.{answers_alike}
use Rattle.combine_base.specs.declared.error.info.Info.{Info}
use Rattle.combine_base.specs.declared.error.result.ParseResult.{ParseResult}
use Rattle.combine_token.specs.Token.Lists.TokenLists.{TokenList, matching}
use Rattle.combine_token.specs.Token.Lists.ListMeaning.{token_list}
use Rattle.combine_token.specs.Token.Lists.IteratedLists.{GaveAt, GaveAll, IsItemAt, EndsAfter, iterated_tokens}
use Rattle.combine_token.specs.Token.Lists.KnownLists.{IsListWithin, listed_tokens}
use Rattle.combine_token.specs.Token.TokenReasons.{RefusesList}
use Rattle.combine_token.proofs.Lists.IteratorCalls.{gave_none}
use Rattle.combine_token.proofs.Lists.ListClones.{matching_within, refuses_within}

-- each known item, and the end after them, can come
pub record CanGive {L I A B : Type 0} (clones : L → L → Type 0) (makes : L → I → Type 0) (steps : I → Option A → I → Type 0) (list : L) (v : A → B) (ys : List B) : Type 0 where
  pub item : (k : ℕ) (y : B) → slice_get ys k ≡ Some y → (x : A) × (v x ≡ y) × IsItemAt clones makes steps list k x
  pub end : EndsAfter clones makes steps list (length ys)

-- an iterator that has such items left, and can give the first of them or end
module _ {I A B : Type 0} (steps : I → Option A → I → Type 0) (v : A → B) (left : I → List B → Type 0) (some : (s : I) (y : B) (ys : List B) → left s (y ∷ ys) → (x : A) × (t : I) × (v x ≡ y) × steps s (Some x) t × left t ys) (none : (s : I) → left s [] → (t : I) × steps s None t) where
  gives_item : (ys : List B) (s : I) (k : ℕ) (y : B) → left s ys → slice_get ys k ≡ Some y → (z : GaveAt steps k s) × (v z.item ≡ y)
  gives_item [] s k y h e = absurd (cc)
  gives_item (w ∷ ys) s zero y h e =
      let z = some s w ys h in
      (record { item = z.0; before = s; after = z.1; gave = gave_none steps s; gives = z.3 }, let i = z.2 in cc)
  gives_item (w ∷ ys) s (suc k) y h e =
      let z = some s w ys h in
      let r = gives_item ys z.1 k y z.4 e in (
        record { item = r.0.item; before = r.0.before; after = r.0.after; gave = record { items = z.0 ∷ r.0.gave.items; yields = (z.1, z.3, r.0.gave.yields); long = ap suc r.0.gave.long }; gives = r.0.gives },
        r.1,
      )

  gives_end : (ys : List B) (s : I) → left s ys → GaveAll steps (length ys) s
  gives_end [] s h = let z = none s h in record { last = s; end = z.0; gave = gave_none steps s; none = z.1 }
  gives_end (w ∷ ys) s h =
      let z = some s w ys h in
      let r = gives_end ys z.1 z.4 in
      record { last = r.last; end = r.end; gave = record { items = z.0 ∷ r.gave.items; yields = (z.1, z.3, r.gave.yields); long = ap suc r.gave.long }; none = r.none }

  pub can_give_all : {L : Type 0} (clones : L → L → Type 0) (makes : L → I → Type 0) (list : L) (ys : List B) (clone : L) (start : I) → clones list clone → makes clone start → left start ys → CanGive clones makes steps list v ys
  can_give_all clones makes list ys clone start i j h = record {
    item = λ k y e.
        let r = gives_item ys start k y h e in
        (r.0.item, r.1, record { before = r.0.before; after = r.0.after; reached = record { clone = clone; is_clone = i; start = start; made = j; gave = r.0.gave }; gives = r.0.gives });
    end = let r = gives_end ys start h in record { before = r.last; after = r.end; reached = record { clone = clone; is_clone = i; start = start; made = j; gave = r.gave }; gives = r.none };
  }

there : {B : Type 0} (ys : List B) (k : ℕ) → k < length ys → (y : B) × (slice_get ys k ≡ Some y)
there [] k d = absurd (omega arith)
there (y ∷ ys) zero d = (y, refl)
there (y ∷ ys) (suc k) d = there ys k (omega arith)

module _ {L I A B T : Type 0} (clones : L → L → Type 0) (makes : L → I → Type 0) (steps : I → Option A → I → Type 0) (list : L) (v : A → B) (ys : List B) (h : CanGive clones makes steps list v ys) (compares : A → T → Bool → Type 0) (known : B → T → Bool → Type 0) (read : (x : A) (t : T) (b : Bool) → known (v x) t b → compares x t b) where
  -- what is known of the items is known of the list
  pub listed_within : IsListWithin (listed_tokens known ys) (iterated_tokens clones makes steps list compares)
  listed_within = record {
    fits = λ n t b p. let z = h.item n p.0 p.1 in (z.0, z.2, read z.0 t b (subst (λ y. known y t b) (sym z.1) p.2));
    has = λ n d. let e = there ys n d in let z = h.item n e.0 e.1 in (z.0, z.2);
    ends = λ m e. subst (EndsAfter clones makes steps list) (sym e) h.end;
  }

pub list_within_same : {T : Type 0} (l : TokenList T) → IsListWithin l l
list_within_same l = record { fits = λ n t b p. p; has = λ n p. p; ends = λ m p. p }

-- lists of which the same is known mean the same
module _ {P T V : Type 0} (l l' : TokenList T) (h : IsListWithin l l') (k : IsListWithin l' l) (gives gives' : V → Type 0) (g : (v : V) → gives v ↔ gives' v) where
  both_ways : (n : ℕ) (v : View P T) (o : Outcome V) → matching l {P = P} gives n v o ↔ matching l' gives' n v o
  both_ways n v o = (matching_within l l' h gives gives' (λ x. (g x).0) n v.is_open v.unread o, matching_within l' l k gives' gives (λ x. (g x).1) n v.is_open v.unread o)

  module _ {R S E : Type 0} (errors : Observers T R P E) (expected expected' : Option (Info T R)) (matched : S → ℕ) (heapless heapless' : Type 0) (f : heapless ↔ heapless') (adds adds' : List (ErrorItem T R) → Type 0) where
    -- whatever they add to errors, and say was expected
    pub token_list_alike : Alike (token_list errors l expected gives matched heapless adds) (token_list errors l' expected' gives' matched heapless' adds')
    token_list_alike = record {
      whole = both_ways 0;
      rest = λ s. both_ways (matched s);
      lost = λ s v. (λ p. p, λ p. p);
      keeps = (λ p. p, λ p. p);
      puts_back = (λ p. p, λ p. p);
      heapless = f;
    }

  module _ {R S E : Type 0} (errors : Observers T R P E) (expected : Option (Info T R)) (matched : S → ℕ) (heapless heapless' : Type 0) (f : heapless ↔ heapless') (adds adds' : List (ErrorItem T R) → Type 0) where
    same_reasons : (n : ℕ) → SameReasons (RefusesList errors l expected n) (RefusesList errors l' expected n)
    same_reasons n v w c e = (refuses_within l l' h errors expected n v w c e, refuses_within l' l k errors expected n v w c e)

    pub token_list_means_same : ((is : List (ErrorItem T R)) → adds is ↔ adds' is) → MeansSame (token_list errors l expected gives matched heapless adds) (token_list errors l' expected gives' matched heapless' adds')
    token_list_means_same j =
        let a = token_list_alike errors expected expected matched heapless heapless' f adds adds' in
        record { whole = a.whole; rest = a.rest; lost = a.lost; keeps = a.keeps; puts_back = a.puts_back; heapless = a.heapless; adds = j; refuses = same_reasons 0; refuses_from = λ s. same_reasons (matched s) }

-- the same list, whose value is a clone of it: such a parser asks for memory where a clone does
module _ {P T R V S E : Type 0} (w : World P T S E) (errors : Observers T R P E) (l : TokenList T) (expected : Option (Info T R)) (gives : V → Type 0) (matched : S → ℕ) (heapless : Type 0) (adds : List (ErrorItem T R) → Type 0) (r : CallRecord P T S) where
  pub answers_cloned : (result : ParseResult V E) → Answers w (token_list errors l expected gives matched (heapless × heapless) adds) r result → Answers w (token_list errors l expected gives matched heapless adds) r result
  answers_cloned = answers_alike w (token_list errors l expected gives matched heapless adds) (token_list errors l expected gives matched (heapless × heapless) adds) (token_list_alike l l (list_within_same l) (list_within_same l) gives gives (λ v. (λ p. p, λ p. p)) errors expected expected matched heapless (heapless × heapless) (λ p. (p, p), λ p. p.0) adds adds) r
