-- items that calls of `next` gave, one after another
use Rattle.std.proofs.Common.{ℕ, ◌+◌, List, [], ◌∷◌, ◌++◌, length-append, Some, None, Option, refl, subst, sym, arith}
use Rattle.std.specs.Iterator.{Yields}
use Rattle.combine_token.specs.Token.Lists.IteratedLists.{Gave, GaveAll, IsIteratorAfter, IsItemAt, EndsAfter}

module _ {I A : Type 0} (steps : I → Option A → I → Type 0) where
  pub yields_more : (xs : List A) (s t u : I) (x : A) → Yields steps s xs t → steps t (Some x) u → Yields steps s (xs ++ x ∷ []) u
  yields_more [] s t u x y k = (u, subst (λ i. steps i (Some x) u) (sym y) k, refl)
  yields_more (z ∷ xs) s t u x y k = (y.0, y.1, yields_more xs y.0 t u x y.2 k)

  pub gave_none : (s : I) → Gave steps 0 s s
  gave_none s = record { items = []; yields = refl; long = refl }

  pub gave_more : (k : ℕ) (s t u : I) (x : A) → Gave steps k s t → steps t (Some x) u → Gave steps (k + 1) s u
  gave_more k s t u x h i = record { items = h.items ++ x ∷ []; yields = yields_more h.items s t u x h.yields i; long = let l = h.long in omega (arith, length-append h.items (x ∷ [])) }

module _ {L I A : Type 0} {clones : L → L → Type 0} {makes : L → I → Type 0} {steps : I → Option A → I → Type 0} {list : L} where
  pub iterator_after : {k : ℕ} (clone : L) {s t : I} → clones list clone → makes clone s → Gave steps k s t → IsIteratorAfter clones makes steps list k t
  iterator_after clone i j h = record { clone = clone; is_clone = i; start = _; made = j; gave = h }

  pub reached_more : {k : ℕ} {t u : I} {x : A} → IsIteratorAfter clones makes steps list k t → steps t (Some x) u → IsIteratorAfter clones makes steps list (k + 1) u
  reached_more {k} {t} {u} {x} h i = record { clone = h.clone; is_clone = h.is_clone; start = h.start; made = h.made; gave = gave_more steps k h.start t u x h.gave i }

  pub stands_there : {k : ℕ} {t u : I} {x : A} → IsIteratorAfter clones makes steps list k t → steps t (Some x) u → IsItemAt clones makes steps list k x
  stands_there h i = record { before = _; after = _; reached = h; gives = i }

  pub list_ends : {k : ℕ} {t u : I} → IsIteratorAfter clones makes steps list k t → steps t None u → EndsAfter clones makes steps list k
  list_ends h i = record { before = _; after = _; reached = h; gives = i }

  pub list_ends_early : {k : ℕ} (clone : L) {s : I} → clones list clone → makes clone s → GaveAll steps k s → EndsAfter clones makes steps list k
  list_ends_early clone i j h = list_ends (iterator_after clone i j h.gave) h.none
