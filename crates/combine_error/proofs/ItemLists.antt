-- an item put at the end of a list of items
use Rattle.std.proofs.Common.{◌≡◌, List, [], ◌∷◌, ◌++◌, Bool, true, false, map, refl, sym, inl}
use Rattle.std.specs.List.{list_any, filter}
use Rattle.std.proofs.lemmas.List.{map-append}
use Rattle.combine_base.specs.Error.Items.{ErrorItem, others}
use Rattle.combine_error.specs.Easy.{said, item_same, is_other, listed_errors}
use Rattle.combine_base.specs.Error.Errors.{Only, AddsItems, with_item}
use Rattle.combine_error.specs.declared.easy.Error.{Error}
use Rattle.combine_error.specs.declared.easy.Error.TheVariants as errors
use Rattle.combine_error.specs.declared.easy.Errors.{Errors}

any_said : {T R : Type 0} (p : ErrorItem T R → Bool) (xs : List (Error T R)) → list_any p (map said xs) ≡ list_any (λ x. p (said x)) xs
any_said p [] = refl
any_said p (x ∷ xs) = let h = any_said p xs in rw h refl

abbrev there : {T R : Type 0} → (T → T → Bool) → (R → R → Bool) → Error T R → List (Error T R) → Bool
there e f x = list_any (λ j. item_same e f (said j) (said x))

module _ {T R : Type 0} (token_eq : T → T → Bool) (range_eq : R → R → Bool) where
  with_old : (P : Type 0) (x : Error T R) (xs : List (Error T R)) → there token_eq range_eq x xs ≡ true → with_item (listed_errors token_eq range_eq {P = P}) (said x) (map said xs) ≡ map said xs
  with_old P x xs h = let e = any_said (λ j. item_same token_eq range_eq j (said x)) xs in rw (e, h) refl

  with_new : (P : Type 0) (x : Error T R) (xs : List (Error T R)) → there token_eq range_eq x xs ≡ false → with_item (listed_errors token_eq range_eq {P = P}) (said x) (map said xs) ≡ map said (xs ++ x ∷ [])
  with_new P x xs h = let e = any_said (λ j. item_same token_eq range_eq j (said x)) xs in rw (e, h) (sym (map-append said xs (x ∷ [])))

  pub said_before : {P : Type 0} (e : Errors T R P) (x : Error T R) → there token_eq range_eq x e.errors.items ≡ true → AddsItems (listed_errors token_eq range_eq) (Unit {0}) (Only (said x)) e e
  said_before {P} e x h = record { is = inl (said x ∷ [], refl, record { kind = refl; position = refl; items = sym (with_old P x e.errors.items h) }) }

  pub said_now : {P : Type 0} (e e' : Errors T R P) (x : Error T R) → there token_eq range_eq x e.errors.items ≡ false → e'.kind ≡ e.kind → e'.position ≡ e.position → e'.errors.items ≡ e.errors.items ++ x ∷ [] → AddsItems (listed_errors token_eq range_eq) (Unit {0}) (Only (said x)) e e'
  said_now {P} e e' x h k p q = record { is = inl (said x ∷ [], refl, record { kind = k; position = rw p refl; items = rw q (sym (with_new P x e.errors.items h)) }) }

pub others_said : {T R : Type 0} (xs : List (Error T R)) → map said (filter is_other xs) ≡ others (map said xs)
others_said [] = refl
others_said (errors.Unexpected i ∷ xs) = let h = others_said xs in rw h refl
others_said (errors.Expected i ∷ xs) = others_said xs
others_said (errors.Message i ∷ xs) = let h = others_said xs in rw h refl
