-- what is known of values, of what they are equal to
use Rattle.std.proofs.Common.{◌≡◌, refl, subst}

module _ {A B C D : Type 0} (F : A → B → C → D → Type 0) {a a' : A} {b b' : B} {c c' : C} {d d' : D} where
  pub carried_4 : a ≡ a' → b ≡ b' → c ≡ c' → d ≡ d' → F a b c d → F a' b' c' d'
  carried_4 p q r s f = subst (λ z. F a' b' c' z) s (subst (λ z. F a' b' z d) r (subst (λ z. F a' z c d) q (subst (λ z. F z b c d) p f)))

module _ {A B C D A2 B2 C2 D2 : Type 0} (F : A → B → C → D → A2 → B2 → C2 → D2 → Type 0) {a a' : A} {b b' : B} {c c' : C} {d d' : D} {e e' : A2} {f f' : B2} {g g' : C2} {h h' : D2} where
  pub carried_8 : a ≡ a' → b ≡ b' → c ≡ c' → d ≡ d' → e ≡ e' → f ≡ f' → g ≡ g' → h ≡ h' → F a b c d e f g h → F a' b' c' d' e' f' g' h'
  carried_8 p q r s t u v w x = carried_4 (λ k l m n. F a' b' c' d' k l m n) t u v w (carried_4 (λ k l m n. F k l m n e f g h) p q r s x)

-- a value that isn't there
pub no_value : tt {0} ≡ tt {0}
no_value = refl
