-- what two parsers add to an error, in order
use Rattle.std.specs.Prelude.{◌≡◌, List, ◌++◌, refl, ◌↔◌}
use Rattle.std.proofs.Common.{append_assoc, ap, sym, ◌∙◌}

module _ {I : Type 0} where
  -- what two parsers add to an error, in order
  pub record Together (f g : List I → Type 0) (is : List I) : Type 0 where
    pub first : List I
    pub second : List I
    pub adds_first : f first
    pub adds_second : g second
    pub all : is ≡ first ++ second

  together_into : (f f' g g' : List I → Type 0) → ((is : List I) → f is → f' is) → ((is : List I) → g is → g' is) → (is : List I) → Together f g is → Together f' g' is
  together_into f f' g g' i j is t = record { first = t.first; second = t.second; adds_first = i t.first t.adds_first; adds_second = j t.second t.adds_second; all = t.all }

  pub together_both : (f f' g g' : List I → Type 0) → ((is : List I) → f is ↔ f' is) → ((is : List I) → g is ↔ g' is) → (is : List I) → Together f g is ↔ Together f' g' is
  together_both f f' g g' i j is = (together_into f f' g g' (λ is. (i is).0) (λ is. (j is).0) is, together_into f' f g' g (λ is. (i is).1) (λ is. (j is).1) is)

  pub together_assoc : (f g h : List I → Type 0) (is : List I) → Together (Together f g) h is ↔ Together f (Together g h) is
  together_assoc f g h is = (
    λ t. let u = t.adds_first in record {
      first = u.first;
      second = u.second ++ t.second;
      adds_first = u.adds_first;
      adds_second = record { first = u.second; second = t.second; adds_first = u.adds_second; adds_second = t.adds_second; all = refl };
      all = t.all ∙ ap (λ js. js ++ t.second) u.all ∙ append_assoc u.first u.second t.second;
    },
    λ t. let u = t.adds_second in record {
      first = t.first ++ u.first;
      second = u.second;
      adds_first = record { first = t.first; second = u.first; adds_first = t.adds_first; adds_second = u.adds_first; all = refl };
      adds_second = u.adds_second;
      all = t.all ∙ ap (λ js. t.first ++ js) u.all ∙ sym (append_assoc t.first u.first u.second);
    },
  )
