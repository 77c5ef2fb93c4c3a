-- parsers of which a caller's functions are asked have one outcome, where those answer from their arguments alone
use Rattle.std.proofs.Common.{ℕ, ◌≡◌, ◌∙◌, Bool, true, List, [], ◌∷◌, ap, sym, subst}
use Rattle.combine_base.specs.Error.Errors.{AddsNothing}
use Rattle.combine_base.specs.Error.NoItems.{no_items}
use Rattle.combine_base.specs.Parser.Meaning.{IsSingle, Reading}
use Rattle.combine_base.specs.Parser.Outcome.{Accepted}
use Rattle.combine_byte.specs.WholeNumbers.{whole_number}
use Rattle.combine_function.specs.Changes.{DecidesOne}
use Rattle.combine_repeat.specs.Repeat.Repeated.{repeated_means_one}
use Rattle.combine_repeat.specs.Repeat.Counts.{count_min_max}
use Rattle.combine_repeat.specs.Turns.Blocks.{Collecting}
use Rattle.combine_repeat.specs.declared.bounds.Bounds.TheVariants.{Counted}
use Rattle.combine_sequence.specs.Then as second
use Rattle.combine_token.specs.Token.OneToken.{of_function, of_function_is_predicate, one_token, one_token_at, satisfied, satisfied_is_test, takes_one, takes_one_means_one}

any_at : {T : Type 0} (o : Bool) (us : List T) (a b : T) (n m : ℕ) (k c : Bool) → one_token_at (satisfied (of_function (λ t. true))) o us (Accepted a n k) → one_token_at (satisfied (of_function (λ t. true))) o us (Accepted b m c) → a ≡ b
any_at o [] a b n m k c p q = absurd p.1
any_at o (t ∷ ts) a b n m k c p q = p.0.0 ∙ sym q.0.0

-- what any token is changed into, where none is both changed and refused
pub any_decides : {P T B : Type 0} (step : P → T → P) (gives : P → T → B → Type 0) (denies : T → Type 0) → ((at : P) (a : T) (b : B) → gives at a b → denies a → ⊥) → DecidesOne step (one_token (satisfied (of_function (λ t. true)))) gives denies
any_decides step gives denies apart = record { one = λ v a b n m k c p q z g d. apart _ a z g (subst denies (sym (any_at v.is_open v.unread a b n m k c p q)) d) }

-- the one parser that is answered for a number
pub one_for_number : {P T N A B : Type 0} (width : ℕ) (value : List T → A) {means : N → Reading P T B} (made : A → N) → ((a : A) → IsSingle (means (made a))) → second.ValueAnswersOne (whole_number width value) (λ a n. n ≡ made a) means
one_for_number width value {means} made h = record {
  one = λ v a b n c x y p q i j u o z w d.
      let e : a ≡ b = x.1 ∙ sym y.1 in
      (h a).one u o z (subst (λ s. means s u o) i w) (subst (λ s. means s u z) (j ∙ ap made (sym e)) d);
}

-- so many of any tokens, collected
pub counted_is_single : {P T V : Type 0} (step : P → T → P) (c : Collecting T V) (n : ℕ) → IsSingle (count_min_max {R = Unit {0}} {S = Unit {0}} step no_items c n n (takes_one no_items (satisfied (of_function (λ t. true))) (Unit {0}) AddsNothing)).whole
counted_is_single step c n =
    let any = satisfied (of_function (λ t. true)) in
    (repeated_means_one {R = Unit {0}} {S = Unit {0}} step no_items (Counted n n) c (λ s. Unit {0}) (takes_one no_items any (Unit {0}) AddsNothing) (takes_one_means_one no_items any (Unit {0}) AddsNothing (λ s. Unit {0}) (satisfied_is_test _ (of_function_is_predicate (λ t. true))))).whole
