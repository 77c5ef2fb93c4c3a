-- expressions by the levels of their operators; level 0 binds least
use Rattle.std.specs.Prelude.{◌≡◌, ℕ, suc, List, [], ◌∷◌, ◌++◌, slice_get}
use Rattle.std.specs.Prelude.Option.{Some}
use Rattle.combine_nested.specs.declared.expression.Fixity.{Fixity}
use Rattle.combine_nested.specs.declared.expression.Fixity.TheVariants as fixities

-- what an expression is made of: an operator stands with its level, and what is in brackets is an operand
pub data Thing (O V : Type 0) : Type 0 where
  Operand : (value : V) → Thing O V
  Prefix : (level : ℕ) (operator : O) → Thing O V
  Postfix : (level : ℕ) (operator : O) → Thing O V
  Infix : (level : ℕ) (operator : O) → Thing O V

module _ {O V : Type 0} (levels : List Fixity) (changes : O → V → V → Type 0) (joins : O → V → V → V → Type 0) where
  -- what stands at a level, and its value
  pub data IsExpression : ℕ → List (Thing O V) → V → Type 0 where
    -- an operand stands at each level
    operand : (p : ℕ) (v : V) → IsExpression p (Operand v ∷ []) v
    -- what stands at the next level stands at this one
    higher : (p : ℕ) (ts : List (Thing O V)) (v : V) → IsExpression (suc p) ts v → IsExpression p ts v
    -- a prefix operator, and its operand of its own level
    prefix : (p : ℕ) (o : O) (r : List (Thing O V)) (a w : V) → slice_get levels p ≡ Some fixities.Prefix → IsExpression p r a → changes o a w → IsExpression p (Prefix p o ∷ r) w
    -- an operand of the level, and a postfix operator
    postfix : (p : ℕ) (o : O) (l : List (Thing O V)) (a w : V) → slice_get levels p ≡ Some fixities.Postfix → IsExpression p l a → changes o a w → IsExpression p (l ++ Postfix p o ∷ []) w
    -- an infix operator that groups to the left: its left operand is of its own level, its right one of the next
    infix_left : (p : ℕ) (o : O) (l r : List (Thing O V)) (a b w : V) → slice_get levels p ≡ Some fixities.Left → IsExpression p l a → IsExpression (suc p) r b → joins o a b w → IsExpression p (l ++ Infix p o ∷ r) w
    -- one that groups to the right: its left operand is of the next level, its right one of its own
    infix_right : (p : ℕ) (o : O) (l r : List (Thing O V)) (a b w : V) → slice_get levels p ≡ Some fixities.Right → IsExpression (suc p) l a → IsExpression p r b → joins o a b w → IsExpression p (l ++ Infix p o ∷ r) w
    -- one that does neither: both are of the next
    infix_neither : (p : ℕ) (o : O) (l r : List (Thing O V)) (a b w : V) → slice_get levels p ≡ Some fixities.Neither → IsExpression (suc p) l a → IsExpression (suc p) r b → joins o a b w → IsExpression p (l ++ Infix p o ∷ r) w
