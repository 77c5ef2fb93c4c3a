-- where things fit, by their kinds and their levels alone
use Rattle.std.specs.Prelude.{ℕ, suc, Bool, true, false, cond, nat_le, nat_lt, Option, Some, None, List, [], ◌∷◌, length, slice_get}
use Rattle.combine_nested.specs.declared.expression.Fixity.{Fixity}
use Rattle.combine_nested.specs.declared.expression.Fixity.TheVariants as fixities
use Rattle.combine_nested.specs.declared.expression.operands.Lowest.{Lowest}
use Rattle.combine_nested.specs.Levels.{Thing, Operand, Prefix, Postfix, Infix}

-- the lowest levels of the left and the right operand of an infix operator at a level
abbrev pub sides_of : ℕ → Option Fixity → Option Lowest
sides_of p None = None
sides_of p (Some fixities.Prefix) = None
sides_of p (Some fixities.Postfix) = None
sides_of p (Some fixities.Left) = Some (record { left = p; right = suc p })
sides_of p (Some fixities.Right) = Some (record { left = suc p; right = p })
sides_of p (Some fixities.Neither) = Some (record { left = suc p; right = suc p })

-- an operator that waits for its right operand: its level, and the lowest level that this may have
pub record Slot : Type 0 where
  pub level : ℕ
  pub asks : ℕ

-- the operators that wait, the innermost first, and the level of the operand that was read for them
pub record Shape : Type 0 where
  pub slots : List Slot
  pub held : Option ℕ

-- the operators that are left, and the level of the operand
pub record ReducedShape : Type 0 where
  pub slots : List Slot
  pub level : ℕ

abbrev pub start : Shape
start = record { slots = []; held = None }

-- the lowest level that the awaited operand may have
abbrev pub needs_level : List Slot → ℕ
needs_level [] = 0
needs_level (s ∷ ss) = s.asks

-- the innermost is given the operand as long as it asks for a higher level
abbrev pub reduce_to : ℕ → List Slot → ℕ → ReducedShape
reduce_to q [] h = record { slots = []; level = h }
reduce_to q (s ∷ ss) h = cond (nat_lt q s.asks) (reduce_to q ss s.level) (record { slots = s ∷ ss; level = h })

-- a prefix operator fits that is of the level that is asked for, or a higher one
abbrev pub fits_in_front : Option Fixity → ℕ → ℕ → Bool
fits_in_front None a p = false
fits_in_front (Some fixities.Prefix) a p = nat_le a p
fits_in_front (Some fixities.Postfix) a p = false
fits_in_front (Some fixities.Left) a p = false
fits_in_front (Some fixities.Right) a p = false
fits_in_front (Some fixities.Neither) a p = false

-- a postfix operator fits behind an operand of its level, or a higher one
abbrev pub fits_behind : Option Fixity → ℕ → ℕ → Bool
fits_behind None h p = false
fits_behind (Some fixities.Prefix) h p = false
fits_behind (Some fixities.Postfix) h p = nat_le p h
fits_behind (Some fixities.Left) h p = false
fits_behind (Some fixities.Right) h p = false
fits_behind (Some fixities.Neither) h p = false

-- an operator waits, where it fits
abbrev pub waits_if : Bool → List Slot → ℕ → ℕ → Option Shape
waits_if true ss p a = Some (record { slots = record { level = p; asks = a } ∷ ss; held = None })
waits_if false ss p a = None

-- an operand is held, where it fits
abbrev pub holds_if : Bool → List Slot → ℕ → Option Shape
holds_if true ss p = Some (record { slots = ss; held = Some p })
holds_if false ss p = None

abbrev pub infix_between : Option Lowest → ReducedShape → ℕ → Option Shape
infix_between None k p = None
infix_between (Some l) k p = waits_if (nat_le l.left k.level) k.slots p l.right

abbrev pub and_then : Option Shape → (Shape → Option Shape) → Option Shape
and_then None f = None
and_then (Some s) f = f s

module _ {O V : Type 0} (levels : List Fixity) where
  -- what fits where an operand is awaited
  abbrev pub fit_awaited : List Slot → Thing O V → Option Shape
  fit_awaited ss (Operand v) = Some (record { slots = ss; held = Some (length levels) })
  fit_awaited ss (Prefix p o) = waits_if (fits_in_front (slice_get levels p) (needs_level ss) p) ss p p
  fit_awaited ss (Postfix p o) = None
  fit_awaited ss (Infix p o) = None

  -- and what fits behind one
  abbrev pub fit_behind : List Slot → ℕ → Thing O V → Option Shape
  fit_behind ss h (Operand v) = None
  fit_behind ss h (Prefix p o) = None
  fit_behind ss h (Postfix p o) = holds_if (fits_behind (slice_get levels p) (reduce_to p ss h).level p) (reduce_to p ss h).slots p
  fit_behind ss h (Infix p o) = infix_between (sides_of p (slice_get levels p)) (reduce_to p ss h) p

  abbrev pub fit : List Slot → Option ℕ → Thing O V → Option Shape
  fit ss None t = fit_awaited ss t
  fit ss (Some h) t = fit_behind ss h t

  -- things that fit one behind another
  abbrev pub fits : List (Thing O V) → Shape → Option Shape
  fits [] s = Some s
  fits (t ∷ ts) s = and_then (fit s.slots s.held t) (fits ts)
