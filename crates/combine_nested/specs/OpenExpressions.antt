-- expressions that aren't over
use Rattle.std.specs.Prelude.{◌≡◌, ℕ, ◌≤◌, ◌<◌, ◌⊎◌, true, is_some, List, [], ◌∷◌, ◌++◌, codes, reverse, slice_get, vec_items}
use Rattle.std.specs.Prelude.{Option, Some, None}
use Rattle.combine_nested.specs.declared.expression.Fixity.{Fixity}
use Rattle.combine_nested.specs.declared.expression.Fixity.TheVariants as fixities
use Rattle.combine_nested.specs.declared.expression.OperatorError.{OperatorError}
use Rattle.combine_nested.specs.declared.expression.OperatorError.TheVariants as operator_errors
use Rattle.combine_nested.specs.declared.expression.operands.Pending.{Pending}
use Rattle.combine_nested.specs.declared.expression.operands.Held.{Held}
use Rattle.combine_nested.specs.declared.expression.operands.Operands.{Operands}
use Rattle.combine_nested.specs.declared.expression.operands.Lowest.{Lowest}
use Rattle.combine_nested.specs.declared.expression.operands.Fault.{Fault}
use Rattle.combine_nested.specs.declared.expression.operands.Fault.TheVariants as faults
use Rattle.combine_nested.specs.Shapes.{Shape, Slot, fit, fits, reduce_to, sides_of, start}
use Rattle.combine_nested.specs.Levels.{Thing, Operand, Prefix, Postfix, Infix, IsExpression}

-- the lowest level that the operand may have that operators wait for, the innermost first
abbrev pub asked_level : {O V : Type 0} → List (Pending O V) → ℕ
asked_level [] = 0
asked_level (p ∷ ps) = p.asks

module _ {O V : Type 0} (changes : O → V → V → Type 0) (joins : O → V → V → V → Type 0) where
  abbrev pub makes_of : O → Option V → V → V → Type 0
  makes_of o None b w = changes o b w
  makes_of o (Some a) b w = joins o a b w

  -- an operator with its operands, as an operand
  pub record Reduced (waits : Pending O V) (right : V) (held : Held V) : Type 0 where
    pub level : held.level ≡ waits.level
    pub made : makes_of waits.operator waits.left right held.value

module _ {O V : Type 0} (levels : List Fixity) (changes : O → V → V → Type 0) (joins : O → V → V → V → Type 0) where
  module _ (below : List (Thing O V) → Type 0) (needs : ℕ) (waits : Pending O V) (ts : List (Thing O V)) where
    -- a prefix operator that waits, behind what waits below it
    pub record WaitsInFront : Type 0 where
      pub before : List (Thing O V)
      pub stands : below before
      pub fits : needs ≤ waits.level
      pub is_prefix : slice_get levels waits.level ≡ Some fixities.Prefix
      pub asks : waits.asks ≡ waits.level
      pub are : ts ≡ before ++ Prefix waits.level waits.operator ∷ []

    -- an infix operator that waits, behind its left operand
    pub record WaitsBetween (a : V) : Type 0 where
      pub before : List (Thing O V)
      pub stands : below before
      pub fits : needs ≤ waits.level
      pub lowest : Lowest
      pub sides : sides_of waits.level (slice_get levels waits.level) ≡ Some lowest
      pub asks : waits.asks ≡ lowest.right
      pub left : List (Thing O V)
      pub is_left : IsExpression levels changes joins lowest.left left a
      pub are : ts ≡ before ++ (left ++ Infix waits.level waits.operator ∷ [])

    abbrev pub waits_so : Option V → Type 0
    waits_so None = WaitsInFront
    waits_so (Some a) = WaitsBetween a

  -- the things that were read while these operators wait, the innermost first
  abbrev pub pends : List (Pending O V) → List (Thing O V) → Type 0
  pends [] ts = ts ≡ []
  pends (p ∷ ps) ts = waits_so (pends ps) (asked_level ps) p ts p.left

  -- and with the operand that they wait for
  pub record HoldsOperand (ps : List (Pending O V)) (held : Held V) (ts : List (Thing O V)) : Type 0 where
    pub before : List (Thing O V)
    pub pends : pends ps before
    pub fits : asked_level ps ≤ held.level
    pub operand : List (Thing O V)
    pub is_operand : IsExpression levels changes joins held.level operand held.value
    pub are : ts ≡ before ++ operand

  -- whether or not it was read
  abbrev pub stands : List (Pending O V) → Option (Held V) → List (Thing O V) → Type 0
  stands ps None ts = pends ps ts
  stands ps (Some h) ts = HoldsOperand ps h ts

-- the shape of operators that wait, and of an operand
abbrev pub shapes : {O V : Type 0} → List (Pending O V) → List Slot
shapes [] = []
shapes (p ∷ ps) = record { level = p.level; asks = p.asks } ∷ shapes ps

abbrev pub held_level : {V : Type 0} → Option (Held V) → Option ℕ
held_level None = None
held_level (Some h) = Some h.level

abbrev pub shape_of : {O V : Type 0} {N : ℕ} → Operands O V N → Shape
shape_of e = record { slots = shapes (reverse (vec_items e.pending)); held = held_level e.held }

-- the shape with one thing more, where it fits
abbrev pub fit_in : {O V : Type 0} {N : ℕ} → Operands O V N → Thing O V → Option Shape
fit_in e t = fit e.levels (shapes (reverse (vec_items e.pending))) (held_level e.held) t

-- what is said of a thing that doesn't fit
abbrev pub misfit_text : {O V : Type 0} → Thing O V → List ℕ
misfit_text (Operand v) = codes "operand cannot stand here"
misfit_text (Prefix l o) = codes "operator cannot stand here"
misfit_text (Postfix l o) = codes "operator cannot stand here"
misfit_text (Infix l o) = codes "operator cannot stand here"

module _ {O V : Type 0} (changes : O → V → V → Type 0) (joins : O → V → V → V → Type 0) where
  -- what becomes of operators that wait, and of the operand, where those that ask for more than a level are given theirs
  pub record ReducedAbove (old new : List (Pending O V)) (held : Held V) (level : ℕ) (h : Held V) : Type 0 where
    pub low : asked_level (reverse new) ≤ level
    pub holds : (levels : List Fixity) (ts : List (Thing O V)) → HoldsOperand levels changes joins (reverse old) held ts → HoldsOperand levels changes joins (reverse new) h ts
    pub shape : reduce_to level (shapes (reverse old)) held.level ≡ record { slots = shapes (reverse new); level = h.level }

module _ {O V : Type 0} {N : ℕ} (changes : O → V → V → Type 0) (joins : O → V → V → V → Type 0) where
  -- the things that were read of an expression that isn't over
  pub record StandsIn (e : Operands O V N) (ts : List (Thing O V)) : Type 0 where
    pub stands : stands e.levels changes joins (reverse (vec_items e.pending)) e.held ts
    pub fits : fits e.levels ts start ≡ Some (shape_of e)

  -- one comes of the other by one thing more
  pub record AddsThing (from to : Operands O V N) (t : Thing O V) : Type 0 where
    pub levels : to.levels ≡ from.levels
    pub fits : fit_in from t ≡ Some (shape_of to)
    pub stands : (ts : List (Thing O V)) → StandsIn from ts → StandsIn to (ts ++ t ∷ [])

  -- no expression begins with what was read and this thing, which a message says
  pub record Misfits (from : Operands O V N) (t : Thing O V) (message : List ℕ) : Type 0 where
    pub misfits : fit_in from t ≡ None
    pub none : (ts us : List (Thing O V)) (w : V) → StandsIn from ts → IsExpression from.levels changes joins 0 (ts ++ t ∷ us) w → ⊥
    pub says : message ≡ misfit_text t

  -- what was read is an expression, of this value
  pub record Completes (from : Operands O V N) (v : V) : Type 0 where
    pub holds : is_some from.held ≡ true
    pub is_expression : (ts : List (Thing O V)) → StandsIn from ts → IsExpression from.levels changes joins 0 ts v

  -- what was read is no expression, which a message says
  pub record EndsEarly (from : Operands O V N) (message : List ℕ) : Type 0 where
    pub awaits : from.held ≡ None
    pub none : (ts : List (Thing O V)) (w : V) → StandsIn from ts → IsExpression from.levels changes joins 0 ts w → ⊥
    pub says : message ≡ codes "operand expected"

-- an operator that makes no value refuses with a message, unless it finds no memory
abbrev pub unless_memory : (List ℕ → Type 0) → OperatorError → Type 0
unless_memory refuses (operator_errors.Refused m) = refuses m.now
unless_memory refuses operator_errors.Memory = Unit {0}

-- and so an expression doesn't go on
abbrev pub fault_of : OperatorError → Fault
fault_of (operator_errors.Refused m) = faults.Refused m
fault_of operator_errors.Memory = faults.Memory

-- why an expression doesn't go on: what follows doesn't fit, or an operator refuses, with a message; or memory is wanted
abbrev pub blames : (List ℕ → Type 0) → (List ℕ → Type 0) → Fault → Type 0
blames misfits refuses faults.Memory = Unit {0}
blames misfits refuses (faults.Misfit m) = misfits m.now
blames misfits refuses (faults.Refused m) = refuses m.now

module _ {O V : Type 0} (refuses_operand : O → V → List ℕ → Type 0) (refuses_operands : O → V → V → List ℕ → Type 0) where
  abbrev pub operator_refuses : O → Option V → V → List ℕ → Type 0
  operator_refuses o None b = refuses_operand o b
  operator_refuses o (Some a) b = refuses_operands o a b

  module _ (changes : O → V → V → Type 0) (joins : O → V → V → V → Type 0) (levels : List Fixity) (is_read : List (Thing O V) → Type 0) where
    -- an operator that waits refuses what was read for it, which is complete
    pub record WaitingRefuses (is_complete : ℕ → Type 0) (message : List ℕ) : Type 0 where
      pub waits : Pending O V
      pub others : List (Pending O V)
      pub held : Held V
      pub holds : (ts : List (Thing O V)) → is_read ts → HoldsOperand levels changes joins (waits ∷ others) held ts
      pub complete : is_complete waits.asks
      pub refuses : operator_refuses waits.operator waits.left held.value message

    -- a postfix operator refuses what stands before it
    pub record PostfixRefuses (level : ℕ) (o : O) (message : List ℕ) : Type 0 where
      pub others : List (Pending O V)
      pub held : Held V
      pub holds : (ts : List (Thing O V)) → is_read ts → HoldsOperand levels changes joins others held ts
      pub fits : asked_level others ≤ level
      pub is_postfix : slice_get levels level ≡ Some fixities.Postfix
      pub stands : level ≤ held.level
      pub refuses : refuses_operand o held.value message

    -- an operator refuses where such a thing follows: one that waits and asks for a higher level, or this one
    abbrev pub refused_before : Thing O V → List ℕ → Type 0
    refused_before (Operand v) m = ⊥
    refused_before (Prefix l o) m = ⊥
    refused_before (Postfix l o) m = WaitingRefuses (λ a. l < a) m ⊎ PostfixRefuses l o m
    refused_before (Infix l o) m = WaitingRefuses (λ a. l < a) m

  module _ {N : ℕ} (changes : O → V → V → Type 0) (joins : O → V → V → V → Type 0) (from : Operands O V N) where
    abbrev pub refuses_before : Thing O V → List ℕ → Type 0
    refuses_before = refused_before changes joins from.levels (StandsIn changes joins from)

    -- or where nothing follows
    abbrev pub refuses_at_end : List ℕ → Type 0
    refuses_at_end = WaitingRefuses changes joins from.levels (StandsIn changes joins from) (λ _. Unit {0})
