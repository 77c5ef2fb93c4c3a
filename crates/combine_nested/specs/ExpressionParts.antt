-- the parts of an expression as frames: the whole, and what is in brackets inside it
use Rattle.std.specs.Prelude.{◌≡◌, ℕ, Bool, true, ◌⊎◌, List, [], None, is_none, Result, Ok, Err, vec_items}
use Rattle.std.specs.declared.alloc.Global.{Global}
use Rattle.combine_nested.specs.declared.nested.Next.{Next}
use Rattle.combine_nested.specs.declared.nested.Next.TheVariants as nexts
use Rattle.combine_nested.specs.declared.expression.Fixity.{Fixity}
use Rattle.combine_nested.specs.declared.expression.Item.{Item}
use Rattle.combine_nested.specs.declared.expression.Item.TheVariants as items
use Rattle.combine_nested.specs.declared.expression.operands.Operands.{Operands}
use Rattle.combine_nested.specs.declared.expression.operands.Fault.{Fault}
use Rattle.combine_nested.specs.declared.expression.operands.Fault.TheVariants as faults
use Rattle.combine_nested.specs.declared.expression.types.Outermost.{Outermost}
use Rattle.combine_nested.specs.declared.expression.types.Part.{Part}
use Rattle.combine_nested.specs.Levels.{Thing, Operand, Prefix, Postfix, Infix}
use Rattle.combine_nested.specs.OpenExpressions.{AddsThing, Completes, EndsEarly, Misfits, refuses_at_end, refuses_before, shape_of}

-- a part of which nothing was read
pub record BeginsPart {O V : Type 0} {N : ℕ} (levels : List Fixity) (in_brackets : Bool) (part : Part O V N) : Type 0 where
  pub has_levels : part.operands.levels ≡ levels
  pub pending : vec_items part.operands.pending ≡ []
  pub held : part.operands.held ≡ None
  pub is_in_brackets : part.in_brackets ≡ in_brackets

-- what comes of a part whose operands became that
abbrev pub stayed_as : {O V : Type 0} {N : ℕ} → Bool → Result (Operands O V N) Fault → Next (Part O V N) V → Type 0
stayed_as b (Ok e) (nexts.Stay q) = (q.in_brackets ≡ b) × (q.operands ≡ e)
stayed_as b (Ok e) (nexts.Open q r) = ⊥
stayed_as b (Ok e) (nexts.Close v) = ⊥
stayed_as b (Ok e) (nexts.Refuse m) = ⊥
stayed_as b (Err f) (nexts.Stay q) = ⊥
stayed_as b (Err f) (nexts.Open q r) = ⊥
stayed_as b (Err f) (nexts.Close v) = ⊥
stayed_as b (Err faults.Memory) (nexts.Refuse m) = ⊥
stayed_as b (Err (faults.Misfit f)) (nexts.Refuse m) = m.now ≡ f.now
stayed_as b (Err (faults.Refused f)) (nexts.Refuse m) = m.now ≡ f.now

-- what comes of a part that was closed so
abbrev pub closed_as : {O V : Type 0} {N : ℕ} → Result V Fault → Next (Part O V N) V → Type 0
closed_as (Ok v) (nexts.Stay q) = ⊥
closed_as (Ok v) (nexts.Open q r) = ⊥
closed_as (Ok v) (nexts.Close w) = w ≡ v
closed_as (Ok v) (nexts.Refuse m) = ⊥
closed_as (Err f) (nexts.Stay q) = ⊥
closed_as (Err f) (nexts.Open q r) = ⊥
closed_as (Err f) (nexts.Close w) = ⊥
closed_as (Err faults.Memory) (nexts.Refuse m) = ⊥
closed_as (Err (faults.Misfit f)) (nexts.Refuse m) = m.now ≡ f.now
closed_as (Err (faults.Refused f)) (nexts.Refuse m) = m.now ≡ f.now

module _ {O V : Type 0} {N : ℕ} (changes : O → V → V → Type 0) (joins : O → V → V → V → Type 0) (refuses_operand : O → V → List ℕ → Type 0) (refuses_operands : O → V → V → List ℕ → Type 0) where
  -- one comes of the other by one thing more
  pub record PartAddsThing (from to : Part O V N) (t : Thing O V) : Type 0 where
    pub in_brackets : to.in_brackets ≡ from.in_brackets
    pub follows : AddsThing changes joins from.operands to.operands t

  -- one thing more, or a refusal: no expression begins with it, or an operator refuses
  abbrev pub takes_thing : Part O V N → Thing O V → Next (Part O V N) V → Type 0
  takes_thing p t (nexts.Stay q) = PartAddsThing p q t
  takes_thing p t (nexts.Open q r) = ⊥
  takes_thing p t (nexts.Close v) = ⊥
  takes_thing p t (nexts.Refuse m) = Misfits changes joins p.operands t m.now ⊎ refuses_before refuses_operand refuses_operands changes joins p.operands t m.now

  -- a part in brackets begins inside it
  abbrev pub opens_part : Part O V N → Next (Part O V N) V → Type 0
  opens_part p (nexts.Stay q) = ⊥
  opens_part p (nexts.Open q r) = (q ≡ p) × BeginsPart p.operands.levels true r
  opens_part p (nexts.Close v) = ⊥
  opens_part p (nexts.Refuse m) = ⊥

  -- it is closed with the value of what was read of it; or that is no expression, or an operator refuses
  abbrev pub closes_part : Part O V N → Next (Part O V N) V → Type 0
  closes_part p (nexts.Stay q) = ⊥
  closes_part p (nexts.Open q r) = ⊥
  closes_part p (nexts.Close v) = Completes changes joins p.operands v
  closes_part p (nexts.Refuse m) = EndsEarly changes joins p.operands m.now ⊎ refuses_at_end refuses_operand refuses_operands changes joins p.operands m.now

  -- what comes of an item
  abbrev pub part_takes : Part O V N → Item O V → Next (Part O V N) V → Type 0
  part_takes p (items.Operand v) n = takes_thing p (Operand v) n
  part_takes p (items.Prefix l o) n = takes_thing p (Prefix l o) n
  part_takes p (items.Postfix l o) n = takes_thing p (Postfix l o) n
  part_takes p (items.Infix l o) n = takes_thing p (Infix l o) n
  part_takes p items.Open n = opens_part p n
  part_takes p items.Close n = closes_part p n

  -- what is in brackets is an operand, of its value
  abbrev pub part_joins : Part O V N → V → Next (Part O V N) V → Type 0
  part_joins p v n = takes_thing p (Operand v) n

-- what makes the outermost part
pub record MakesOutermost {O V : Type 0} {N : ℕ} (alloc : Global) (levels : List Fixity) (made : Outermost O V N) : Type 0 where
  pub in_memory : made.alloc ≡ alloc
  pub has_levels : made.levels ≡ levels

-- whether an operand is awaited
abbrev pub awaits : {O V : Type 0} {N : ℕ} → Part O V N → Bool
awaits p = is_none p.operands.held

-- parts that differ in values, and in operators of the same levels, alone
pub record PartsAlike {O V : Type 0} {N : ℕ} (part other : Part O V N) : Type 0 where
  pub same_levels : part.operands.levels ≡ other.operands.levels
  pub same_brackets : part.in_brackets ≡ other.in_brackets
  pub same_shape : shape_of part.operands ≡ shape_of other.operands

module _ {O V : Type 0} where
  -- items of the same kind, and operators of the same level
  pub data ItemsAlike : Item O V → Item O V → Type 0 where
    operands : (v w : V) → ItemsAlike (items.Operand v) (items.Operand w)
    prefixes : (l : ℕ) (o p : O) → ItemsAlike (items.Prefix l o) (items.Prefix l p)
    postfixes : (l : ℕ) (o p : O) → ItemsAlike (items.Postfix l o) (items.Postfix l p)
    infixes : (l : ℕ) (o p : O) → ItemsAlike (items.Infix l o) (items.Infix l p)
    opening : ItemsAlike items.Open items.Open
    closing : ItemsAlike items.Close items.Close

  pub like_itself : (i : Item O V) → ItemsAlike i i
  like_itself (items.Operand v) = operands v v
  like_itself (items.Prefix l o) = prefixes l o o
  like_itself (items.Postfix l o) = postfixes l o o
  like_itself (items.Infix l o) = infixes l o o
  like_itself items.Open = opening
  like_itself items.Close = closing
