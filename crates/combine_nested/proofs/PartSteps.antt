-- what comes of a part
use Rattle.std.proofs.Common.{◌≡◌, ℕ, List, inl, inr, Result, Ok, Err, MatchResult, sym, subst}
use Rattle.combine_nested.specs.declared.nested.Next.{Next}
use Rattle.combine_nested.specs.declared.nested.Next.TheVariants as nexts
use Rattle.combine_nested.specs.declared.expression.Item.{Item}
use Rattle.combine_nested.specs.declared.expression.Item.TheVariants as items
use Rattle.combine_nested.specs.declared.expression.operands.Operands.{Operands}
use Rattle.combine_nested.specs.declared.expression.operands.Fault.{Fault}
use Rattle.combine_nested.specs.declared.expression.operands.Fault.TheVariants as faults
use Rattle.combine_nested.specs.declared.expression.types.Part.{Part}
use Rattle.combine_nested.specs.Levels.{Thing, Operand, Prefix, Postfix, Infix}
use Rattle.combine_nested.specs.OpenExpressions.{AddsThing, Completes, EndsEarly, Misfits, blames, refuses_at_end, refuses_before}
use Rattle.combine_nested.specs.ExpressionParts.{closed_as, closes_part, takes_thing, part_takes, stayed_as}

module _ {O V : Type 0} {N : ℕ} (changes : O → V → V → Type 0) (joins : O → V → V → V → Type 0) (refuses_operand : O → V → List ℕ → Type 0) (refuses_operands : O → V → V → List ℕ → Type 0) where
  abbrev follows_so : Part O V N → Thing O V → Result (Operands O V N) Fault → Type 0
  follows_so p t r = MatchResult r (λ e. AddsThing changes joins p.operands e t) (blames (Misfits changes joins p.operands t) (refuses_before refuses_operand refuses_operands changes joins p.operands t))

  abbrev closes_so : Part O V N → Result V Fault → Type 0
  closes_so p r = MatchResult r (Completes changes joins p.operands) (blames (EndsEarly changes joins p.operands) (refuses_at_end refuses_operand refuses_operands changes joins p.operands))

  next_goes : (p : Part O V N) (t : Thing O V) (r : Result (Operands O V N) Fault) (n : Next (Part O V N) V) → follows_so p t r → stayed_as p.in_brackets r n → takes_thing changes joins refuses_operand refuses_operands p t n
  next_goes p t (Ok e) (nexts.Stay q) f s = record { in_brackets = s.0; follows = subst (λ k. AddsThing changes joins p.operands k t) (sym s.1) f }
  next_goes p t (Ok e) (nexts.Open q r) f s = absurd s
  next_goes p t (Ok e) (nexts.Close v) f s = absurd s
  next_goes p t (Ok e) (nexts.Refuse m) f s = absurd s
  next_goes p t (Err x) (nexts.Stay q) f s = absurd s
  next_goes p t (Err x) (nexts.Open q r) f s = absurd s
  next_goes p t (Err x) (nexts.Close v) f s = absurd s
  next_goes p t (Err faults.Memory) (nexts.Refuse m) f s = absurd s
  next_goes p t (Err (faults.Misfit x)) (nexts.Refuse m) f s = inl (subst (Misfits changes joins p.operands t) (sym s) f)
  next_goes p t (Err (faults.Refused x)) (nexts.Refuse m) f s = inr (subst (refuses_before refuses_operand refuses_operands changes joins p.operands t) (sym s) f)

  next_closes : (p : Part O V N) (r : Result V Fault) (n : Next (Part O V N) V) → closes_so p r → closed_as r n → closes_part changes joins refuses_operand refuses_operands p n
  next_closes p (Ok v) (nexts.Close w) f s = subst (Completes changes joins p.operands) (sym s) f
  next_closes p (Ok v) (nexts.Open q r) f s = absurd s
  next_closes p (Ok v) (nexts.Stay q) f s = absurd s
  next_closes p (Ok v) (nexts.Refuse m) f s = absurd s
  next_closes p (Err x) (nexts.Stay q) f s = absurd s
  next_closes p (Err x) (nexts.Open q r) f s = absurd s
  next_closes p (Err x) (nexts.Close v) f s = absurd s
  next_closes p (Err faults.Memory) (nexts.Refuse m) f s = absurd s
  next_closes p (Err (faults.Misfit x)) (nexts.Refuse m) f s = inl (subst (EndsEarly changes joins p.operands) (sym s) f)
  next_closes p (Err (faults.Refused x)) (nexts.Refuse m) f s = inr (subst (refuses_at_end refuses_operand refuses_operands changes joins p.operands) (sym s) f)

  pub stayed_goes : {A : Type 0} (p : Part O V N) (t : Thing O V) (r : Result (Operands O V N) Fault) (x : Result (Next (Part O V N) V) A) → follows_so p t r → MatchResult x (stayed_as p.in_brackets r) (λ _. Unit {0}) → MatchResult x (takes_thing changes joins refuses_operand refuses_operands p t) (λ _. Unit {0})
  stayed_goes p t r (Ok n) f s = next_goes p t r n f s
  stayed_goes p t r (Err x) f s = tt

  closed_closes : {A : Type 0} (p : Part O V N) (r : Result V Fault) (x : Result (Next (Part O V N) V) A) → closes_so p r → MatchResult x (closed_as r) (λ _. Unit {0}) → MatchResult x (closes_part changes joins refuses_operand refuses_operands p) (λ _. Unit {0})
  closed_closes p r (Ok n) f s = next_closes p r n f s
  closed_closes p r (Err x) f s = tt

  module _ {A : Type 0} (p : Part O V N) (i : Item O V) (x : Result (Next (Part O V N) V) A) where
    takes_as : (j : Item O V) → i ≡ j → MatchResult x (part_takes changes joins refuses_operand refuses_operands p j) (λ _. Unit {0}) → MatchResult x (part_takes changes joins refuses_operand refuses_operands p i) (λ _. Unit {0})
    takes_as j e m = subst (λ k. MatchResult x (part_takes changes joins refuses_operand refuses_operands p k) (λ _. Unit {0})) (sym e) m

    pub takes_close : (r : Result V Fault) → i ≡ items.Close → closes_so p r → MatchResult x (closed_as r) (λ _. Unit {0}) → MatchResult x (part_takes changes joins refuses_operand refuses_operands p i) (λ _. Unit {0})
    takes_close r e f s = takes_as items.Close e (closed_closes p r x f s)

    module _ (r : Result (Operands O V N) Fault) (s : MatchResult x (stayed_as p.in_brackets r) (λ _. Unit {0})) where
      pub takes_operand : (v : V) → i ≡ items.Operand v → follows_so p (Operand v) r → MatchResult x (part_takes changes joins refuses_operand refuses_operands p i) (λ _. Unit {0})
      takes_operand v e f = takes_as (items.Operand v) e (stayed_goes p (Operand v) r x f s)

      pub takes_prefix : (l : ℕ) (o : O) → i ≡ items.Prefix l o → follows_so p (Prefix l o) r → MatchResult x (part_takes changes joins refuses_operand refuses_operands p i) (λ _. Unit {0})
      takes_prefix l o e f = takes_as (items.Prefix l o) e (stayed_goes p (Prefix l o) r x f s)

      pub takes_postfix : (l : ℕ) (o : O) → i ≡ items.Postfix l o → follows_so p (Postfix l o) r → MatchResult x (part_takes changes joins refuses_operand refuses_operands p i) (λ _. Unit {0})
      takes_postfix l o e f = takes_as (items.Postfix l o) e (stayed_goes p (Postfix l o) r x f s)

      pub takes_infix : (l : ℕ) (o : O) → i ≡ items.Infix l o → follows_so p (Infix l o) r → MatchResult x (part_takes changes joins refuses_operand refuses_operands p i) (λ _. Unit {0})
      takes_infix l o e f = takes_as (items.Infix l o) e (stayed_goes p (Infix l o) r x f s)
