-- a parser that is one of two: it means the one that it holds
use Rattle.std.specs.Prelude.{Option, Some, None}
use Rattle.combine_base.specs.Parser.Meaning.{Meaning, IsMeaning, MeansOne}
use Rattle.combine_choice.specs.HeldParser.{HoldsState, held, held_is_meaning, held_means_one}
use Rattle.combine_choice.specs.declared.variants.either.Either.{Either}
use Rattle.combine_choice.specs.declared.variants.either.Either.TheVariants.{Left, Right}

module _ {S0 S1 : Type 0} where
  abbrev pub pick_left : Either S0 S1 → Option S0
  pick_left (Left s) = Some s
  pick_left (Right s) = None

  abbrev pub pick_right : Either S0 S1 → Option S1
  pick_right (Left s) = None
  pick_right (Right s) = Some s

  -- what holds of the value that it holds
  abbrev pub each_2 : (S0 → Type 0) → (S1 → Type 0) → Either S0 S1 → Type 0
  each_2 f0 f1 (Left s) = f0 s
  each_2 f0 f1 (Right s) = f1 s

  module _ (f0 : S0 → Type 0) (f1 : S1 → Type 0) where
    each_2_left : (s : Either S0 S1) → each_2 f0 f1 s → HoldsState f0 (pick_left s)
    each_2_left (Left s) h = h
    each_2_left (Right s) h = tt

    each_2_right : (s : Either S0 S1) → each_2 f0 f1 s → HoldsState f1 (pick_right s)
    each_2_right (Left s) h = tt
    each_2_right (Right s) h = h

module _ {P T R Error V X0 X1 S0 S1 : Type 0} (m0 : X0 → Meaning P T R Error V S0) (m1 : X1 → Meaning P T R Error V S1) where
  abbrev pub variant_2 : Either X0 X1 → Meaning P T R Error V (Either S0 S1)
  variant_2 (Left x) = held pick_left (m0 x)
  variant_2 (Right x) = held pick_right (m1 x)

-- the laws of such a parser, by those of the two
module _ {P T R Error V X0 X1 S0 S1 : Type 0} {m0 : X0 → Meaning P T R Error V S0} {m1 : X1 → Meaning P T R Error V S1} {g0 : S0 → Type 0} {g1 : S1 → Type 0} {l0 : X0 → Type 0} {l1 : X1 → Type 0} where
  pub variant_2_is_meaning : {f0 : S0 → Type 0} {f1 : S1 → Type 0} → ((x : X0) → l0 x → IsMeaning f0 g0 (m0 x)) → ((x : X1) → l1 x → IsMeaning f1 g1 (m1 x)) → (p : Either X0 X1) → each_2 l0 l1 p → IsMeaning (each_2 f0 f1) (each_2 g0 g1) (variant_2 m0 m1 p)
  variant_2_is_meaning {f0 = f0} {f1 = f1} h0 h1 (Left x) l = held_is_meaning pick_left f0 g0 (each_2 f0 f1) (each_2 g0 g1) (each_2_left f0 f1) (each_2_left g0 g1) (m0 x) (h0 x l)
  variant_2_is_meaning {f0 = f0} {f1 = f1} h0 h1 (Right x) l = held_is_meaning pick_right f1 g1 (each_2 f0 f1) (each_2 g0 g1) (each_2_right f0 f1) (each_2_right g0 g1) (m1 x) (h1 x l)

  pub variant_2_means_one : {d0 : X0 → Type 0} {d1 : X1 → Type 0} → ((x : X0) → l0 x → d0 x → MeansOne g0 (m0 x)) → ((x : X1) → l1 x → d1 x → MeansOne g1 (m1 x)) → (p : Either X0 X1) → each_2 l0 l1 p → each_2 d0 d1 p → MeansOne (each_2 g0 g1) (variant_2 m0 m1 p)
  variant_2_means_one h0 h1 (Left x) l d = held_means_one pick_left g0 g0 (each_2 g0 g1) (each_2 g0 g1) (each_2_left g0 g1) (each_2_left g0 g1) (m0 x) (h0 x l d)
  variant_2_means_one h0 h1 (Right x) l d = held_means_one pick_right g1 g1 (each_2 g0 g1) (each_2 g0 g1) (each_2_right g0 g1) (each_2_right g0 g1) (m1 x) (h1 x l d)

-- what each value of a variant has each has
pub each_2_into : {S0 S1 : Type 0} {f0 g0 : S0 → Type 0} {f1 g1 : S1 → Type 0} → ((s : S0) → f0 s → g0 s) → ((s : S1) → f1 s → g1 s) → (s : Either S0 S1) → each_2 f0 f1 s → each_2 g0 g1 s
each_2_into h0 h1 (Left s) h = h0 s h
each_2_into h0 h1 (Right s) h = h1 s h
