-- frames of which the innermost stands last
use Rattle.std.proofs.Common.{rules, ◌≡◌, ℕ, ◌+◌, ◌<◌, ◌≤◌, Bool, true, false, List, [], ◌∷◌, ◌++◌, length, reverse, sym, ◌∙◌, ap, subst, refl, arith, nat_lt, ◌||◌}
use Rattle.std.proofs.lemmas.List.{reverse-append, length-reverse}
use Rattle.combine_nested.specs.NestedSteps.{FramesChange, Opened, Closed, Denied, TooDeep, settles_frames}
use Rattle.combine_nested.specs.declared.nested.Next.{Next}
use Rattle.combine_nested.specs.declared.nested.Next.TheVariants as nexts

pub below : {F : Type 0} (xs ys : List F) (f : F) → xs ≡ ys ++ f ∷ [] → reverse xs ≡ f ∷ reverse ys
below xs ys f e = ap reverse e ∙ reverse-append ys (f ∷ [])

module _ {F V : Type 0} (depth : ℕ) (joins : F → V → Next F V → Type 0) where
  pub stays_open : (fs : List F) (next : Next F V) (f : F) → next ≡ nexts.Stay f → settles_frames depth joins fs next (Opened f fs)
  stays_open fs next f e = subst (λ x. settles_frames depth joins fs x (Opened f fs)) (sym e) refl

  pub settles_denial : (fs : List F) (next : Next F V) (m : _) → next ≡ nexts.Refuse m → settles_frames depth joins fs next (Denied m.now)
  settles_denial fs next m e = subst (λ x. settles_frames depth joins fs x (Denied m.now)) (sym e) refl

  opens_at : (b : Bool) (f g : F) (fs : List F) → nat_lt (length fs) depth ≡ b → b ≡ true → settles_frames depth joins fs (nexts.Open f g) (Opened g (f ∷ fs))
  opens_at b f g fs e t = rw (e, t) refl

  too_deep_at : (b : Bool) (f g : F) (fs : List F) → nat_lt (length fs) depth ≡ b → b ≡ false → settles_frames depth joins fs (nexts.Open f g) TooDeep
  too_deep_at b f g fs e t = rw (e, t) refl

  pub opens_so : (xs ys : List F) (next : Next F V) (f g : F) → next ≡ nexts.Open f g → length xs < depth → ys ≡ xs ++ f ∷ [] → settles_frames depth joins (reverse xs) next (Opened g (reverse ys))
  opens_so xs ys next f g e l i =
      let j : nat_lt (length (reverse xs)) depth ≡ true = (let k = length-reverse xs in let h : length (reverse xs) < depth = omega arith in search rules) in
      rw (e, below ys xs f i) (opens_at true f g (reverse xs) j refl)

  pub settles_too_deep : (xs : List F) (next : Next F V) (f g : F) → next ≡ nexts.Open f g → depth ≤ length xs → settles_frames depth joins (reverse xs) next TooDeep
  settles_too_deep xs next f g e l =
      let j : nat_lt (length (reverse xs)) depth ≡ false = (let k = length-reverse xs in let h : depth ≤ length (reverse xs) = omega arith in search rules) in
      rw e (too_deep_at false f g (reverse xs) j refl)

  pub settles_close : (xs : List F) (next : Next F V) (v : V) → next ≡ nexts.Close v → length xs ≡ 0 → settles_frames depth joins (reverse xs) next (Closed v)
  settles_close [] next v e l = subst (λ x. settles_frames depth joins [] x (Closed v)) (sym e) refl
  settles_close (x ∷ xs) next v e l = absurd (cc)

  pub settles_joined : (xs ys : List F) (next : Next F V) (v : V) (f : F) (then : Next F V) (e : FramesChange F V) → next ≡ nexts.Close v → xs ≡ ys ++ f ∷ [] → joins f v then → settles_frames depth joins (reverse ys) then e → settles_frames depth joins (reverse xs) next e
  settles_joined xs ys next v f then e i j k w = rw (i, below xs ys f j) (then, k, w)

-- as many frames are left, and no token was taken
pub none_fewer : {F : Type 0} (took : Bool) (xs ys : List F) → took ≡ false → length ys ≤ length xs → (took || nat_lt (length (reverse xs)) (length (reverse ys))) ≡ false
none_fewer took xs ys e l =
    let j : nat_lt (length (reverse xs)) (length (reverse ys)) ≡ false = (let a = length-reverse xs in let b = length-reverse ys in let h : length (reverse ys) ≤ length (reverse xs) = omega arith in search rules) in
    rw (e, j) refl

-- what becomes of frames is at most one frame more
module _ {F V : Type 0} (depth : ℕ) (joins : F → V → Next F V → Type 0) where
  one_higher_in : (b : Bool) (f h g : F) (fs gs : List F) → nat_lt (length fs) depth ≡ b → settles_frames depth joins fs (nexts.Open f h) (Opened g gs) → length gs ≤ length fs + 1
  one_higher_in true f h g fs gs e w = let i : ◌≡◌ {A = FramesChange F V} (Opened g gs) (Opened h (f ∷ fs)) = rw e at w in let j : gs ≡ f ∷ fs = cc in let k : length gs ≡ length fs + 1 = rw j (omega arith) in omega arith
  one_higher_in false f h g fs gs e w = absurd (let i : ◌≡◌ {A = FramesChange F V} (Opened g gs) TooDeep = rw e at w in cc)

  pub one_higher : (fs : List F) (x : Next F V) (g : F) (gs : List F) → settles_frames depth joins fs x (Opened g gs) → length gs ≤ length fs + 1
  one_higher fs (nexts.Stay f) g gs w = let j : gs ≡ fs = (let i : ◌≡◌ {A = FramesChange F V} (Opened g gs) (Opened f fs) = w in cc) in rw j (omega arith)
  one_higher fs (nexts.Open f h) g gs w = one_higher_in (nat_lt (length fs) depth) f h g fs gs refl w
  one_higher fs (nexts.Refuse m) g gs w = absurd (let i : ◌≡◌ {A = FramesChange F V} (Opened g gs) (Denied m.now) = w in cc)
  one_higher [] (nexts.Close v) g gs w = absurd (let i : ◌≡◌ {A = FramesChange F V} (Opened g gs) (Closed v) = w in cc)
  one_higher (f ∷ fs) (nexts.Close v) g gs w = let i = one_higher fs w.0 g gs w.2 in let j : length (f ∷ fs) ≡ length fs + 1 = omega arith in omega arith
