-- places of a text, in bytes, by the characters before them
use Rattle.std.specs.Prelude.{ℕ, ◌<◌, ◌≤◌, ◌≡◌, List, [], ◌∷◌, ◌++◌, length, take, drop, refl}
use Rattle.std.proofs.Common.{arith, ap, sym, subst, ◌∙◌, length-drop}
use Rattle.std.proofs.lemmas.List.{take-append-drop, take-take, length-append, length-take-le}
use Rattle.std.proofs.lemmas.Str.{chars-append, encodes-chars, IsUtf8-take, IsUtf8-drop, IsCharBoundary-from_take}
use Rattle.std.proofs.Math.Utf8.{encodes}
use Rattle.std.specs.Str.{chars, IsUtf8, IsCharBoundary}

-- how many characters stand before a place
abbrev pub index_of : List ℕ → ℕ → ℕ
index_of bytes c = length (chars (take c bytes))

-- the characters before a later place begin with those before an earlier one
pub chars_later : (bytes : List ℕ) (c d : ℕ) → IsUtf8 bytes → IsCharBoundary bytes c → c ≤ d → chars (take d bytes) ≡ chars (take c bytes) ++ chars (drop c (take d bytes))
chars_later bytes c d u b l =
    let e : take d bytes ≡ take c bytes ++ drop c (take d bytes) = sym (take-append-drop c (take d bytes)) ∙ ap (λ us. us ++ drop c (take d bytes)) (take-take c d bytes l) in
    ap chars e ∙ chars-append (take c bytes) (drop c (take d bytes)) (IsUtf8-take bytes c u b)

pub index_rises : (bytes : List ℕ) (c d : ℕ) → IsUtf8 bytes → IsCharBoundary bytes c → IsCharBoundary bytes d → c ≤ d → (index_of bytes c ≤ index_of bytes d) × (index_of bytes d ≤ length (chars bytes))
index_rises bytes c d u b e l =
    let a = ap length (chars_later bytes c d u b l) in
    let f = length-append (chars (take c bytes)) (chars (drop c (take d bytes))) in
    let g = ap length (ap chars (sym (take-append-drop d bytes)) ∙ chars-append (take d bytes) (drop d bytes) (IsUtf8-take bytes d u e)) in
    let h = length-append (chars (take d bytes)) (chars (drop d bytes)) in
    (omega arith, omega arith)

no_items : {A : Type 0} (xs : List A) → length xs ≡ 0 → xs ≡ []
no_items [] e = refl
no_items (x ∷ xs) e = absurd (omega arith)

-- a place with no more characters before it is no later one
pub index_orders : (bytes : List ℕ) (c d : ℕ) → IsUtf8 bytes → IsCharBoundary bytes c → IsCharBoundary bytes d → index_of bytes c ≤ index_of bytes d → c ≤ d
index_orders bytes c d u b e l = by_order later
  where
    later : d < c → ⊥
    later h =
        let x = drop d (take c bytes) in
        let v = IsUtf8-take bytes c u b in
        let k = length-take-le c bytes b.0 in
        let i = ap length (chars_later bytes d c u e (omega arith)) in
        let j = length-append (chars (take d bytes)) (chars x) in
        let n = ap encodes (no_items (chars x) (omega arith)) in
        let w : IsUtf8 x = IsUtf8-drop (take c bytes) d v (IsCharBoundary-from_take (take c bytes) d v (omega arith) (subst IsUtf8 (sym (take-take d c bytes (omega arith))) (IsUtf8-take bytes d u e))) in
        let y = ap length (sym n ∙ encodes-chars x w) in
        let z = length-drop d (take c bytes) in
        omega arith

    by_order : (d < c → ⊥) → c ≤ d
    by_order f = omega arith
