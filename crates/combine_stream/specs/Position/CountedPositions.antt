-- positions that are counted are those behind so many tokens
use Rattle.std.specs.Prelude.{ℕ, suc, ◌+◌, ◌≤◌, ◌≡◌, List, [], ◌∷◌, Bool, true, false, length, take, nat_eq, if◌then◌else◌, refl}
use Rattle.std.proofs.Common.{arith, ap, ◌∙◌, length-take}
use Rattle.combine_base.specs.Stream.View.{after_all}
use Rattle.combine_base.specs.Stream.Fed.{one_more, after_count}
use Rattle.combine_stream.specs.Position.Lines.{first_place, next_place, line_feeds, has_feed, last_line, place_behind}
use Rattle.combine_stream.specs.declared.position.text.SourcePosition.{SourcePosition}

-- an index is how many tokens stand before it
pub index_counts : {T : Type 0} (n : ℕ) (ts : List T) → n ≤ length ts → after_all one_more 0 (take n ts) ≡ n
index_counts n ts h = let e = after_count 0 (take n ts) in let l = length-take n ts in omega arith

-- the place behind these characters, which begin at that one
abbrev ends : SourcePosition → List ℕ → SourcePosition
ends p cs = record { line = p.line + line_feeds cs; column = if has_feed cs then 1 + length (last_line cs) else p.column + length cs }

-- at column 1 it makes no difference whether a line began
one_column : (cs : List ℕ) → (if has_feed cs then 1 + length (last_line cs) else 1 + length cs) ≡ 1 + length (last_line cs)
one_column [] = refl
one_column (c ∷ cs) = by_test (has_feed (c ∷ cs))
  where
    by_test : (b : Bool) → (if b then 1 + length (if b then last_line cs else c ∷ cs) else 1 + length (c ∷ cs)) ≡ 1 + length (if b then last_line cs else c ∷ cs)
    by_test true = refl
    by_test false = refl

place_ends : (p : SourcePosition) (cs : List ℕ) → after_all next_place p cs ≡ ends p cs
place_ends p [] = ap (λ n. record { line = n; column = p.column }) {x = p.line} {y = p.line + 0} (omega arith) ∙ ap (λ n. record { line = p.line + 0; column = n }) {x = p.column} {y = p.column + 0} (omega arith)
place_ends p (c ∷ cs) = by_feed (λ q. place_ends q cs) (nat_eq c 10)
  where
    same_line : (b : Bool) → (if b then 1 + length (last_line cs) else p.column + 1 + length cs) ≡ (if b then 1 + length (if b then last_line cs else c ∷ cs) else p.column + suc (length cs))
    same_line true = refl
    same_line false = omega arith

    by_feed : ((q : SourcePosition) → after_all next_place q cs ≡ ends q cs) → (b : Bool) → after_all next_place (if b then record { line = p.line + 1; column = 1 } else record { line = p.line; column = p.column + 1 }) cs ≡ record { line = p.line + (if b then suc (line_feeds cs) else line_feeds cs); column = if (if b then true else has_feed cs) then 1 + length (if (if b then true else has_feed cs) then last_line cs else c ∷ cs) else p.column + suc (length cs) }
    by_feed rest true = rest (record { line = p.line + 1; column = 1 }) ∙ ap (λ n. record { line = p.line + 1 + line_feeds cs; column = n }) (one_column cs) ∙ ap (λ n. record { line = n; column = 1 + length (last_line cs) }) {x = p.line + 1 + line_feeds cs} {y = p.line + suc (line_feeds cs)} (omega arith)
    by_feed rest false = rest (record { line = p.line; column = p.column + 1 }) ∙ ap (λ n. record { line = p.line + line_feeds cs; column = n }) (same_line (has_feed cs))

-- lines and columns are counted as they are meant
pub place_counts : (n : ℕ) (cs : List ℕ) → after_all next_place first_place (take n cs) ≡ place_behind cs n
place_counts n cs = place_ends first_place (take n cs) ∙ ap (λ k. record { line = 1 + line_feeds (take n cs); column = k }) (one_column (take n cs))
