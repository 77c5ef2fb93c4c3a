use Rattle.std.proofs.Common.{arith, refl, sym, subst, ap, ◌≡◌, ◌∷◌, ◌∙◌, [], List, ℕ, length, ◌-◌}
use Rattle.std.proofs.lemmas.Bool.{false≢true}
use Rattle.combine_byte.specs.Bytes.ByteSearch.{BeginsWithBytes, these_bytes}
use Rattle.combine_byte.proofs.ByteScans.{empty_first, needle_found, needle_nowhere, sought_bytes_more, within_bytes}
use Rattle.combine_byte.proofs.find.find_bytes.Goals as goal

none : (xs : List ℕ) → length xs ≡ 0 → xs ≡ []
none [] e = refl
none (x ∷ xs) e = absurd (omega arith)

pub returns-in_default : goal.returns-in_default
returns-in_default c = empty_first c.args.needle.now c.args.bytes.now (none c.args.needle.now c.in_default.ensures.cases)

pub split_at-requires : goal.split_at-requires
split_at-requires c = within_bytes _ _ _ c.first_byte.ensures

pub returns-then-begins : goal.returns-then-begins
returns-then-begins c =
    let b = c.split_at.ensures.back in
    needle_found _ _ _ _ _ c.in-Some.ensures.cases.0 c.loop-rest.invariant.sought _ c.first_byte.ensures _ (ap (λ xs. length c.args.bytes.now - length xs) b) (subst (BeginsWithBytes (these_bytes c.args.needle.now)) b (c.begins.ensures.0 c.if-begins.true))

pub loop-rest-preserved : goal.loop-rest-preserved
loop-rest-preserved c =
    let b = c.split_at.ensures.back in
    record { sought = sought_bytes_more _ _ _ _ _ c.in-Some.ensures.cases.0 c.loop-rest.invariant.sought _ c.first_byte.ensures (λ s. false≢true (sym c.if-begins.false ∙ c.begins.ensures.1 (subst (BeginsWithBytes (these_bytes c.args.needle.now)) (sym b) s))) _ _ (sym b ∙ c.in-Some-split_first.ensures.cases.0) }

pub returns-in-None : goal.returns-in-None
returns-in-None c =
    let b = c.split_at.ensures.back in
    needle_nowhere _ _ _ _ _ c.in-Some.ensures.cases.0 c.loop-rest.invariant.sought _ c.first_byte.ensures (sym b ∙ none _ c.in-None.ensures.cases)
