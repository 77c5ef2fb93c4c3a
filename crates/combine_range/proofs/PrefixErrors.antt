-- the errors of the refusals of a length, and then the parser of so many items
use Rattle.std.specs.Prelude.{ℕ, ◌≡◌, ◌⊎◌, ◌↔◌, List, Bool, true, false, Result, Ok, refl}
use Rattle.std.proofs.Common.{inl, inr, subst, sym, ⊎_elim}
use Rattle.combine_base.specs.Error.Errors.{Observers, AddsNothing, AddsItems}
use Rattle.combine_base.specs.Parser.Drivers.{AtToken, ExplainsRefusal}
use Rattle.combine_base.specs.Parser.Meaning.{MeantRefusal, Meaning, Reading, Refusing, SameReasons, refusals}
use Rattle.combine_base.specs.Parser.Outcome.{Refused}
use Rattle.combine_base.specs.Sequence.PartErrors.{RefusesBehind, RefusesLast}
use Rattle.combine_base.specs.Stream.View.{View, advanced}
use Rattle.combine_function.specs.Changes.{MadeSaying, RefusesChanged, changed_reading}
use Rattle.combine_range.specs.Range.Lengths.{UnfitLength}
use Rattle.combine_range.specs.RangeReasons.{RefusesLength}
use Rattle.combine_range.specs.Prefixes.{FitsNone, LacksLength, NoLength, Part, ReadsLength, RefusesPrefixed, TooFew, out_of_range}
use Rattle.combine_sequence.specs.Then.{RefusesAnswered}

module _ {P T A X R E N U : Type 0} (step : P → T → P) (observers : Observers T R P E) (size : T → ℕ) (spells : R → List T → Type 0) (turned : A → Result ℕ X → Type 0) (r : Reading P T A) (part : Refusing P T E) (made : ℕ → N) (means : N → Meaning P T R E R U) where
  -- the length's errors, and those behind it
  abbrev changed_refuses : Refusing P T E
  changed_refuses = MeantRefusal (changed_reading step (λ at a n. turned a (Ok n)) (FitsNone turned) r) (RefusesChanged step (λ at a. MadeSaying observers (out_of_range turned a) at) r (MeantRefusal r part))

  abbrev behind_refuses : Refusing P T E
  behind_refuses = RefusesBehind step (RefusesAnswered observers (λ n p. p ≡ made n) means) (changed_reading step (λ at a n. turned a (Ok n)) (FitsNone turned) r)

  abbrev all_refuses : Refusing P T E
  all_refuses = RefusesPrefixed step observers size spells turned r part

  changed_into : (v w : View P T) (k : Bool) (e : E) → changed_refuses v w k e → all_refuses v w k e
  changed_into v w k e x = ⊎_elim Part (λ y. NoLength lacks (record { value = y.value; count = y.count; accepted = y.accepted; taken = y.taken; said = y.said })) x.error.is
    where
      lacks : LacksLength turned r v k
      lacks = ⊎_elim inl (λ y. inr (record { value = y.value; count = y.count; accepted = y.accepted; none = y.denied })) x.meant

  module _ (meant : (n : ℕ) (v : View P T) → UnfitLength size spells n v → (means (made n)).whole v (Refused false)) (same : (n : ℕ) → SameReasons (means (made n)).refuses (RefusesLength observers size spells n)) (says : (n : ℕ) (us : List T) (own e : E) → AddsItems observers (means (made n)).heapless (AtToken (means (made n)).adds us) own e ↔ AddsItems observers (Unit {0}) (AtToken AddsNothing us) own e) where
    behind_into : (v w : View P T) (k : Bool) (e : E) → behind_refuses v w k e → all_refuses v w k e
    behind_into v w k e b = ⊎_elim (λ p. never ((same b.value there w true e).0 p.1.error).peeked) (λ p. few p.0 p.1) d.is
      where
        there : View P T
        there = advanced step b.count v

        d : RefusesLast observers (means (made b.value)) (refusals (means (made b.value))) b.before there w k e
        d = subst (λ p. RefusesLast observers (means p) (refusals (means p)) b.before there w k e) b.refuses.is_answered b.refuses.refuses

        never : true ≡ false → all_refuses v w k e
        never i = absurd (cc)

        few : k ≡ b.before → ExplainsRefusal observers (means (made b.value)) (refusals (means (made b.value))) there w e → all_refuses v w k e
        few i q =
            let l = (same b.value there q.left false q.own).0 q.refused.error in
            TooFew (record {
              length = b.value;
              before = b.count;
              read = subst (ReadsLength turned r v b.value b.count) (sym i) (record { value = b.accepted.0; accepted = b.accepted.1; fits = b.accepted.2 });
              left = q.back;
              own = q.own;
              made = subst (λ u. RefusesLength observers size spells b.value u u false q.own) (sym q.back) (subst (λ u. RefusesLength observers size spells b.value there u false q.own) l.back l);
              explained = subst (λ (u : View P T). AddsItems observers (Unit {0}) (AtToken AddsNothing u.unread) q.own e) (sym q.back) ((says b.value there.unread q.own e).0 q.says);
            })

    lacking : (v : View P T) (k : Bool) → LacksLength turned r v k → changed_reading step (λ at a n. turned a (Ok n)) (FitsNone turned) r v (Refused k)
    lacking v k l = ⊎_elim inl (λ y. inr (record { value = y.value; count = y.count; accepted = y.accepted; denied = y.none })) l

    from_all : (v w : View P T) (k : Bool) (e : E) → all_refuses v w k e → changed_refuses v w k e ⊎ behind_refuses v w k e
    from_all v w k e (Part x) = inl (record { meant = inl x.meant; error = record { is = inl x } })
    from_all v w k e (NoLength l x) = inl (record { meant = lacking v k l; error = record { is = inr (record { value = x.value; count = x.count; accepted = x.accepted; taken = x.taken; said = x.said }) } })
    from_all v w k e (TooFew x) =
        let there = advanced step x.before v in
        let m = subst (λ u. RefusesLength observers size spells x.length u u false x.own) x.left x.made in
        let l = (same x.length there there false x.own).1 m in
        inr (record {
          value = x.length;
          count = x.before;
          before = k;
          accepted = (x.read.value, x.read.accepted, x.read.fits);
          refuses = record {
            parser = made x.length;
            is_answered = refl;
            refuses = record { is = inr (refl, record { own = x.own; left = there; refused = record { meant = meant x.length there m.unfit; error = l }; back = x.left; says = (says x.length there.unread x.own e).1 (subst (λ (u : View P T). AddsItems observers (Unit {0}) (AtToken AddsNothing u.unread) x.own e) x.left x.explained) }) };
          };
        })

    pub same_refusals : SameReasons (λ v w k e. changed_refuses v w k e ⊎ behind_refuses v w k e) all_refuses
    same_refusals v w k e = (⊎_elim (changed_into v w k e) (behind_into v w k e), from_all v w k e)
