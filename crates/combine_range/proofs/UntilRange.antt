-- one call for what stands before a range
use Rattle.std.proofs.Common.{ℕ, ◌+◌, ◌-◌, ◌<◌, ◌≤◌, ◌≡◌, List, true, false, if◌then◌else◌, take, drop, length, arith, ap, sym, subst, refl, ◌∙◌, length-drop}
use Rattle.std.specs.Prelude.{Ok, ◌⊎◌}
use Rattle.std.proofs.lemmas.List.{drop-drop}
use Rattle.combine_base.specs.Stream.View.{View, Takes}
use Rattle.combine_base.specs.Error.Items.{ErrorItem}
use Rattle.combine_base.specs.Parser.Answer.{CallRecord, World, Answers}
use Rattle.combine_base.specs.Parser.Meaning.{Refusing}
use Rattle.combine_base.specs.Refusals.{NoToken}
use Rattle.combine_base.proofs.Parsers.Progress.{takes_more, takes_open}
use Rattle.combine_base.specs.declared.stream.Kind.TheVariants as kinds
use Rattle.combine_base.specs.declared.stream.Failures.{Failures}
use Rattle.combine_base.specs.declared.error.result.ParseResult.{ParseResult}
use Rattle.combine_stream.specs.Range.Ranges.{size_of, IsItemPlace, UnconsRange}
use Rattle.combine_range.specs.declared.distance.Distance.{Distance}
use Rattle.combine_range.specs.KeptDistance.{kept, HandsOutRange, KeepsItemDistance}
use Rattle.combine_range.specs.PeekedRefusals.{RefusesPeeked}
use Rattle.combine_range.proofs.KeptDistance.{distance_asks_from, distance_hands_over, distance_refuses}
use Rattle.combine_range.proofs.PeekedRefusals.{ended_peeked}
use Rattle.combine_range.specs.WantedRanges.{Wanted, BeginsWithWanted}
use Rattle.combine_range.specs.RangeTests.{FailsTest, FirstTested, NoneTested, SoughtRange}
use Rattle.combine_range.specs.Range.UntilRange.{NoneAhead, Absent, FailsBetween, until_range, until_resumes}

module _ {P T R : Type 0} (counts_failures : Type 0) (step : P → T → P) (size : T → ℕ) (spells : R → List T → Type 0) (t : Wanted R) where
  -- d items were passed over, and then the tokens before a place
  pub record StoppedBefore (d : ℕ) (old v : View P T) (before g : Failures) : Type 0 where
    pub from : ℕ
    pub to : ℕ
    pub place : IsItemPlace size old.unread d from
    pub rises : from ≤ to
    pub taken : Takes step to old v
    pub fails : (j : ℕ) → from ≤ j → j < to → FailsTest size spells t (drop j old.unread)
    pub failures : counts_failures → g ≡ before

  module _ (d : ℕ) (old v : View P T) (before g : Failures) (z : StoppedBefore d old v before g) where
    pub stops_at_first : BeginsWithWanted size spells t v.unread → FirstTested size spells t z.from old.unread z.to
    stops_at_first b = record { later = z.rises; within = z.taken.enough; begins = subst (BeginsWithWanted size spells t) (ap (λ (x : View P T). x.unread) z.taken.rest) b; fails = z.fails }

    pub fails_between : (filled : (t : T) → 0 < size t) → (e : ℕ) → e ≡ size_of size (take z.to old.unread) → FailsBetween size spells t filled d e old
    fails_between filled e i = record { from = z.from; to = z.to; start = z.place; place = record { within = z.taken.enough; items = sym i }; rises = z.rises; fails = z.fails }

module _ {P T Q : Type 0} {counts_failures : Type 0} {step : P → T → P} {size : T → ℕ} {none : Q → List T → Type 0} {old mid : View P T} {before h : Failures} {d : ℕ} {i : Q} (p : UnconsRange counts_failures step size none old mid before h d (Ok i)) where
  unread : mid.unread ≡ drop p.is.0 old.unread
  unread = ap (λ (x : View P T). x.unread) p.is.2.taken.rest

  further : (j : ℕ) → p.is.0 ≤ j → drop (j - p.is.0) mid.unread ≡ drop j old.unread
  further j l = ap (drop (j - p.is.0)) unread ∙ drop-drop (j - p.is.0) p.is.0 old.unread ∙ ap (λ n. drop n old.unread) {x = p.is.0 + (j - p.is.0)} {y = j} (omega arith)

  module _ {R : Type 0} {spells : R → List T → Type 0} {t : Wanted R} where
    pub stopped_before : {v : View P T} {g : Failures} → SoughtRange counts_failures step size spells t mid v h g → StoppedBefore counts_failures step size spells t d old v before g
    stopped_before {v} s = record {
      from = p.is.0;
      to = p.is.0 + s.count;
      place = p.is.1;
      rises = omega arith;
      taken = takes_more step p.is.0 s.count old mid v p.is.2.taken s.taken;
      fails = λ j l k. subst (FailsTest size spells t) (further j l) (s.fails (j - p.is.0) (omega arith));
      failures = λ z. s.failures z ∙ p.is.2.failures z;
    }

    pub stops_at_none : NoneTested size spells t 0 mid.unread → NoneAhead size spells t d old
    stops_at_none n = record {
      from = p.is.0;
      place = p.is.1;
      nowhere = record { fails = λ j l k. subst (λ us. FailsTest size spells t us ⊎ (size_of size us < t.items)) (further j l) (n.fails (j - p.is.0) (omega arith) (let a = ap length unread in omega (arith, length-drop p.is.0 old.unread))) };
    }

module _ {P T R E : Type 0} (w : World P T Distance E) (size : T → ℕ) (filled : (t : T) → 0 < size t) (spells : R → List T → Type 0) (t : Wanted R) (adds : List (ErrorItem T R) → Type 0) (says : ℕ → Refusing P T E) (r : CallRecord P T Distance) (d : ℕ) (e : d ≡ (if r.first then 0 else r.state.items)) (v : View P T) (g : Failures) (z : StoppedBefore w.counts_failures w.step size spells t d r.old v r.before g) where
  -- found: what stands before is handed out
  pub until_hands : BeginsWithWanted size spells t v.unread → (result : ParseResult R E) → HandsOutRange w.counts_failures w.step spells r.old r.new g r.after z.to w.kind result → w.fresh r.left → r.before.reads ≤ g.reads → r.before.resets ≤ g.resets → Answers w (kept size (until_range size spells t) adds says) r result
  until_hands b result h l x y = distance_hands_over w size (until_range size spells t) adds says r d e z.to g spells result h (λ q p. record { from = z.from; place = z.place; first = stops_at_first w.counts_failures w.step size spells t d r.old v r.before g z b; spelled = p; kind = refl }) l x y z.failures

  module _ (m : NoneAhead size spells t d r.old) where
    pub until_keeps : (state : Distance) (result : ParseResult R E) → KeepsItemDistance w.counts_failures w.step size r.old r.new g r.after z.to w.kind state r.left result → w.fresh state → r.before.reads ≤ g.reads → r.before.resets ≤ g.resets → v.is_open ≡ true → Answers w (kept size (until_range size spells t) adds says) r result
    until_keeps state result j l x y o =
        let still : r.old.is_open ≡ true = sym (takes_open w.step z.to r.old v z.taken) ∙ o in
        distance_asks_from w size (until_range size spells t) adds says r d e z.to state v g result j z.taken l x y z.failures still (m, still) (λ i k. until_resumes size spells t filled d i r.old (fails_between w.counts_failures w.step size spells t d r.old v r.before g z filled i k))

    pub until_range_ends : (result : ParseResult R E) → NoToken w.kind w.heapless v.is_open kinds.End result → v.is_open ≡ false → r.new ≡ v → w.fresh r.left → (w.counts_failures → r.after ≡ g) → Answers w (kept size (until_range size spells t) adds says) r result
    until_range_ends result n c b l s =
        let i = takes_open w.step z.to r.old v z.taken in
        distance_refuses w size (until_range size spells t) adds says r d e result (subst (λ o. RefusesPeeked w.kind w.heapless o result) i (ended_peeked v.is_open result n c)) (Absent m (sym i ∙ c), refl) (record { count = z.to; taken = rw b z.taken }) l (λ a. s a ∙ z.failures a)
