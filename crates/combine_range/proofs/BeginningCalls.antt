-- calls for the longest beginning under a test, some items later
use Rattle.std.proofs.Common.{ℕ, zero, suc, ◌+◌, ◌<◌, ◌≤◌, ◌≡◌, List, [], Bool, true, false, nat_lt, if◌then◌else◌, take, drop, length, arith, ap, sym, subst, refl, ◌∙◌, lt-ltb, length-drop}
use Rattle.std.specs.Prelude.{Ok}
use Rattle.std.proofs.lemmas.List.{drop_all, take_all}
use Rattle.combine_base.specs.Stream.View.{View, Takes}
use Rattle.combine_base.specs.Error.Items.{ErrorItem}
use Rattle.combine_base.specs.Parser.Answer.{CallRecord, World, Answers}
use Rattle.combine_base.specs.Parser.Meaning.{Refusing}
use Rattle.combine_base.proofs.Parsers.Progress.{takes_more, takes_open}
use Rattle.combine_base.specs.declared.stream.Failures.{Failures}
use Rattle.combine_base.specs.declared.error.result.ParseResult.{ParseResult}
use Rattle.combine_base.specs.declared.error.result.ParseResult.TheVariants.{CommitOk, PeekOk}
use Rattle.combine_stream.specs.Range.Ranges.{size_of, IsItemPlace, Longest, UnconsRange, UnconsWhile, place_at_zero}
use Rattle.combine_range.specs.declared.distance.Distance.{Distance}
use Rattle.combine_range.specs.KeptDistance.{kept, HandsOutRange, KeepsItemDistance}
use Rattle.combine_range.specs.PeekedRefusals.{RefusesPeeked}
use Rattle.combine_range.specs.Range.Beginnings.{ReachesLongest, WaitsInBeginning, Empty, beginning, beginning_resumes}
use Rattle.combine_range.proofs.KeptDistance.{distance_accepts, distance_refuses, distance_asks_from, distance_hands_over}

-- d items were passed over, and then the longest beginning
pub record Walked {P T : Type 0} (counts_failures : Type 0) (step : P → T → P) (size : T → ℕ) (f : T → Bool → Type 0) (d : ℕ) (old v : View P T) (before g : Failures) : Type 0 where
  pub count : ℕ
  pub reaches : ReachesLongest size f d old.unread count
  pub taken : Takes step count old v
  pub failures : counts_failures → g ≡ before

module _ {P T R Q : Type 0} {counts_failures : Type 0} {step : P → T → P} {size : T → ℕ} {none : Q → List T → Type 0} {spells : R → List T → Type 0} {f : T → Bool → Type 0} {old mid v : View P T} {before h g : Failures} {d : ℕ} {i : Q} {q : R} (p : UnconsRange counts_failures step size none old mid before h d (Ok i)) (u : UnconsWhile counts_failures step size spells mid v h g f (Ok q)) where
  pub walked : Walked counts_failures step size f d old v before g
  walked = record {
    count = p.is.0 + u.is.0;
    reaches = record { before = p.is.0; more = u.is.0; place = p.is.1; longest = subst (λ us. Longest f us u.is.0) (ap (λ (x : View P T). x.unread) p.is.2.taken.rest) u.is.1; count = refl };
    taken = takes_more step p.is.0 u.is.0 old mid v p.is.2.taken u.is.2.taken;
    failures = λ s. u.is.2.failures s ∙ p.is.2.failures s;
  }

  -- where no distance was kept, it is the range that was read
  pub direct : ((t : T) → 0 < size t) → d ≤ 0 → spells q (take walked.count old.unread)
  unfolding walked
  direct filled l =
      let z : d ≡ 0 = omega arith in
      let e = place_at_zero size filled old.unread p.is.0 (subst (λ n. IsItemPlace size old.unread n p.is.0) z p.is.1) in
      let m : mid.unread ≡ old.unread = ap (λ (x : View P T). x.unread) p.is.2.taken.rest ∙ ap (λ n. drop n old.unread) e in
      let c : u.is.0 ≡ p.is.0 + u.is.0 = omega arith in
      subst (λ n. spells q (take n old.unread)) c (subst (λ us. spells q (take u.is.0 us)) m u.is.2.spelled)

pub some_before : {T : Type 0} (size : T → ℕ) (us : List T) (d k : ℕ) → IsItemPlace size us d k → 0 < d → 0 < k
some_before size us d zero p h = absurd (let e = p.items in omega arith)
some_before size us d (suc k) p h = omega arith

module _ {P T R E : Type 0} (w : World P T Distance E) (size : T → ℕ) (filled : (t : T) → 0 < size t) (spells : R → List T → Type 0) (f : T → Bool → Type 0) (some : Bool) (adds : List (ErrorItem T R) → Type 0) (says : ℕ → Refusing P T E) (r : CallRecord P T Distance) (d : ℕ) (e : d ≡ (if r.first then 0 else r.state.items)) (v : View P T) (g : Failures) (z : Walked w.counts_failures w.step size f d r.old v r.before g) where
  -- all is taken of an open stream, and put back
  pub beginning_keeps : (state : Distance) (result : ParseResult R E) → KeepsItemDistance w.counts_failures w.step size r.old r.new g r.after z.count w.kind state r.left result → w.fresh state → r.before.reads ≤ g.reads → r.before.resets ≤ g.resets → v.is_open ≡ true → v.unread ≡ [] → Answers w (kept size (beginning size spells f some) adds says) r result
  beginning_keeps state result j l a b o n =
      let m : length r.old.unread ≤ z.count = let a = ap length (sym (ap (λ (y : View P T). y.unread) z.taken.rest) ∙ n) in let c = length-drop z.count r.old.unread in omega arith in
      let k : z.count ≡ length r.old.unread = let c = z.taken.enough in omega arith in
      let y : WaitsInBeginning size spells f some d r.old = record { all = subst (ReachesLongest size f d r.old.unread) k z.reaches; is_open = sym (takes_open w.step z.count r.old v z.taken) ∙ o } in
      distance_asks_from w size (beginning size spells f some) adds says r d e z.count state v g result j z.taken l a b z.failures y.is_open y (λ i t. beginning_resumes size spells f some filled d i r.old y (t ∙ ap (size_of size) (take_all z.count r.old.unread m)))

  module _ (h : v.is_open ≡ true → v.unread ≡ [] → ⊥) where
    -- something follows, or nothing can
    stops : r.old.is_open ≡ true → z.count < length r.old.unread
    stops o = by_order (λ l. h (takes_open w.step z.count r.old v z.taken ∙ o) (ap (λ (y : View P T). y.unread) z.taken.rest ∙ drop_all z.count r.old.unread l))
      where
        by_order : (length r.old.unread ≤ z.count → ⊥) → z.count < length r.old.unread
        by_order x = omega arith

    pub beginning_commits : (q : R) → spells q (take z.count r.old.unread) → 0 < z.count → Takes w.step z.count r.old r.new → w.fresh r.left → (w.counts_failures → r.after ≡ r.before) → Answers w (kept size (beginning size spells f some) adds says) r (CommitOk q)
    beginning_commits q p l t y s = record { is = distance_accepts w size (beginning size spells f some) adds says r d e q z.count true (record { reaches = z.reaches; ends = stops; spelled = p; kind = sym (lt-ltb 0 z.count l); enough = λ a. l }) t y s }

    -- some tokens, which were read again
    pub beginning_hands : (result : ParseResult R E) → 0 < z.count → HandsOutRange w.counts_failures w.step spells r.old r.new g r.after z.count w.kind result → w.fresh r.left → r.before.reads ≤ g.reads → r.before.resets ≤ g.resets → Answers w (kept size (beginning size spells f some) adds says) r result
    beginning_hands result l t y a b = distance_hands_over w size (beginning size spells f some) adds says r d e z.count g spells result t (λ q p. record { reaches = z.reaches; ends = stops; spelled = p; kind = refl; enough = λ i. l }) y a b z.failures

    pub beginning_peeks : (q : R) → spells q (take z.count r.old.unread) → z.count ≡ 0 → some ≡ false → Takes w.step z.count r.old r.new → w.fresh r.left → (w.counts_failures → r.after ≡ r.before) → Answers w (kept size (beginning size spells f some) adds says) r (PeekOk q)
    beginning_peeks q p l b t y s = record { is = distance_accepts w size (beginning size spells f some) adds says r d e q z.count false (record { reaches = z.reaches; ends = stops; spelled = p; kind = sym (ap (nat_lt 0) l); enough = λ a. absurd (cc) }) t y s }

    pub beginning_refuses : (result : ParseResult R E) → RefusesPeeked w.kind w.heapless v.is_open result → z.count ≡ 0 → some ≡ true → Takes w.step z.count r.old r.new → w.fresh r.left → (w.counts_failures → r.after ≡ r.before) → Answers w (kept size (beginning size spells f some) adds says) r result
    beginning_refuses result i l b t y s = distance_refuses w size (beginning size spells f some) adds says r d e result (subst (λ o. RefusesPeeked w.kind w.heapless o result) (takes_open w.step z.count r.old v z.taken) i) (Empty (subst (ReachesLongest size f d r.old.unread) l z.reaches) (λ o. let a = stops o in omega arith) b, refl) (record { count = z.count; taken = t }) y s

-- the range that was handed out has items where tokens were taken
module _ {P T R : Type 0} {counts_failures : Type 0} {step : P → T → P} {size : T → ℕ} {spells : R → List T → Type 0} {f : T → Bool → Type 0} {d : ℕ} {old v : View P T} {before g : Failures} (z : Walked counts_failures step size f d old v before g) (q : R) (p : spells q (take z.count old.unread)) {count : R → ℕ} (measured : (q : R) (ts : List T) → spells q ts → count q ≡ size_of size ts) where
  pub some_walked : 0 < count q → 0 < z.count
  some_walked h = by_count z.count refl
    where
      by_count : (k : ℕ) → z.count ≡ k → 0 < z.count
      by_count zero y = absurd (let a = measured q (take z.count old.unread) p in let b = ap (λ n. size_of size (take n old.unread)) y in omega arith)
      by_count (suc k) y = omega arith

  pub none_taken : ((t : T) → 0 < size t) → count q ≤ 0 → z.count ≡ 0
  none_taken filled h = place_at_zero size filled old.unread z.count (record { within = z.taken.enough; items = let a = measured q (take z.count old.unread) p in omega arith })
