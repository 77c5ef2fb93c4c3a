-- one call of `recognize_with_value`: it has passed over the distance, and each answer of the part there is one of it
use Rattle.std.proofs.Common.{ℕ, ◌+◌, ◌<◌, ◌≤◌, ◌≡◌, List, Bool, true, false, if◌then◌else◌, nat_lt, take, arith, ap, sym, subst, refl, ◌∙◌, lt-ltb}
use Rattle.std.specs.Prelude.{Ok, Err}
use Rattle.combine_base.specs.Error.Errors.{Observers}
use Rattle.combine_base.specs.Stream.View.{View, Takes, Moves, advanced, extended, MayFollow}
use Rattle.combine_base.specs.Stream.Advance.{advanced_extended}
use Rattle.combine_base.specs.Parser.Outcome.{Outcome, Accepted, Refused, Undecided, after}
use Rattle.combine_base.specs.Parser.Meaning.{Meaning, begun}
use Rattle.combine_base.specs.Parser.Answer.{CallRecord, World, Answers, Accepts, Refuses, Asks, Leaves, answers, peeks, fails, loses}
use Rattle.combine_base.specs.Parser.Drivers.{Broke}
use Rattle.combine_base.specs.Stream.Calls.{Passes}
use Rattle.combine_base.proofs.Errors.CallErrors.{around, needs, settles, need_of_more, same_mark}
use Rattle.combine_base.proofs.Parsers.Progress.{after_none, takes_none, takes_more, takes_open, moves_more}
use Rattle.combine_base.specs.declared.stream.Kind.{Kind}
use Rattle.combine_base.specs.declared.stream.Kind.TheVariants as kinds
use Rattle.combine_base.specs.declared.stream.Failures.{Failures}
use Rattle.combine_base.specs.declared.error.tracked.Tracked.{Tracked}
use Rattle.combine_base.specs.declared.error.result.ParseResult.{ParseResult}
use Rattle.combine_base.specs.declared.error.result.ParseResult.TheVariants.{CommitOk, PeekOk, CommitErr, PeekErr}
use Rattle.combine_stream.specs.Range.Ranges.{size_of, IsItemPlace, EndsInsideToken, UnconsRange, no_range, place_stays, one_place, size_append, size_take}
use Rattle.combine_range.specs.KeptDistance.{Handed, HandsOutRange, hands_out_range, NotPassed, not_passed}
use Rattle.combine_range.specs.Range.RecognizedRange.{IsFreshRecognizing, beside_value, On, Split, Recognizes, LosesRecognizing, Short, Deeper, recognized, sliced}
use Rattle.combine_range.specs.declared.range.recognized.RecognizeState.{RecognizeState}

module _ {P T R V S E : Type 0} (w : World P T S E) (size : T → ℕ) (filled : (t : T) → 0 < size t) (spells : R → List T → Type 0) (errors : Observers T R P E) (m : Meaning P T R E V S) where
  -- what is read later, after n tokens more, was read by the part as it began
  read_before : (us : List T) (b n : ℕ) (i : Outcome V) (o : Outcome (R × V)) → sliced size spells w.step us (b + n) i o → sliced size spells w.step us b (after n false i) o
  read_before us b n (Accepted a k c) (Accepted p j e) h = (h.0, h.1, let x = h.2 in omega arith, h.3)
  read_before us b n (Accepted a k c) (Refused e) h = absurd h
  read_before us b n (Accepted a k c) Undecided h = absurd h
  read_before us b n (Refused c) (Accepted p j e) h = absurd h
  read_before us b n (Refused c) (Refused e) h = h
  read_before us b n (Refused c) Undecided h = absurd h
  read_before us b n Undecided (Accepted p j e) h = absurd h
  read_before us b n Undecided (Refused e) h = absurd h
  read_before us b n Undecided Undecided h = tt

  -- a call that began so has come to the part's call so, some tokens later
  pub record ReachesRecognizedPart (d : ℕ) (first : Bool) (state : RecognizeState S) (old : View P T) (before : Failures) (held : ℕ) (part : S) (now : View P T) (so_far : Failures) : Type 0 where
    pub count : ℕ
    pub distance : d ≡ (if first then 0 else state.distance)
    pub same : part ≡ state.part
    pub none : held ≡ 0
    pub place : IsItemPlace size old.unread d count
    pub taken : Takes w.step count old now
    pub failures : w.counts_failures → so_far ≡ before
    pub reads : before.reads ≤ so_far.reads
    pub resets : before.resets ≤ so_far.resets

  pub reaches_recognized_part : {d : ℕ} {first b : Bool} {state s : RecognizeState S} {old now : View P T} {before so_far : Failures} {Q C : Type 0} {q : Q} {none : Q → List T → Type 0} {i j : C → View P T → Type 0} → b ≡ first → d ≡ (if b then 0 else state.distance) → s ≡ record { distance = 0; part = state.part } → UnconsRange w.counts_failures w.step size none old now before so_far d (Ok q) → Passes i j before so_far → ReachesRecognizedPart d first state old before s.distance s.part now so_far
  reaches_recognized_part e f g p q = record {
    count = p.is.0;
    distance = rw e at f;
    same = ap (λ (s : RecognizeState S). s.part) g;
    none = ap (λ (s : RecognizeState S). s.distance) g;
    place = p.is.1;
    taken = p.is.2.taken;
    failures = p.is.2.failures;
    reads = q.reads;
    resets = q.resets;
  }

  begins : (d : ℕ) (first : Bool) (state : RecognizeState S) (part : S) → d ≡ (if first then 0 else state.distance) → part ≡ state.part → (v : View P T) (o : Outcome (R × V)) → Recognizes size spells w.step d (begun m first part) v o → begun (recognized errors size spells w.step m) first state v o
  begins d true state part e f v o p = subst (λ k. Recognizes size spells w.step k m.whole v o) e p
  begins d false state part e f v o p = subst (λ k. Recognizes size spells w.step k (m.rest state.part) v o) e (subst (λ s. Recognizes size spells w.step d (m.rest s) v o) f p)

  begins_lost : (d : ℕ) (first : Bool) (state : RecognizeState S) (part : S) → d ≡ (if first then 0 else state.distance) → part ≡ state.part → first ≡ false → (v : View P T) → LosesRecognizing size w.step d (m.lost part) v → LosesRecognizing size w.step state.distance (m.lost state.part) v
  begins_lost d true state part e f g v p = absurd (cc)
  begins_lost d false state part e f g v p = subst (λ k. LosesRecognizing size w.step k (m.lost state.part) v) e (subst (λ s. LosesRecognizing size w.step d (m.lost s) v) f p)

  module _ (d held : ℕ) (r : CallRecord P T S) (u : CallRecord P T (RecognizeState S)) (f : r.first ≡ u.first) (z : ReachesRecognizedPart d u.first u.state u.old u.before held r.state r.old r.before) where
    outcome : (i : Outcome V) (o : Outcome (R × V)) → begun m r.first r.state r.old i → sliced size spells w.step u.old.unread z.count i o → begun (recognized errors size spells w.step m) u.first u.state u.old o
    outcome i o p h = begins d u.first u.state r.state z.distance z.same u.old o (On (record {
      before = z.count;
      place = z.place;
      inner = i;
      meant = subst (λ x. begun m u.first r.state x i) z.taken.rest (subst (λ b. begun m b r.state r.old i) f p);
      is = h;
    }))

    all_read : (n : ℕ) → Takes w.step n r.old r.new → Takes w.step (z.count + n) u.old r.new
    all_read n t = takes_more w.step z.count n u.old r.old r.new z.taken t

    leaves : u.new ≡ r.new → u.left ≡ record { distance = held; part = r.left } → Leaves w r → Leaves (around w (IsFreshRecognizing w.fresh)) u
    leaves n l p = record { count = z.count + p.count; taken = rw n (all_read p.count p.taken); state = rw l (z.none, p.state) }

    refusal : (k : Bool) → u.new ≡ r.new → u.after ≡ r.after → u.left ≡ record { distance = held; part = r.left } → Refuses w m r k → Refuses (around w (IsFreshRecognizing w.fresh)) (recognized errors size spells w.step m) u k
    refusal k n a l p = record { meant = outcome (Refused k) (Refused k) p.meant refl; leaves = leaves n l p.leaves; failures = λ s. a ∙ p.failures s ∙ z.failures s }

    closed : r.old.is_open ≡ u.old.is_open
    closed = takes_open w.step z.count u.old r.old z.taken

    pub slice_refuses : (t : Tracked E) → Answers w m r (PeekErr t) → u.new ≡ r.new → u.after ≡ r.after → u.left ≡ record { distance = held; part = r.left } → Answers (around w (IsFreshRecognizing w.fresh)) (recognized errors size spells w.step m) u (PeekErr t)
    slice_refuses t p n a l = record { is = by_kind (w.kind t.error) p.is }
      where
        by_kind : (k : Kind) → peeks w m r k → peeks (around w (IsFreshRecognizing w.fresh)) (recognized errors size spells w.step m) u k
        by_kind kinds.Refused y = refusal false n a l y
        by_kind kinds.End y = (sym closed ∙ y.0, refusal false n a l y.1)
        by_kind kinds.Memory y = y
        by_kind kinds.Read y = y
        by_kind kinds.Reset y = y
        by_kind kinds.Lost y = y

    pub slice_settles : (e : E) → ((w.kind e ≡ kinds.End) × (r.new.is_open ≡ true) → ⊥) → Answers w m r (CommitErr e) → u.new ≡ r.new → u.after ≡ r.after → u.left ≡ record { distance = held; part = r.left } → Answers (around w (IsFreshRecognizing w.fresh)) (recognized errors size spells w.step m) u (CommitErr e)
    slice_settles e q p n a l = settles w (IsFreshRecognizing w.fresh) m (recognized errors size spells w.step m) r u e q p (record {
      is_open = closed;
      refuses = refusal true n a l;
      leaves = leaves n l;
      heapless = λ x. x;
      reads = λ y. let b = z.reads in rw a (omega arith);
      resets = λ y. let b = z.resets in rw a (omega arith);
      loses = λ y. subst (loses (around w (IsFreshRecognizing w.fresh)) (recognized errors size spells w.step m) u) f (losing_by r.first refl (sym f) y);
    })
      where
        losing_by : (b : Bool) → r.first ≡ b → u.first ≡ b → loses w m r b → loses (around w (IsFreshRecognizing w.fresh)) (recognized errors size spells w.step m) u b
        losing_by true j o y = y
        losing_by false j o y = (begins_lost d u.first u.state r.state z.distance z.same o u.old (Deeper z.count z.place (subst (m.lost r.state) z.taken.rest y.0)), leaves n l y.1)

    -- a failed read or reset of its own, counted after the part's call
    pub slice_breaks : (k : Kind) (e : E) → w.kind e ≡ k → Broke k r.after u.after → r.before.reads ≤ r.after.reads → r.before.resets ≤ r.after.resets → Moves w.step u.old u.new → u.left.distance ≡ held → w.fresh u.left.part → Answers (around w (IsFreshRecognizing w.fresh)) (recognized errors size spells w.step m) u (CommitErr e)
    slice_breaks k e i h x y n a l = record { is = rw i (by_kind k h) }
      where
        left : Leaves (around w (IsFreshRecognizing w.fresh)) u
        left = record { count = n.count; taken = n.taken; state = (a ∙ z.none, l) }

        by_kind : (k : Kind) → Broke k r.after u.after → fails (around w (IsFreshRecognizing w.fresh)) (recognized errors size spells w.step m) u k
        by_kind kinds.Read h = (let b = z.reads in omega arith, left)
        by_kind kinds.Reset h = (let b = z.resets in omega arith, left)
        by_kind kinds.Refused h = absurd h
        by_kind kinds.End h = absurd h
        by_kind kinds.Memory h = absurd h
        by_kind kinds.Lost h = absurd h

    -- the range was read again, or could not be
    module _ (a : V) (k : Bool) (p : Accepts w m r a k) (l : u.left ≡ record { distance = held; part = r.left }) where
      accepts : (q : R) (c : Bool) → c ≡ nat_lt 0 (z.count + p.count) → Handed w.counts_failures w.step spells u.old u.new r.after u.after (z.count + p.count) q → Accepts (around w (IsFreshRecognizing w.fresh)) (recognized errors size spells w.step m) u (q, a) c
      accepts q c i h = record {
        count = z.count + p.count;
        meant = outcome (Accepted a p.count k) (Accepted (q, a) (z.count + p.count) c) p.meant (h.spelled, refl, refl, i);
        taken = h.taken;
        state = rw l (z.none, p.state);
        failures = λ s. h.failures s ∙ p.failures s ∙ z.failures s;
      }

      pub slice_hands : (answer : ParseResult R E) → HandsOutRange w.counts_failures w.step spells u.old u.new r.after u.after (z.count + p.count) w.kind answer → r.before.reads ≤ r.after.reads → r.before.resets ≤ r.after.resets → Answers (around w (IsFreshRecognizing w.fresh)) (recognized errors size spells w.step m) u (beside_value a answer)
      slice_hands answer h x y = by_answer answer h.is
        where
          by_answer : (answer : ParseResult R E) → hands_out_range w.counts_failures w.step spells u.old u.new r.after u.after (z.count + p.count) w.kind answer → Answers (around w (IsFreshRecognizing w.fresh)) (recognized errors size spells w.step m) u (beside_value a answer)
          by_answer (CommitOk q) i = record { is = accepts q true (sym (lt-ltb 0 (z.count + p.count) i.1)) i.0 }
          by_answer (PeekOk q) i = record { is = accepts q false (sym (ap (nat_lt 0) i.1)) i.0 }
          by_answer (CommitErr e) i = slice_breaks (w.kind e) e refl i.0 x y i.1 (ap (λ (s : RecognizeState S). s.distance) l) (rw l p.state)
          by_answer (PeekErr t) i = absurd i

    -- need of more: all is put back, and all that was read is passed over by the next call
    module _ (read : ℕ) (g : (n : ℕ) → Takes w.step n u.old r.new → read ≡ size_of size (take n u.old.unread)) (y : Asks w m r) where
      all : Takes w.step (z.count + y.count) u.old r.new
      all = all_read y.count y.taken

      measured : read ≡ size_of size (take (z.count + y.count) u.old.unread)
      measured = g (z.count + y.count) all

      place : IsItemPlace size u.old.unread read (z.count + y.count)
      place = record { within = all.enough; items = sym measured }

      there : (x : List T) (b : Bool) → advanced w.step (z.count + y.count) (extended x b u.old) ≡ extended x b r.new
      there x b = advanced_extended w.step (z.count + y.count) x b u.old all.enough ∙ ap (extended x b) (sym all.rest)

      here : (x : List T) (b : Bool) → extended x b r.old ≡ advanced w.step z.count (extended x b u.old)
      here x b = ap (extended x b) z.taken.rest ∙ sym (advanced_extended w.step z.count x b u.old z.taken.enough)

      same_place : (x : List T) (b : Bool) (k : ℕ) → IsItemPlace size (extended x b u.old).unread read k → k ≡ z.count + y.count
      same_place x b k i = one_place size filled (extended x b u.old).unread read k (z.count + y.count) i (place_stays size u.old.unread x read (z.count + y.count) place)

      giving : (x : List T) (b : Bool) (o : Outcome (R × V)) → MayFollow u.old.is_open x b → Recognizes size spells w.step read (m.rest r.left) (extended x b u.old) o → Recognizes size spells w.step d (begun m u.first r.state) (extended x b u.old) o
      giving x b o j (On i) =
          let k : MayFollow r.old.is_open x b = rw closed j in
          let s = same_place x b i.before i.place in
          let h = subst (λ y. m.rest r.left y i.inner) (there x b) (subst (λ n. m.rest r.left (advanced w.step n (extended x b u.old)) i.inner) s i.meant) in
          let c = y.resumes.gives x b i.inner k h in
          let t = subst (λ v. begun m u.first r.state v (after y.count false i.inner)) (here x b) (subst (λ a. begun m a r.state (extended x b r.old) (after y.count false i.inner)) f c) in
          On (record {
            before = z.count;
            place = place_stays size u.old.unread x d z.count z.place;
            inner = after y.count false i.inner;
            meant = t;
            is = read_before (extended x b u.old).unread z.count y.count i.inner o (subst (λ n. sliced size spells w.step (extended x b u.old).unread n i.inner o) s i.is);
          })
      giving x b o j (Split i k) = absurd (i.none (z.count + y.count) (place_stays size u.old.unread x read (z.count + y.count) place))

      losing_none : (x : List T) (b : Bool) → LosesRecognizing size w.step read (m.lost r.left) (extended x b u.old) → ⊥
      losing_none x b (Short h) = let i = size_append size u.old.unread x in let j = size_take size (z.count + y.count) u.old.unread in let k = measured in omega arith
      losing_none x b (Deeper k i h) = y.found x b (subst (m.lost r.left) (there x b) (subst (λ n. m.lost r.left (advanced w.step n (extended x b u.old))) (same_place x b k i) h))

      asking : u.new ≡ u.old → (w.counts_failures → u.after ≡ r.after) → u.left ≡ record { distance = read; part = r.left } → Asks (around w (IsFreshRecognizing w.fresh)) (recognized errors size spells w.step m) u
      asking n a l = record {
        is_open = sym closed ∙ y.is_open;
        count = 0;
        meant = outcome Undecided Undecided y.meant tt;
        taken = rw n (takes_none w.step u.old);
        all = λ k. absurd k;
        none = λ k. refl;
        resumes = rw (l, n) (record { gives = λ x b o j h. rw (after_none o) (begins d u.first u.state r.state z.distance z.same (extended x b u.old) o (giving x b o j h)); committed = λ x b o j h i. absurd (omega arith) });
        found = rw (l, n) losing_none;
        failures = λ s. a s ∙ y.failures s ∙ z.failures s;
      }

    pub slice_asks : (e : E) → (w.kind e ≡ kinds.End) × (r.new.is_open ≡ true) → Answers w m r (CommitErr e) → u.new ≡ u.old → (w.counts_failures → u.after ≡ r.after) → (read : ℕ) → ((n : ℕ) → Takes w.step n u.old r.new → read ≡ size_of size (take n u.old.unread)) → u.left ≡ record { distance = read; part = r.left } → Answers (around w (IsFreshRecognizing w.fresh)) (recognized errors size spells w.step m) u (CommitErr e)
    slice_asks e q p n a read g l = needs w (IsFreshRecognizing w.fresh) m (recognized errors size spells w.step m) r u e q p closed (λ y. asking read g y n a l)

    -- the stream could not be put back
    pub slice_unreset : (x : E) → (w.kind x ≡ kinds.End) × (r.new.is_open ≡ true) → Answers w m r (CommitErr x) → (k : Kind) (e : E) → w.kind e ≡ k → (k ≡ kinds.Reset) × Moves w.step r.new u.new × (r.after.resets < u.after.resets) → r.before.reads ≤ r.after.reads → r.before.resets ≤ r.after.resets → u.left.distance ≡ held → w.fresh u.left.part → Answers (around w (IsFreshRecognizing w.fresh)) (recognized errors size spells w.step m) u (CommitErr e)
    slice_unreset x q p k e i h b c n l =
        let a = need_of_more w m r x q.0 (sym (same_mark w m r x p) ∙ q.1) p in
        slice_breaks k e i (rw h.0 h.2) b c (moves_more w.step (z.count + a.count) u.old r.new u.new (all_read a.count a.taken) h.1) n l

module _ {P T R V S E : Type 0} (w : World P T S E) (size : T → ℕ) (spells : R → List T → Type 0) (errors : Observers T R P E) (m : Meaning P T R E V S) (u : CallRecord P T (RecognizeState S)) (d : ℕ) (e : d ≡ (if u.first then 0 else u.state.distance)) where
  -- the kept distance was not passed over
  pub slice_unpassed : {Q : Type 0} (none : Q → List T → Type 0) (k : Kind) (result : ParseResult (R × V) E) → UnconsRange w.counts_failures w.step size none u.old u.new u.before u.after d (Err k) → NotPassed w.kind k result → u.left.distance ≡ 0 → w.fresh u.left.part → Answers (around w (IsFreshRecognizing w.fresh)) (recognized errors size spells w.step m) u result
  slice_unpassed {Q = Q} none k result q n a l = record { is = by_kind k result q.is n.is }
    where
      left : u.new ≡ u.old → Leaves (around w (IsFreshRecognizing w.fresh)) u
      left q = record { count = 0; taken = rw q (takes_none w.step u.old); state = (a, l) }

      losing_by : (b : Bool) → d ≡ (if b then 0 else u.state.distance) → size_of size u.old.unread < d → u.new ≡ u.old → loses (around w (IsFreshRecognizing w.fresh)) (recognized errors size spells w.step m) u b
      losing_by true i h q = absurd (omega arith)
      losing_by false i h q = (Short (rw (sym i) h), left q)

      split_by : (b : Bool) → d ≡ (if b then 0 else u.state.distance) → EndsInsideToken size u.old.unread d → begun (recognized errors size spells w.step m) b u.state u.old (Refused false)
      split_by true i h = Split (subst (EndsInsideToken size u.old.unread) i h) refl
      split_by false i h = Split (subst (EndsInsideToken size u.old.unread) i h) refl

      by_kind : (k : Kind) (result : ParseResult (R × V) E) → no_range w.counts_failures w.step size none u.old u.new u.before u.after d k → not_passed w.kind k result → answers (around w (IsFreshRecognizing w.fresh)) (recognized errors size spells w.step m) u result
      by_kind k (CommitOk v) h n = absurd n
      by_kind k (PeekOk v) h n = absurd n
      by_kind kinds.Refused (PeekErr t) h n = rw n.0 (record { meant = split_by u.first e h.0; leaves = left h.1.same; failures = h.1.failures })
      by_kind kinds.Refused (CommitErr t) h n = absurd (n.1 refl)
      by_kind kinds.End (CommitErr t) h n = rw n.0 (losing_by u.first e h.0 h.1.same)
      by_kind kinds.End (PeekErr t) h n = absurd (let a = n.1 in cc)
      by_kind kinds.Read (CommitErr t) h n = rw n.0 (h.rose, record { count = h.count; taken = h.taken; state = (a, l) })
      by_kind kinds.Read (PeekErr t) h n = absurd (let a = n.1 in cc)
      by_kind kinds.Memory (CommitErr t) h n = absurd h
      by_kind kinds.Memory (PeekErr t) h n = absurd h
      by_kind kinds.Reset (CommitErr t) h n = absurd h
      by_kind kinds.Reset (PeekErr t) h n = absurd h
      by_kind kinds.Lost (CommitErr t) h n = absurd h
      by_kind kinds.Lost (PeekErr t) h n = absurd h
