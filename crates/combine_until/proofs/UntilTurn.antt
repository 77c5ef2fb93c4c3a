-- what one turn of blocks up to a place did
use Rattle.std.proofs.Common.{ℕ, ◌+◌, ◌<◌, ◌≤◌, ◌≡◌, Bool, true, false, ◌||◌, ◌&&◌, nat_lt, if◌then◌else◌, Option, length, drop, arith, ap, refl, sym, ◌∙◌, length-drop, ltb-true}
use Rattle.combine_base.specs.Stream.View.{View, Takes, Moves}
use Rattle.combine_base.specs.Parser.Meaning.{Meaning}
use Rattle.combine_base.specs.Parser.Answer.{CallRecord, World, Answers, Accepts}
use Rattle.combine_base.specs.Distances.{stops_distance}
use Rattle.combine_base.proofs.Errors.CallErrors.{need_of_more, same_mark}
use Rattle.combine_base.proofs.Parsers.Progress.{takes_more}
use Rattle.combine_base.specs.declared.error.result.ParseResult.TheVariants.{CommitErr}
use Rattle.combine_base.specs.declared.stream.Kind.{Kind}
use Rattle.combine_base.specs.declared.stream.Kind.TheVariants as kinds
use Rattle.combine_base.specs.declared.stream.Failures.{Failures}
use Rattle.combine_repeat.specs.Turns.Blocks.{Collecting}
use Rattle.combine_until.specs.UntilTurn.{IsUntilBlock, BlockNeedsMore, HasBlockFailed, Unreset}
use Rattle.combine_until.specs.declared.until.Blocks.{Blocks}

module _ {P T R A S E : Type 0} {w : World P T S E} {m : Meaning P T R E (Option A) S} where
  pub accepts_value : {r : CallRecord P T S} {x : Option A × Bool} {a y : Option A} {k : Bool} → x ≡ (a, k) → x.0 ≡ y → Accepts w m r a k → Accepts w m r y x.1
  accepts_value {r} {x} e f p = let q : Accepts w m r x.0 x.1 = rw e p in rw f at q

  -- the stream could not be put back behind that acceptance
  pub unreset_by : {V : Type 0} {c : Collecting (Option A) V} {first : Bool} {state left : S} {old now new : View P T} {before later after : Failures} {a : Option A} {k : Bool} {marked : View P T → Type 0} {b : Blocks V} → Accepts w m (record { first = first; state = state; left = left; old = old; new = now; before = before; after = later }) a k → (d : Kind) → (d ≡ kinds.Reset) × Moves w.step now new × (later.resets < after.resets) → before.resets ≤ later.resets → (e : E) → w.kind e ≡ d → HasBlockFailed w m c (record { first = first; state = state; left = left; old = old; new = new; before = before; after = after }) marked b e
  unreset_by {old} {now} {new} p d h i e q =
      let x = h.1 in
      let y = h.2 in
      Unreset (q ∙ h.0) (omega arith) (record { count = p.count + x.count; taken = takes_more w.step p.count x.count old now new p.taken x.taken; state = p.state })

module _ {P T R A V S E : Type 0} (w : World P T S E) (m : Meaning P T R E (Option A) S) (c : Collecting (Option A) V) (r : CallRecord P T S) (marked : View P T → Type 0) (old new : Blocks V) where
  -- its parser needs more, and the blocks are those of the next piece
  pub needs_more : (e : E) → (w.kind e ≡ kinds.End) × (r.new.is_open ≡ true) → Answers w m r (CommitErr e) → ((n : ℕ) → Takes w.step n r.old r.new → new ≡ record { into = old.into; committed = old.committed; took_before = old.took_before || nat_lt 0 n }) → BlockNeedsMore w m c r marked old new e
  needs_more e q p h =
      let a = need_of_more w m r e q.0 (sym (same_mark w m r e p) ∙ q.1) p in
      let x = h a.count a.taken in
      record { needs = q; answers = p; took_before = new.took_before; cut = λ n t. ap (λ (b : Blocks V). b.took_before) (h n t); blocks = rw x refl }

  -- a block takes a token, or took one before a cut, which the next one didn't
  pub blocks_shrink : IsUntilBlock w m c r marked old new → length r.new.unread + (if new.took_before then 1 else 0) < length r.old.unread + (if old.took_before then 1 else 0)
  blocks_shrink g = rw (ap (λ s. s.mark) g.blocks) (by_begun old.took_before g.takes)
    where
      fewer : length r.new.unread + g.accepts.count ≡ length r.old.unread
      fewer =
          let a = g.accepts.taken.enough in
          let c : length r.new.unread ≡ length (drop g.accepts.count r.old.unread) = ap (λ (x : View P T). length x.unread) g.accepts.taken.rest in
          omega (arith, length-drop g.accepts.count r.old.unread)

      both : (a b : Bool) → (a && b) ≡ true → b ≡ true
      both true b e = e
      both false b e = absurd (cc)

      by_begun : (i : Bool) → (g.committed && (i || nat_lt 0 g.accepts.count)) ≡ true → length r.new.unread + 0 < length r.old.unread + (if i then 1 else 0)
      by_begun true e = let f = fewer in omega arith
      by_begun false e = let f = fewer in let p = ltb-true 0 g.accepts.count (both g.committed (nat_lt 0 g.accepts.count) e) in omega arith

-- why a distance was not passed over, some tokens later
pub stops_later : {P T : Type 0} (counts_failures : Type 0) (step : P → T → P) (n d : ℕ) (old mid new : View P T) (before later after : Failures) (k : Kind) → Takes step n old mid → before.reads ≤ later.reads → stops_distance counts_failures step mid new later after d k → stops_distance counts_failures step old new before after (n + d) k
stops_later counts_failures step n d old mid new before later after kinds.End t i s =
    let a = t.enough in
    let e : length mid.unread ≡ length (drop n old.unread) = ap (λ (x : View _ _). length x.unread) t.rest in
    omega (arith, length-drop n old.unread)
stops_later counts_failures step n d old mid new before later after kinds.Read t i s = omega arith
stops_later counts_failures step n d old mid new before later after kinds.Refused t i s = s
stops_later counts_failures step n d old mid new before later after kinds.Memory t i s = s
stops_later counts_failures step n d old mid new before later after kinds.Reset t i s = s
stops_later counts_failures step n d old mid new before later after kinds.Lost t i s = s
