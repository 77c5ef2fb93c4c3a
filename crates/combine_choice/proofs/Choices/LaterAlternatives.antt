-- the first alternative ends the choice, or what the later ones answer is its answer
use Rattle.std.proofs.Common.{◌≡◌, inl, inr, Bool, true, false, arith, subst, refl, ◌∙◌}
use Rattle.std.specs.Prelude.{Option, Some, None}
use Rattle.combine_base.specs.Stream.View.{View, extended}
use Rattle.combine_base.specs.Parser.Outcome.{Outcome}
use Rattle.combine_base.specs.Error.Errors.{Observers}
use Rattle.combine_base.specs.Parser.Meaning.{Meaning, Reading, IsMeaning, begun, begun_reads}
use Rattle.combine_base.specs.Parser.Answer.{CallRecord, World, Answers, world}
use Rattle.combine_base.specs.Stream.Calls.{Passes}
use Rattle.combine_base.proofs.Errors.CallErrors.{unreset}
use Rattle.combine_base.specs.declared.stream.Failures.{Failures}
use Rattle.combine_base.specs.declared.error.tracked.Tracked.{Tracked}
use Rattle.combine_base.specs.declared.error.result.ParseResult.{ParseResult}
use Rattle.combine_base.specs.declared.error.result.ParseResult.TheVariants.{CommitOk, PeekOk, CommitErr, PeekErr}
use Rattle.combine_choice.specs.Choice.Choices.{OrElse, refused, either_into}
use Rattle.combine_choice.specs.Choice.Or.{either_of, or_valid}
use Rattle.combine_choice.proofs.Choices.ChoiceOutcomes.{Tries, tries_next, tries_commit_ok, tries_peek_ok, tries_fails, tries_asks, tries_ends, tries_needs}
use Rattle.combine_choice.proofs.Choices.MergedRefusals.{JoinsKinds, no_fault, merged_answers}
use Rattle.combine_choice.specs.declared.or.OrState.{OrState}
use Rattle.combine_choice.specs.declared.or.OrState.TheVariants.{Peek, A, B}
use Rattle.combine_choice.specs.Choice.FirstAlternative.{FirstEnded, FirstAnswered, FirstFailed, RanFirst, KeepsFirst, FirstResumed, IsFinal, first_did, first_begins_in, first_valid, NoFault, SettlesLater, joined_with_first}
use Rattle.combine_choice.specs.declared.or.first.FirstResult.TheVariants.{RunsLater}
use Rattle.combine_choice.proofs.Choices.FirstAlternative.{asks_or_not}

-- the state of the first is valid where the choice's is
pub first_is_valid : {S S' : Type 0} (valid : S → Type 0) (valid' : S' → Type 0) (given : OrState S S') → or_valid valid valid' given → first_valid valid given
first_is_valid valid valid' Peek h = tt
first_is_valid valid valid' (A s) h = h
first_is_valid valid valid' (B t) h = tt

module _ {P T R V S S' E : Type 0} (step : P → T → P) (errors : Observers T R P E) (counts_failures : Type 0) (joins : E → E → E → Type 0) {fresh valid : S → Type 0} {fresh' valid' : S' → Type 0} {a : Meaning P T R E V S} {b : Meaning P T R E V S'} (h : IsMeaning fresh valid a) (k : IsMeaning fresh' valid' b) (first : Bool) (given : OrState S S') (old : View P T) (before : Failures) where
  abbrev w : World P T S E
  w = world step errors counts_failures fresh

  abbrev w' : World P T S' E
  w' = world step errors counts_failures fresh'

  abbrev q : Reading P T V
  q = OrElse b.whole refused

  abbrev m : Meaning P T R E V (OrState S S')
  m = either_of joins a b

  abbrev empty : OrState S S' → Type 0
  empty s = s ≡ Peek

  gives : (s : S) (f : Bool) (g : OrState S S') → first_begins_in fresh f g s → (v : View P T) (o : Outcome V) → OrElse (begun a f s) q v o → begun m f g v o
  gives s true g c v o i = i
  gives s false Peek c v o i = either_into (a.rest s) a.whole q q (λ v o j. (h.start s v o c).0 j) (λ v o j. j) v o i
  gives s false (A t) c v o i = subst (λ u. OrElse (a.rest u) q v o) c i
  gives s false (B t) c v o i = absurd c

  loses : (s : S) (f : Bool) (g : OrState S S') → first_begins_in fresh f g s → f ≡ false → a.lost s old → (f ≡ false) × m.lost g old
  loses s true g c e i = absurd (cc)
  loses s false Peek c e i = absurd (h.found s old c i)
  loses s false (A t) c e i = (refl, subst (λ u. a.lost u old) c i)
  loses s false (B t) c e i = absurd c

  first_tries : (s : S) → first_begins_in fresh first given s → Tries w empty a q m first s old before first given old before
  first_tries s c = record {
    same = refl;
    gives = λ x d o j i. gives s first given c _ o i;
    failures = λ s. refl;
    reads = omega arith;
    resets = omega arith;
    keeps = λ p. p.0;
    puts_back = λ p. p.0;
    heapless = λ p. p.0;
    lost = λ e i. loses s first given c e i;
  }

  -- the first ends it
  module _ (left : OrState S S') (new : View P T) (after : Failures) where
    abbrev whole_run : CallRecord P T (OrState S S')
    whole_run = record { first = first; state = given; left = left; old = old; new = new; before = before; after = after }

    answered : (answer : ParseResult V E) (ran : RanFirst w fresh' valid a first given left old new before after new after answer) → KeepsFirst w fresh' valid a first given left old new before after ran.stopped answer → IsFinal w fresh' valid a first given left old new before after answer → Answers (world step errors counts_failures empty) m whole_run answer
    answered (CommitOk v) ran l f = tries_commit_ok w empty a q m (record { first = first; state = ran.state; left = ran.stopped; old = old; new = new; before = before; after = after }) whole_run (first_tries ran.state ran.begun) refl refl v (l.ends (λ i. i)) ran.answers
    answered (PeekOk v) ran l f = tries_peek_ok w empty a q m (record { first = first; state = ran.state; left = ran.stopped; old = old; new = new; before = before; after = after }) whole_run (first_tries ran.state ran.begun) refl refl v (l.ends (λ i. i)) ran.answers
    answered (CommitErr e) ran l f =
        elim (asks_or_not {V = V} errors.kind new.is_open (CommitErr e)) [
          | inl i ↦ tries_asks w empty a q m (record { first = first; state = ran.state; left = ran.stopped; old = old; new = new; before = before; after = after }) whole_run (first_tries ran.state ran.begun) refl refl e i ran.answers (λ v o j. subst (λ s. m.rest s v o) (l.asks i) j) (λ v j. subst (λ s. m.lost s v) (l.asks i) j)
          | inr i ↦ tries_fails w empty a q m (record { first = first; state = ran.state; left = ran.stopped; old = old; new = new; before = before; after = after }) whole_run (first_tries ran.state ran.begun) refl refl e i ran.answers (λ y. l.ends i)
        ]
    answered (PeekErr t) ran l f = absurd f

    pub ended_answers : (answer : ParseResult V E) → FirstEnded w fresh' valid a first given left old new before after answer → Answers (world step errors counts_failures empty) m whole_run answer
    ended_answers answer (FirstAnswered ran l f) = answered answer ran l f
    ended_answers answer (FirstFailed e i u) = rw i (unreset (world step errors counts_failures empty) m whole_run e u.kind (record { count = u.count; taken = u.taken; state = u.empty }) u.more)

    pub ended_valid : (answer : ParseResult V E) → FirstEnded w fresh' valid a first given left old new before after answer → or_valid valid valid' left
    ended_valid answer (FirstAnswered ran l f) =
        elim (asks_or_not errors.kind new.is_open answer) [
          | inl i ↦ rw (l.asks i) l.holds
          | inr i ↦ rw (l.ends i) tt
        ]
    ended_valid answer (FirstFailed e i u) = rw u.empty tt

  -- the later ones are tried
  module _ (none : OrState S S') (now : View P T) (so_far : Failures) (kept : S') where
    abbrev goes : Option (Tracked E) → Type 0
    goes t = first_did w fresh' valid a first given none old now before so_far (RunsLater kept t)

    resumes : FirstResumed w fresh' valid a first given none old now before so_far kept → Tries w' empty b refused m first kept now so_far first given old before
    resumes x = record {
      same = x.same;
      gives = λ t c o j i. let y = subst (λ f. OrElse (begun b f kept) refused (extended t c old) o) x.partial i in rw (x.partial, x.was) y;
      failures = λ s. x.failures;
      reads = rw x.failures (omega arith);
      resets = rw x.failures (omega arith);
      keeps = λ p. p.1;
      puts_back = λ p. p.1;
      heapless = λ p. p.1;
      lost = λ e i. (e, rw x.was (subst (λ v. b.lost kept v) x.same i));
    }

    later_tries : {C : Type 0} {d d' : C → View P T → Type 0} → Passes d d' before so_far → (t : Option (Tracked E)) → goes t → Tries w' empty b refused m first kept now so_far first given old before
    later_tries p None x = resumes x
    later_tries p (Some t) x =
        let r = x.ran in
        tries_next w empty a q m fresh' valid' b refused k (record { first = first; state = r.state; left = r.stopped; old = old; new = x.view; before = before; after = x.failures }) first given old before (first_tries r.state r.begun) (begun_reads fresh valid a h first r.state r.reads) t r.answers (λ v o i. i) (λ p. p.1) (λ p. p.1) (λ p. p.1) first kept x.fresh now so_far x.back x.counts_failures p

    is_empty : (t : Option (Tracked E)) → goes t → none ≡ Peek
    is_empty None x = x.empty
    is_empty (Some t) x = x.empty

    pub second_kept_valid : ((s : S') → fresh' s → valid' s) → or_valid valid valid' given → (t : Option (Tracked E)) → goes t → valid' kept
    second_kept_valid d v None x = rw x.was at v
    second_kept_valid d v (Some t) x = d kept x.fresh

    pub first_no_fault : (t : Option (Tracked E)) → goes t → NoFault errors.kind t
    first_no_fault None x = tt
    first_no_fault (Some t) x =
        let r = x.ran in
        no_fault w a (record { first = first; state = r.state; left = r.stopped; old = old; new = x.view; before = before; after = x.failures }) t r.answers

    pub gone_valid : (kept' : S') (is_open : Bool) (left : OrState S S') (t : Option (Tracked E)) → goes t → (answer result : ParseResult V E) → SettlesLater errors joins is_open t kept' none left answer result → valid' kept' → or_valid valid valid' left
    gone_valid kept' is_open left t x answer result s v =
        elim (asks_or_not errors.kind is_open answer) [
          | inl i ↦ rw (s.asks i) v
          | inr i ↦ rw (s.ends i ∙ is_empty t x) tt
        ]

    module _ (kept' : S') (new : View P T) (after : Failures) where
      abbrev later_run : CallRecord P T S'
      later_run = record { first = first; state = kept; left = kept'; old = now; new = new; before = so_far; after = after }

      module _ (kinds_of : JoinsKinds errors joins) (left : OrState S S') where
        abbrev all_run : CallRecord P T (OrState S S')
        all_run = record { first = first; state = given; left = left; old = old; new = new; before = before; after = after }

        merge : (t : Option (Tracked E)) → NoFault errors.kind t → (answer result : ParseResult V E) → joined_with_first errors joins t answer result → Answers (world step errors counts_failures empty) m all_run answer → Answers (world step errors counts_failures empty) m all_run result
        merge None n answer result e p = rw e p
        merge (Some t) n answer result e p = merged_answers step errors counts_failures empty m all_run joins kinds_of t.error n answer result p e

        pub gone_answers : {C : Type 0} {d d' : C → View P T → Type 0} → Passes d d' before so_far → (t : Option (Tracked E)) → goes t → (answer result : ParseResult V E) → Answers w' b later_run answer → SettlesLater errors joins new.is_open t kept' none left answer result → Answers (world step errors counts_failures empty) m all_run result
        gone_answers p t x answer result y s =
            let z = later_tries p t x in
            merge t (first_no_fault t x) answer result s.is (elim (asks_or_not errors.kind new.is_open answer) [
              | inl i ↦ tries_needs w' empty b refused m later_run all_run z refl refl answer i y (λ v o j. subst (λ s. m.rest s v o) (s.asks i) j) (λ v j. subst (λ s. m.lost s v) (s.asks i) j)
              | inr i ↦ tries_ends w' empty b refused m later_run all_run z refl refl answer i (λ v. refl) (s.ends i ∙ is_empty t x) y
            ])
