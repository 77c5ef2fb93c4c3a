-- so many turns of any token take exactly so many tokens
use Rattle.std.proofs.Common.{ℕ, ◌+◌, ◌-◌, ◌<◌, ◌≤◌, ◌≡◌, ◌⊎◌, ⊎_elim, inl, inr, refl, sym, ◌∙◌, ap, subst, List, [], ◌∷◌, ◌++◌, length, take, drop, Bool, true, false, ◌||◌, not, nat_lt, if◌then◌else◌, append_assoc, arith, ltb-true, ltb-false, lt-ltb}
use Rattle.std.proofs.lemmas.List.{append-nil}
use Rattle.combine_base.specs.Parser.Meaning.{Reading}
use Rattle.combine_base.specs.Parser.Outcome.{Outcome, Accepted, Refused, Undecided, after, shape}
use Rattle.combine_base.specs.Stream.View.{View, after_all}
use Rattle.combine_token.specs.Token.OneToken.{of_function, one_token, satisfied}
use Rattle.combine_repeat.specs.Turns.Bounds.{bounded, judged, none_yet, refused_at}
use Rattle.combine_repeat.specs.Repeat.Repeated.{appended, no_value_ends}
use Rattle.combine_repeat.specs.Turns.Blocks.{Block, Collecting, HoldsCollected, DividesBlocks, FoldsAll, TakesBlock, Rule, StopsTurns, StopsHere, TurnsOutcome, any_committed, taken, values}
use Rattle.combine_repeat.specs.declared.bounds.Bounds.TheVariants.{Counted}
use Rattle.combine_repeat.specs.declared.bounds.TurnIndex.{TurnIndex}

-- what tokens appended one by one make
folds_to : {T : Type 0} (h xs i : List T) → FoldsAll (λ us t ws. ws ≡ us ++ t ∷ []) h xs i → i ≡ h ++ xs
folds_to h [] i f = sym f ∙ sym (append-nil h)
folds_to h (x ∷ xs) i f = folds_to f.0 xs i f.2 ∙ ap (λ us. us ++ xs) f.1 ∙ append_assoc h (x ∷ []) xs

module _ {P T : Type 0} (step : P → T → P) (most : ℕ) where
  abbrev any_token : Reading P T T
  any_token = one_token (satisfied (of_function (λ t. true)))

  abbrev rule : Rule T TurnIndex
  rule = bounded (Counted most most) no_value_ends

  abbrev place : ℕ → Bool → TurnIndex
  place i g = record { number = i; took_before = g }

  abbrev view : P → List T → Bool → View P T
  view p us o = record { position = p; unread = us; is_open = o }

  -- how turns of any token stop that has n of them behind i
  abbrev stopped : ℕ → Bool → ℕ → ℕ → Outcome (Unit {0}) → Type 0
  stopped i o n size (Accepted u m k) = (m ≡ 0) × (k ≡ false) × (i + n ≡ most)
  stopped i o n size (Refused k) = (k ≡ false) × (o ≡ false) × (n ≡ size) × (i + n < most)
  stopped i o n size Undecided = (o ≡ true) × (n ≡ size) × (i + n < most)

  record Divided (i : ℕ) (us : List T) (o : Bool) (bs : List (Block T)) (l : Outcome (Unit {0})) : Type 0 where
    count : taken bs ≡ length bs
    tokens : values bs ≡ take (length bs) us
    within : length bs ≤ length us
    kind : any_committed bs ≡ nat_lt 0 (length bs)
    stop : stopped i o (length bs) (length us) l

  first_token : (t : T) (ts : List T) (o : Bool) (p : P) (x : Outcome T) → any_token (view p (t ∷ ts) o) x → x ≡ Accepted t 1 true
  first_token t ts o p (Accepted b n k) h = let e = h.0.0 in let f = h.1 in let g = h.2 in cc
  first_token t ts o p (Refused k) h = absurd (let e : false ≡ true = h.0 in cc)
  first_token t ts o p Undecided h = absurd h

  no_token : (o : Bool) (p : P) (x : Outcome T) → any_token (view p [] o) x → ((x ≡ Refused false) × (o ≡ false)) ⊎ ((x ≡ Undecided) × (o ≡ true))
  no_token o p (Accepted b n k) h = absurd h.1
  no_token o p (Refused k) h = inl (let e = h.2 in cc, h.0)
  no_token o p Undecided h = inr (refl, h)

  -- the turn that runs there stops them
  stops_at : (i : ℕ) (g : Bool) → i < most → (p : P) (us : List T) (o : Bool) (l : Outcome (Unit {0})) (x : Outcome T) → any_token (view p us o) x → judged (Counted most most) no_value_ends (place i g) x ≡ StopsTurns l → stopped i o 0 (length us) l
  stops_at i g w p (t ∷ ts) o l x h j =
      let goes : TakesBlock ≡ StopsTurns l = subst (λ z. judged (Counted most most) no_value_ends (place i g) z ≡ StopsTurns l) (first_token t ts o p x h) j in
      absurd (cc)
  stops_at i g w p [] o l x h j = ⊎_elim refused undecided (no_token o p x h)
    where
      missing : nat_lt 0 (most - i) ≡ true
      missing = lt-ltb 0 (most - i) (omega arith)

      refused : (x ≡ Refused false) × (o ≡ false) → stopped i o 0 0 l
      refused r =
          let k : judged {A = T} (Counted most most) no_value_ends (place i g) (Refused false) ≡ StopsTurns l = subst (λ z. judged {A = T} (Counted most most) no_value_ends (place i g) z ≡ StopsTurns l) r.0 j in
          let s : refused_at (not (nat_lt 0 (most - i))) false ≡ StopsTurns l = k in
          let n : StopsTurns (Refused false) ≡ StopsTurns l = subst (λ b. refused_at (not b) false ≡ StopsTurns l) missing s in
          let e : Refused false ≡ l = cc in
          subst (λ z. stopped i o 0 0 z) e (refl, r.1, refl, omega arith)

      undecided : (x ≡ Undecided) × (o ≡ true) → stopped i o 0 0 l
      undecided r =
          let k : StopsTurns Undecided ≡ StopsTurns l = subst (λ z. judged {A = T} (Counted most most) no_value_ends (place i g) z ≡ StopsTurns l) r.0 j in
          let e : Undecided ≡ l = cc in
          subst (λ z. stopped i o 0 0 z) e (r.1, refl, omega arith)

  -- a token more before them
  one_before : (i : ℕ) (o : Bool) (n m size more : ℕ) → m ≡ n + 1 → more ≡ size + 1 → (l : Outcome (Unit {0})) → stopped (i + 1) o n size l → stopped i o m more l
  one_before i o n m size more e f (Accepted u z k) s = (s.0, s.1, let a = s.2 in omega arith)
  one_before i o n m size more e f (Refused k) s = let a = s.2 in let b = s.3 in (s.0, s.1, omega arith, omega arith)
  one_before i o n m size more e f Undecided s = let a = s.1 in let b = s.2 in (s.0, omega arith, omega arith)

  not_full : (b : Bool) → not b ≡ false → b ≡ true
  not_full true e = refl
  not_full false e = absurd (cc)

  one_more : (b : Block T) (bs : List (Block T)) (i : ℕ) (t : T) (ts : List T) (o : Bool) (l : Outcome (Unit {0})) → b.count ≡ 1 → b.value ≡ t → b.committed ≡ true → Divided (i + 1) ts o bs l → Divided i (t ∷ ts) o (b ∷ bs) l
  one_more b bs i t ts o l one is k behind = record {
    count = let e = one in let f = behind.count in omega arith;
    tokens = ap (λ z. z ∷ values bs) is ∙ ap (λ zs. t ∷ zs) behind.tokens;
    within = let f = behind.within in omega arith;
    kind = ap (λ k. k || any_committed bs) k ∙ sym (lt-ltb 0 (length (b ∷ bs)) (omega arith));
    stop = one_before i o (length bs) (length (b ∷ bs)) (length ts) (length (t ∷ ts)) (omega arith) (omega arith) l behind.stop;
  }

  divided : (bs : List (Block T)) (i : ℕ) (g : Bool) (p : P) (us : List T) (o : Bool) (l : Outcome (Unit {0})) → i ≤ most → DividesBlocks step rule (λ _. any_token) l any_token (place i g) bs (view p us o) → Divided i us o bs l
  divided [] i g p us o l w d = record { count = refl; tokens = refl; within = omega arith; kind = refl; stop = by_full (nat_lt i most) refl d }
    where
      by_full : (b : Bool) → nat_lt i most ≡ b → StopsHere step rule (λ _. any_token) l any_token (place i g) (view p us o) (not b) → stopped i o 0 (length us) l
      by_full true e h = stops_at i g (ltb-true i most e) p us o l h.0 h.1 h.2
      by_full false e h = let f = ltb-false i most e in subst (λ z. stopped i o 0 (length us) z) (sym h) (refl, refl, omega arith)
  divided (b ∷ bs) i g p [] o l w d = absurd d.1.1
  divided (b ∷ bs) i g p (t ∷ ts) o l w d =
      let one : b.count ≡ 1 = d.1.1 in
      let runs = not_full (nat_lt i most) d.0 in
      let next : (if nat_lt i most then i + 1 else most) ≡ i + 1 = ap (λ z. if z then i + 1 else most) runs in
      let rest : DividesBlocks step rule (λ _. any_token) l any_token (place (i + 1) false) bs (view (after_all step p (take b.count (t ∷ ts))) (drop b.count (t ∷ ts)) o) = subst (λ n. DividesBlocks step rule (λ _. any_token) l any_token (place n false) bs (view (after_all step p (take b.count (t ∷ ts))) (drop b.count (t ∷ ts)) o)) next d.3 in
      let low = ltb-true i most runs in
      let behind = divided bs (i + 1) false (after_all step p (take b.count (t ∷ ts))) (drop b.count (t ∷ ts)) o l (omega arith) rest in
      one_more b bs i t ts o l one d.1.0.0 d.1.2 (subst (λ us. Divided (i + 1) us o bs l) (ap (λ n. drop n (t ∷ ts)) one) behind)

  module _ {V : Type 0} (items : V → List T) (heapless : Type 0) where
    abbrev listed : Collecting T V
    listed = appended items [] (λ xs x. xs ++ x ∷ []) heapless

    -- so many tokens and no more, committed if there is one
    abbrev pub takes_so_many : View P T → Outcome V → Type 0
    takes_so_many v (Accepted m n k) = (most ≤ length v.unread) × (items m ≡ take most v.unread) × (n ≡ most)
    takes_so_many v (Refused k) = (v.is_open ≡ false) × (length v.unread < most)
    takes_so_many v Undecided = (v.is_open ≡ true) × (length v.unread < most)

    module _ (v : View P T) (bs : List (Block T)) (held : List T) (f : FoldsAll (λ us t ws. ws ≡ us ++ t ∷ []) [] (values bs) held) where
      by_last : (l : Outcome (Unit {0})) → Divided 0 v.unread v.is_open bs l → (o : Outcome V) → shape o ≡ after (taken bs) (false || any_committed bs) l → HoldsCollected listed o held → takes_so_many v o
      by_last (Accepted u z q) d (Accepted m n k) e c =
          let i : n ≡ taken bs + z = cc in
          let s = d.stop in
          let a = d.within in
          let long : length bs ≡ most = omega arith in
          (omega arith, c ∙ folds_to [] (values bs) held f ∙ d.tokens ∙ ap (λ j. take j v.unread) long, let t = d.count in omega arith)
      by_last (Accepted u z q) d (Refused k) e c = absurd (cc)
      by_last (Accepted u z q) d Undecided e c = absurd (cc)
      by_last (Refused q) d (Accepted m n k) e c = absurd (cc)
      by_last (Refused q) d (Refused k) e c = let s = d.stop in (s.1, omega arith)
      by_last (Refused q) d Undecided e c = absurd (cc)
      by_last Undecided d (Accepted m n k) e c = absurd (cc)
      by_last Undecided d (Refused k) e c = absurd (cc)
      by_last Undecided d Undecided e c = let s = d.stop in (s.0, omega arith)

    pub counted_tokens : (v : View P T) (o : Outcome V) → TurnsOutcome step rule listed (λ _. any_token) any_token (none_yet []) v o → takes_so_many v o
    counted_tokens v o h = by_last v h.blocks h.held h.folded h.last (divided h.blocks 0 false v.position v.unread v.is_open h.last (omega arith) h.divided) o h.joined h.collected
