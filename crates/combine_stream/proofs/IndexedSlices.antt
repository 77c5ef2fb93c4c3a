-- calls of a slice with an index
use Rattle.std.proofs.Common.{ℕ, ◌+◌, ◌-◌, ◌≤◌, ◌≡◌, List, take, drop, length, nat_eq, nat_lt, not, Bool, false, subst, arith, ap, refl, ◌∙◌, length-drop}
use Rattle.std.proofs.lemmas.List.{length-take-le}
use Rattle.combine_base.specs.Stream.View.{View, Ahead, Takes}
use Rattle.combine_stream.specs.Range.Ranges.{LongestItems, size_of}
use Rattle.combine_stream.specs.Position.IndexedSlices.{indexed_view}
use Rattle.combine_base.specs.Stream.Fed.{one_more, after_count}
use Rattle.combine_base.proofs.Streams.Distances.{takes_counted}
use Rattle.combine_base.proofs.Streams.Movement.{lengths_apart}
use Rattle.combine_stream.proofs.SliceLengths.{ones_take}
use Rattle.combine_stream.specs.declared.position.slice.SliceStream.{SliceStream}

pub index_takes : {T : Type 0} (s : SliceStream T) (n : ℕ) → n ≤ length (indexed_view s).unread → Takes one_more n (indexed_view s) (record { position = s.at + n; unread = drop (s.at + n) s.tokens.now; is_open = false })
index_takes s n h = takes_counted s.at s.at n (s.at + n) (s.at + n) s.tokens.now false refl refl h

-- so many unread tokens end within the slice
pub index_within : {T : Type 0} (s : SliceStream T) (us : List T) (n : ℕ) → us ≡ (indexed_view s).unread → n ≤ length us → s.at + n ≤ length s.tokens.now
index_within s us n e h = let l = ap length e in let d = length-drop s.at s.tokens.now in let i = s.within in omega arith

-- how far apart indexes are
pub index_ahead : {T : Type 0} (s t : SliceStream T) (v : View ℕ T) (k : ℕ) → v ≡ indexed_view s → Ahead one_more k v (indexed_view t) → t.at ≡ s.at + k
index_ahead s t v k e a =
    let p = a.position ∙ after_count v.position (take k v.unread) in
    let q = length-take-le k v.unread a.enough in
    let r : v.position ≡ s.at = ap (λ (x : View _ _). x.position) e in
    omega arith

pub index_apart : {T : Type 0} (s t : SliceStream T) (v : View ℕ T) (k : ℕ) → v ≡ indexed_view s → Ahead one_more k v (indexed_view t) → t.at - s.at ≡ size_of (λ t. 1) (take k v.unread)
index_apart s t v k e a = let z = ones_take k v.unread a.enough in let i = index_ahead s t v k e a in omega arith

pub index_moved : {T : Type 0} (s t : SliceStream T) (v : View ℕ T) (k : ℕ) → v ≡ indexed_view s → Ahead one_more k v (indexed_view t) → not (nat_eq s.at t.at) ≡ nat_lt 0 k
index_moved s t v k e a = let j = index_ahead s t v k e a in lengths_apart s.at t.at k (λ z. omega arith) (λ i. omega arith)

pub longest_same : {T : Type 0} (f : T → Bool → Type 0) (us vs : List T) (n : ℕ) → us ≡ vs → LongestItems (λ t. 1) f us n → LongestItems (λ t. 1) f vs n
longest_same f us vs n e h = subst (λ xs. LongestItems (λ t. 1) f xs n) e h
