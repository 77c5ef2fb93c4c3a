use Rattle.std.proofs.Common.{ℕ, ◌≡◌, ◌≤◌, List, ◌++◌, arith, append_assoc, ap, subst, sym, ◌∙◌, length, length-drop, take, drop, take-add}
use Rattle.std.proofs.lemmas.List.{length-take-le}
use Rattle.std.specs.Global.{Vec}
use Rattle.combine_base.specs.Stream.Slices.{one_less}
use Rattle.combine_base.specs.declared.stream.slices.Left.{Left}
use Rattle.combine_decode.specs.Frames.{framed, length_read}
use Rattle.combine_byte.specs.Numbers.{big_endian}
use Rattle.combine_facts.proofs.Facts.{Reads, any_one, any_reads, changed, mapped_reads, parse_reads, reads_by, two, two_reads}
use Rattle.example_callers.specs.Records.{IsRecord}
use Rattle.example_callers.specs.declared.records.Record.{Record}
use Rattle.example_callers.proofs.records.read_record.Goals as goal

-- a length in two bytes, and as many bytes
abbrev sized : List ℕ → Vec ℕ → Type 0
sized xs m = (size : List ℕ) × (length size ≡ 2) × (xs ≡ size ++ m.items) × (big_endian size ≡ length m.items)

framed_reads : Reads (framed {P = Left}) sized
framed_reads = record {
  one = λ v m n k w.
      let enough = w.enough in
      let says = length-take-le (length_read v.unread) (drop 2 v.unread) (omega (arith, length-drop 2 v.unread)) in
      let items = take-add 2 (length_read v.unread) v.unread ∙ ap (λ l. take 2 v.unread ++ l) (sym w.items) in
      subst (λ n. (n ≤ length v.unread) × sized (take n v.unread) m) (sym w.count) (enough, (take 2 v.unread, length-take-le 2 v.unread w.two, items, sym (ap length w.items ∙ says)));
}

abbrev made : ℕ × Vec ℕ → Record → Type 0
made t r = r ≡ record { kind = t.0; text = t.1 }

is_record : (input : List ℕ) (r : Record) (behind xs : List ℕ) → changed (two any_one sized) made xs r → input ≡ xs ++ behind → IsRecord input r behind
is_record input r behind xs x e =
    let p = x.1 in
    subst (λ r. IsRecord input r behind) (sym x.2) (record { size = p.4.0; bytes = simp (e, p.2, p.3, p.4.2, append_assoc); two = p.4.1; says = p.4.3 })

pub returns : goal.returns
returns c =
    let record_says = mapped_reads made (two_reads one_less any_reads (reads_by c.frame_is_a_length_and_its_bytes.ensures framed_reads)) in
    parse_reads c.parse.result record_says (λ p e. rw e at c.parse.ensures.results) (λ p. is_record _ p.0 p.1.now)
