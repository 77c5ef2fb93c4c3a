use Rattle.std.proofs.Common.{ℕ, Bool, ◌≡◌, List, [], ◌++◌, ◌∷◌, arith, append_assoc, ap, sym, subst, length, length-append, nat_eq, not, vec_items}
use Rattle.std.specs.Char.{is_ascii_lowercase}
use Rattle.std.specs.Global.{Vec}
use Rattle.combine_base.specs.Stream.Fed.{one_more}
use Rattle.combine_facts.proofs.Facts.{all_where, between_reads, byte_reads, changed, mapped_reads, middle_of, none_or_more, one_or_more, pieces_read, this_one, three, three_reads, vec_where_reads}
use Rattle.example_callers.specs.Attributes.{IsAttribute}
use Rattle.example_callers.specs.declared.attributes.Attribute.{Attribute}
use Rattle.example_callers.proofs.attributes.read_attribute.Goals as goal

abbrev inside : ℕ → Bool
inside b = not (nat_eq b 34)

abbrev quoted : List ℕ → Vec ℕ → Type 0
quoted = middle_of (this_one 34) (all_where none_or_more vec_items inside) (this_one 34)

abbrev made : Vec ℕ × ℕ × Vec ℕ → Attribute → Type 0
made t a = a ≡ record { name = t.0; value = t.2 }

is_attribute : (input : List ℕ) (a : Attribute) (n : ℕ) (xs behind : List ℕ) → changed (three (all_where one_or_more vec_items is_ascii_lowercase) (this_one 61) quoted) made xs a → input ≡ xs ++ behind → length xs ≡ n → IsAttribute input a n
is_attribute input a n xs behind x e l =
    let p = x.1 in
    let q = p.6.2 in
    let all : xs ≡ x.0.0.items ++ (61 ∷ []) ++ ((34 ∷ []) ++ x.0.2.items ++ (34 ∷ [])) = simp (p.3, p.4.0, p.5.0, q.3, q.4.0, q.5.0, q.6.0) in
    subst (λ a. IsAttribute input a n) (sym x.2) (record {
      behind = behind;
      bytes = simp (e, all, append_assoc);
      name = p.4.1;
      some = p.4.2;
      value = q.5.1;
      count = omega (arith, simp length-append at (ap length all));
    })

pub returns : goal.returns
returns c =
    let name = vec_where_reads one_more one_or_more is_ascii_lowercase in
    let value = vec_where_reads one_more none_or_more inside in
    let attribute = mapped_reads made (three_reads one_more name (byte_reads 61) (between_reads one_more (byte_reads 34) value (byte_reads 34))) in
    let results = rw (c.map-attribute.ensures, c.between-value.ensures, c.token.ensures, c.token-2.ensures, c.token-3.ensures) at c.parse_pieces.ensures in
    pieces_read attribute results (is_attribute _)
