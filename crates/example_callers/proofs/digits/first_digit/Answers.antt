use Rattle.std.proofs.Common.{◌≡◌, ◌+◌, ◌++◌, [], ◌∷◌, ap, sym, ◌∙◌}
use Rattle.std.specs.Char.{is_ascii_digit}
use Rattle.combine_facts.proofs.Facts.{mapped_reads, parse_reads, where_reads}
use Rattle.example_callers.proofs.digits.first_digit.Goals as goal

pub returns : goal.returns
returns c =
    let digit = mapped_reads (λ b n. n + 48 ≡ b) (where_reads is_ascii_digit) in
    parse_reads c.parse.result digit (λ p e. rw e at c.parse.ensures.results)
    (λ p xs x i. i ∙ ap (λ ys. ys ++ p.1.now) (x.1.0 ∙ ap (λ b. b ∷ []) (sym x.2)))
