use Rattle.std.proofs.Common.{ap, ◌∙◌}
use Rattle.combine_repeat.specs.ManyParsers.{many1_of}
use Rattle.feedline_core.proofs.feeding.drive_after.Goals as goal

pub returns : goal.returns
returns g c =
    let word = c.many1.ensures ∙ ap (λ p. many1_of c.args.alloc p) c.satisfy.ensures in
    let delete = rw c.token.ensures at rw word at c.map-delete.ensures in
    rw delete at c.drive_or_set.ensures
