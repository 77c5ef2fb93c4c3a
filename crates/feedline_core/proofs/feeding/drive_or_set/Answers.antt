use Rattle.std.proofs.Common.{ap, ◌∙◌}
use Rattle.combine_repeat.specs.ManyParsers.{many1_of}
use Rattle.feedline_core.proofs.feeding.drive_or_set.Goals as goal

pub returns : goal.returns
returns g c =
    let key = c.many1.ensures ∙ ap (λ p. many1_of c.args.alloc p) c.satisfy.ensures in
    let digits = c.many1-2.ensures ∙ ap (λ p. many1_of c.args.alloc p) c.satisfy-2.ensures in
    let set = rw c.token-2.ensures at rw digits at rw c.token.ensures at rw key at c.map-set.ensures in
    rw (rw set at c.or.ensures) at c.drive.ensures
