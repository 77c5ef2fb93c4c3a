use Rattle.std.proofs.Common.{◌+◌, ◌-◌, length, length-drop, arith, refl}
use Rattle.combine_base.proofs.Streams.Distances.{takes_counted}
use Rattle.combine_base.proofs.stream.fed.StreamStreamOnce.advance_by.Goals as goal

pub returns-clause-over : goal.returns-clause-over
returns-clause-over g c =
    let s = c.args.self.now in
    let place = length s.tokens.items - s.held + s.at in
    let l = length-drop place s.tokens.items in
    let last = s.last in
    let within = s.within in
    record { is = (takes_counted (s.dropped + s.at) place c.args.count (s.dropped + (s.at + c.args.count)) (length s.tokens.items - s.held + (s.at + c.args.count)) s.tokens.items s.is_open (omega arith) (omega arith) (omega arith), λ _. refl) }
