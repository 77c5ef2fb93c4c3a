use Rattle.combine_function.specs.Changes.{changed_means_same, spares}
use Rattle.combine_function.specs.ChangeParsers.{change_part}
use Rattle.combine_function.proofs.Changes.{gives_same}
use Rattle.combine_function.proofs.combinator.changed.ChangedParser.add_error.Goals as goal

pub returns-clause-same : goal.returns-clause-same
returns-clause-same g c =
    let k = change_part c.args.self.now in
    let same = c.add_error.ensures.same in
    changed_means_same g.Input.StreamOnce.step (g.C.ValueChange.gives k) (g.C.ValueChange.denies k) (g.C.ValueChange.says k) (gives_same g.P.Parser.valid (spares (g.C.ValueChange.starves k)) _ _ same) same
