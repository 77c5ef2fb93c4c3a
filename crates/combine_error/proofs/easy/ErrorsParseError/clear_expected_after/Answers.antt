use Rattle.std.proofs.Common.{Some, ◌∙◌, ap, map, sym, arith}
use Rattle.combine_error.specs.Easy.{said}
use Rattle.combine_error.proofs.ClearedItems.{cleared_all, cleared_said}
use Rattle.combine_error.proofs.easy.ErrorsParseError.clear_expected_after.Goals as goal

pub returns : goal.returns
returns g c =
    let i = c.items.invariant in
    let old = c.args.self.now.errors.items in
    let all = cleared_all c.items.at c.items.self.errors.items (let e = c.len.ensures in let f = c.items-test.false in omega arith) in
    record { kind = i.1; position = ap Some i.2; items = ap (map said) (sym all ∙ i.0) ∙ cleared_said c.args.kept old }
