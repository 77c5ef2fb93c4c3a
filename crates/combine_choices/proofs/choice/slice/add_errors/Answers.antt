use Rattle.std.proofs.Common.{◌≤◌, ◌<◌, ◌∙◌, length, arith, rules, refl}
use Rattle.std.proofs.lemmas.List.{drop-set-lt}
use Rattle.std.proofs.lemmas.List.Elements.{All-set}
use Rattle.combine_choices.specs.ListChoice.{chosen_same}
use Rattle.combine_choices.proofs.AlternativeLists.{drop_here, drop_past, same_self, same_set}
use Rattle.combine_choices.proofs.SliceCalls.{adding_all, adding_more, adding_none}
use Rattle.combine_choices.proofs.choice.slice.add_errors.Goals as goal

pub loop-at-init : goal.loop-at-init
loop-at-init g c = record {
  lawful = c.requires;
  same = same_self g.P.Parser.meaning _;
  untried = λ k l. refl;
  adding = adding_none g.Input.Error.ParseError.observers g.P.Parser.meaning _ _;
}

pub loop-at-preserved : goal.loop-at-preserved
loop-at-preserved g c =
    let within : c.loop-at.at < length c.loop-at.alternatives = search (rules, arith) in
    let here = drop_here _ _ _ c.index-alternatives-at.result c.loop-at.invariant.untried within in
    record {
      lawful = All-set g.P.Parser.lawful _ _ _ c.add_error.ensures.lawful c.loop-at.invariant.lawful;
      same = same_set g.P.Parser.meaning _ _ _ c.index-alternatives-at.result _ c.loop-at.invariant.same within c.add_error.ensures.same;
      untried = λ k l. drop-set-lt k c.loop-at.alternatives c.loop-at.at _ (omega arith) ∙ c.loop-at.invariant.untried k (omega arith);
      adding = adding_more g.Input.Error.ParseError.observers g.P.Parser.meaning _ _ _ _ _ _ _ here c.loop-at.invariant.adding c.add_error.ensures.says;
    }

pub returns-clause-same : goal.returns-clause-same
returns-clause-same g c = chosen_same g.Input.Error.ParseError.observers g.Input.Position.Ord.cmp g.P.Parser.meaning _ _ c.loop-at.invariant.same

pub returns-clause-says : goal.returns-clause-says
returns-clause-says g c =
    let past : length c.args.alternatives.now ≤ c.loop-at.at = search (rules, arith) in
    adding_all g.Input.Error.ParseError.observers g.P.Parser.meaning _ _ _ _ (drop_past _ _ past) c.loop-at.invariant.adding
