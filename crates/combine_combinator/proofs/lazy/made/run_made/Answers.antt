use Rattle.std.proofs.Common.{inl, inr, sym, ◌∙◌}
use Rattle.std.proofs.lemmas.Bool.{false≢true}
use Rattle.combine_base.proofs.Errors.MeantRefusals.{reasoned_at_rest}
use Rattle.combine_base.proofs.Parsers.CallStarts.{at_rest}
use Rattle.combine_combinator.proofs.lazy.made.run_made.Goals as goal
use Rattle.combine_combinator.proofs.lazy.made.run_made.Goals.{then-asks_for_more, else-asks_for_more}

pub returns : goal.returns
returns g c =
    let call = c.parse_mode-answer.ensures in
    let laws = g.met.N.Parser.laws c.args.from.parser c.requires.ready.lawful in
    record {
      parser = c.parse_mode-answer.new.self;
      stopped = c.parse_mode-answer.new.state;
      lawful = call.lawful;
      same = call.same;
      passes = call.passes;
      answers = at_rest _ _ _ laws _ c.requires.starts _ call.answers;
      refuses = reasoned_at_rest laws g.Input.Error.ParseError.observers c.requires.starts call.refuses;
      leaves = elim c.if-asks_for_more.branch [
        | then-asks_for_more w ↦ inl (c.asks_for_more.ensures.0 w.if-asks_for_more.true, w.state-is, call.valid)
        | else-asks_for_more w ↦ inr (λ q. false≢true (sym w.if-asks_for_more.false ∙ c.asks_for_more.ensures.1 q), w.state-is ∙ c.requires.fresh)
      ];
    }
