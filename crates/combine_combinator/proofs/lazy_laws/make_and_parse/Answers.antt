use Rattle.combine_combinator.specs.MadeParsers.{made_there}
use Rattle.combine_combinator.proofs.MadeAnswers.{refuses_made, starts_made}
use Rattle.combine_combinator.proofs.lazy_laws.make_and_parse.Goals as goal

pub make_and_run-requires-clause-lawful : goal.make_and_run-requires-clause-lawful
make_and_run-requires-clause-lawful g c = λ n m. c.requires.2 _ n m

pub returns : goal.returns
returns g c =
    let run = c.make_and_run.ensures in
    let lawful = c.requires.2 _ _ (made_there _ _ _ _ _ run.made) in
    record {
      asked = run.asked;
      parser = run.parser;
      made = run.made;
      answers = starts_made g.N.Parser g.Input.StreamOnce g.Input.Error.ParseError.observers g.N.PartialState.Default.is_default run.called run.view run.failures run.is_default (g.met.N.Parser.laws _ lawful);
      refuses = refuses_made g.N.Parser g.Input.StreamOnce g.Input.Error.ParseError.observers g.N.PartialState.Default.is_default run.called run.view run.is_default (g.met.N.Parser.laws _ lawful);
    }
