use Rattle.combine_combinator.specs.MadeParsers.{made_there}
use Rattle.combine_combinator.proofs.lazy.made.make_and_run.Goals as goal

pub run_made-requires-clause-ready : goal.run_made-requires-clause-ready
run_made-requires-clause-ready g c = record { lawful = c.requires.lawful _ (made_there _ _ _ _ _ c.call_mut-parser.ensures); valid = g.met.N.Parser.default_valid _ c.default.ensures }

pub returns : goal.returns
returns g c =
    let made = c.call_mut-parser.ensures in
    let kept = c.requires.in_place.kept _ _ _ made in
    record {
      asked = c.call_mut-parser.new.last;
      parser = c.call_mut-parser.result;
      begins = c.default.result;
      made = made;
      view = kept.0;
      passes = kept.1;
      failures = kept.2;
      is_default = c.default.ensures;
      called = c.run_made.ensures;
    }
