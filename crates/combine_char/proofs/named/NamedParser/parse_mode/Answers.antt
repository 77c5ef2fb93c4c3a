use Rattle.combine_base.proofs.Parsers.SameMeanings.{answers_alike}
use Rattle.combine_char.specs.NamedParser.{named_alike, named_means_same}
use Rattle.combine_char.proofs.ValueChanges.{named_reasons}
use Rattle.combine_char.proofs.named.NamedParser.parse_mode.Goals as goal

pub returns-clause-same : goal.returns-clause-same
returns-clause-same g c = named_means_same _ _ _ c.parse_mode.ensures.same

pub returns-clause-answers : goal.returns-clause-answers
returns-clause-answers g c = answers_alike _ _ _ (named_alike _ _) _ _ c.parse_mode.ensures.answers

pub returns-clause-refuses : goal.returns-clause-refuses
returns-clause-refuses g c = named_reasons g.Input.Error.ParseError.observers g.N.Text.bytes (g.P.Parser.meaning c.args.self.now.parser) (g.M.ParseMode.first c.args.mode) c.args.state.now _ _ _ c.parse_mode.ensures.refuses
