use Rattle.combine_char.specs.Restart.{is_second, whole_pair_means_same}
use Rattle.combine_char.proofs.ValueChanges.{mapped_answer, pair_reasons}
use Rattle.combine_char.proofs.pair.WholePairParser.parse_mode.Goals as goal

pub returns-clause-same : goal.returns-clause-same
returns-clause-same g c = whole_pair_means_same _ _ c.begin_again.ensures.same

pub returns-clause-answers : goal.returns-clause-answers
returns-clause-answers g c = mapped_answer _ _ is_second _ _ (λ a b p. p) _ _ c.map.ensures (c.begin_again.ensures.answers.answers _ _ _ tt)

pub returns-clause-refuses : goal.returns-clause-refuses
returns-clause-refuses g c = pair_reasons g.Input.Error.ParseError.observers (g.P.Parser.meaning c.args.self.now.0) (g.M.ParseMode.first c.args.mode) c.args.state.now _ _ _ _ _ c.map.ensures c.begin_again.ensures.refuses
