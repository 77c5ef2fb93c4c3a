use Rattle.combine_base.proofs.Parsers.SameMeanings.{answers_alike}
use Rattle.combine_until.specs.Mute.{mute_alike, mute_means_same}
use Rattle.combine_until.proofs.MutedRefusals.{mute_reasons}
use Rattle.combine_until.proofs.mute.MuteParser.parse_mode.Goals as goal

pub returns-clause-same : goal.returns-clause-same
returns-clause-same g c = mute_means_same _ _ c.parse_mode.ensures.same

pub returns-clause-answers : goal.returns-clause-answers
returns-clause-answers g c = answers_alike _ _ _ (mute_alike _) _ _ c.parse_mode.ensures.answers

pub returns-clause-refuses : goal.returns-clause-refuses
returns-clause-refuses g c = mute_reasons (g.P.Parser.meaning c.args.self.now.part) (g.M.ParseMode.first c.args.mode) c.args.state.now (g.Input.StreamOnce.view c.args.input.now) (g.Input.StreamOnce.view c.parse_mode.new.input) c.parse_mode.ensures.refuses
