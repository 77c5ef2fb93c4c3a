use Rattle.combine_base.proofs.Parsers.SameMeanings.{same_none}
use Rattle.std.proofs.Common.{◌≡◌, None}
use Rattle.std.specs.Str.{chars}
use Rattle.combine_base.specs.Error.Errors.{Only}
use Rattle.combine_base.specs.Error.Items.{Expected, Fixed}
use Rattle.combine_token.specs.Token.Lists.KnownLists.{listed_tokens}
use Rattle.combine_token.specs.Token.TokenParsers.{matched_before}
use Rattle.combine_token.proofs.Lists.ListReasons.{list_reasons}
use Rattle.combine_token.proofs.Lists.GivenItems.{list_within_same}
use Rattle.combine_char.proofs.SpelledLists.{spelled_answers}
use Rattle.combine_char.proofs.text.TextParserParser.parse_mode.Goals as goal

pub returns-clause-same : goal.returns-clause-same
returns-clause-same g c = same_none _

pub returns-clause-answers : goal.returns-clause-answers
returns-clause-answers g c = spelled_answers _ _ _ _ _ (list_within_same _) (list_within_same _) _ _ _ tt _ _ _ _ c.match_text.ensures.answers

pub returns-clause-refuses : goal.returns-clause-refuses
returns-clause-refuses g c = list_reasons g.Input.Error.ParseError.observers (listed_tokens (g.F.Compare.returns c.args.self.now.fits) (chars c.args.self.now.text.now)) None (λ v. v ≡ c.args.self.now.text) matched_before (Unit {0}) (Only (Expected (Fixed c.args.self.now.text.now))) (g.M.ParseMode.first c.args.mode) c.args.state.now _ _ _ c.match_text.ensures.refuses
