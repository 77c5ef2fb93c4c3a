use Rattle.combine_separated.proofs.EscapedBlocks.{choices_are_blocks}
use Rattle.combine_separated.proofs.chains.laws.escaped_is_blocks.Goals as goal

pub returns : goal.returns
returns g c v o = choices_are_blocks g.Input.StreamOnce.step (λ t. g.Input.Token.PartialEq.eq t c.args.escape) (g.P.Parser.meaning c.args.parser.now).whole (g.Q.Parser.meaning c.args.escaped.now).whole v o
