use Rattle.std.proofs.Common.{ap}
use Rattle.combine_base.specs.Error.Errors.{Only}
use Rattle.combine_base.specs.Error.Items.{Unexpected as SaysUnexpected, shown}
use Rattle.combine_base.specs.declared.error.tracked.Tracked.{Tracked}
use Rattle.combine_error.specs.Unexpected.{unexpected_info}
use Rattle.combine_error.proofs.UnexpectedRefusals.{refused_says}
use Rattle.combine_error.proofs.unexpected.types.UnexpectedInfoTokenRangeParser.parse_mode.Goals as goal

pub returns-clause-refuses : goal.returns-clause-refuses
returns-clause-refuses g c = refused_says g.Input.Error.ParseError.observers (Only (SaysUnexpected (shown (unexpected_info c.args.self.now)))) _ _ _ _ _ _ c.position.ensures c.new_error.ensures (ap (λ (t : Tracked _). t.error) c.from.ensures)
