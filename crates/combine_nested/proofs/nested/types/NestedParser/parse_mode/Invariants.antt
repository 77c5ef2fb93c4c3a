use Rattle.std.proofs.Common.{◌≡◌}
use Rattle.combine_base.specs.Stream.Calls.{Passes}
use Rattle.combine_nested.specs.Asks.{asked_by_some}
use Rattle.combine_nested.specs.NestedSteps.{step_asker, depth_part, root_part}
use Rattle.combine_nested.proofs.EachStep.{leads_to, steps_left_over}
use Rattle.combine_nested.proofs.nested.types.NestedParser.parse_mode.Given as goal

abbrev pub invariant-steps : goal.invariant-steps
invariant-steps g l =
    let some = asked_by_some g.S.RefFunction.callable g.S.RefFunction.returns g.N.Parser.lawful in
    record {
      self : l.self ≡ l.fn.self;
      passes : Passes (g.Input.StreamOnce.marks l.fn.input) (g.Input.StreamOnce.marks l.input) (g.Input.StreamOnce.failures l.fn.input) (g.Input.StreamOnce.failures l.input);
      leads : leads_to g.N.Parser g.Input.StreamOnce g.Input.Error.ParseError.observers g.N.PartialState.Default.is_default (depth_part l.fn.self)
          (g.R.Maker.returns (root_part l.fn.self)) (g.S.RefFunction.returns (step_asker l.fn.self)) g.F.Frame.takes g.F.Frame.joins some
          (g.M.ParseMode.first l.fn.mode) l.fn.state l.state (g.Input.StreamOnce.view l.fn.input) (g.Input.StreamOnce.view l.input) (g.Input.StreamOnce.failures l.fn.input) (g.Input.StreamOnce.failures l.input) l.next;
    }

abbrev pub decreases-steps : goal.decreases-steps
decreases-steps g l = steps_left_over g.N.Parser g.Input.StreamOnce g.Input.Error.ParseError.observers g.N.PartialState.Default.is_default (depth_part l.fn.self) g.F.Frame.takes g.F.Frame.joins (g.Input.StreamOnce.view l.input) l.next
