use Rattle.std.proofs.Common.{refl, arith, rules}
use Rattle.combine_base.specs.Parser.KeptParsers.{KeptOf}
use Rattle.combine_base.specs.Sequence.Parts.{valid_from}
use Rattle.combine_base.proofs.Parsers.SameMeanings.{passes_none, passes_more}
use Rattle.combine_nested.specs.Asks.{asked_by_some}
use Rattle.combine_nested.specs.NestedSteps.{step_asker, depth_part, root_part, steps_start_valid, nesting_is_meaning}
use Rattle.combine_nested.specs.declared.nested.steps.NestedState.TheVariants as states
use Rattle.combine_nested.proofs.EachStep.{asked_step_kept, reaches_first_step, runs_first_step, runs_next_step, step_leads, steps_fall}
use Rattle.combine_nested.proofs.nested.types.NestedParser.parse_mode.Goals as goal
use Rattle.combine_nested.proofs.nested.types.NestedParser.parse_mode.Goals.{in-Running, in-Start}

pub run_step-next-requires-clause-ready : goal.run_step-next-requires-clause-ready
run_step-next-requires-clause-ready g c =
    let some = asked_by_some g.S.RefFunction.callable g.S.RefFunction.returns g.N.Parser.lawful in
    let v = valid_from (steps_start_valid (KeptOf g.N.Parser.lawful g.N.Parser.meaning some) g.N.Parser.valid) c.in-Running.ensures.from c.requires.valid in
    record { lawful = v.0.is_lawful; valid = v.1 }

pub steps-init : goal.steps-init
steps-init g c =
    let p = g.N.Parser in
    let i = g.Input.StreamOnce in
    let observers = g.Input.Error.ParseError.observers in
    let fresh = g.N.PartialState.Default.is_default in
    let depth = depth_part c.args.self.now in
    let roots = g.R.Maker.returns (root_part c.args.self.now) in
    let answers = g.S.RefFunction.returns (step_asker c.args.self.now) in
    let some = asked_by_some g.S.RefFunction.callable g.S.RefFunction.returns p.lawful in
    let laws = nesting_is_meaning i.step depth roots answers g.F.Frame.takes g.F.Frame.joins some p.meaning p.lawful g.met.N.Parser.laws c.requires.lawful.2 observers in
    elim c.match-take_state.branch [
      | in-Running w ↦
          let from = w.in-Running.ensures.from in
          let v = valid_from (steps_start_valid (KeptOf p.lawful p.meaning some) p.valid) from c.requires.valid in
          let runs = runs_first_step p i observers fresh depth roots answers g.F.Frame.takes g.F.Frame.joins some w.in-Running.step (i.view c.args.input.now) (i.failures c.args.input.now) v.0 in
          let leads = step_leads p i observers fresh depth roots answers g.F.Frame.takes g.F.Frame.joins some (omega arith) (omega arith) laws (g.met.N.Parser.laws _ v.0.is_lawful) v.1 from runs w.run_step-next.ensures in
          rw (w.input-is, w.state-is, w.next-is) (record { self = refl; passes = w.run_step-next.ensures.passes; leads = leads })
      | in-Start w ↦
          rw (w.input-is, w.state-is, w.next-is) (record { self = refl; passes = passes_none _ _; leads = (c.take_state.ensures.left, record { z = states.Start; from = w.in-Start.ensures.from; reaches = reaches_first_step p i observers fresh depth roots answers g.F.Frame.takes g.F.Frame.joins some (record { top = w.make-top.result; outer = w.new-outer.result }) _ _ w.make-top.ensures (search rules) }) })
    ]

pub steps-smaller : goal.steps-smaller
steps-smaller g c = rw c.in-Goes.is (steps_fall g.N.Parser g.Input.StreamOnce g.Input.Error.ParseError.observers g.N.PartialState.Default.is_default _ g.F.Frame.takes g.F.Frame.joins refl c.run_step-next-in-steps.ensures)

pub steps-preserved : goal.steps-preserved
steps-preserved g c =
    let p = g.N.Parser in
    let i = g.Input.StreamOnce in
    let observers = g.Input.Error.ParseError.observers in
    let fresh = g.N.PartialState.Default.is_default in
    let depth = depth_part c.args.self.now in
    let roots = g.R.Maker.returns (root_part c.args.self.now) in
    let answers = g.S.RefFunction.returns (step_asker c.args.self.now) in
    let some = asked_by_some g.S.RefFunction.callable g.S.RefFunction.returns p.lawful in
    let laws = nesting_is_meaning i.step depth roots answers g.F.Frame.takes g.F.Frame.joins some p.meaning p.lawful g.met.N.Parser.laws c.requires.lawful.2 observers in
    let inv = c.steps.invariant in
    let loops = (rw c.in-Goes.is at inv.leads).1 in
    let met = rw inv.self at c.call_ref.ensures in
    let kept = asked_step_kept p g.S.RefFunction.callable g.S.RefFunction.returns (step_asker c.args.self.now) c.requires.lawful.1 c.requires.lawful.2 met in
    let part = g.met.N.Parser.laws _ kept.is_lawful in
    let runs = runs_next_step p i observers fresh depth roots answers g.F.Frame.takes g.F.Frame.joins some _ _ _ _ _ _ _ loops.reaches _ met kept _ c.default.ensures part in
    let leads = step_leads p i observers fresh depth roots answers g.F.Frame.takes g.F.Frame.joins some inv.passes.reads inv.passes.resets laws part (g.met.N.Parser.default_valid _ c.default.ensures) loops.from runs (rw inv.self at c.run_step-next-in-steps.ensures) in
    record { self = inv.self; passes = passes_more inv.passes c.run_step-next-in-steps.ensures.passes; leads = leads }

pub run_step-next-requires-in-steps-clause-ready : goal.run_step-next-requires-in-steps-clause-ready
run_step-next-requires-in-steps-clause-ready g c =
    let l = c.requires.lawful.2 _ _ (rw c.steps.invariant.self at c.call_ref.ensures) in
    record { lawful = l; valid = g.met.N.Parser.default_valid _ c.default.ensures }
