use Rattle.std.proofs.Common.{refl, arith}
use Rattle.combine_base.proofs.Errors.CallReasons.{reasons_accepted, reasons_fault}
use Rattle.combine_base.proofs.Errors.MeantRefusals.{reasoned_in_mode}
use Rattle.combine_base.specs.declared.stream.Kind.TheVariants as kinds
use Rattle.combine_base.proofs.Parsers.SameMeanings.{passes_none, passes_more}
use Rattle.combine_base.proofs.Parsers.CallStarts.{in_mode}
use Rattle.combine_repeat.specs.ItemParsers.{iterated_is_meaning, items_start_valid}
use Rattle.combine_base.specs.Parser.KeptParsers.{KeptOf}
use Rattle.combine_base.specs.Sequence.Parts.{valid_from}
use Rattle.combine_repeat.specs.ListedItems.{AskedFor, GivesItems, ListsItems, any_of, item_asker, gives_callable, gives_none, gives_one, gives_some, items_part}
use Rattle.combine_repeat.specs.declared.iterate.items.IterateState.TheVariants as states
use Rattle.combine_repeat.proofs.EachItem.{asked_item_kept, item_goes, item_leaves, item_passes, item_reasons, item_stops, items_end, no_clone, reaches_first_item, runs_first_item, runs_next_item}
use Rattle.combine_repeat.proofs.iterate.types.IterateParser.parse_mode.Goals as goal
use Rattle.combine_repeat.proofs.iterate.types.IterateParser.parse_mode.Goals.{in-Running+in-Goes, in-Start+in-Ok}

pub resume_item-requires-clause-ready : goal.resume_item-requires-clause-ready
resume_item-requires-clause-ready g c =
    let iterator = g.J.IntoIter.Iterator in
    let some = any_of g.Input.StreamOnce g.F.MutFunction g.N.Parser.lawful in
    let at = GivesItems iterator.can_next iterator.remaining iterator.next_gives in
    let v = valid_from (items_start_valid (KeptOf g.N.Parser.lawful g.N.Parser.meaning some) g.N.Parser.valid at) c.in-Running.ensures.from c.requires.valid in
    record { lawful = v.0.is_lawful; valid = v.1 }

pub returns-in-Stops-clause-valid : goal.returns-in-Stops-clause-valid
returns-in-Stops-clause-valid g c =
    let iterator = g.J.IntoIter.Iterator in
    let some = any_of g.Input.StreamOnce g.F.MutFunction g.N.Parser.lawful in
    let at = GivesItems iterator.can_next iterator.remaining iterator.next_gives in
    let v = valid_from (items_start_valid (KeptOf g.N.Parser.lawful g.N.Parser.meaning some) g.N.Parser.valid at) c.in-Running.ensures.from c.requires.valid in
    item_leaves g.N.Parser g.Input.StreamOnce g.Input.Error.ParseError.observers g.N.PartialState.Default.is_default some g.C.Append.held g.C.Append.more g.C.Append.heapless at v.0 v.2 c.resume_item.ensures

pub returns-in-Stops-clause-answers : goal.returns-in-Stops-clause-answers
returns-in-Stops-clause-answers g c =
    let iterator = g.J.IntoIter.Iterator in
    let answers = AskedFor (g.F.MutFunction.returns (item_asker c.args.self.now)) in
    let some = any_of g.Input.StreamOnce g.F.MutFunction g.N.Parser.lawful in
    let at = GivesItems iterator.can_next iterator.remaining iterator.next_gives in
    let lists = ListsItems iterator.can_next iterator.remaining iterator.next_gives g.J.Clone.is_clone g.J.IntoIterator.into_iter_gives (items_part c.args.self.now) in
    let heapless = g.C.Append.heapless in
    let spared = heapless × g.J.Clone.is_infallible (items_part c.args.self.now) in
    let fresh = g.N.PartialState.Default.is_default in
    let observers = g.Input.Error.ParseError.observers in
    let laws = iterated_is_meaning g.Input.StreamOnce.step observers answers some g.N.Parser.meaning g.C.Append.held g.C.Append.none g.C.Append.more at lists spared g.N.Parser.lawful g.met.N.Parser.laws c.requires.lawful.2 in
    let from = c.in-Running.ensures.from in
    let v = valid_from (items_start_valid (KeptOf g.N.Parser.lawful g.N.Parser.meaning some) g.N.Parser.valid at) from c.requires.valid in
    let runs = runs_first_item g.N.Parser g.Input.StreamOnce observers fresh answers some g.C.Append.held g.C.Append.none g.C.Append.more at lists heapless spared _ v.2.0 _ _ v.0 v.2.1 in
    let call = item_stops g.N.Parser g.Input.StreamOnce observers fresh answers some g.C.Append.held g.C.Append.none g.C.Append.more at lists heapless spared (gives_one iterator.can_next iterator.remaining iterator.next_gives) _ _ _ _ _ _ _ (omega arith) (omega arith) runs (λ x. x.0) _ c.in-Stops.ensures in
    in_mode _ _ _ laws _ _ _ _ from _ _ _ _ _ call

pub returns-in-Stops-clause-refuses : goal.returns-in-Stops-clause-refuses
returns-in-Stops-clause-refuses g c =
    let iterator = g.J.IntoIter.Iterator in
    let answers = AskedFor (g.F.MutFunction.returns (item_asker c.args.self.now)) in
    let some = any_of g.Input.StreamOnce g.F.MutFunction g.N.Parser.lawful in
    let at = GivesItems iterator.can_next iterator.remaining iterator.next_gives in
    let lists = ListsItems iterator.can_next iterator.remaining iterator.next_gives g.J.Clone.is_clone g.J.IntoIterator.into_iter_gives (items_part c.args.self.now) in
    let heapless = g.C.Append.heapless in
    let spared = heapless × g.J.Clone.is_infallible (items_part c.args.self.now) in
    let fresh = g.N.PartialState.Default.is_default in
    let observers = g.Input.Error.ParseError.observers in
    let from = c.in-Running.ensures.from in
    let v = valid_from (items_start_valid (KeptOf g.N.Parser.lawful g.N.Parser.meaning some) g.N.Parser.valid at) from c.requires.valid in
    let runs = runs_first_item g.N.Parser g.Input.StreamOnce observers fresh answers some g.C.Append.held g.C.Append.none g.C.Append.more at lists heapless spared _ v.2.0 _ _ v.0 v.2.1 in
    let call = item_reasons g.N.Parser g.Input.StreamOnce observers fresh answers some g.C.Append.held g.C.Append.none g.C.Append.more at lists heapless spared (gives_one iterator.can_next iterator.remaining iterator.next_gives) _ _ _ _ _ _ _ (omega arith) (omega arith) runs _ c.in-Stops.ensures in
    let laws = iterated_is_meaning g.Input.StreamOnce.step observers answers some g.N.Parser.meaning g.C.Append.held g.C.Append.none g.C.Append.more at lists spared g.N.Parser.lawful g.met.N.Parser.laws c.requires.lawful.2 in
    reasoned_in_mode laws observers from call

pub returns-in-Err-clause-refuses : goal.returns-in-Err-clause-refuses
returns-in-Err-clause-refuses g c = reasons_fault _ _ _ _ kinds.Memory c.new_error-error.ensures.kind tt

pub returns-in-Err-clause-answers : goal.returns-in-Err-clause-answers
returns-in-Err-clause-answers g c =
    let iterator = g.J.IntoIter.Iterator in
    let answers = AskedFor (g.F.MutFunction.returns (item_asker c.args.self.now)) in
    let some = any_of g.Input.StreamOnce g.F.MutFunction g.N.Parser.lawful in
    let at = GivesItems iterator.can_next iterator.remaining iterator.next_gives in
    let lists = ListsItems iterator.can_next iterator.remaining iterator.next_gives g.J.Clone.is_clone g.J.IntoIterator.into_iter_gives (items_part c.args.self.now) in
    let heapless = g.C.Append.heapless in
    let spared = heapless × g.J.Clone.is_infallible (items_part c.args.self.now) in
    let fresh = g.N.PartialState.Default.is_default in
    let observers = g.Input.Error.ParseError.observers in
    let laws = iterated_is_meaning g.Input.StreamOnce.step observers answers some g.N.Parser.meaning g.C.Append.held g.C.Append.none g.C.Append.more at lists spared g.N.Parser.lawful g.met.N.Parser.laws c.requires.lawful.2 in
    in_mode _ _ _ laws _ _ _ _ c.in-Start.ensures.from _ _ _ _ _ (no_clone g.N.Parser g.Input.StreamOnce observers fresh answers some g.C.Append.held g.C.Append.none g.C.Append.more at lists heapless spared states.Start _ _ _ c.take_state.ensures.left _ c.new_error-error.ensures.kind (λ x. c.in-Err.ensures.cases x.1))

pub items-init : goal.items-init
items-init g c =
    let iterator = g.J.IntoIter.Iterator in
    let answers = AskedFor (g.F.MutFunction.returns (item_asker c.args.self.now)) in
    let some = any_of g.Input.StreamOnce g.F.MutFunction g.N.Parser.lawful in
    let at = GivesItems iterator.can_next iterator.remaining iterator.next_gives in
    let lists = ListsItems iterator.can_next iterator.remaining iterator.next_gives g.J.Clone.is_clone g.J.IntoIterator.into_iter_gives (items_part c.args.self.now) in
    let heapless = g.C.Append.heapless in
    let spared = heapless × g.J.Clone.is_infallible (items_part c.args.self.now) in
    let fresh = g.N.PartialState.Default.is_default in
    let observers = g.Input.Error.ParseError.observers in
    elim c.match-take_state.branch [
      | in-Running+in-Goes w ↦
          let from = w.in-Running.ensures.from in
          let v = valid_from (items_start_valid (KeptOf g.N.Parser.lawful g.N.Parser.meaning some) g.N.Parser.valid at) from c.requires.valid in
          let runs = runs_first_item g.N.Parser g.Input.StreamOnce observers fresh answers some g.C.Append.held g.C.Append.none g.C.Append.more at lists heapless spared _ v.2.0 _ _ v.0 v.2.1 in
          let goes = item_goes g.N.Parser g.Input.StreamOnce observers fresh answers some g.C.Append.held g.C.Append.none g.C.Append.more at lists heapless spared (gives_one iterator.can_next iterator.remaining iterator.next_gives) _ _ _ _ _ _ _ (omega arith) (omega arith) runs (g.met.N.Parser.laws _ v.0.is_lawful) v.1 _ w.in-Goes.ensures in
          rw (w.input-is, w.state-is, w.collected-is) (record { self = refl; cleared = goes.0; passes = w.resume_item.ensures.passes; loops = record { z = _; from = from; reaches = goes.1 } })
      | in-Start+in-Ok w ↦
          let listed = c.requires.lawful.3 in
          let made = w.none_yet-collected.ensures in
          rw (w.input-is, w.state-is, w.collected-is) (record { self = refl; cleared = c.take_state.ensures.left; passes = passes_none _ _; loops = record { z = states.Start; from = w.in-Start.ensures.from; reaches = rw made (reaches_first_item g.N.Parser g.Input.StreamOnce observers fresh answers some g.C.Append.held g.C.Append.none g.C.Append.more at lists heapless spared _ listed.0 _ _ refl refl w.empty.ensures listed.1 (listed.1.each _ _ w.in-Ok.ensures.cases w.into_iter.ensures.into_iter_gives)) } })
    ]

pub next-requires : goal.next-requires
next-requires g c = let r = c.items.invariant.loops.reaches in (gives_callable _ _ _ _ _ r.given).can

pub parse_item-requires-clause-ready : goal.parse_item-requires-clause-ready
parse_item-requires-clause-ready g c =
    let l = c.requires.lawful.2 _ _ (record { input = _; left = _; met = rw c.items.invariant.self at c.call_mut.ensures }) in
    record { lawful = l; valid = g.met.N.Parser.default_valid _ c.default.ensures }

pub parse_item-requires-clause-fresh : goal.parse_item-requires-clause-fresh
parse_item-requires-clause-fresh g c = c.items.invariant.cleared

pub returns-in_default-clause-valid : goal.returns-in_default-clause-valid
returns-in_default-clause-valid g c = items_start_valid _ _ _ _ c.items.invariant.cleared

pub returns-in_default-clause-passes : goal.returns-in_default-clause-passes
returns-in_default-clause-passes g c = c.items.invariant.passes

pub returns-in_default-clause-answers : goal.returns-in_default-clause-answers
returns-in_default-clause-answers g c =
    let iterator = g.J.IntoIter.Iterator in
    let answers = AskedFor (g.F.MutFunction.returns (item_asker c.args.self.now)) in
    let some = any_of g.Input.StreamOnce g.F.MutFunction g.N.Parser.lawful in
    let at = GivesItems iterator.can_next iterator.remaining iterator.next_gives in
    let lists = ListsItems iterator.can_next iterator.remaining iterator.next_gives g.J.Clone.is_clone g.J.IntoIterator.into_iter_gives (items_part c.args.self.now) in
    let heapless = g.C.Append.heapless in
    let spared = heapless × g.J.Clone.is_infallible (items_part c.args.self.now) in
    let fresh = g.N.PartialState.Default.is_default in
    let observers = g.Input.Error.ParseError.observers in
    let laws = iterated_is_meaning g.Input.StreamOnce.step observers answers some g.N.Parser.meaning g.C.Append.held g.C.Append.none g.C.Append.more at lists spared g.N.Parser.lawful g.met.N.Parser.laws c.requires.lawful.2 in
    let loops = c.items.invariant.loops in
    let none = gives_none _ _ _ _ _ _ loops.reaches.given c.in_default.ensures.steps in
    let call = items_end g.N.Parser g.Input.StreamOnce observers fresh answers some g.C.Append.held g.C.Append.none g.C.Append.more at lists heapless spared _ c.items.state _ _ _ _ c.items.collected loops.reaches none c.items.invariant.cleared in
    rw c.accepted_after.ensures (in_mode _ _ _ laws _ _ _ _ loops.from _ _ _ _ _ call)

pub returns-in_default-clause-refuses : goal.returns-in_default-clause-refuses
returns-in_default-clause-refuses g c = reasons_accepted _ _ _ _ _ _ c.accepted_after.ensures

pub returns-in-Stops-parse_item-clause-valid : goal.returns-in-Stops-parse_item-clause-valid
returns-in-Stops-parse_item-clause-valid g c =
    let iterator = g.J.IntoIter.Iterator in
    let answers = AskedFor (g.F.MutFunction.returns (item_asker c.args.self.now)) in
    let some = any_of g.Input.StreamOnce g.F.MutFunction g.N.Parser.lawful in
    let at = GivesItems iterator.can_next iterator.remaining iterator.next_gives in
    let lists = ListsItems iterator.can_next iterator.remaining iterator.next_gives g.J.Clone.is_clone g.J.IntoIterator.into_iter_gives (items_part c.args.self.now) in
    let heapless = g.C.Append.heapless in
    let spared = heapless × g.J.Clone.is_infallible (items_part c.args.self.now) in
    let fresh = g.N.PartialState.Default.is_default in
    let observers = g.Input.Error.ParseError.observers in
    let inv = c.items.invariant in
    let r = inv.loops.reaches in
    let left = gives_some _ _ _ _ _ _ _ r.given c.in-Some.ensures.steps in
    let met : answers c.in-Some.item c.call_mut.result = record { input = _; left = _; met = rw inv.self at c.call_mut.ensures } in
    let lawful = c.requires.lawful.2 _ _ met in
    let kept = asked_item_kept g.N.Parser.meaning _ lawful (record { asked = item_asker c.args.self.now; is_fit = (c.requires.lawful.0, c.requires.lawful.1); all = c.requires.lawful.2; item = c.in-Some.item; answered = met }) in
    item_leaves g.N.Parser g.Input.StreamOnce observers fresh some g.C.Append.held g.C.Append.more heapless at kept (left.0, left.2) c.parse_item.ensures

pub returns-in-Stops-parse_item-clause-passes : goal.returns-in-Stops-parse_item-clause-passes
returns-in-Stops-parse_item-clause-passes g c =
    let inv = c.items.invariant in
    let stays = c.requires.lawful.1.kept _ _ _ _ (rw inv.self at c.call_mut.ensures) in
    passes_more inv.passes (passes_more stays.1 c.parse_item.ensures.passes)

pub returns-in-Stops-parse_item-clause-answers : goal.returns-in-Stops-parse_item-clause-answers
returns-in-Stops-parse_item-clause-answers g c =
    let iterator = g.J.IntoIter.Iterator in
    let answers = AskedFor (g.F.MutFunction.returns (item_asker c.args.self.now)) in
    let some = any_of g.Input.StreamOnce g.F.MutFunction g.N.Parser.lawful in
    let at = GivesItems iterator.can_next iterator.remaining iterator.next_gives in
    let lists = ListsItems iterator.can_next iterator.remaining iterator.next_gives g.J.Clone.is_clone g.J.IntoIterator.into_iter_gives (items_part c.args.self.now) in
    let heapless = g.C.Append.heapless in
    let spared = heapless × g.J.Clone.is_infallible (items_part c.args.self.now) in
    let fresh = g.N.PartialState.Default.is_default in
    let observers = g.Input.Error.ParseError.observers in
    let laws = iterated_is_meaning g.Input.StreamOnce.step observers answers some g.N.Parser.meaning g.C.Append.held g.C.Append.none g.C.Append.more at lists spared g.N.Parser.lawful g.met.N.Parser.laws c.requires.lawful.2 in
    let inv = c.items.invariant in
    let r = inv.loops.reaches in
    let left = gives_some _ _ _ _ _ _ _ r.given c.in-Some.ensures.steps in
    let asked = rw inv.self at c.call_mut.ensures in
    let stays = c.requires.lawful.1.kept _ _ _ _ asked in
    let met : answers c.in-Some.item c.call_mut.result = record { input = _; left = _; met = asked } in
    let lawful = c.requires.lawful.2 _ _ met in
    let kept = asked_item_kept g.N.Parser.meaning _ lawful (record { asked = item_asker c.args.self.now; is_fit = (c.requires.lawful.0, c.requires.lawful.1); all = c.requires.lawful.2; item = c.in-Some.item; answered = met }) in
    let runs = runs_next_item g.N.Parser g.Input.StreamOnce observers fresh answers some g.C.Append.held g.C.Append.none g.C.Append.more at lists heapless spared _ _ _ _ _ _ _ _ r _ left.0 left.1 _ met kept _ c.default.ensures (g.met.N.Parser.laws _ lawful) _ left.2 stays.0 stays.2 in
    let upto = passes_more inv.passes stays.1 in
    let call = item_stops g.N.Parser g.Input.StreamOnce observers fresh answers some g.C.Append.held g.C.Append.none g.C.Append.more at lists heapless spared (gives_one iterator.can_next iterator.remaining iterator.next_gives) _ _ _ _ _ _ _ upto.reads upto.resets runs (λ x. x.0) _ c.in-Stops-parse_item.ensures in
    in_mode _ _ _ laws _ _ _ _ inv.loops.from _ _ _ _ _ call

pub returns-in-Stops-parse_item-clause-refuses : goal.returns-in-Stops-parse_item-clause-refuses
returns-in-Stops-parse_item-clause-refuses g c =
    let iterator = g.J.IntoIter.Iterator in
    let answers = AskedFor (g.F.MutFunction.returns (item_asker c.args.self.now)) in
    let some = any_of g.Input.StreamOnce g.F.MutFunction g.N.Parser.lawful in
    let at = GivesItems iterator.can_next iterator.remaining iterator.next_gives in
    let lists = ListsItems iterator.can_next iterator.remaining iterator.next_gives g.J.Clone.is_clone g.J.IntoIterator.into_iter_gives (items_part c.args.self.now) in
    let heapless = g.C.Append.heapless in
    let spared = heapless × g.J.Clone.is_infallible (items_part c.args.self.now) in
    let fresh = g.N.PartialState.Default.is_default in
    let observers = g.Input.Error.ParseError.observers in
    let inv = c.items.invariant in
    let r = inv.loops.reaches in
    let left = gives_some _ _ _ _ _ _ _ r.given c.in-Some.ensures.steps in
    let asked = rw inv.self at c.call_mut.ensures in
    let stays = c.requires.lawful.1.kept _ _ _ _ asked in
    let met : answers c.in-Some.item c.call_mut.result = record { input = _; left = _; met = asked } in
    let lawful = c.requires.lawful.2 _ _ met in
    let kept = asked_item_kept g.N.Parser.meaning _ lawful (record { asked = item_asker c.args.self.now; is_fit = (c.requires.lawful.0, c.requires.lawful.1); all = c.requires.lawful.2; item = c.in-Some.item; answered = met }) in
    let runs = runs_next_item g.N.Parser g.Input.StreamOnce observers fresh answers some g.C.Append.held g.C.Append.none g.C.Append.more at lists heapless spared _ _ _ _ _ _ _ _ r _ left.0 left.1 _ met kept _ c.default.ensures (g.met.N.Parser.laws _ lawful) _ left.2 stays.0 stays.2 in
    let upto = passes_more inv.passes stays.1 in
    let call = item_reasons g.N.Parser g.Input.StreamOnce observers fresh answers some g.C.Append.held g.C.Append.none g.C.Append.more at lists heapless spared (gives_one iterator.can_next iterator.remaining iterator.next_gives) _ _ _ _ _ _ _ upto.reads upto.resets runs _ c.in-Stops-parse_item.ensures in
    let laws = iterated_is_meaning g.Input.StreamOnce.step observers answers some g.N.Parser.meaning g.C.Append.held g.C.Append.none g.C.Append.more at lists spared g.N.Parser.lawful g.met.N.Parser.laws c.requires.lawful.2 in
    reasoned_in_mode laws observers inv.loops.from call

pub items-smaller : goal.items-smaller
items-smaller g c =
    let iterator = g.J.IntoIter.Iterator in
    let answers = AskedFor (g.F.MutFunction.returns (item_asker c.args.self.now)) in
    let some = any_of g.Input.StreamOnce g.F.MutFunction g.N.Parser.lawful in
    let at = GivesItems iterator.can_next iterator.remaining iterator.next_gives in
    let lists = ListsItems iterator.can_next iterator.remaining iterator.next_gives g.J.Clone.is_clone g.J.IntoIterator.into_iter_gives (items_part c.args.self.now) in
    let heapless = g.C.Append.heapless in
    let spared = heapless × g.J.Clone.is_infallible (items_part c.args.self.now) in
    let fresh = g.N.PartialState.Default.is_default in
    let observers = g.Input.Error.ParseError.observers in
    let can = gives_callable _ _ _ _ _ c.items.invariant.loops.reaches.given in
    let o = c.in-Some.ensures.goes.on can.finite in
    rw (item_passes g.N.Parser g.Input.StreamOnce observers fresh some g.C.Append.held g.C.Append.more heapless at c.in-Goes-parse_item.ensures) (omega (arith, o.2))

pub items-preserved : goal.items-preserved
items-preserved g c =
    let iterator = g.J.IntoIter.Iterator in
    let answers = AskedFor (g.F.MutFunction.returns (item_asker c.args.self.now)) in
    let some = any_of g.Input.StreamOnce g.F.MutFunction g.N.Parser.lawful in
    let at = GivesItems iterator.can_next iterator.remaining iterator.next_gives in
    let lists = ListsItems iterator.can_next iterator.remaining iterator.next_gives g.J.Clone.is_clone g.J.IntoIterator.into_iter_gives (items_part c.args.self.now) in
    let heapless = g.C.Append.heapless in
    let spared = heapless × g.J.Clone.is_infallible (items_part c.args.self.now) in
    let fresh = g.N.PartialState.Default.is_default in
    let observers = g.Input.Error.ParseError.observers in
    let inv = c.items.invariant in
    let r = inv.loops.reaches in
    let left = gives_some _ _ _ _ _ _ _ r.given c.in-Some.ensures.steps in
    let asked = rw inv.self at c.call_mut.ensures in
    let stays = c.requires.lawful.1.kept _ _ _ _ asked in
    let met : answers c.in-Some.item c.call_mut.result = record { input = _; left = _; met = asked } in
    let lawful = c.requires.lawful.2 _ _ met in
    let kept = asked_item_kept g.N.Parser.meaning _ lawful (record { asked = item_asker c.args.self.now; is_fit = (c.requires.lawful.0, c.requires.lawful.1); all = c.requires.lawful.2; item = c.in-Some.item; answered = met }) in
    let runs = runs_next_item g.N.Parser g.Input.StreamOnce observers fresh answers some g.C.Append.held g.C.Append.none g.C.Append.more at lists heapless spared _ _ _ _ _ _ _ _ r _ left.0 left.1 _ met kept _ c.default.ensures (g.met.N.Parser.laws _ lawful) _ left.2 stays.0 stays.2 in
    let upto = passes_more inv.passes stays.1 in
    let goes = item_goes g.N.Parser g.Input.StreamOnce observers fresh answers some g.C.Append.held g.C.Append.none g.C.Append.more at lists heapless spared (gives_one iterator.can_next iterator.remaining iterator.next_gives) _ _ _ _ _ _ _ upto.reads upto.resets runs (g.met.N.Parser.laws _ lawful) (g.met.N.Parser.default_valid _ c.default.ensures) _ c.in-Goes-parse_item.ensures in
    record { self = inv.self; cleared = goes.0; passes = passes_more upto c.parse_item.ensures.passes; loops = record { z = _; from = inv.loops.from; reaches = goes.1 } }
