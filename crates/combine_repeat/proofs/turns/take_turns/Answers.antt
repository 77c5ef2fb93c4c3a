use Rattle.std.proofs.Common.{true, false, refl, sym, ◌∙◌}
use Rattle.combine_base.specs.Parser.Answer.{world}
use Rattle.combine_base.proofs.Parsers.SameMeanings.{passes_none, passes_more}
use Rattle.combine_repeat.specs.Turns.Bounds.{gathered, so_far}
use Rattle.combine_repeat.proofs.OneTurn.{called_same, turned_same, turns_same_none, turns_same_more}
use Rattle.combine_repeat.proofs.RepeatCalls.{reaches_turn_first, reaches_turn_afresh, reaches_turn_on, reaches_turn_full, reaches_turn_stopped, goes_out, resumed_valid}
use Rattle.combine_repeat.proofs.SoundValues.{begun_sound, full_sound, goes_sound, stopped_sound, turn_able}
use Rattle.combine_repeat.proofs.TurnRefusals.{leads_afresh, leads_first, leads_on, stops_leading, stops_same}
use Rattle.combine_repeat.proofs.turns.take_turns.Goals as goal
use Rattle.combine_repeat.proofs.turns.take_turns.Goals.{then-not-is_first+else-is_full+in-Goes, else-not-is_first}

pub returns-then-is_full-clause-answers : goal.returns-then-is_full-clause-answers
returns-then-is_full-clause-answers g c =
    let z = reaches_turn_first _ _ _ _ _ _ _ _ _ _ _ _ _ _ _ refl (rw c.is_first.ensures at c.begin-turns.ensures.turns) (rw c.is_first.ensures at c.begin-turns.ensures.resumed) in
    reaches_turn_full _ _ _ _ _ _ (g.P.TurnParser.meaning c.args.parser.now) (g.P.TurnParser.again c.args.parser.now) _ false _ _ _ z (sym c.is_full.ensures ∙ c.if-is_full.true) (c.begin-turns.ensures.left, c.default.ensures) _ c.end.ensures

pub returns-in-Stops-clause-answers : goal.returns-in-Stops-clause-answers
returns-in-Stops-clause-answers g c =
    let z = reaches_turn_first _ _ _ _ _ _ _ _ _ _ _ _ _ _ _ refl (rw c.is_first.ensures at c.begin-turns.ensures.turns) (rw c.is_first.ensures at c.begin-turns.ensures.resumed) in
    let q = passes_none (g.Input.StreamOnce.marks c.args.input.now) (g.Input.StreamOnce.failures c.args.input.now) in
    rw c.stopped.ensures.answer (reaches_turn_stopped _ _ _ _ _ _ _ _ _ false _ _ z (sym c.is_full.ensures ∙ c.if-is_full.false) _ c.begin-turns.ensures.left refl refl refl q.reads q.resets _ c.in-Stops.ensures.turned.is c.stopped.ensures.state)

pub returns-then-is_full-clause-sound : goal.returns-then-is_full-clause-sound
returns-then-is_full-clause-sound g c = full_sound _ _ _ _ (begun_sound (λ k i. g.G.Gather.sound k (g.G.Gather.held i)) c.args.start c.requires.sound.1 _ c.args.state.now _ c.requires.sound.0 (rw c.is_first.ensures at c.begin-turns.ensures.turns)) (sym c.is_full.ensures ∙ c.if-is_full.true) _ _ c.begin-turns.ensures.left c.end.ensures

pub returns-then-is_full-2-clause-sound : goal.returns-then-is_full-2-clause-sound
returns-then-is_full-2-clause-sound g c = full_sound _ _ _ _ c.turns.invariant.sound (sym c.is_full-in-turns.ensures ∙ c.if-is_full-2.true) _ _ c.turns.invariant.cleared c.end-then-is_full-2.ensures

pub returns-in-Stops-clause-sound : goal.returns-in-Stops-clause-sound
returns-in-Stops-clause-sound g c = stopped_sound _ (gathered g.G.Gather.held g.G.Gather.none g.G.Gather.more g.G.Gather.heapless) g.G.Gather.able g.G.Gather.sound g.met.G.Gather.keeps_sound _ _ _ _ _ (begun_sound (λ k i. g.G.Gather.sound k (g.G.Gather.held i)) c.args.start c.requires.sound.1 _ c.args.state.now _ c.requires.sound.0 (rw c.is_first.ensures at c.begin-turns.ensures.turns)) _ c.in-Stops.ensures.turned.is _ _ _ c.begin-turns.ensures.left c.stopped.ensures.state c.stopped.ensures.answer

pub returns-in-Stops-one_turn-clause-sound : goal.returns-in-Stops-one_turn-clause-sound
returns-in-Stops-one_turn-clause-sound g c =
    let i = c.turns.invariant in
    stopped_sound _ (gathered g.G.Gather.held g.G.Gather.none g.G.Gather.more g.G.Gather.heapless) g.G.Gather.able g.G.Gather.sound g.met.G.Gather.keeps_sound _ _ _ _ _ i.sound _ c.in-Stops-one_turn.ensures.turned.is _ _ _ i.cleared c.stopped-in-Stops-one_turn.ensures.state c.stopped-in-Stops-one_turn.ensures.answer

pub turns-init : goal.turns-init
turns-init g c =
    let i = rw c.is_first.ensures at c.begin-turns.ensures.turns in
    let j = rw c.is_first.ensures at c.begin-turns.ensures.resumed in
    elim c.if-not-is_first.branch [
      | then-not-is_first+else-is_full+in-Goes w ↦
          let z = reaches_turn_first _ _ _ _ _ _ _ _ _ _ _ _ _ _ _ refl i j in
          let s = w.in-Goes.ensures.turned.is in
          let r = j (sym c.is_first-2.ensures ∙ w.if-not-is_first.true) in
          record {
            lawful = rw w.parser-is w.one_turn.ensures.lawful;
            valid = rw w.state-is w.one_turn.ensures.valid;
            fresh = rw w.state-is s.judged.accepts.state;
            same = rw w.parser-is w.one_turn.ensures.same;
            passes = rw w.input-is w.one_turn.ensures.passes;
            leads = rw (w.input-is, w.turns-is, w.later-is) (leads_on (world g.Input.StreamOnce.step g.Input.Error.ParseError.observers g.Input.StreamOnce.counts_failures g.P.Running.Default.is_default) g.Input.Error.ParseError.observers (g.B.TurnBounds.bounds c.args.bounds) g.P.TurnParser.ending (gathered g.G.Gather.held g.G.Gather.none g.G.Gather.more g.G.Gather.heapless) (so_far g.G.Gather.held c.args.start) (g.P.TurnParser.meaning c.args.parser.now) (g.P.TurnParser.again c.args.parser.now) false _ _ _ _ _ _ (sym w.is_full.ensures ∙ w.if-is_full.false) s (leads_first g.Input.StreamOnce.step g.Input.Error.ParseError.observers (g.B.TurnBounds.bounds c.args.bounds) g.P.TurnParser.ending (gathered g.G.Gather.held g.G.Gather.none g.G.Gather.more g.G.Gather.heapless) c.args.start (g.P.TurnParser.meaning c.args.parser.now) (g.P.TurnParser.again c.args.parser.now) _ _ _ _ _ i j));
            cleared = rw w.state-is c.begin-turns.ensures.left;
            sound = rw w.turns-is (goes_sound _ (gathered g.G.Gather.held g.G.Gather.none g.G.Gather.more g.G.Gather.heapless) g.G.Gather.able g.G.Gather.sound g.met.G.Gather.keeps_sound _ _ _ _ _ (begun_sound (λ k i. g.G.Gather.sound k (g.G.Gather.held i)) c.args.start c.requires.sound.1 _ c.args.state.now _ c.requires.sound.0 (rw c.is_first.ensures at c.begin-turns.ensures.turns)) _ w.in-Goes.ensures.turned.is (turn_able _ g.P.TurnParser.valid _ _ g.P.TurnParser.gives g.G.Gather.able (g.met.P.TurnParser.gives_only _ c.requires.lawful) c.requires.able false _ (resumed_valid g.P.TurnParser.valid _ _ r c.requires.valid) _ _ (w.in-Goes.ensures.turned.is).judged.accepts));
            reaches = rw (w.state-is, w.input-is, w.turns-is, w.later-is) (reaches_turn_on _ _ _ _ _ _ _ _ _ (g.met.P.TurnParser.laws _ c.requires.lawful) _ _ _ _ false _ _ _ z (sym w.is_full.ensures ∙ w.if-is_full.false) (resumed_valid g.P.TurnParser.valid _ _ r c.requires.valid) s _);
          }
      | else-not-is_first w ↦
          let d = c.begin-turns.ensures.afresh (c.is_first.ensures ∙ sym c.is_first-2.ensures ∙ w.if-not-is_first.false) in
          record {
            lawful = rw w.parser-is c.requires.lawful;
            valid = rw w.state-is (g.met.P.TurnParser.default_valid _ d);
            fresh = rw w.state-is d;
            same = rw w.parser-is (turns_same_none _ _);
            passes = rw w.input-is (passes_none _ _);
            leads = rw (w.input-is, w.turns-is, w.later-is) (leads_afresh g.Input.StreamOnce.step g.Input.Error.ParseError.observers (g.B.TurnBounds.bounds c.args.bounds) g.P.TurnParser.ending (gathered g.G.Gather.held g.G.Gather.none g.G.Gather.more g.G.Gather.heapless) c.args.start (g.P.TurnParser.meaning c.args.parser.now) (g.P.TurnParser.again c.args.parser.now) _ _ c.args.state.now.running _ _ (sym c.is_first-2.ensures ∙ w.if-not-is_first.false) i);
            cleared = rw w.state-is c.begin-turns.ensures.left;
            sound = rw w.turns-is (begun_sound (λ k i. g.G.Gather.sound k (g.G.Gather.held i)) c.args.start c.requires.sound.1 _ c.args.state.now _ c.requires.sound.0 (rw c.is_first.ensures at c.begin-turns.ensures.turns));
            reaches = rw (w.state-is, w.input-is, w.turns-is, w.later-is) (reaches_turn_afresh _ _ _ _ _ _ _ _ _ _ _ _ _ _ _ (sym c.is_first-2.ensures ∙ w.if-not-is_first.false) refl i);
          }
    ]

pub returns-then-is_full-2-clause-answers : goal.returns-then-is_full-2-clause-answers
returns-then-is_full-2-clause-answers g c =
    let i = c.turns.invariant in
    reaches_turn_full _ _ _ _ _ _ _ _ _ _ _ _ _ i.reaches (sym c.is_full-in-turns.ensures ∙ c.if-is_full-2.true) (i.cleared, i.fresh) _ c.end-then-is_full-2.ensures

pub returns-in-Stops-one_turn-clause-answers : goal.returns-in-Stops-one_turn-clause-answers
returns-in-Stops-one_turn-clause-answers g c =
    let i = c.turns.invariant in
    let q = i.passes in
    let s = turned_same _ _ _ _ _ (called_same _ _ _ _ i.same _) _ _ _ _ c.in-Stops-one_turn.ensures.turned in
    rw c.stopped-in-Stops-one_turn.ensures.answer (reaches_turn_stopped _ _ _ _ _ _ _ _ _ _ _ _ i.reaches (sym c.is_full-in-turns.ensures ∙ c.if-is_full-2.false) _ i.cleared refl refl refl q.reads q.resets _ s.is c.stopped-in-Stops-one_turn.ensures.state)

pub turns-smaller : goal.turns-smaller
turns-smaller g c = goes_out _ _ _ _ _ _ _ _ (sym c.is_full-in-turns.ensures ∙ c.if-is_full-2.false) c.in-Goes-one_turn.ensures.turned.is

pub turns-preserved : goal.turns-preserved
turns-preserved g c =
    let i = c.turns.invariant in
    let t = turned_same _ _ _ _ _ (called_same _ _ _ _ i.same _) _ _ _ _ c.in-Goes-one_turn.ensures.turned in
    let s = t.is in
    record {
      lawful = c.one_turn-in-turns.ensures.lawful;
      valid = c.one_turn-in-turns.ensures.valid;
      fresh = s.judged.accepts.state;
      same = turns_same_more _ _ _ _ _ _ i.same c.one_turn-in-turns.ensures.same;
      passes = passes_more i.passes c.one_turn-in-turns.ensures.passes;
      leads = leads_on (world g.Input.StreamOnce.step g.Input.Error.ParseError.observers g.Input.StreamOnce.counts_failures g.P.Running.Default.is_default) g.Input.Error.ParseError.observers (g.B.TurnBounds.bounds c.args.bounds) g.P.TurnParser.ending (gathered g.G.Gather.held g.G.Gather.none g.G.Gather.more g.G.Gather.heapless) (so_far g.G.Gather.held c.args.start) (g.P.TurnParser.meaning c.args.parser.now) (g.P.TurnParser.again c.args.parser.now) _ _ _ _ _ _ _ (sym c.is_full-in-turns.ensures ∙ c.if-is_full-2.false) s i.leads;
      cleared = i.cleared;
      sound = goes_sound _ (gathered g.G.Gather.held g.G.Gather.none g.G.Gather.more g.G.Gather.heapless) g.G.Gather.able g.G.Gather.sound g.met.G.Gather.keeps_sound _ _ _ _ _ i.sound _ c.in-Goes-one_turn.ensures.turned.is (turn_able _ g.P.TurnParser.valid _ _ g.P.TurnParser.gives g.G.Gather.able (g.met.P.TurnParser.gives_only _ i.lawful) c.requires.able _ _ i.valid _ _ (c.in-Goes-one_turn.ensures.turned.is).judged.accepts);
      reaches = reaches_turn_on _ _ _ _ _ _ _ _ _ (g.met.P.TurnParser.laws _ c.requires.lawful) _ _ _ _ _ _ _ _ i.reaches (sym c.is_full-in-turns.ensures ∙ c.if-is_full-2.false) i.valid s _;
    }

pub returns-in-Stops-clause-refuses : goal.returns-in-Stops-clause-refuses
returns-in-Stops-clause-refuses g c =
    let z = leads_first g.Input.StreamOnce.step g.Input.Error.ParseError.observers (g.B.TurnBounds.bounds c.args.bounds) g.P.TurnParser.ending (gathered g.G.Gather.held g.G.Gather.none g.G.Gather.more g.G.Gather.heapless) c.args.start (g.P.TurnParser.meaning c.args.parser.now) (g.P.TurnParser.again c.args.parser.now) _ _ _ _ _ (rw c.is_first.ensures at c.begin-turns.ensures.turns) (rw c.is_first.ensures at c.begin-turns.ensures.resumed) in
    rw c.stopped.ensures.answer (stops_leading g.Input.StreamOnce.step g.Input.Error.ParseError.observers (g.B.TurnBounds.bounds c.args.bounds) g.P.TurnParser.ending (gathered g.G.Gather.held g.G.Gather.none g.G.Gather.more g.G.Gather.heapless) (so_far g.G.Gather.held c.args.start) (g.P.TurnParser.meaning c.args.parser.now) (g.P.TurnParser.again c.args.parser.now) _ _ _ _ _ _ _ (sym c.is_full.ensures ∙ c.if-is_full.false) z _ c.in-Stops.ensures.refuses.is)

pub returns-in-Stops-one_turn-clause-refuses : goal.returns-in-Stops-one_turn-clause-refuses
returns-in-Stops-one_turn-clause-refuses g c =
    let i = c.turns.invariant in
    let s = stops_same g.Input.StreamOnce.step g.Input.Error.ParseError.observers (g.B.TurnBounds.bounds c.args.bounds) g.P.TurnParser.ending _ _ (called_same _ _ _ _ i.same _) true c.args.state.now.running _ _ _ _ c.in-Stops-one_turn.ensures.refuses.is in
    rw c.stopped-in-Stops-one_turn.ensures.answer (stops_leading g.Input.StreamOnce.step g.Input.Error.ParseError.observers (g.B.TurnBounds.bounds c.args.bounds) g.P.TurnParser.ending (gathered g.G.Gather.held g.G.Gather.none g.G.Gather.more g.G.Gather.heapless) (so_far g.G.Gather.held c.args.start) (g.P.TurnParser.meaning c.args.parser.now) (g.P.TurnParser.again c.args.parser.now) _ _ _ _ _ _ _ (sym c.is_full-in-turns.ensures ∙ c.if-is_full-2.false) i.leads _ s)
