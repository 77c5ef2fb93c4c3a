use Rattle.std.proofs.Common.{◌≡◌, get_or, length}
use Rattle.combine_base.specs.Parser.Meaning.{MeansSame}
use Rattle.combine_session.proofs.CutRuns.{AskedAtCuts}
use Rattle.combine_session.proofs.cuts.parse_cuts.Given as goal

abbrev pub invariant-loop-cut : goal.invariant-loop-cut
invariant-loop-cut g l = record {
  lawful : g.P.Parser.lawful l.parser;
  valid : g.P.Parser.valid l.state;
  same : MeansSame (g.P.Parser.meaning l.fn.parser) (g.P.Parser.meaning l.parser);
  asked : l.asked ≡ l.cut-index;
  place : g.S.Windowed.places l.fn.whole l.run.place;
  index : g.S.Windowed.index l.fn.whole l.run.place ≡ l.run.taken;
  position : (g.S.Located.StreamOnce.view l.run.stream.0).position ≡ g.S.DefaultPositioned.behind l.fn.whole l.run.taken;
  so_far : AskedAtCuts g.S.Located.Error.ParseError.observers g.S.Located.StreamOnce.step (g.S.DefaultPositioned.whole l.fn.whole).position (g.P.Parser.meaning l.fn.parser) (g.S.DefaultPositioned.whole l.fn.whole).unread (length l.fn.cuts) (λ i. g.S.Windowed.index l.fn.whole (get_or l.fn.cuts i 0)) l.state l.run.taken l.cut-index;
}
