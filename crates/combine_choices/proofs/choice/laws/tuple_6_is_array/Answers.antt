use Rattle.std.proofs.Common.{[], ◌∷◌}
use Rattle.combine_choices.specs.ListChoice.{both_start, one_starts}
use Rattle.combine_choices.proofs.choice.laws.tuple_6_is_array.Goals as goal

pub returns : goal.returns
returns g c = both_start g.Input.Error.ParseError.observers g.Input.Position.Ord.cmp g.P.Parser.meaning (c.args.a.now ∷ c.args.b.now ∷ []) (c.args.c.now ∷ c.args.d.now ∷ c.args.e.now ∷ c.args.f.now ∷ []) (both_start g.Input.Error.ParseError.observers g.Input.Position.Ord.cmp g.P.Parser.meaning (c.args.a.now ∷ []) (c.args.b.now ∷ []) (one_starts g.Input.Error.ParseError.observers g.Input.Position.Ord.cmp g.P.Parser.meaning _) (one_starts g.Input.Error.ParseError.observers g.Input.Position.Ord.cmp g.P.Parser.meaning _)) (both_start g.Input.Error.ParseError.observers g.Input.Position.Ord.cmp g.P.Parser.meaning (c.args.c.now ∷ c.args.d.now ∷ []) (c.args.e.now ∷ c.args.f.now ∷ []) (both_start g.Input.Error.ParseError.observers g.Input.Position.Ord.cmp g.P.Parser.meaning (c.args.c.now ∷ []) (c.args.d.now ∷ []) (one_starts g.Input.Error.ParseError.observers g.Input.Position.Ord.cmp g.P.Parser.meaning _) (one_starts g.Input.Error.ParseError.observers g.Input.Position.Ord.cmp g.P.Parser.meaning _)) (both_start g.Input.Error.ParseError.observers g.Input.Position.Ord.cmp g.P.Parser.meaning (c.args.e.now ∷ []) (c.args.f.now ∷ []) (one_starts g.Input.Error.ParseError.observers g.Input.Position.Ord.cmp g.P.Parser.meaning _) (one_starts g.Input.Error.ParseError.observers g.Input.Position.Ord.cmp g.P.Parser.meaning _)))
