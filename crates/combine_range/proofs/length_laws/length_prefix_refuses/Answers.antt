use Rattle.std.specs.Prelude.{refl}
use Rattle.combine_range.specs.Range.RangeParsers.{take_of}
use Rattle.combine_range.proofs.PrefixErrors.{same_refusals}
use Rattle.combine_range.proofs.length_laws.length_prefix_refuses.Goals as goal

pub returns : goal.returns
returns g c = same_refusals g.Input.StreamOnce.step g.Input.Error.ParseError.observers g.Input.RangeStream.size g.Input.RangeStream.spells g.P.Output.TryInto.try_into_gives (g.P.Parser.meaning c.args.p.now).whole (g.P.Parser.meaning c.args.p.now).refuses take_of _ (λ n v u. (u, refl)) (λ n v w k e. (λ x. x, λ x. x)) (λ n us own e. (λ x. x, λ x. x))
