use Rattle.combine_range.proofs.LengthAndItems.{is_length_and_items}
use Rattle.combine_range.proofs.length_laws.length_prefix_is_a_length_and_its_items.Goals as goal
use Rattle.combine_range.specs.Range.Lengths.{taking}
use Rattle.combine_range.specs.Range.RangeParsers.{take_of}

pub returns : goal.returns
returns g c v o = is_length_and_items g.Input.StreamOnce.step g.Input.RangeStream.size g.Input.RangeStream.spells g.P.Output.TryInto.try_into_gives (g.P.Parser.meaning c.args.p.now).whole take_of (λ p. taking g.Input.RangeStream.size g.Input.RangeStream.spells p.count) (λ n v o. (λ x. x, λ x. x)) v o
