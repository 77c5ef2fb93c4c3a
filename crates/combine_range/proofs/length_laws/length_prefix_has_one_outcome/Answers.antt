use Rattle.combine_range.proofs.OneLengths.{answers_one, decides_one}
use Rattle.combine_range.proofs.length_laws.length_prefix_has_one_outcome.Goals as goal
use Rattle.combine_range.specs.Range.Lengths.{taking_is_single}
use Rattle.combine_range.specs.Range.RangeParsers.{take_of}

pub returns : goal.returns
returns g c =
    let step = g.Input.StreamOnce.step in
    let turned = g.P.Output.TryInto.try_into_gives in
    let m = g.P.Parser.meaning c.args.p.now in
    let single = taking_is_single g.Input.RangeStream.size g.Input.RangeStream.spells g.met.Input.RangeStream.filled in (
      (
        c.requires.determined,
        record {
          whole = decides_one step turned m.whole c.requires.whole;
          rest = λ s k. decides_one step turned (m.rest s) (c.requires.rest s k);
        },
      ),
      λ n l. tt,
      record {
        whole = answers_one step turned m.whole c.requires.whole take_of _ single;
        rest = λ s k. answers_one step turned (m.rest s) (c.requires.rest s k) take_of _ single;
      },
    )
