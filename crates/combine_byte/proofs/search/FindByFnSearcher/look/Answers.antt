use Rattle.combine_byte.specs.Search.TakeFn.{searched_of_all}
use Rattle.combine_byte.proofs.search.FindByFnSearcher.look.Goals as goal

pub returns : goal.returns
returns g c = λ us s. searched_of_all _ _ _ us c.args.range s c.into.result (c.call.result, c.call.ensures, c.into.ensures)
