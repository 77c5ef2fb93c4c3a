use Rattle.std.proofs.Common.{codes}
use Rattle.std.proofs.lemmas.Bool.Decides.{Decides-eqb}
use Rattle.std.proofs.lemmas.Slice.Eq.{strip_prefix_is}
use Rattle.feedline_core.proofs.Arguments.{digits_behind}
use Rattle.feedline_core.proofs.args.limit_digits.Goals as goal

pub returns : goal.returns
returns c = digits_behind c.args.word.now _ (strip_prefix_is Decides-eqb c.args.word.now (codes "limit=") _ c.strip_prefix.ensures.cases)
