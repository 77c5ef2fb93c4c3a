use Rattle.std.proofs.Common.{refl}
use Rattle.combine_token.proofs.token.lists.tokens.Goals as goal

pub returns : goal.returns
returns g c = (c.into.result, c.into.ensures, refl)
