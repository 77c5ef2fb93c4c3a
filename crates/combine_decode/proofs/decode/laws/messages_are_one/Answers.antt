use Rattle.combine_decode.proofs.MessageDivision.{are_one, made_is_single}
use Rattle.combine_decode.proofs.decode.laws.messages_are_one.Goals as goal

pub returns : goal.returns
returns g c = are_one _ (made_is_single _ _ _ _ _ c.requires.lawful c.requires.determined c.requires.shared g.met.P.Parser.single)
