use Rattle.combine_decode.proofs.MessageDivision.{go_on, made_is_reading}
use Rattle.combine_decode.proofs.decode.laws.messages_go_on.Goals as goal

pub returns : goal.returns
returns g c = go_on _ (made_is_reading _ _ _ _ _ c.requires g.met.P.Parser.laws)
