use Rattle.combine_decode.proofs.MessageDivision.{cuts_agree, made_is_single}
use Rattle.combine_decode.proofs.decode.laws.cuts_agree.Goals as goal

pub returns : goal.returns
returns g c = cuts_agree _ (made_is_single _ _ _ _ _ c.requires.lawful c.requires.determined c.requires.shared g.met.P.Parser.single)
