use Rattle.std.proofs.Common.{refl}
use Rattle.combine_session.proofs.Sessions.{session_begins}
use Rattle.combine_session.proofs.session.Session.limited.Goals as goal

pub returns : goal.returns
returns g c =
    session_begins _ _ _ _ (g.met.P.Parser.laws _ c.requires) c.default.ensures c.new.ensures _ (g.met.P.Parser.single _ c.requires) refl
