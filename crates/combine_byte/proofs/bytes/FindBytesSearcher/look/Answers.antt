use Rattle.std.proofs.Common.{arith, ◌∙◌}
use Rattle.combine_byte.proofs.ByteSearch.{looks_found, looks_in_vain}
use Rattle.combine_byte.proofs.bytes.FindBytesSearcher.look.Goals as goal

pub returns-in-None : goal.returns-in-None
returns-in-None g c = λ us s.
    looks_in_vain _ _ _ us _ (c.as_bytes-bytes.ensures ∙ g.met.Input.ByteStream.spelled c.args.range us s) g.met.Input.ByteStream.sized _ (let a = c.saturating_sub-in-None.ensures in let b = c.saturating_sub.ensures in let d = c.len.ensures in omega arith) c.in-None.ensures

pub returns-in-Some : goal.returns-in-Some
returns-in-Some g c = λ us s.
    looks_found _ _ _ us _ (c.as_bytes-bytes.ensures ∙ g.met.Input.ByteStream.spelled c.args.range us s) _ c.in-Some.ensures
