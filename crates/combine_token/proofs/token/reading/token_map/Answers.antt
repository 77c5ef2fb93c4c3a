use Rattle.combine_token.proofs.Tokens.OneToken.{reads_under}
use Rattle.combine_token.proofs.token.reading.token_map.Goals as goal

pub returns-clause-reads : goal.returns-clause-reads
returns-clause-reads g c = reads_under _ _ _ _ _ _ _ _ c.one_token.ensures.reads (λ i o e. e.1)
