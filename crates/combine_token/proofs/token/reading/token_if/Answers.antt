use Rattle.combine_token.proofs.Tokens.OneToken.{reads_if}
use Rattle.combine_token.proofs.token.reading.token_if.Goals as goal

pub returns-clause-reads : goal.returns-clause-reads
returns-clause-reads g c = reads_if _ _ _ _ _ _ _ _ c.token_map.ensures.reads (λ t o e. e)
