use Rattle.combine_repeat.proofs.iter.is_block.Goals as goal

pub returns-then-committed : goal.returns-then-committed
returns-then-committed g c n v s t = rw (c.if-committed.true) (c.has_taken.ensures n v s t)
