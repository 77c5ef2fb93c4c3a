use Rattle.tests_rows.proofs.rows.Driver.check.Given as goal

-- the parser may be called again
abbrev pub invariant-loop-row : goal.invariant-loop-row
invariant-loop-row g l = g.P.Parser.lawful l.parser
