use Rattle.tests_rows.proofs.rows.Rows.by_windows.Given as goal

-- the parser may be called again
abbrev pub invariant-loop-places : goal.invariant-loop-places
invariant-loop-places g l = g.P.Parser.lawful l.parser
