use Rattle.std.proofs.Common.{sym, ◌∙◌, ap}
use Rattle.combine_range.proofs.kept_distance.not_passed.Goals as goal
use Rattle.combine_base.specs.Distances.{losing}

pub returns-in-End-clause-answers : goal.returns-in-End-clause-answers
returns-in-End-clause-answers g c = record { is = (c.new_error-in-End.ensures.kind ∙ sym (ap losing c.in-End.is), λ h. let i = c.in-End.is in cc) }

pub returns-in-Memory-clause-answers : goal.returns-in-Memory-clause-answers
returns-in-Memory-clause-answers g c = record { is = (c.new_error-in-Memory.ensures.kind ∙ sym (ap losing c.in-Memory.is), λ h. let i = c.in-Memory.is in cc) }

pub returns-in-Read-clause-answers : goal.returns-in-Read-clause-answers
returns-in-Read-clause-answers g c = record { is = (c.new_error-in-Read.ensures.kind ∙ sym (ap losing c.in-Read.is), λ h. let i = c.in-Read.is in cc) }

pub returns-in-Reset-clause-answers : goal.returns-in-Reset-clause-answers
returns-in-Reset-clause-answers g c = record { is = (c.new_error-in-Reset.ensures.kind ∙ sym (ap losing c.in-Reset.is), λ h. let i = c.in-Reset.is in cc) }

pub returns-in-Lost-clause-answers : goal.returns-in-Lost-clause-answers
returns-in-Lost-clause-answers g c = record { is = (c.new_error-in-Lost.ensures.kind ∙ sym (ap losing c.in-Lost.is), λ h. let i = c.in-Lost.is in cc) }
