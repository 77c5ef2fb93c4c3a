-- the parsers of these alternatives
use Rattle.combine_choices.specs.declared.choice.types.Choice.{Choice}

abbrev pub choice_parser : {X : Type 0} → X → Choice X
choice_parser x = record { 0 = x }
