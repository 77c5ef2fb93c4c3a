use Rattle.combine_combinator.proofs.NotFollowedBy.{accepted_where_refused}
use Rattle.combine_combinator.proofs.combinator.laws.not_followed_by_is_accepted_where_refused.Goals as goal

pub returns : goal.returns
returns g c = λ v. accepted_where_refused _ v
