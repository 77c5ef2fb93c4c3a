use Rattle.std.specs.Global.{Vec}
use Rattle.std.proofs.Common.{ℕ, [], ◌∷◌, ◌++◌, true}
use Rattle.combine_decode.proofs.TokenTurns.{counted_tokens}
use Rattle.combine_decode.proofs.FrameAnswers.{is_framed}
use Rattle.combine_decode.proofs.decode.laws.frame_is_a_length_and_its_bytes.Goals as goal
use Rattle.combine_token.specs.Token.OneToken.{of_function, one_token, satisfied}
use Rattle.combine_token.specs.Token.TokenParsers.{any_parser}
use Rattle.combine_repeat.specs.Turns.Bounds.{bounded, none_yet}
use Rattle.combine_repeat.specs.Repeat.RepeatParsers.{count_min_max_of, repeat_min, repeat_max}
use Rattle.combine_repeat.specs.Repeat.Repeated.{appended, no_value_ends}
use Rattle.combine_repeat.specs.Turns.Blocks.{TurnsOutcome}
use Rattle.combine_repeat.specs.declared.bounds.Bounds.TheVariants.{Counted}

pub returns : goal.returns
returns g c v o h =
    let step = g.Input.StreamOnce.step in
    let any_token = one_token (satisfied (of_function (λ (t : ℕ). true))) in
    is_framed step (λ n. count_min_max_of c.args.alloc n n any_parser) (λ p. TurnsOutcome step (bounded (Counted (repeat_min p) (repeat_max p)) no_value_ends) (appended (λ (m : Vec ℕ). m.items) [] (λ xs x. xs ++ x ∷ []) ⊥) (λ _. any_token) any_token (none_yet [])) (λ n. counted_tokens step n (λ (m : Vec ℕ). m.items) ⊥) v o h
