use Rattle.std.proofs.Common.{ℕ, ◌<◌, ◌^◌, rules, map, length, ap, sym, subst, ◌∙◌}
use Rattle.combine_session.specs.Pieces.{concatenated}
use Rattle.combine_base.specs.Parser.Meaning.{Meaning}
use Rattle.combine_base.specs.declared.error.unexpected.UnexpectedParse.{UnexpectedParse}
use Rattle.combine_base.specs.declared.sequence.SequenceState.{SequenceState}
use Rattle.combine_base.specs.declared.sequence.states.PartialState4.{PartialState4}
use Rattle.combine_combinator.specs.declared.combinator.types.TryState.{TryState}
use Rattle.combine_combinator.specs.declared.combinator.types.Try.{Try}
use Rattle.combine_token.specs.declared.token.types.Token.{Token}
use Rattle.feedline_core.proofs.OnInput.{joined_whole, runs_on_input}
use Rattle.feedline_core.proofs.Single.{message_is_single}
use Rattle.feedline_core.specs.Runs.{RunsPieces}
use Rattle.feedline_core.specs.Messages.{all_four, delete_after, message, or_set}
use Rattle.feedline_core.proofs.feeding.run_limited.Goals as goal

-- what a parser of four bytes means, all or none of which are taken
abbrev of_parts : {I : Type 0} → Try (Token I ℕ × Token I ℕ × Token I ℕ × Token I ℕ) → Meaning ℕ ℕ (Unit {0}) UnexpectedParse (ℕ × ℕ × ℕ × ℕ) (TryState (PartialState4 (SequenceState (Unit {0}) (Unit {0})) (SequenceState (record { 0 : ℕ }) (Unit {0})) (SequenceState (ℕ × ℕ) (Unit {0})) (SequenceState (ℕ × ℕ × ℕ) (Unit {0}))))
of_parts t = all_four t.0.0.token t.0.1.token t.0.2.token t.0.3.token

pub drive_after-requires-clause-fits : goal.drive_after-requires-clause-fits
drive_after-requires-clause-fits g c =
    let pieces = ap (map (λ p. p.now)) c.deref.ensures.value ∙ c.in_ok-pieces.ensures in
    let whole = ap concatenated pieces ∙ joined_whole c.args.sizes.now c.args.input.now in
    let fits : length c.args.input.now < 2 ^ 64 = search rules in
    subst (λ n. n < 2 ^ 64) (sym (ap length whole)) fits

pub returns : goal.returns
returns g c =
    let del = rw c.token-4.ensures at rw c.token-3.ensures at rw c.token-2.ensures at rw c.token.ensures at c.attempt-del.ensures in
    let drove = subst (λ d. RunsPieces (or_set (delete_after (of_parts d))).whole (or_set (delete_after (of_parts d))).rest c.args.limit (map (λ p. p.now) c.deref.result.now) (g.W.Write.contents c.args.out.now) (g.W.Write.contents c.drive_after.new.out) c.drive_after.result) del c.drive_after.ensures in
    let pieces = ap (map (λ p. p.now)) c.deref.ensures.value ∙ c.in_ok-pieces.ensures in
    runs_on_input message.whole message.rest c.args.limit message_is_single _ _ _ _ _ (subst (λ ps. RunsPieces message.whole message.rest c.args.limit ps (g.W.Write.contents c.args.out.now) (g.W.Write.contents c.drive_after.new.out) c.drive_after.result) pieces drove)
