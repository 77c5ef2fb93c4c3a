use Rattle.std.proofs.Common.{◌<◌, ◌^◌, rules, map, length, ap, sym, subst, ◌∙◌}
use Rattle.combine_session.specs.Pieces.{concatenated}
use Rattle.feedline_core.proofs.OnInput.{joined_whole}
use Rattle.feedline_core.proofs.Frames.{decodes_as, has_frame}
use Rattle.feedline_core.specs.Frames.{frame}
use Rattle.feedline_core.proofs.decoding.run_frames.Goals as goal

pub decode-requires-clause-fits : goal.decode-requires-clause-fits
decode-requires-clause-fits g c =
    let pieces = ap (map (λ p. p.now)) c.deref.ensures.value ∙ c.in_ok-pieces.ensures in
    let whole = ap concatenated pieces ∙ joined_whole c.args.sizes.now c.args.input.now in
    let fits : length c.args.input.now < 2 ^ 64 = search rules in
    subst (λ n. n < 2 ^ 64) (sym (ap length whole)) fits

pub returns : goal.returns
returns g c =
    let pieces = ap (map (λ p. p.now)) c.deref.ensures.value ∙ c.in_ok-pieces.ensures in
    let whole = ap concatenated pieces ∙ joined_whole c.args.sizes.now c.args.input.now in
    let decoded = rw whole at c.decode.ensures in
    decodes_as _ frame (λ v o w. has_frame _ _ v o w.2) _ _ _ _ decoded
