use Rattle.std.proofs.Common.{◌≡◌, ◌+◌, ◌<◌, ◌∙◌, ap, get_or, map, length, arith, sym, refl}
use Rattle.std.proofs.lemmas.List.{length-map, get_or-map}
use Rattle.combine_decode.proofs.MessageDivision.{made_is_reading}
use Rattle.combine_decode.proofs.DecodedPieces.{decoder_fed_nothing, decoder_ends_at, decoder_ends_after, decoder_fails_at, fails_behind, decoder_goes_on_at}
use Rattle.combine_decode.proofs.decode.pieces.decode_pieces.Goals as goal

pub pieces-init : goal.pieces-init
pieces-init g c = record { maker = c.new-decoder.ensures.maker; limit = c.new-decoder.ensures.limit; far = rw c.new-messages.ensures.items (decoder_fed_nothing _ _ _ _ c.new-decoder.ensures.maker c.new-decoder.ensures.stands) }

pub returns-in_default : goal.returns-in_default
returns-in_default g c =
    let pieces = map (λ p. p.now) c.args.pieces.now in
    let within : c.pieces.piece-index < length pieces = rw length-map c.pieces-test.true in
    let item = c.piece-item.result in
    let at : get_or pieces c.pieces.piece-index item.now ≡ item.now = get_or-map (λ p. p.now) c.args.pieces.now c.pieces.piece-index item item.now c.pieces-test.true ∙ ap (λ p. p.now) (sym c.piece-item.is) in
    decoder_ends_at _ _ _ (made_is_reading _ _ _ _ _ c.requires.lawful g.met.P.Parser.laws) pieces _ _ _ c.pieces.invariant.far _ _ _ within at _ c.in_default.not-More c.in-Ok.ensures _ refl refl

pub returns-in-Err : goal.returns-in-Err
returns-in-Err g c =
    let pieces = map (λ p. p.now) c.args.pieces.now in
    let within : c.pieces.piece-index < length pieces = rw length-map c.pieces-test.true in
    let item = c.piece-item.result in
    let at : get_or pieces c.pieces.piece-index item.now ≡ item.now = get_or-map (λ p. p.now) c.args.pieces.now c.pieces.piece-index item item.now c.pieces-test.true ∙ ap (λ p. p.now) (sym c.piece-item.is) in
    decoder_fails_at _ _ _ (made_is_reading _ _ _ _ _ c.requires.lawful g.met.P.Parser.laws) pieces _ _ _ c.pieces.invariant.far _ _ _ within at c.pieces.invariant.limit _ c.in-Err.ensures

pub pieces-preserved : goal.pieces-preserved
pieces-preserved g c =
    let pieces = map (λ p. p.now) c.args.pieces.now in
    let within : c.pieces.piece-index < length pieces = rw length-map c.pieces-test.true in
    let item = c.piece-item.result in
    let at : get_or pieces c.pieces.piece-index item.now ≡ item.now = get_or-map (λ p. p.now) c.args.pieces.now c.pieces.piece-index item item.now c.pieces-test.true ∙ ap (λ p. p.now) (sym c.piece-item.is) in
    let fed = rw c.in-More.is at c.in-Ok.ensures in
    let far = decoder_goes_on_at _ _ _ (made_is_reading _ _ _ _ _ c.requires.lawful g.met.P.Parser.laws) pieces _ _ _ c.pieces.invariant.far _ _ _ within at fed in
    record { maker = far.maker; limit = ap (λ n. n + 1) fed.is.1.limit ∙ c.pieces.invariant.limit; far = far }

pub returns-in-Ok-feed_more : goal.returns-in-Ok-feed_more
returns-in-Ok-feed_more g c =
    let pieces = map (λ p. p.now) c.args.pieces.now in
    let all : c.pieces.piece-index ≡ length pieces = rw length-map (omega arith) in
    decoder_ends_after _ _ _ (made_is_reading _ _ _ _ _ c.requires.lawful g.met.P.Parser.laws) pieces _ _ _ c.pieces.invariant.far _ _ all _ _ c.in-Ok-feed_more.ensures refl refl

pub returns : goal.returns
returns g c =
    let pieces = map (λ p. p.now) c.args.pieces.now in
    let all : c.pieces.piece-index ≡ length pieces = rw length-map (omega arith) in
    fails_behind _ _ _ (made_is_reading _ _ _ _ _ c.requires.lawful g.met.P.Parser.laws) pieces _ _ _ c.pieces.invariant.far _ _ all c.pieces.invariant.limit _ c.in-Err-feed_more.ensures
