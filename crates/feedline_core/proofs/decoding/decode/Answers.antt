use Rattle.std.proofs.Common.{◌≡◌, ◌+◌, ◌<◌, map, length, nat_eq, arith}
use Rattle.std.proofs.lemmas.List.{length-map, get_or-map}
use Rattle.combine_decode.proofs.MessageDivision.{made_is_reading}
use Rattle.feedline_core.proofs.Batches.{lines_end_at, lines_end_after, lines_go_on, line_behind, no_message_written, room_at, room_behind}
use Rattle.feedline_core.proofs.decoding.decode.Goals as goal

pub pieces-init : goal.pieces-init
pieces-init g c = record { maker = c.new-decoder.ensures.maker; written = no_message_written _ _ _ _ _ c.new-decoder.ensures.maker c.new-decoder.ensures.limit c.new-decoder.ensures.stands }

pub decode_piece-requires-clause-room : goal.decode_piece-requires-clause-room
decode_piece-requires-clause-room g c =
    let pieces = map (λ p. p.now) c.args.pieces.now in
    let within : c.pieces.index < length pieces = rw length-map c.pieces-test.true in
    let at = get_or-map (λ p. p.now) c.args.pieces.now c.pieces.index _ _ c.pieces-test.true in
    room_at _ _ _ (made_is_reading _ _ _ _ _ c.requires.lawful g.met.P.Parser.laws) pieces _ _ _ _ c.pieces.invariant.written _ within at c.requires.fits

pub returns-in_default : goal.returns-in_default
returns-in_default g c =
    let pieces = map (λ p. p.now) c.args.pieces.now in
    let within : c.pieces.index < length pieces = rw length-map c.pieces-test.true in
    let at = get_or-map (λ p. p.now) c.args.pieces.now c.pieces.index _ _ c.pieces-test.true in
    let line = line_behind (nat_eq c.decode_piece.new.decoder.waiting 0) c.args.pieces.now (c.pieces.index + 1) _ _ c.write_last.result (rw c.at_boundary.ensures at c.write_last.ensures) in
    lines_end_at _ _ _ (made_is_reading _ _ _ _ _ c.requires.lawful g.met.P.Parser.laws) pieces _ _ _ _ c.pieces.invariant.written _ within at _ _ _ c.in_ok-decode_piece.ensures c.in_default.not-More _ _ line

pub pieces-preserved : goal.pieces-preserved
pieces-preserved g c =
    let pieces = map (λ p. p.now) c.args.pieces.now in
    let within : c.pieces.index < length pieces = rw length-map c.pieces-test.true in
    let at = get_or-map (λ p. p.now) c.args.pieces.now c.pieces.index _ _ c.pieces-test.true in
    let written = lines_go_on _ _ _ (made_is_reading _ _ _ _ _ c.requires.lawful g.met.P.Parser.laws) pieces _ _ _ _ c.pieces.invariant.written _ within at _ _ _ c.in_ok-decode_piece.ensures c.in-More.is in
    record { maker = written.far.maker; written = written }

pub decode_piece-requires-2-clause-room : goal.decode_piece-requires-2-clause-room
decode_piece-requires-2-clause-room g c =
    let pieces = map (λ p. p.now) c.args.pieces.now in
    let all : c.pieces.index ≡ length pieces = rw length-map (omega arith) in
    room_behind _ _ _ (made_is_reading _ _ _ _ _ c.requires.lawful g.met.P.Parser.laws) pieces _ _ _ _ c.pieces.invariant.written all c.requires.fits

pub returns : goal.returns
returns g c =
    let pieces = map (λ p. p.now) c.args.pieces.now in
    let all : c.pieces.index ≡ length pieces = rw length-map (omega arith) in
    let line = rw c.at_boundary-2.ensures at c.write_last-2.ensures in
    lines_end_after _ _ _ (made_is_reading _ _ _ _ _ c.requires.lawful g.met.P.Parser.laws) pieces _ _ _ _ c.pieces.invariant.written all _ _ _ c.in_ok-decode_piece-2.ensures _ _ line
