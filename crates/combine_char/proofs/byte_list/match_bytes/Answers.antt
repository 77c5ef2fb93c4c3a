use Rattle.combine_char.proofs.SpelledLists.{given_answers, slice_iterated, slice_within, within_slice, spelled_reasons}
use Rattle.combine_char.proofs.byte_list.match_bytes.Goals as goal

pub match_list-requires-clause-list : goal.match_list-requires-clause-list
match_list-requires-clause-list g c =
    let k = c.listed_items-items.ensures in
    slice_iterated c.listed_items-items.result c.args.bytes.now k.rest k.few

pub returns-clause-answers : goal.returns-clause-answers
returns-clause-answers g c =
    let k = c.listed_items-items.ensures in
    let compares = g.F.Compare.returns c.args.fits.now in
    let items = c.listed_items-items.result in
    let bytes = c.args.bytes.now in
    given_answers _ _ _ _ _ (slice_within items bytes k.rest compares) (within_slice items bytes k.rest compares) _ _ (λ r. (λ e. e, λ e. e)) _ _ (tt, tt) _ _ _ _ c.match_list.ensures.answers

pub returns-clause-refuses : goal.returns-clause-refuses
returns-clause-refuses g c =
    let k = c.listed_items-items.ensures in
    let compares = g.F.Compare.returns c.args.fits.now in
    let items = c.listed_items-items.result in
    let bytes = c.args.bytes.now in
    spelled_reasons g.Input.Error.ParseError.observers _ _ _ (slice_within items bytes k.rest compares) _ _ _ _ _ c.match_list.ensures.refuses
