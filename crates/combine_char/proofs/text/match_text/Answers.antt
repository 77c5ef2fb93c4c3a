use Rattle.combine_char.proofs.SpelledLists.{chars_iterated, chars_within, given_answers, within_chars, spelled_reasons}
use Rattle.combine_char.proofs.text.match_text.Goals as goal

pub match_list-requires-clause-list : goal.match_list-requires-clause-list
match_list-requires-clause-list g c =
    let k = c.characters-items.ensures in
    chars_iterated c.characters-items.result c.args.text.now k.valid k.rest k.few

pub returns-clause-answers : goal.returns-clause-answers
returns-clause-answers g c =
    let k = c.characters-items.ensures in
    let compares = g.F.Compare.returns c.args.fits.now in
    let items = c.characters-items.result in
    let text = c.args.text.now in
    given_answers _ _ _ _ _ (chars_within items text k.valid k.rest compares) (within_chars items text k.valid k.rest compares) _ _ (λ r. (λ e. e, λ e. e)) _ _ (tt, tt) _ _ _ _ c.match_list.ensures.answers

pub returns-clause-refuses : goal.returns-clause-refuses
returns-clause-refuses g c =
    let k = c.characters-items.ensures in
    let compares = g.F.Compare.returns c.args.fits.now in
    let items = c.characters-items.result in
    let text = c.args.text.now in
    spelled_reasons g.Input.Error.ParseError.observers _ _ _ (chars_within items text k.valid k.rest compares) _ _ _ _ _ c.match_list.ensures.refuses
