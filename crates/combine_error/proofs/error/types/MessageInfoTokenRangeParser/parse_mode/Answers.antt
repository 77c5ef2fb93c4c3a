use Rattle.combine_base.specs.Error.Items.{Message, shown}
use Rattle.combine_base.specs.Parser.Meaning.{begun_refuses}
use Rattle.combine_error.proofs.ShapedAnswers.{saying_reasons, adds_on_refusal_answers, adds_on_refusal_reasons}
use Rattle.combine_error.specs.RewordedErrors.{WithOneMore, with_one_more_same, refuses_with_item, refuses_with_item_is_monotone}
use Rattle.combine_error.proofs.error.types.MessageInfoTokenRangeParser.parse_mode.Goals as goal

pub returns-clause-same : goal.returns-clause-same
returns-clause-same g c = with_one_more_same _ _ _ _ (refuses_with_item_is_monotone g.Input.Error.ParseError.observers _) c.parse_mode-answer.ensures.same

pub returns-clause-answers : goal.returns-clause-answers
returns-clause-answers g c = adds_on_refusal_answers _ _ _ _ _ _ (refuses_with_item g.Input.Error.ParseError.observers (Message (shown c.args.self.now.info))) _ _ _ _ c.add_message_to_refusal.ensures c.parse_mode-answer.ensures.answers

pub returns-clause-refuses : goal.returns-clause-refuses
returns-clause-refuses g c =
    let observers = g.Input.Error.ParseError.observers in
    let m = g.P.Parser.meaning c.args.self.now.parser in
    let first = g.M.ParseMode.first c.args.mode in
    let state = c.args.state.now in
    let old = g.Input.StreamOnce.view c.args.input.now in
    let new = g.Input.StreamOnce.view c.parse_mode-answer.new.input in
    let item = Message (shown c.args.self.now.info) in
    saying_reasons m (WithOneMore m.adds item) (refuses_with_item observers item) first state old new (adds_on_refusal_reasons observers new.is_open (begun_refuses m first state) old new item _ _ c.add_message_to_refusal.ensures c.parse_mode-answer.ensures.refuses)
