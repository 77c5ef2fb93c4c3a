use Rattle.std.proofs.Common.{◌≡◌, ◌∙◌, of_calls, rules, sym}
use Rattle.combine_byte.specs.Numbers.{big_endian}
use Rattle.combine_decode.specs.Frames.{frame_of}
use Rattle.combine_repeat.specs.Repeat.RepeatParsers.{count_min_max_of}
use Rattle.combine_token.specs.Token.TokenParsers.{any_parser}
use Rattle.tests_promises.proofs.OneOutcome.{counted_is_single, one_for_number}
use Rattle.tests_promises.proofs.decoding.frames.Goals as goal

pub messages_go_on-requires : goal.messages_go_on-requires
messages_go_on-requires c κs = (search rules, record { every = λ p i. let e : p ≡ frame_of c.args.alloc = search of_calls in rw e (search rules) })

pub messages_are_one-requires-clause-lawful : goal.messages_are_one-requires-clause-lawful
messages_are_one-requires-clause-lawful c κs = record { every = λ p i. let e : p ≡ frame_of c.args.alloc = search of_calls in rw e (search rules) }

pub messages_are_one-requires-clause-determined : goal.messages_are_one-requires-clause-determined
messages_are_one-requires-clause-determined c κs = record {
  every = λ p i.
      let e : p ≡ frame_of c.args.alloc = search of_calls in
      rw e (tt, λ n h. tt, record { whole = one_for_number 2 big_endian (λ n. count_min_max_of c.args.alloc n n any_parser) (λ n. counted_is_single _ _ n); rest = λ s k. one_for_number 2 big_endian (λ n. count_min_max_of c.args.alloc n n any_parser) (λ n. counted_is_single _ _ n) });
}

pub messages_are_one-requires-clause-shared : goal.messages_are_one-requires-clause-shared
messages_are_one-requires-clause-shared c κs = record {
  every = λ p q i j v o w.
      let e : p ≡ frame_of c.args.alloc = search of_calls in
      let f : q ≡ frame_of c.args.alloc = search of_calls in
      rw (f ∙ sym e) w;
}

pub cuts_agree-requires-clause-lawful : goal.cuts_agree-requires-clause-lawful
cuts_agree-requires-clause-lawful c κs = record { every = λ p i. let e : p ≡ frame_of c.args.alloc = search of_calls in rw e (search rules) }

pub cuts_agree-requires-clause-determined : goal.cuts_agree-requires-clause-determined
cuts_agree-requires-clause-determined c κs = record {
  every = λ p i.
      let e : p ≡ frame_of c.args.alloc = search of_calls in
      rw e (tt, λ n h. tt, record { whole = one_for_number 2 big_endian (λ n. count_min_max_of c.args.alloc n n any_parser) (λ n. counted_is_single _ _ n); rest = λ s k. one_for_number 2 big_endian (λ n. count_min_max_of c.args.alloc n n any_parser) (λ n. counted_is_single _ _ n) });
}

pub cuts_agree-requires-clause-shared : goal.cuts_agree-requires-clause-shared
cuts_agree-requires-clause-shared c κs = record {
  every = λ p q i j v o w.
      let e : p ≡ frame_of c.args.alloc = search of_calls in
      let f : q ≡ frame_of c.args.alloc = search of_calls in
      rw (f ∙ sym e) w;
}
