-- what a slice with an index is seen as
use Rattle.std.specs.Prelude.{ℕ, false, drop}
use Rattle.combine_base.specs.Stream.View.{View}
use Rattle.combine_stream.specs.declared.position.slice.SliceStream.{SliceStream}

abbrev pub indexed_view : {T : Type 0} → SliceStream T → View ℕ T
indexed_view s = record { position = s.at; unread = drop s.at s.tokens.now; is_open = false }
