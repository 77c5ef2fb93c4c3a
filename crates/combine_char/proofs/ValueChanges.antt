-- an answer with its value changed is one of the mapped parser, and its error the same
use Rattle.combine_base.specs.Stream.View.{View}
use Rattle.combine_base.specs.Error.Errors.{Observers}
use Rattle.combine_base.specs.Parser.Meaning.{Meaning}
use Rattle.combine_base.specs.Parser.ValueMap.{mapped}
use Rattle.combine_base.specs.Parser.Answer.{CallRecord, World, Answers}
use Rattle.combine_base.specs.Error.Results.{MapsValue}
use Rattle.std.proofs.Common.{ℕ, List, Bool, true, false}
use Rattle.combine_base.specs.Parser.Reasons.{Reasoned, ReasonedCall}
use Rattle.combine_base.specs.declared.stream.Kind.{Kind}
use Rattle.combine_base.proofs.Errors.CallReasons.{reasons_ok, reasons_peek_ok, reasons_err, reasons_peek_err}
use Rattle.combine_base.proofs.Parsers.ValueMap.{mapped_err, mapped_peek_err, mapped_ok, mapped_peek_ok}
use Rattle.combine_char.specs.Restart.{whole_pair}
use Rattle.combine_char.specs.NamedParser.{named}
use Rattle.combine_base.specs.declared.error.result.ParseResult.{ParseResult}
use Rattle.combine_base.specs.declared.error.result.ParseResult.TheVariants.{CommitOk, PeekOk, CommitErr, PeekErr}

pub mapped_answer : {P T R A B S E : Type 0} (w : World P T S E) (m : Meaning P T R E A S) (f : A → B → Type 0) (r : CallRecord P T S) (g : A → B → Type 0) → ((a : A) (b : B) → g a b → f a b) → (x : ParseResult A E) (y : ParseResult B E) → MapsValue g x y → Answers w m r x → Answers w (mapped m f) r y
mapped_answer w m f r g i (CommitOk a) (CommitOk b) p h = mapped_ok w m f r a b (i a b p) h
mapped_answer w m f r g i (PeekOk a) (PeekOk b) p h = mapped_peek_ok w m f r a b (i a b p) h
mapped_answer w m f r g i (CommitErr e) (CommitErr d) p h = rw p (mapped_err w m f r e h)
mapped_answer w m f r g i (PeekErr e) (PeekErr d) p h = rw p (mapped_peek_err w m f r e h)
mapped_answer w m f r g i (CommitOk a) (PeekOk b) p h = absurd p
mapped_answer w m f r g i (CommitOk a) (CommitErr d) p h = absurd p
mapped_answer w m f r g i (CommitOk a) (PeekErr d) p h = absurd p
mapped_answer w m f r g i (PeekOk a) (CommitOk b) p h = absurd p
mapped_answer w m f r g i (PeekOk a) (CommitErr d) p h = absurd p
mapped_answer w m f r g i (PeekOk a) (PeekErr d) p h = absurd p
mapped_answer w m f r g i (CommitErr e) (CommitOk b) p h = absurd p
mapped_answer w m f r g i (CommitErr e) (PeekOk b) p h = absurd p
mapped_answer w m f r g i (CommitErr e) (PeekErr d) p h = absurd p
mapped_answer w m f r g i (PeekErr e) (CommitOk b) p h = absurd p
mapped_answer w m f r g i (PeekErr e) (PeekOk b) p h = absurd p
mapped_answer w m f r g i (PeekErr e) (CommitErr d) p h = absurd p

module _ {A B E : Type 0} (kind : E → Kind) (is_open : Bool) (says : Bool → E → Type 0) (g : A → B → Type 0) where
  pub mapped_reasons : (x : ParseResult A E) (y : ParseResult B E) → MapsValue g x y → Reasoned kind is_open says x → Reasoned kind is_open says y
  mapped_reasons (CommitOk a) (CommitOk b) p h = reasons_ok kind is_open says b
  mapped_reasons (PeekOk a) (PeekOk b) p h = reasons_peek_ok kind is_open says b
  mapped_reasons (CommitErr e) (CommitErr d) p h = rw p (reasons_err kind is_open says e h)
  mapped_reasons (PeekErr e) (PeekErr d) p h = rw p (reasons_peek_err kind is_open says e h)
  mapped_reasons (CommitOk a) (PeekOk b) p h = absurd p
  mapped_reasons (CommitOk a) (CommitErr d) p h = absurd p
  mapped_reasons (CommitOk a) (PeekErr d) p h = absurd p
  mapped_reasons (PeekOk a) (CommitOk b) p h = absurd p
  mapped_reasons (PeekOk a) (CommitErr d) p h = absurd p
  mapped_reasons (PeekOk a) (PeekErr d) p h = absurd p
  mapped_reasons (CommitErr e) (CommitOk b) p h = absurd p
  mapped_reasons (CommitErr e) (PeekOk b) p h = absurd p
  mapped_reasons (CommitErr e) (PeekErr d) p h = absurd p
  mapped_reasons (PeekErr e) (CommitOk b) p h = absurd p
  mapped_reasons (PeekErr e) (PeekOk b) p h = absurd p
  mapped_reasons (PeekErr e) (CommitErr d) p h = absurd p

-- the error of a pair, by that of its part
pub pair_reasons : {P T R A B S Z E : Type 0} (errors : Observers T R P E) (m : Meaning P T R E (A × B) S) (first : Bool) (z : Z) (old new : View P T) (g : A × B → B → Type 0) (x : ParseResult (A × B) E) (y : ParseResult B E) → MapsValue g x y → Reasoned errors.kind new.is_open (m.refuses old new) x → ReasonedCall errors (whole_pair m) first z old new y
pair_reasons errors m true z old new g x y p r = mapped_reasons errors.kind new.is_open (m.refuses old new) g x y p r
pair_reasons errors m false z old new g x y p r = mapped_reasons errors.kind new.is_open (m.refuses old new) g x y p r

-- under another name it is the same
pub named_reasons : {P T R V S E : Type 0} (errors : Observers T R P E) (text : List ℕ) (m : Meaning P T R E V S) (first : Bool) (s : S) (old new : View P T) (result : ParseResult V E) → ReasonedCall errors m first s old new result → ReasonedCall errors (named text m) first s old new result
named_reasons errors text m true s old new result r = r
named_reasons errors text m false s old new result r = r
