-- calls of which one is to fail, and what a call of a stream with such calls promises
use Rattle.std.specs.Prelude.{ℕ, zero, suc, ◌≡◌, ◌↔◌, Bool, true, false, Result, Err}
use Rattle.combine_base.specs.declared.stream.Kind.{Kind}
use Rattle.combine_base.specs.declared.stream.Failures.{Failures}
use Rattle.combine_stream.specs.declared.faulty.Due.{Due}
use Rattle.combine_stream.specs.declared.faulty.Due.TheVariants.{Never, After, Past}
use Rattle.combine_stream.specs.declared.faulty.Faulty.{Faulty}

-- the call with that number is to fail, of those that are still to come; 0 is the number of none
abbrev pub due_at : ℕ → Due
due_at zero = Never
due_at (suc others) = After others

-- whether the next call is the one that fails
abbrev pub fails_next : Due → Bool
fails_next Never = false
fails_next (After zero) = true
fails_next (After (suc n)) = false
fails_next Past = false

-- what is due after one more call
abbrev pub one_call : Due → Due
one_call Never = Never
one_call (After zero) = Past
one_call (After (suc n)) = After n
one_call Past = Past

-- how often a call has failed so far
abbrev pub failed : Due → ℕ
failed Never = 0
failed (After n) = 0
failed Past = 1

module _ {S : Type 0} where
  -- the stream inside
  abbrev pub wrapped : Faulty S → S
  wrapped s = s.inner

  -- which of its reads is to fail
  abbrev pub read_due : Faulty S → Due
  read_due s = s.reads

  -- which of its resets is to fail
  abbrev pub reset_due : Faulty S → Due
  reset_due s = s.resets

  abbrev pub failures_of : Faulty S → Failures
  failures_of s = record { reads = failed s.reads; resets = failed s.resets }

-- the call is counted; it fails so exactly if it is the one that is to, and then it leaves the stream inside as it was
pub record CountsCall {S A : Type 0} (before after : Due) (old new : S) (why : Kind) (result : Result A Kind) : Type 0 where
  pub counted : after ≡ one_call before
  pub fails : (result ≡ Err why) ↔ (fails_next before ≡ true)
  pub left : fails_next before ≡ true → new ≡ old
