-- What a clause reads of a `Counted`, and what its calls count.
use Rattle.std.specs.Prelude.{◌≡◌, ◌≤◌, ◌+◌, ◌-◌, ◌^◌, ◌||◌, ℕ, Bool, true, List, length, Option, ltb, min}
use Rattle.std.specs.Io.KnownBytes.{Consumes}
use Rattle.yv_base_streams.specs.declared.counted_stream.Counted.{Counted}

-- the reader or writer that is wrapped
abbrev pub stream_inner : {T : Type 0} → Counted T → T
stream_inner c = c.inner

-- the errors other than interruptions, and the writes that took nothing of what they were given,
-- that its calls have answered
abbrev pub stream_faults : {T : Type 0} → Counted T → ℕ
stream_faults c = c.faults

-- the interruptions that its calls have answered
abbrev pub stream_interrupts : {T : Type 0} → Counted T → ℕ
stream_interrupts c = c.interrupts

-- a stream has failed by its first fault, or by its 1,001st interruption
abbrev pub has_failed : {T : Type 0} → Counted T → Bool
has_failed c = ltb 0 (stream_faults c) || ltb 1000 (stream_interrupts c)

-- nothing has gone wrong yet
abbrev pub IsFresh : {T : Type 0} → Counted T → Type 0
IsFresh c = (stream_faults c ≡ 0) × (stream_interrupts c ≡ 0)

-- a counter of 64 bits stops at its greatest number
abbrev pub one_more : ℕ → ℕ
one_more n = min (n + 1) (2 ^ 64 - 1)

-- neither counter moves
abbrev pub CountsNothing : {T : Type 0} → Counted T → Counted T → Type 0
CountsNothing old new =
    (stream_faults new ≡ stream_faults old) × (stream_interrupts new ≡ stream_interrupts old)

-- one more fault
abbrev pub CountsFault : {T : Type 0} → Counted T → Counted T → Type 0
CountsFault old new =
    (stream_faults new ≡ one_more (stream_faults old))
    × (stream_interrupts new ≡ stream_interrupts old)

-- one more interruption
abbrev pub CountsInterrupt : {T : Type 0} → Counted T → Counted T → Type 0
CountsInterrupt old new =
    (stream_faults new ≡ stream_faults old)
    × (stream_interrupts new ≡ one_more (stream_interrupts old))

-- a call of a stream that has failed makes no call of what it wraps, and is one more fault
abbrev pub GivesUp : {T : Type 0} → Counted T → Counted T → Type 0
GivesUp old new =
    has_failed old ≡ true → (stream_inner new ≡ stream_inner old) × CountsFault old new

-- the calls that went wrong and weren't borne: the faults, and the interruptions past the first
-- 1,000
abbrev pub stream_failures : {T : Type 0} → Counted T → ℕ
stream_failures c = stream_faults c + (stream_interrupts c - 1000)

-- At most one call wasn't borne. No call came after it, since each call of a stream that has failed
-- is one more fault.
abbrev pub FailsOnceAtMost : {T : Type 0} → Counted T → Type 0
FailsOnceAtMost c = stream_failures c ≤ 1

-- Of the bytes that a reader has left the first are gone, where they are known, and those are at
-- most `limit`. A read that answers an error takes none, so this can hold of a reader that failed
-- too.
pub record TakesAtMost (limit : ℕ) (old new : Option (List ℕ)) : Type 0 where
  pub taken : List ℕ
  pub consumed : Consumes old new taken
  pub few : length taken ≤ limit
