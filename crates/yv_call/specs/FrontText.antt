-- What a writer over a buffer was given.
use Rattle.std.specs.Prelude.{ℕ, List}
use Rattle.yv_call.specs.Front.{mark}
use Rattle.yv_call.specs.declared.front.TextFront.{TextFront}

-- all bytes that it was given
abbrev pub text_of : TextFront → List ℕ
text_of w = w.log.bytes

-- what its buffer held at first
abbrev pub initial_of : TextFront → List ℕ
initial_of w = w.origin.value.bytes.now

-- which buffer it is
abbrev pub name_of : TextFront → ℕ
name_of w = w.buffer.ghost_name

-- the text, and before it which buffer it is
abbrev pub mark_of : TextFront → List ℕ
mark_of w = mark (name_of w) (initial_of w) (text_of w)
