-- What the machine's code answers; cited by private clauses only.
use Rattle.std.specs.Prelude.{◌≡◌, List, Result, Ok, Err}
use Rattle.yv_text_statement.specs.Tree.{Tree}
use Rattle.yv_source.specs.Pieces as pieces
use Rattle.yv_source.specs.Inner.Machine.{Step, Next, Wrong, Deep}
use Rattle.yv_source.specs.declared.machine.Phase.{Phase}
use Rattle.yv_source.specs.declared.machine.Halt.{Halt}
use Rattle.yv_source.specs.declared.machine.Halt.TheVariants as halt
use Rattle.yv_source.specs.declared.machine.Token.{Token}
use Rattle.yv_source.specs.declared.machine.Token.TheVariants as token

-- a token without where it lies in memory
abbrev pub piece_of : Token → pieces.Piece
piece_of (token.Word t) = pieces.Word t.now
piece_of (token.Single t) = pieces.Single t.now
piece_of (token.Double t) = pieces.Double t.now
piece_of token.Semicolon = pieces.Semicolon
piece_of token.Open = pieces.Open
piece_of token.Close = pieces.Close
piece_of token.Plus = pieces.Plus

-- the open statements after a step, the innermost first, and what was answered are those of the
-- machine
abbrev pub Gives : Result Phase Halt → List Tree → Step → Type 0
Gives (Ok phase) stack s = s ≡ Next stack phase
Gives (Err halt.Wrong) stack s = s ≡ Wrong
Gives (Err halt.Deep) stack s = s ≡ Deep
Gives (Err halt.NoMemory) stack s = Unit {0}
