-- Only private clauses cite this: what comes of the next line of a source.
use Rattle.std.specs.Prelude.{ℕ, List}
use Rattle.std.specs.declared.option.Option.{Option}
use Rattle.std.specs.declared.option.Option.TheVariants.{None, Some}
use Rattle.yv_batch.specs.AskedDocument.{AskedDocument, asked_of}
use Rattle.yv_batch.specs.InnerSupply.{IsSame}
use Rattle.yv_batch.specs.Supply.{Takes}
use Rattle.yv_batch.specs.declared.lines.Line.{Line}
use Rattle.yv_batch.specs.declared.lines.Line.TheVariants as line

-- a line that was read
abbrev pub IsLine : (source : List ℕ) → Option (List AskedDocument) → Option (List AskedDocument) → Line → Type 0
IsLine source old new line.Blank = IsSame old new
IsLine source old new (line.Document f) = Takes old new (Some (asked_of source f))
IsLine source old new line.End = Takes old new None
