-- Only private clauses cite this: what a line is by its first bytes.
use Rattle.std.specs.Prelude.{◌≡◌, ℕ, true, false, List}
use Rattle.std.specs.declared.option.Option.TheVariants.{Some}
use Rattle.yv_batch.specs.AskedDocument.{Read, reading_of}
use Rattle.yv_batch.specs.LineDocuments.{is_blank}
use Rattle.yv_batch.specs.declared.documents.Fetched.{Fetched}
use Rattle.yv_batch.specs.declared.lines.Line.{Line}
use Rattle.yv_batch.specs.declared.lines.Line.TheVariants as line

-- these bytes were fetched, of the line of this number
pub record HasBytes (number : ℕ) (front : List ℕ) (f : Fetched) : Type 0 where
  pub line : f.line ≡ Some number
  pub bytes : reading_of f.content ≡ Read front

-- a line of these first bytes: it is blank, or a document
abbrev pub IsRead : (number : ℕ) → (front : List ℕ) → Line → Type 0
IsRead number front line.Blank = is_blank front ≡ true
IsRead number front (line.Document f) = (is_blank front ≡ false) × HasBytes number front f
IsRead number front line.End = ⊥
