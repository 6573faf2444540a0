-- How many units the files of implemented modules take.
use Rattle.std.specs.Prelude.{ℕ, length, map}
use Rattle.yv_text_statement.specs.Selection.{ModuleChoice}
use Rattle.yv_link_scopes.specs.Files.{Files, brief_of}
use Rattle.yv_link_scopes.specs.RowList.{rows_of}
use Rattle.yv_expand_statements.specs.StatementBlocks.{given_before}
use Rattle.yv_expand_statements.specs.Weigh.{Weigh}
use Rattle.yv_expand_statements.specs.FileOrder.{marks_of}

-- the files of the implemented modules take so many units
abbrev pub TakeUnits : ModuleChoice → Files → ℕ → Type 0
TakeUnits choice files units =
    Weigh (map brief_of files) (rows_of files)
    (given_before (map brief_of files) (rows_of files) (marks_of choice files) (length files))
    units
