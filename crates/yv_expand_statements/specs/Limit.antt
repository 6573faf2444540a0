-- Where the units of files pass a limit.
use Rattle.std.specs.Prelude.{ℕ, ◌+◌, ◌≤◌, ◌<◌, Bool, List, length, map}
use Rattle.yv_text_statement.specs.Order.{Stands, Among, refusal_at}
use Rattle.yv_text_statement.specs.declared.refusal.Refusal.{Refusal}
use Rattle.yv_text_statement.specs.declared.refusal.Code.TheVariants as code
use Rattle.yv_link_scopes.specs.Files.{Files, Briefs, brief_of}
use Rattle.yv_link_scopes.specs.Rows.{Row}
use Rattle.yv_link_scopes.specs.RowList.{rows_of}
use Rattle.yv_expand_statements.specs.StatementBlocks.{given_before}
use Rattle.yv_expand_statements.specs.Weigh.{Weigh}

-- the files before this one fit the limit, and with this one they don't
pub record Passes (files : Briefs) (rows : List Row) (marks : List Bool)
    (limit file : ℕ) : Type 0 where
  pub before : ℕ
  pub weigh_before : Weigh files rows (given_before files rows marks file) before
  pub fits : before ≤ limit
  pub all : ℕ
  pub weigh_all : Weigh files rows (given_before files rows marks (file + 1)) all
  pub passes : limit < all

-- the refusal of the file with which the limit is passed, at its root
abbrev pub TooMany : Files → List Bool → ℕ → Refusal → Type 0
TooMany files marks limit f =
    Among files (λ n t. Stands (Passes (map brief_of files) (rows_of files) marks limit n)
    (refusal_at code.TooManyNodes n t.head)) (length files) f

-- the files that are given fit the limit
abbrev pub Fits : Files → List Bool → ℕ → Type 0
Fits files marks limit =
    (n : ℕ) × Weigh (map brief_of files) (rows_of files)
    (given_before (map brief_of files) (rows_of files) marks (length files)) n × (n ≤ limit)
