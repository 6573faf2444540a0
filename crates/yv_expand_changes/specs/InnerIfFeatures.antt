-- Only private clauses cite this: whether a statement that may not be there is on.
use Rattle.std.specs.Prelude.{ℕ, Bool, true, Option, Some, None}
use Rattle.yv_text_statement.specs.Tree.{Tree}
use Rattle.yv_expand_statements.specs.Truth.{Truth}
use Rattle.yv_expand_changes.specs.IfFeatures.{is_on}

-- the conditions of a statement hold in a file; there are none where there is no statement
abbrev pub is_on_in : Truth → (file : ℕ) → Option Tree → Bool
is_on_in truth file None = true
is_on_in truth file (Some t) = is_on truth file t.children
