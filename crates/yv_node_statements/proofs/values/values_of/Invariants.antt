use Rattle.std.proofs.Common.{◌≡◌, ◌≤◌, ◌++◌, drop, length, map}
use Rattle.yv_link_scopes.specs.Files.{Files}
use Rattle.yv_values.specs.Types.{plain_of}
use Rattle.yv_text_statement.specs.TextInFile.{written_of}
use Rattle.yv_types.specs.Scopes.{AreScopes}
use Rattle.yv_node_statements.specs.Values.{values_of}
use Rattle.yv_node_statements.proofs.values.values_of.Given as goal

-- with those of the texts behind, these are the values of all
abbrev pub invariant-loop-written : goal.invariant-loop-written
invariant-loop-written l = record {
  values : (files : Files) → AreScopes files l.scopes
      → l.values.items ++ values_of files (map plain_of l.types) (map written_of (drop l.written-index l.texts)) ≡ values_of files (map plain_of l.types) (map written_of l.texts);
  few : length l.values.items ≤ l.written-index;
}
