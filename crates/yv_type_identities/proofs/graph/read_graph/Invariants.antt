use Rattle.std.proofs.Common.{◌≡◌, length, map}
use Rattle.yv_text_statement.specs.Selection.{ModuleChoice}
use Rattle.yv_link_scopes.specs.Files.{Files, brief_of}
use Rattle.yv_link_scopes.specs.RowList.{rows_of}
use Rattle.yv_link_scopes.specs.Rows.{row}
use Rattle.yv_link.specs.LinkedFiles.{AreLinked}
use Rattle.yv_type_identities.specs.InnerRuns.{pair_of}
use Rattle.yv_type_identities.proofs.DerivationGraph.{Edges, Ends}
use Rattle.yv_type_identities.proofs.graph.read_graph.Given as goal

abbrev pub invariant-loop-number : goal.invariant-loop-number
invariant-loop-number l = record {
  each : length l.graph.items ≡ length l.entries;
  ends : Ends l.graph.items;
  edges : (files : Files) (choice : ModuleChoice) → AreLinked files choice l.linked → Edges (rows_of files) (pair_of (map brief_of files) (rows_of files) (map row l.entries) l.places) l.number l.graph.items;
}
