use Rattle.std.proofs.Common.{◌≡◌, ◌+◌, length}
use Rattle.yv_schema.specs.Families.{lists_of}
use Rattle.yv_schema.specs.InnerContext.{Tells}
use Rattle.yv_schema.specs.InnerModuleNames.{AreModuleNames}
use Rattle.yv_schema.specs.InnerBasis.{NumberedBasis}
use Rattle.yv_schema.proofs.SchemaTreeRows.{Kept}
use Rattle.yv_schema.proofs.tree.Builder.add_nodes.Given as goal

-- with the rows of the items behind, they are all
abbrev pub invariant-loop-place : goal.invariant-loop-place
invariant-loop-place l = record {
  kept : (b : NumberedBasis) → Tells b l.self.context.now → AreModuleNames b.files l.self.module_files.now
      → Kept b (lists_of l.below) l.aboves.items l.place l.items l.nodes.rows l.fn.nodes.rows;
  limit : l.nodes.limit ≡ l.fn.nodes.limit;
  grown : length l.nodes.rows ≡ length l.fn.nodes.rows + l.place;
}
