-- A node is refused for its depth in the final tree by number exactly where the definition on trees
-- refuses it (RFC 7950, sections 7.12 to 7.17).
use Rattle.std.specs.Prelude.{ℕ}
use Rattle.yv_text_statement.specs.declared.refusal.Code.TheVariants as code
use Rattle.yv_text_statement.specs.declared.refusal.Refusal.{Refusal}
use Rattle.yv_link_scopes.specs.Files.{Files}
use Rattle.yv_link_scopes.specs.RowList.{rows_of}
use Rattle.yv_expand_augments.specs.Refusals.{TooDeep}
use Rattle.yv_expand_tree.specs.Final.{spots_of, final_items}
use Rattle.yv_expand_definition.specs.Nodes.{Forest}
use Rattle.yv_expand_definition.specs.Refusals.{IsTooDeep}
use Rattle.yv_expand_laws.specs.AlikeRefusals.{IsRefusalAt, RefuseAlike}

-- a statement that gives one of these nodes too deep is refused so
abbrev pub RefusesDepth : Files → Forest → Refusal → Type 0
RefusesDepth files nodes f =
    (k : ℕ) × IsTooDeep nodes k × IsRefusalAt (rows_of files) code.TreeTooDeep k f

-- the same depths are refused
abbrev pub DepthsAreOne : Files → Type 0
DepthsAreOne files =
    RefuseAlike files (λ f. TooDeep (rows_of files) (spots_of files f) (final_items f))
    (λ marks m. RefusesDepth files m.nodes)
