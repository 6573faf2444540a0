-- An augment of a module is refused for a mandatory node in the final tree by number exactly where
-- the definition on trees refuses it (RFC 7950, sections 3 and 7.17).
use Rattle.std.specs.Prelude.{◌≡◌, ℕ, true, false, None, Some, slice_get}
use Rattle.yv_text_statement.specs.declared.refusal.Code.TheVariants as code
use Rattle.yv_text_statement.specs.declared.refusal.Refusal.{Refusal}
use Rattle.yv_link_scopes.specs.Files.{Files}
use Rattle.yv_link_scopes.specs.RowList.{rows_of}
use Rattle.yv_link_scopes.specs.Rows.{Row}
use Rattle.yv_link_definitions.specs.Refers.{is_uses}
use Rattle.yv_expand_statements.specs.declared.origin.Origin.TheVariants.{Statement}
use Rattle.yv_expand_augments.specs.MandatoryNodes.{ImposesMandatory, nothing_around}
use Rattle.yv_node_properties.specs.Marks.{is_mandatory, stated_of}
use Rattle.yv_node_properties.specs.Properties.{last_said, statements_of_origin}
use Rattle.yv_expand_changes.specs.Properties.{told_of}
use Rattle.yv_expand_tree.specs.Final.{said_of, spots_of}
use Rattle.yv_expand_definition.specs.Nodes.{Forest}
use Rattle.yv_expand_definition.specs.Refusals.{Imposes}
use Rattle.yv_expand_laws.specs.AlikeRefusals.{IsRefusalAt, RefuseAlike}

-- an augment of a module that gives one of these nodes is refused so
abbrev pub RefusesImposition : Files → Forest → Refusal → Type 0
RefusesImposition files nodes f =
    (a : ℕ) × Imposes files nodes a × IsRefusalAt (rows_of files) code.BadAugment a f

-- no uses says that it is mandatory, as it is in files that conform
abbrev pub UsesAreOptional : Files → Type 0
UsesAreOptional files =
    (k : ℕ) (r : Row) → slice_get (rows_of files) k ≡ Some r → is_uses r ≡ true
    → is_mandatory (stated_of (last_said files (statements_of_origin (Statement k)))) ≡ false

-- then the same augments of modules are refused for mandatory nodes
abbrev pub ImpositionsAreOne : Files → Type 0
ImpositionsAreOne files =
    UsesAreOptional files → RefuseAlike files
    (λ f. ImposesMandatory (rows_of files) (spots_of files f) f.augments
    (told_of (said_of files f)) None nothing_around f.tree)
    (λ marks m. RefusesImposition files m.nodes)
