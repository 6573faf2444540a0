-- Only private clauses cite this: what comes of resolving the leafrefs of a schema tree.
use Rattle.std.specs.Prelude.{◌≡◌, ℕ, ◌+◌, List, map, min, replicate, Option, None}
use Rattle.yv_text_statement.specs.Order.{IsLeast}
use Rattle.yv_link_scopes.specs.Files.{Files}
use Rattle.yv_expand_statements.specs.declared.origin.Origin.{Origin}
use Rattle.yv_expand_statements.specs.declared.origin.Origin.TheVariants as origin
use Rattle.yv_expand_tree.specs.FinalTree.{origin_at}
use Rattle.yv_node_statements.specs.Definitions.{leafref_of}
use Rattle.yv_node_statements.specs.Kinds.{TypeMeanings}
use Rattle.yv_nodes.specs.Link.{AreLinked, Link, reference_in}
use Rattle.yv_nodes.specs.Numbers.{rows_from}
use Rattle.yv_nodes.specs.Rows.{Row}
use Rattle.yv_nodes.specs.Tree.{Forest}
use Rattle.yv_node_leafrefs.specs.Bad.{BadLeafrefs}
use Rattle.yv_node_leafrefs.specs.Resolution.{IsTyped}
use Rattle.yv_node_leafrefs.specs.Schema.{Referral, Schema, leafref_of_row}
use Rattle.yv_node_leafrefs.specs.Links.{AreLinks}
use Rattle.yv_schema.specs.InnerBasis.{NumberedBasis, leafrefs_of, nodes_in, stated_of}
use Rattle.yv_schema.specs.InnerContext.{Tells}
use Rattle.yv_schema.specs.declared.context.Context.{Context}
use Rattle.yv_schema.specs.declared.leafrefs.ResolvedLeafrefs.{ResolvedLeafrefs}

-- a number for each of so many statements that defines nodes: one for all inputs, and one for all
-- outputs
abbrev pub statement_number : (count : ℕ) → Origin → ℕ
statement_number count (origin.Input number) = 0
statement_number count (origin.Output number) = 1
statement_number count (origin.Statement number) = min number count + 2

-- the origins of the nodes that are left
abbrev pub origins_of : NumberedBasis → List Origin
origins_of b = map (λ x. origin_at b.final.items x.origin) (nodes_in b)

-- rows, and what is said of them where copies of a node share it
abbrev pub schema_of_rows : List Row → (of : List (Option ℕ)) → (leafrefs : List Referral) → Schema
schema_of_rows rows of leafrefs = record { rows = rows; says = leafref_of_row of leafrefs }

-- no numbered statement defines a leafref
abbrev pub AreSilent : TypeMeanings → Files → Type 0
AreSilent typing files = (number : ℕ) → leafref_of typing files (origin.Statement number) ≡ None

-- those of so many nodes without links
abbrev pub no_links : ℕ → List (Option Link)
no_links count = replicate count None

-- these are the rows of the tree that is stated of a basis with these files, of which the context
-- tells
pub record AreStated (files : Files) (c : Context) (rows : List Row) : Type 0 where
  pub basis : NumberedBasis
  pub tells : Tells basis c
  pub of_files : basis.files ≡ files
  pub are : rows ≡ rows_from 0 (stated_of basis)

-- this came of a basis: the rows of its tree, the least that is wrong with its leafrefs, and where
-- their paths lead, if nothing is
pub record IsAnswered (b : NumberedBasis) (r : ResolvedLeafrefs) : Type 0 where
  pub tree : Forest
  pub is : IsTyped (leafrefs_of b) (stated_of b) tree
  pub rows : r.nodes.rows ≡ rows_from 0 tree
  pub fault : IsLeast (BadLeafrefs (leafrefs_of b)) r.fault
  pub linked : AreLinked (reference_in r.links) tree
  pub links : r.fault ≡ None → AreLinks (leafrefs_of b) r.links
