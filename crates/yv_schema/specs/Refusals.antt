-- What is refused of single files, of the types of all, and of the nodes of a schema tree (RFC
-- 7950, sections 7 and 9).
use Rattle.std.specs.Prelude.{◌≡◌, ◌⊎◌, ℕ, length}
use Rattle.yv_text_statement.specs.Tree.{Tree}
use Rattle.yv_text_statement.specs.declared.refusal.Refusal.{Refusal}
use Rattle.yv_text_grammar.specs.Refusals.{Bad}
use Rattle.yv_text_grammar.specs.declared.xpath.Xpath.TheVariants.{Refuse}
use Rattle.yv_text_statement.specs.Order.{Among}
use Rattle.yv_text_statement.specs.Selection.{ModuleChoice}
use Rattle.yv_link_scopes.specs.Files.{Files}
use Rattle.yv_link.specs.Links.{BadLinks}
use Rattle.yv_link_definitions.specs.Refusals.{BadNames}
use Rattle.yv_types.specs.Refusals.{BadTypes}
use Rattle.yv_expand_statements.specs.Truth.{Truth, IsTruth}
use Rattle.yv_nodes.specs.Tree.{Forest}
use Rattle.yv_node_checks.specs.Bad.{BadTree}
use Rattle.yv_node_leafrefs.specs.Bad.{BadLeafrefs}
use Rattle.yv_node_leafrefs.specs.Schema.{Schema}
use Rattle.yv_schema_tables.specs.Bad.{BadRows}

-- a refusal that names the file as 0, told of the file of this number
abbrev pub in_file : ℕ → Refusal → Refusal
in_file n r = record { code = r.code; file = n; offset = r.offset; line = r.line }

-- f is in the file of this number: its statements aren't as the tables of the language say
pub record BadFile (n : ℕ) (t : Tree) (f : Refusal) : Type 0 where
  pub own : Refusal
  pub stands : Bad Refuse t own
  pub is : f ≡ in_file n own

-- f is at a type of the files, by the truth of their conditions
pub record BadTyping (choice : ModuleChoice) (files : Files) (f : Refusal) : Type 0 where
  pub truth : Truth
  pub is_truth : IsTruth files choice truth
  pub bad : BadTypes files truth f

-- f is in a schema tree whose nodes say this as leafrefs: a duplicate name, a list whose key or
-- `unique` statements name what they may not, a leafref that leads nowhere or to itself, or what is
-- wrong else
abbrev pub BadNodes : Schema → Forest → Refusal → Type 0
BadNodes said top f = BadRows top f ⊎ (BadTree top f ⊎ BadLeafrefs said f)

-- what is refused before files are expanded: of every file as such, of its links to others, its
-- features and its identities, and of the names of its definitions
abbrev pub RefusesBeforeExpansion : Files → Refusal → Type 0
RefusesBeforeExpansion files f =
    Among files BadFile (length files) f ⊎ (BadLinks files f ⊎ BadNames files f)
