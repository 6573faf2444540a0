-- Only private clauses cite this: what is kept of statements, and whether refines change features.
use Rattle.std.specs.Prelude.{◌≡◌, ℕ, Bool, List, Some, is_some, slice_get}
use Rattle.std.specs.List.{list_any}
use Rattle.std.specs.declared.boxed.Box.{Box}
use Rattle.std.specs.declared.alloc.Global.{Global}
use Rattle.yv_text_statement.specs.Tree.{Forest}
use Rattle.yv_text_statement.specs.declared.keyword.Keyword.TheVariants as word
use Rattle.yv_link_scopes.specs.Files.{Files}
use Rattle.yv_node_content.specs.Definition.{Definition}
use Rattle.yv_node_statements.specs.declared.store.Store.{Store}
use Rattle.yv_node_statements.specs.declared.store.Store.TheVariants.{Node, Refine}
use Rattle.yv_node_statements.specs.Kinds.{TypeMeanings}
use Rattle.yv_node_statements.specs.Definitions.{defined_at}
use Rattle.yv_node_statements.specs.InnerChanges.{Change, change_at}
use Rattle.yv_node_statements.specs.Values.{with_defaults}
use Rattle.yv_node_properties.specs.Statements.{first_of, statement_at}

-- what is kept of the statement of this number is what it says, with the values of its defaults
abbrev pub IsKept : TypeMeanings → Files → ℕ → Store → Type 0
IsKept typing files number kept =
    ((d : Definition) → kept ≡ Node d → d ≡ with_defaults files (defined_at typing files number))
    × ((c : Box Change Global) → kept ≡ Refine c → c.value ≡ change_at files number)

abbrev pub AreKept : TypeMeanings → Files → List Store → Type 0
AreKept typing files all =
    (number : ℕ) (kept : Store) → slice_get all number ≡ Some kept → IsKept typing files number kept

-- a block has an `if-feature` statement
abbrev pub has_features : Forest → Bool
has_features block = is_some (first_of word.IfFeature block)

-- one of these numbered statements has one
abbrev pub gives_features : Files → List ℕ → Bool
gives_features files refines =
    list_any (λ refine. has_features (statement_at files refine).children) refines
