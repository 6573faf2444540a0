-- The schema tree that the statements of files give (RFC 7950, sections 5.6.5, 7.5 to 7.17).
use Rattle.std.specs.Prelude.{ℕ, ◌+◌, List, [], ◌∷◌, Option, Some, None, if◌then◌else◌, slice_get}
use Rattle.yv_text_statement.specs.Tree as statement
use Rattle.yv_text_statement.specs.Selection.{ModuleChoice}
use Rattle.yv_link_scopes.specs.Files.{Files, tree_name}
use Rattle.yv_expand_statements.specs.FileOrder.{is_given}
use Rattle.yv_text_statement.specs.declared.keyword.Keyword.TheVariants as word
use Rattle.yv_node_properties.specs.Statements.{argument_of, first_of}
use Rattle.yv_nodes.specs.Rows.{Module}

-- the argument of a root that may be there
abbrev pub name_of_root : Option statement.Tree → List ℕ
name_of_root None = []
name_of_root (Some root) = tree_name root

-- the name of the module whose own file is the one of this number
abbrev pub module_name : Files → (module_file : ℕ) → List ℕ
module_name files module_file = name_of_root (slice_get files module_file)

-- of the files from number m on, the modules that are implemented, each with its prefix and the
-- number of its file
abbrev pub given_from : ModuleChoice → ℕ → Files → List Module
given_from choice m [] = []
given_from choice m (t ∷ ts) =
    let behind : List Module = given_from choice (m + 1) ts in
    if is_given choice t then record {
      name = tree_name t;
      prefix = argument_of (first_of word.Prefix t.children);
      module_file = m;
    } ∷ behind else behind

-- the implemented modules of files, by file (section 5.6.5)
abbrev pub modules_of : ModuleChoice → Files → List Module
modules_of choice files = given_from choice 0 files
