-- What the files of a run come to, in the words of the layers below.
use Rattle.std.specs.Prelude.{◌≡◌, ℕ, List, take, Some, None, slice_get}
use Rattle.std.specs.List.{AllZip}
use Rattle.yv_text_statement.specs.Tree.{Tree}
use Rattle.yv_text_statement.specs.Order.{IsLeast}
use Rattle.yv_text_statement.specs.declared.refusal.Refusal.{Refusal}
use Rattle.yv_text_statement.specs.Selection.{ModuleChoice}
use Rattle.yv_type_restrictions.specs.Types.{HasTypePattern}
use Rattle.yv_nodes.specs.Rows.{Rows, whole}
use Rattle.yv_nodes.specs.Numbers.{rows_of}
use Rattle.yv_schema.specs.Module.{modules_of}
use Rattle.yv_schema.specs.Notes.{AreNotes}
use Rattle.yv_schema.specs.Schema.{AreReferences, IsSchema}
use Rattle.yv_schema.specs.Refuses.{Refuses, RefusesBeforeTypes}
use Rattle.yv_base_streams.specs.Files.{File}
use Rattle.yv_source.specs.FileStatements.{IsRead, IsUnread, in_file}

-- files are refused, or give a schema
pub data Compilation : Type 0 where
  RefusedAt : Refusal → Compilation
  HasSchema : Rows → Compilation

-- the schema of statements within a limit: the numbered rows of their schema tree, with the modules
-- that are implemented, the augments that add nodes, and where leafrefs lead
pub record IsGiven (choice : ModuleChoice) (ts : List Tree) (limit : ℕ) (s : Rows) : Type 0 where
  pub tree : IsSchema choice ts (whole s)
  pub augments : AreNotes choice ts s.augments
  pub references : AreReferences choice ts s.links
  pub rows : s ≡ rows_of limit (modules_of choice ts) s.augments s.links (whole s)

-- What files come to under a choice and a limit of what they may expand to: one of them can't be
-- read, though those before it can; or their statements are refused; or they give their schema.
pub data FilesCompile (choice : ModuleChoice) (limit : ℕ) (files : List File) : Compilation
    → Type 0 where
  bad_syntax : {r : Refusal} (n : ℕ) (f : File) (ts : List Tree) → AllZip IsRead (take n files) ts
      → slice_get files n ≡ Some f → IsUnread f r
      → FilesCompile choice limit files (RefusedAt (in_file n r))
  refuses : {r : Refusal} (ts : List Tree) → AllZip IsRead files ts
      → IsLeast (Refuses choice ts limit) (Some r)
      → FilesCompile choice limit files (RefusedAt r)
  gives_schema : {schema : Rows} (ts : List Tree) → AllZip IsRead files ts
      → IsLeast (Refuses choice ts limit) None
      → IsGiven choice ts limit schema → FilesCompile choice limit files (HasSchema schema)

-- the files come to some schema
abbrev pub GiveSchema : ModuleChoice → ℕ → List File → Type 0
GiveSchema choice limit files = (schema : Rows) × FilesCompile choice limit files (HasSchema schema)

-- the files are refused
abbrev pub AreRefused : ModuleChoice → ℕ → List File → Type 0
AreRefused choice limit files = (r : Refusal) × FilesCompile choice limit files (RefusedAt r)

-- the files can be read, nothing of them is refused before their types, and one of these has a
-- pattern
pub record HavePattern (choice : ModuleChoice) (limit : ℕ) (files : List File) : Type 0 where
  pub trees : List Tree
  pub read : AllZip IsRead files trees
  pub clear : IsLeast (RefusesBeforeTypes choice trees limit) None
  pub pattern : HasTypePattern trees
