-- The files: their names, and the modules to which they belong (RFC 7950, section 5.1).
use Rattle.std.specs.Prelude.{ℕ, Bool, List, [], Option, Some, None, if◌then◌else◌, codes, slice_get}
use Rattle.std.specs.List.{find}
use Rattle.std.specs.Option.{unwrap_or}
use Rattle.std.specs.Str.{bytes_eq}
use Rattle.yv_text_statement.specs.Tree.{Head, Tree, trees, name_of}
use Rattle.yv_link_scopes.specs.Names.{first_where}
use Rattle.yv_link_scopes.specs.declared.files.File.{File}

-- the statements of the files, in order
abbrev pub Files : Type 0
Files = List Tree

-- a file: its name, the name of the module to which it belongs, whether it is a module, and its
-- root
pub record Brief : Type 0 where
  pub name : List ℕ
  pub module_name : List ℕ
  pub is_module : Bool
  pub head : Head

-- what is known of each file
abbrev pub Briefs : Type 0
Briefs = List Brief

-- what is known of a file of the code
abbrev pub brief : File → Brief
brief f = record {
  name = f.name.now;
  module_name = f.module_name.now;
  is_module = f.is_module;
  head = f.root.now.head;
}

-- a statement has this keyword
abbrev pub has_word : List ℕ → Head → Bool
has_word word head = bytes_eq head.keyword word

-- a root is that of a module
abbrev pub is_module : Tree → Bool
is_module t = has_word (codes "module") t.head

-- the argument of a statement; no text without one
abbrev pub tree_name : Tree → List ℕ
tree_name t = name_of t.head

-- the argument of a statement that may be there
abbrev pub first_name : Option Tree → List ℕ
first_name None = []
first_name (Some t) = tree_name t

-- the name of the module to which a file belongs: a module's own, a submodule's by its belongs-to
abbrev pub module_name : Tree → List ℕ
module_name t =
    if is_module t then tree_name t
    else first_name (find (λ c. has_word (codes "belongs-to") c.head) (trees t.children))

-- what is known of the file with this root
abbrev pub brief_of : Tree → Brief
brief_of t = record {
  name = tree_name t;
  module_name = module_name t;
  is_module = is_module t;
  head = t.head;
}

-- the first file with a name
abbrev pub file_named : Briefs → List ℕ → Option ℕ
file_named files name = first_where (λ (f : Brief). bytes_eq f.name name) files

-- the file of the module to which a numbered file belongs: of a submodule, the first file with the
-- name of its `belongs-to`, or itself where there is none
abbrev pub module_file_in : Briefs → ℕ → Option Brief → ℕ
module_file_in files n None = n
module_file_in files n (Some f) =
    if f.is_module then n else unwrap_or (file_named files f.module_name) n

-- the file of the module to which a file belongs; the file itself where that isn't there
abbrev pub module_file_at : Briefs → ℕ → ℕ
module_file_at files n = module_file_in files n (slice_get files n)
