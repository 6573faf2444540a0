-- Which files give schema nodes, and in which order (RFC 7950, sections 5.1 and 5.6.5).
use Rattle.std.specs.Prelude.{◌≡◌, ℕ, ◌+◌, ◌==◌, ◌&&◌, Bool, true, List, [], ◌∷◌, ◌++◌, map, if◌then◌else◌, Option, Some, None, slice_get}
use Rattle.yv_text_statement.specs.Tree.{Tree}
use Rattle.yv_text_statement.specs.Selection.{ModuleChoice, is_implemented}
use Rattle.yv_base_tables.specs.Families.{numbers_at}
use Rattle.yv_link_scopes.specs.Files.{Briefs, Files, brief_of, module_file_at, is_module, module_name, tree_name}

-- a mark for each file that belongs to a module that is implemented; a submodule belongs to its
-- module
abbrev pub marks_of : ModuleChoice → Files → List Bool
marks_of choice files = map (λ (t : Tree). is_implemented choice (module_name t)) files

-- a file is that of a module that is implemented
abbrev pub is_given : ModuleChoice → Tree → Bool
is_given choice t = is_module t && is_implemented choice (tree_name t)

-- for each file the module that it belongs to, if it is a submodule
abbrev pub places_from : Briefs → (file : ℕ) → Files → List (Option ℕ)
places_from briefs n [] = []
places_from briefs n (t ∷ ts) =
    (if module_file_at briefs n == n then None else Some (module_file_at briefs n))
    ∷ places_from briefs (n + 1) ts

-- for each file that isn't its module's own the module's
abbrev pub part_places : Files → List (Option ℕ)
part_places files = places_from (map brief_of files) 0 files

-- the files of implemented modules from this one on, each module before its submodules
abbrev pub order_from : ModuleChoice → List (Option ℕ) → (file : ℕ) → Files → List ℕ
order_from choice places m [] = []
order_from choice places m (t ∷ ts) =
    (if is_given choice t then m ∷ numbers_at places m else [])
    ++ order_from choice places (m + 1) ts

-- the files of the implemented modules in the order of the schema: module by module, the module's
-- own file and then those of its submodules
abbrev pub order_of : ModuleChoice → Files → List ℕ
order_of choice files = order_from choice (part_places files) 0 files

-- each file of an implemented module belongs to one whose own file is there
abbrev pub HaveModuleFiles : ModuleChoice → Files → Type 0
HaveModuleFiles choice files =
    (n : ℕ) (t : Tree) → slice_get files n ≡ Some t → is_implemented choice (module_name t) ≡ true
    → (module_file : Tree)
    × (slice_get files (module_file_at (map brief_of files) n) ≡ Some module_file)
    × (is_given choice module_file ≡ true)
