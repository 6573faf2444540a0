-- Only private clauses cite this: modules by number, and tables of words that mean them.
use Rattle.std.specs.Prelude.{ℕ, not, Bool, List, Option, Some, None, if◌then◌else◌}
use Rattle.std.specs.Option.{option_map, option_and_then, option_or}
use Rattle.std.specs.Ordering.{nat_cmp}
use Rattle.std.specs.Cmp.Lexicographic.{slice_cmp}
use Rattle.std.specs.BTreeMap.{get_by}
use Rattle.std.specs.Str.{bytes_eq}
use Rattle.yv_text_statement.specs.Tree.{Tree}
use Rattle.yv_text_statement.specs.Words.{is_among}
use Rattle.yv_link_scopes.specs.Names.{first_where}
use Rattle.yv_search.specs.Wants.{module_of}
use Rattle.yv_search.specs.Prefixes.{is_text}
use Rattle.yv_search.specs.Roles.{is_there}
use Rattle.yv_search.specs.declared.table.ModuleRef.{ModuleRef}
use Rattle.yv_search.specs.declared.table.Table.{Table}

-- what a table has for a word, if it has the word
abbrev pub row_at : Table → List ℕ → Option (Option ModuleRef)
row_at table word = get_by (λ k. slice_cmp nat_cmp word k.now) table.rows

-- the module in a row, if there is one
abbrev pub module_in : Option (Option ModuleRef) → Option ModuleRef
module_in row = option_and_then (λ (m : Option ModuleRef). m) row

-- the module that a word means in a table
abbrev pub lookup : Table → List ℕ → Option ModuleRef
lookup table word = module_in (row_at table word)

-- what a word had, or else this row where it is the word of it
abbrev pub first_kept : Option (Option ModuleRef) → List ℕ → Option ModuleRef → List ℕ → Option (Option ModuleRef)
first_kept old word row q = option_or old (if bytes_eq word q then Some row else None)

-- the module of the file with this root
abbrev pub module_at : Option Tree → Option (List ℕ)
module_at root = option_and_then module_of root

-- a file is one of a module
abbrev pub is_file_of : List ℕ → Option Tree → Bool
is_file_of m root = is_text m (module_at root)

-- the number of a module's first file
abbrev pub number_in : List (Option Tree) → List ℕ → Option ℕ
number_in roots m = first_where (is_file_of m) roots

-- a module by its number
abbrev pub ref_at : List (Option Tree) → List (List ℕ) → List ℕ → ℕ → ModuleRef
ref_at roots given m number =
    record { number = number; is_there = is_there roots m; is_free = not (is_among given m) }

-- the module of this name, if it has a file
abbrev pub ref_of : List (Option Tree) → List (List ℕ) → List ℕ → Option ModuleRef
ref_of roots given m = option_map (ref_at roots given m) (number_in roots m)
