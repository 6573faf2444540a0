-- Only private clauses cite this: the modules for which prefixes stand, by their declarations.
use Rattle.std.specs.Prelude.{ℕ, List, if◌then◌else◌, Option, None, codes, slice_get}
use Rattle.std.specs.Option.{option_and_then}
use Rattle.yv_link_scopes.specs.Files.{Briefs, file_named, has_word}
use Rattle.yv_link_scopes.specs.Rows.{Row, name_in}

-- the file of the module for which a prefix stands that is declared so
abbrev pub declared_module_file : Briefs → List Row → Row → Option ℕ
declared_module_file files rows r =
    option_and_then (λ (s : Row). file_named files (name_in s)) (slice_get rows r.scope)

abbrev pub module_file_of_prefix : Briefs → List Row → Row → Option ℕ
module_file_of_prefix files rows r =
    if has_word (codes "prefix") r.head then declared_module_file files rows r else None
