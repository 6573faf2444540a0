-- Imports, includes and belongs-tos, and the files that they name (RFC 7950, sections 5.1, 7.1.5,
-- 7.1.6 and 7.2.2).
use Rattle.std.specs.Prelude.{ℕ, ◌==◌, ◌&&◌, ◌||◌, not, Bool, false, is_none, List, Option, Some, None, if◌then◌else◌, codes, slice_get}
use Rattle.std.specs.Option.{option_and_then}
use Rattle.std.specs.Str.{bytes_eq}
use Rattle.yv_text_statement.specs.Tree.{Head}
use Rattle.yv_link_scopes.specs.Files.{Brief, Briefs, has_word, file_named}
use Rattle.yv_link_scopes.specs.Rows.{Row, name_in}
use Rattle.yv_link_scopes.specs.Tables.{Table}

-- the statements that name a file
abbrev pub is_link : Head → Bool
is_link h =
    has_word (codes "import") h || (has_word (codes "include") h || has_word (codes "belongs-to") h)

-- an import, an include or a belongs-to names no file
abbrev pub is_missing : Briefs → Row → Bool
is_missing files r = is_link r.head && is_none (file_named files (name_in r))

-- an include has to name a submodule of the including file's module, an import and a belongs-to a
-- module
abbrev pub is_wrong : Head → List ℕ → Brief → Bool
is_wrong h own f =
    if has_word (codes "include") h then (f.is_module || not (bytes_eq f.module_name own))
    else (is_link h && not f.is_module)

-- an `include` names a file that doesn't belong to the module
abbrev pub wrong_at : Head → Option Brief → Option Brief → Bool
wrong_at h None target = false
wrong_at h (Some own) None = false
wrong_at h (Some own) (Some f) = is_wrong h own.module_name f

-- an import, an include or a belongs-to names a file of the wrong kind
abbrev pub is_wrong_link : Briefs → Row → Bool
is_wrong_link files r =
    wrong_at r.head (slice_get files r.file)
    (option_and_then (λ m. slice_get files m) (file_named files (name_in r)))

-- a file that may be there is that of a module
abbrev pub is_module_in : Option Brief → Bool
is_module_in None = false
is_module_in (Some f) = f.is_module

-- the file of this number is that of a module
abbrev pub is_module_at : Briefs → ℕ → Bool
is_module_at files n = is_module_in (slice_get files n)

-- a submodule is not included by its module
abbrev pub is_out : Briefs → Table → List ℕ → Option ℕ → Bool
is_out files includes name None = false
is_out files includes name (Some m) = is_module_at files m && is_none (includes m name)

-- the module of a submodule is given, and has no include of the submodule
abbrev pub is_not_included : Briefs → Table → Brief → Bool
is_not_included files includes f =
    not f.is_module && is_out files includes f.name (file_named files f.module_name)

-- k is the place
abbrev pub is_at : ℕ → Option ℕ → Bool
is_at k None = false
is_at k (Some i) = i == k
