-- What names in the texts of a file mean (RFC 7950, sections 5.1, 6.2.1, 7.1.4 and 7.1.5).
use Rattle.std.specs.Prelude.{◌≡◌, ℕ, ◌==◌, ◌&&◌, Bool, List, [], map, filter, Option, Some, None, slice_get}
use Rattle.std.specs.Option.{option_map}
use Rattle.yv_link_scopes.specs.Files.{Brief, Files, brief_of}
use Rattle.yv_link_scopes.specs.Rows.{Row, name_in}
use Rattle.yv_link_scopes.specs.RowList.{rows_of}
use Rattle.yv_link_scopes.specs.declared.kind.NameKind.TheVariants.{Prefix}
use Rattle.yv_link_definitions.specs.Duplicates.{is_of}
use Rattle.yv_values.specs.Scopes.{PrefixBinding, Place, place_of}
use Rattle.yv_values.specs.declared.scope.Scope.{Scope}

-- the statement declares a prefix in this file
abbrev pub is_prefix_in : ℕ → Row → Bool
is_prefix_in file r = is_of Prefix r && (r.file == file)

-- the argument of a statement that may be there
abbrev pub name_or_none : Option Row → List ℕ
name_or_none None = []
name_or_none (Some r) = name_in r

-- a prefix refers to the module that the statement names in whose block it is declared: an import,
-- a belongs-to or the module itself
abbrev pub binding_at : List Row → Row → PrefixBinding
binding_at rows r =
    record { prefix = name_in r; module_name = name_or_none (slice_get rows r.scope) }

-- the prefixes of a file, in order
abbrev pub bindings_in : Files → ℕ → List PrefixBinding
bindings_in files file =
    map (binding_at (rows_of files)) (filter (is_prefix_in file) (rows_of files))

-- by which the texts of a file are read: the module to which it belongs, and its prefixes
abbrev pub place_at : Files → ℕ → Brief → Place
place_at files file f = record { module_name = f.module_name; bindings = bindings_in files file }

-- the place of a numbered scope
abbrev pub place_in : List Scope → ℕ → Option Place
place_in scopes n = option_map place_of (slice_get scopes n)

-- these are the scopes of these files, one for each
pub record AreScopes (files : Files) (scopes : List Scope) : Type 0 where
  pub each : (n : ℕ) → place_in scopes n
      ≡ option_map (place_at files n) (slice_get (map brief_of files) n)
