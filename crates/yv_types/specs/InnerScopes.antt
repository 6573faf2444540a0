-- Only private clauses cite this: scopes as prefixes are added.
use Rattle.std.specs.Prelude.{◌≡◌, ℕ, ◌==◌, List, [], ◌∷◌, ◌++◌, map, filter, if◌then◌else◌, slice_get}
use Rattle.std.specs.Option.{option_map}
use Rattle.yv_link_scopes.specs.Files.{Brief, Briefs}
use Rattle.yv_link_scopes.specs.Rows.{Row}
use Rattle.yv_values.specs.Scopes.{PrefixBinding, Place}
use Rattle.yv_values.specs.declared.scope.Scope.{Scope}
use Rattle.yv_types.specs.Scopes.{binding_at, is_prefix_in, place_in}

-- a place with one prefix more
abbrev pub bind : PrefixBinding → Place → Place
bind b place = record { module_name = place.module_name; bindings = place.bindings ++ b ∷ [] }

-- file n, where a prefix is added in a file
abbrev pub add_prefix : ℕ → ℕ → PrefixBinding → Place → Place
add_prefix n file b place = if file == n then bind b place else place

-- file n, where a statement may declare a prefix
abbrev pub declare : List Row → ℕ → Row → Place → Place
declare rows n r place = if is_prefix_in n r then bind (binding_at rows r) place else place

-- as yet without prefixes
abbrev pub bare : Brief → Place
bare f = record { module_name = f.module_name; bindings = [] }

-- with the prefixes that these statements declare
abbrev pub place_with : List Row → List Row → ℕ → Brief → Place
place_with rows rs n f =
    record {
      module_name = f.module_name;
      bindings = map (binding_at rows) (filter (is_prefix_in n) rs);
    }

-- these are the scopes of these files, as far as these statements go
abbrev pub AreScopesOf : Briefs → List Row → List Row → List Scope → Type 0
AreScopesOf files rows rs scopes =
    (n : ℕ) → place_in scopes n ≡ option_map (place_with rows rs n) (slice_get files n)
