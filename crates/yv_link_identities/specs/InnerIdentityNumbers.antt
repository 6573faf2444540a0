-- Inner definitions, which only private clauses and the tables cite: the identities by their places
-- among the identities.
use Rattle.std.specs.Prelude.{ℕ, zero, suc, Bool, false, List, [], ◌∷◌, ◌++◌, length, Option, Some, None, if◌then◌else◌, slice_get, slice_index}
use Rattle.std.specs.Option.{option_map, unwrap_or}
use Rattle.yv_link_scopes.specs.Rows.{Row}
use Rattle.yv_link_identities.specs.Names.{is_identity}

-- the numbers below a bound that pass, in order
abbrev pub choose : (ℕ → Bool) → ℕ → List ℕ
choose passes zero = []
choose passes (suc n) = if passes n then choose passes n ++ n ∷ [] else choose passes n

abbrev pub is_identity_at : List Row → ℕ → Bool
is_identity_at rows k = unwrap_or (option_map is_identity (slice_get rows k)) false

-- the identities before a statement
abbrev pub identities_before : List Row → ℕ → List ℕ
identities_before rows n = choose (is_identity_at rows) n

-- all identities
abbrev pub identities_of : List Row → List ℕ
identities_of rows = identities_before rows (length rows)

-- the number of the statement of an identity
abbrev pub number_at : List Row → ℕ → ℕ
number_at rows a = slice_index (identities_of rows) a

-- how many there are
abbrev pub count_of : List Row → ℕ
count_of rows = length (identities_of rows)

-- the place of a statement among the identities, where it is one
abbrev pub node_of : List Row → ℕ → Option ℕ
node_of rows k = if is_identity_at rows k then Some (length (identities_before rows k)) else None
