-- Only private clauses cite this: what the numbering of the identities has.
use Rattle.std.specs.Prelude.{◌≡◌, ℕ, List, map, Some, slice_get}
use Rattle.std.specs.Option.{option_and_then}
use Rattle.yv_link_scopes.specs.Rows.{Row}
use Rattle.yv_link_identities.specs.References.{refs_of}
use Rattle.yv_link_identities.specs.InnerIdentityNumbers.{identities_of, node_of}
use Rattle.yv_link_identities.specs.declared.numbers.Numbers.{Numbers}

-- a reference to each identity in order, and for each statement its place among them
pub record AreNumbers (rows : List Row) (n : Numbers) : Type 0 where
  pub refs : map Some n.identities.items ≡ refs_of rows (identities_of rows)
  pub nodes : (k : ℕ) → option_and_then (λ node. node) (slice_get n.nodes.items k) ≡ node_of rows k
