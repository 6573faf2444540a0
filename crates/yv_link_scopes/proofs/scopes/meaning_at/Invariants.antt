use Rattle.std.proofs.Common.{◌≡◌, Option, ℕ, map}
use Rattle.yv_link_scopes.specs.Tables.{first_of, table_of}
use Rattle.yv_link_scopes.specs.Rows.{row}
use Rattle.yv_link_scopes.specs.Scopes.{Means}
use Rattle.yv_link_scopes.specs.InnerPlaces.{lesser_of}
use Rattle.yv_link_scopes.specs.declared.kind.NameKind.{NameKind}
use Rattle.yv_link_scopes.proofs.scopes.meaning_at.Given as goal

-- with what the name means in the block, the least so far is what it means where the search began
abbrev pub invariant-loop-entry : goal.invariant-loop-entry
invariant-loop-entry l = record {
  leads : (kind : NameKind) → table_of l.places ≡ first_of kind (map row l.entries) → (o : Option ℕ)
      → Means kind (map row l.entries) l.block l.name o → Means kind (map row l.entries) l.scope l.name (lesser_of l.least o);
}

abbrev pub decreases-loop-entry : goal.decreases-loop-entry
decreases-loop-entry l = l.block
