-- What is known of identities that were read.
use Rattle.std.specs.Prelude.{◌≡◌, ℕ, map, Some}
use Rattle.yv_link_scopes.specs.Names.{first_where}
use Rattle.yv_link_scopes.specs.Files.{Files, brief_of}
use Rattle.yv_link_scopes.specs.RowList.{rows_of}
use Rattle.yv_link_scopes.specs.Tables.{table_of, first_of}
use Rattle.yv_link_scopes.specs.declared.kind.NameKind.TheVariants.{Identity}
use Rattle.yv_link_identities.specs.References.{is_at, refs_of}
use Rattle.yv_link_identities.specs.InnerIdentityNumbers.{identities_of}
use Rattle.yv_link_identities.specs.InnerPairs.{AreBases}
use Rattle.yv_link_identities.specs.InnerPlaces.{placed_in}
use Rattle.yv_link_identities.specs.declared.identity_table.Identities.{Identities}

-- these are the identities of these files; how, only the readers ask
pub record AreIdentities (files : Files) (t : Identities) : Type 0 where
  pub names : table_of t.names ≡ first_of Identity (rows_of files)
  pub refs : map Some t.identities.items ≡ refs_of (rows_of files) (identities_of (rows_of files))
  pub places : (file offset : ℕ)
      → placed_in t.places file offset
      ≡ first_where (is_at (record { file = file; offset = offset })) t.identities.items
  pub bases : AreBases (map brief_of files) (rows_of files) t.hierarchy.bases.items
