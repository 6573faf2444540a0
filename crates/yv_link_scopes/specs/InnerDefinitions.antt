-- Only private clauses cite this: where the names of definitions occur first.
use Rattle.std.specs.Prelude.{List}
use Rattle.yv_link_scopes.specs.InnerPlaces.{AreFirst}
use Rattle.yv_link_scopes.specs.Rows.{Row}
use Rattle.yv_link_scopes.specs.declared.kind.DefinitionPlaces.{DefinitionPlaces}
use Rattle.yv_link_scopes.specs.declared.kind.NameKind.TheVariants.{Typedef, Grouping}
use Rattle.yv_link_scopes.specs.declared.kind.NameKind.TheVariants.{Feature, Identity, Extension}

pub record ArePlaces (rows : List Row) (places : DefinitionPlaces) : Type 0 where
  pub features : AreFirst Feature rows places.features
  pub identities : AreFirst Identity rows places.identities
  pub extensions : AreFirst Extension rows places.extensions
  pub typedefs : AreFirst Typedef rows places.typedefs
  pub groupings : AreFirst Grouping rows places.groupings
