-- What contracts see of a fault.
use Rattle.std.specs.Prelude.{ℕ, List, Option}
use Rattle.yv_data_leafrefs.specs.Place.{Place}
use Rattle.yv_data_faults.specs.declared.fault.FaultKind.{FaultKind}

-- its kind, its path from the top, the number of the schema statement that it is about, or 0, and
-- the number from 1 of the first entry or item that it repeats, where it repeats one
pub record Flaw : Type 0 where
  pub kind : FaultKind
  pub path : List Place
  pub number : ℕ
  pub earlier : Option ℕ
