-- Only private clauses cite this: what is still to come where nothing was fetched.
use Rattle.std.specs.Prelude.{◌≡◌, List, ⊤}
use Rattle.std.specs.declared.option.Option.{Option}
use Rattle.std.specs.declared.option.Option.TheVariants.{None, Some}
use Rattle.yv_batch.specs.AskedDocument.{AskedDocument}

-- the same is still to come, where it is known
abbrev pub IsSame : Option (List AskedDocument) → Option (List AskedDocument) → Type 0
IsSame None new = ⊤
IsSame (Some xs) None = ⊥
IsSame (Some xs) (Some ys) = xs ≡ ys
