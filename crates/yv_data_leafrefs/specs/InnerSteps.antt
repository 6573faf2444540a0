-- Only private clauses cite this: steps that are left of the path to a value.
use Rattle.std.specs.Prelude.{List}
use Rattle.yv_data_leafrefs.specs.InnerLocations.{numbered_path, path_in}
use Rattle.yv_data_leafrefs.specs.Place.{Place}
use Rattle.yv_data_leafrefs.specs.declared.paths.ValueSteps.{ValueSteps}
use Rattle.yv_data_leafrefs.specs.declared.paths.End.TheVariants as end

abbrev pub left_steps : ValueSteps → List Place
left_steps s = elim s.end [
  | end.Value n ↦ numbered_path s.locations.now.objects.items s.locations.now.values.items n
  | end.Object most n ↦ path_in s.locations.now.objects.items most n
]
