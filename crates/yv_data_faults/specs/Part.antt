-- What contracts see of a step of a path.
use Rattle.std.specs.Prelude.{List, map, option_map}
use Rattle.yv_data_leafrefs.specs.Place.{Place, member_text}
use Rattle.yv_data_faults.specs.declared.path.Part.{Part}

-- a step of a path as contracts see it
abbrev pub part_of : Part → Place
part_of p = record {
  member = member_text p.name.is_choice
      (option_map (λ m. m.now) p.name.module) p.name.name.now;
  item = p.item;
}

-- the steps of a path as contracts see them
abbrev pub steps_of : List Part → List Place
steps_of ps = map part_of ps
