-- Only private clauses cite this: how the steps of a path are spelled, as a path or as a pointer.
use Rattle.std.specs.Prelude.{ℕ, List, ◌++◌, Option, codes}
use Rattle.std.specs.List.{flat_map}
use Rattle.yv_data_leafrefs.specs.Place.{Place}
use Rattle.yv_data_faults.specs.Line.{escaped_byte, item_text}
use Rattle.yv_json_lines.specs.Pointer.{index_text, pointer_byte}
use Rattle.yv_json_lines.specs.declared.steps.Spelling.{Spelling}
use Rattle.yv_json_lines.specs.declared.steps.Spelling.TheVariants.{Path, Pointer}

abbrev pub spelled_byte : Spelling → ℕ → List ℕ
spelled_byte Path = escaped_byte
spelled_byte Pointer = pointer_byte

abbrev pub spelled_name : Spelling → List ℕ → List ℕ
spelled_name spelling name = flat_map (spelled_byte spelling) name

abbrev pub spelled_item : Spelling → Option ℕ → List ℕ
spelled_item Path = item_text
spelled_item Pointer = index_text

abbrev pub spelled_step : Spelling → Place → List ℕ
spelled_step spelling p = codes "/" ++ spelled_name spelling p.member ++ spelled_item spelling p.item

abbrev pub spelled_steps : Spelling → List Place → List ℕ
spelled_steps spelling ps = flat_map (spelled_step spelling) ps
