-- Only private clauses cite this: required modules by their marks.
use Rattle.std.specs.Prelude.{ℕ, Bool, false, List, Option, Some, None}
use Rattle.yv_base_graph.specs.Marks.{is_marked}
use Rattle.yv_search.specs.InnerModules.{lookup}
use Rattle.yv_search.specs.declared.table.ModuleRef.{ModuleRef}
use Rattle.yv_search.specs.declared.roles.Requirements.{Requirements}

-- whether a module has a mark
abbrev pub has_mark : List Bool → Option ModuleRef → Bool
has_mark marks None = false
has_mark marks (Some m) = is_marked marks m.number

-- whether a module is required
abbrev pub is_required : Requirements → List ℕ → Bool
is_required r m = has_mark r.marks.items (lookup r.modules m)
