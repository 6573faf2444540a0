-- Only private clauses cite this: the imports as a graph, and what leads where in it.
use Rattle.std.specs.Prelude.{◌≡◌, ◌<◌, ◌⊎◌, ℕ, Bool, true, false, List, length, Option, Some, None, slice_get, slice_index_or}
use Rattle.std.specs.declared.vec.Vec.{Vec}
use Rattle.std.specs.declared.alloc.Global.{Global}
use Rattle.yv_base_graph.specs.Graph.{Graph, HasEdge}
use Rattle.yv_link_scopes.specs.Files.{Briefs, module_file_at}
use Rattle.yv_link_scopes.specs.Rows.{Row}
use Rattle.yv_link_modules.specs.Imports.{ImportsWithin, LeadsTo, imported_module}

-- the edges are the imports among the first n statements
pub record AreImports (files : Briefs) (rows : List Row) (n : ℕ) (g : Graph) : Type 0 where
  pub each : length g ≡ length files
  pub sound : (a b : ℕ) → HasEdge g a b → ImportsWithin files rows n a b
  pub complete : (a b : ℕ) → ImportsWithin files rows n a b → HasEdge g a b

-- a graph with one more edge
pub record HasOneMore (old new : Graph) (from to : ℕ) : Type 0 where
  pub each : length new ≡ length old
  pub there : HasEdge new from to
  pub kept : (a b : ℕ) → HasEdge old a b → HasEdge new a b
  pub others : (a b : ℕ) → HasEdge new a b → HasEdge old a b ⊎ ((a ≡ from) × (b ≡ to))

abbrev pub Marks : Type 0
Marks = List (Vec Bool Global)

abbrev pub marked_in : Option (Vec Bool Global) → ℕ → Bool
marked_in None b = false
marked_in (Some marks) b = slice_index_or marks.items b false

-- whether b is marked in the row of a
abbrev pub is_marked : Marks → ℕ → ℕ → Bool
is_marked leads a b = marked_in (slice_get leads a) b

-- exactly those modules are marked to which one leads by imports
pub record AreLeads (files : Briefs) (rows : List Row) (leads : Marks) : Type 0 where
  pub led_to : (a b : ℕ) → is_marked leads a b ≡ true → LeadsTo files rows a b
  pub marked : (a b : ℕ) → a < length files → LeadsTo files rows a b → is_marked leads a b ≡ true

abbrev pub closes_cycle : Marks → ℕ → Option ℕ → Bool
closes_cycle leads module_file None = false
closes_cycle leads module_file (Some b) = is_marked leads b module_file

-- by these marks an import is on a cycle
abbrev pub is_import_cycle : Briefs → Marks → Row → Bool
is_import_cycle files leads r =
    closes_cycle leads (module_file_at files r.file) (imported_module files r)
