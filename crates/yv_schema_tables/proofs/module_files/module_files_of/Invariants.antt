use Rattle.std.proofs.Common.{◌≡◌, ◌≤◌, ℕ, List, drop, length}
use Rattle.yv_schema_tables.specs.InnerNames.{get_by_name}
use Rattle.yv_schema_tables.specs.InnerTables.{module_file_named}
use Rattle.yv_schema_tables.proofs.module_files.module_files_of.Given as goal

-- the modules from here on are known
abbrev pub invariant-loop-left : goal.invariant-loop-left
invariant-loop-left l = record {
  within : l.left ≤ length l.modules;
  known : (name : List ℕ) → get_by_name l.module_files name ≡ module_file_named (drop l.left l.modules) name;
}

abbrev pub decreases-loop-left : goal.decreases-loop-left
decreases-loop-left l = l.left
