use Rattle.std.proofs.Common.{◌≡◌, map, take}
use Rattle.std.specs.Rc.{rc_str_bytes}
use Rattle.yv_link_scopes.specs.Files.{tree_name}
use Rattle.yv_link_scopes.specs.Views.{lent_in}
use Rattle.yv_schema.proofs.module_names.ModuleNames.read.Given as goal

abbrev pub invariant-loop-root : goal.invariant-loop-root
invariant-loop-root l = map (λ n. rc_str_bytes n) l.names.items ≡ map tree_name (take l.root-index (lent_in l.rows))
