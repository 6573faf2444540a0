-- Only private clauses cite this: the names of files.
use Rattle.std.specs.Prelude.{◌≡◌, [], map}
use Rattle.std.specs.Rc.{rc_str_bytes}
use Rattle.yv_link_scopes.specs.Files.{Files, tree_name}
use Rattle.yv_schema.specs.declared.module_names.ModuleNames.{ModuleNames}

-- these are the names of files
pub record AreModuleNames (files : Files) (module_files : ModuleNames) : Type 0 where
  pub names : map (λ n. rc_str_bytes n) module_files.names.items ≡ map tree_name files
  pub none : rc_str_bytes module_files.none ≡ []
