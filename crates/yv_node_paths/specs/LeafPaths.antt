-- What is known of the prefixes of files, where they were read; how, only the reader asks.
use Rattle.yv_link_scopes.specs.Files.{Files}
use Rattle.yv_node_paths.specs.InnerPrefixes.{IsPrefixTable}
use Rattle.yv_node_paths.specs.declared.paths.LeafPaths.{LeafPaths}

-- these are the prefixes of these files
pub record AreLeafPaths (files : Files) (paths : LeafPaths) : Type 0 where
  pub module_files : IsPrefixTable files paths.module_files
