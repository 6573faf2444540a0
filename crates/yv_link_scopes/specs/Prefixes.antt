-- What is known of the prefixes of files that were read.
use Rattle.std.specs.Prelude.{◌≡◌, List, map}
use Rattle.yv_link_scopes.specs.Files.{Briefs}
use Rattle.yv_link_scopes.specs.Rows.{Row}
use Rattle.yv_link_scopes.specs.Tables.{table_of, first_of}
use Rattle.yv_link_scopes.specs.declared.kind.NameKind.TheVariants.{Prefix}
use Rattle.yv_link_scopes.specs.InnerModuleFiles.{module_file_of_prefix}
use Rattle.yv_link_scopes.specs.declared.prefixes.PrefixTable.{PrefixTable}

-- these are the modules that the prefixes of these files identify; how, only the reader asks
pub record IsPrefixTable (files : Briefs) (rows : List Row)
    (module_files : PrefixTable) : Type 0 where
  pub prefixes : table_of module_files.prefixes ≡ first_of Prefix rows
  pub module_files_are : map (module_file_of_prefix files rows) rows
      ≡ module_files.module_files.items
