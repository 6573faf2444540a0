-- Only private clauses cite this: what is known of the prefixes of files that were read.
use Rattle.std.specs.Prelude.{map}
use Rattle.yv_link_scopes.specs.Files.{Files, brief_of}
use Rattle.yv_link_scopes.specs.Prefixes.{IsPrefixTable as IsTable}
use Rattle.yv_link_scopes.specs.RowList.{rows_of}
use Rattle.yv_link_scopes.specs.declared.prefixes.PrefixTable.{PrefixTable}

abbrev pub IsPrefixTable : Files → PrefixTable → Type 0
IsPrefixTable files prefixes = IsTable (map brief_of files) (rows_of files) prefixes
