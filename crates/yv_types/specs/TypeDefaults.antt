-- What is known of defaults that were read.
use Rattle.std.specs.Prelude.{ℕ, Option}
use Rattle.std.specs.Option.{option_and_then, option_map}
use Rattle.yv_link_scopes.specs.Files.{Files}
use Rattle.yv_base_tables.specs.Sparse.{at}
use Rattle.yv_base_tables.specs.declared.sparse.Sparse.{Sparse}
use Rattle.yv_text_statement.specs.TextInFile.{TextInFile, written_of}
use Rattle.yv_text_statement.specs.declared.written_text.WrittenText.{WrittenText}
use Rattle.yv_types.specs.Defaults.{HasDefault}
use Rattle.yv_types.specs.declared.defaults.TypedefDefaults.{TypedefDefaults}

-- what the numbered typedef says
abbrev pub text_in : Sparse WrittenText → ℕ → Option TextInFile
text_in said d = option_map written_of (at said d)

-- the typedef that says the default of the numbered type
abbrev pub typedef_in : TypedefDefaults → ℕ → Option ℕ
typedef_in defaults k = at defaults.found k

-- the default of the numbered type
abbrev pub found_in : TypedefDefaults → ℕ → Option TextInFile
found_in defaults k = option_and_then (text_in defaults.said) (typedef_in defaults k)

-- these are the defaults of the types of these files; how, only the readers ask
pub record AreDefaults (files : Files) (defaults : TypedefDefaults) : Type 0 where
  pub each : (k : ℕ) → HasDefault files k (found_in defaults k)
