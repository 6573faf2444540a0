-- What a clause reads of a file that was read.
use Rattle.std.specs.Prelude.{ℕ, List, string_bytes}
use Rattle.yv_base_streams.specs.declared.input.Input.{Input}

-- how many bytes a file may have: 4 MiB
abbrev pub file_limit : ℕ
file_limit = 4194304

-- a name, and what is in the file of that name
pub record File : Type 0 where
  pub name : List ℕ
  pub bytes : List ℕ

-- what was read of a file, as clauses see it
abbrev pub file_of : Input → File
file_of i = record { name = string_bytes i.name; bytes = i.bytes.items }
