-- The steps of the paths that `key` and `unique` statements have (RFC 7950, sections 6.5, 7.8.2 and
-- 7.8.3).
use Rattle.std.specs.Prelude.{ℕ, ◌==◌, ◌&&◌, Bool, true, false, List, Option, Some, None}
use Rattle.std.specs.List.{list_any}
use Rattle.std.specs.Str.{bytes_eq}

-- a step of a path: the number of the file of the module to which its prefix refers, where it has
-- one, and the name of the node
pub record Step : Type 0 where
  pub module_file : Option ℕ
  pub name : List ℕ

-- a piece of the path of a leafref as it is written, between two `/`: its prefix, where it has one,
-- the number of the file of the module to which that refers, if it refers to one, and the name
-- after it (section 9.9.2)
pub record Piece : Type 0 where
  pub prefix : Option (List ℕ)
  pub module_file : Option ℕ
  pub name : List ℕ

-- two steps name one module, or both name none
abbrev pub is_module_file : Option ℕ → Option ℕ → Bool
is_module_file None None = true
is_module_file (Some a) (Some b) = a == b
is_module_file _ _ = false

-- a step is written with this module, or without one, and this name; a step whose prefix refers to
-- no module is none
abbrev pub is_step : (module_file : Option ℕ) → (name : List ℕ) → Option Step → Bool
is_step module_file name None = false
is_step module_file name (Some s) = bytes_eq name s.name && is_module_file module_file s.module_file

-- one of the steps is
abbrev pub has_step : (module_file : Option ℕ) → (name : List ℕ) → List (Option Step) → Bool
has_step module_file name steps = list_any (is_step module_file name) steps
