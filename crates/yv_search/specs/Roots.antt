-- The roots of files.
use Rattle.std.specs.Prelude.{◌≡◌, ℕ, true, List, Option, Some, None}
use Rattle.yv_text_statement.specs.Tree.{Tree}
use Rattle.yv_source.specs.Legal.{IsLegalFile}
use Rattle.yv_source.specs.Answer.{IsSpelled}
use Rattle.yv_source.specs.File.{File}
use Rattle.yv_search.specs.Wants.{is_root}

-- bytes spell a `module` or a `submodule` statement
pub record AreOfRoot (bytes : List ℕ) (root : Tree) : Type 0 where
  pub legal : IsLegalFile bytes
  pub spelled : IsSpelled bytes root
  pub is_root : is_root root ≡ true

-- the root of a file with these bytes, or none
abbrev pub HasRoot : List ℕ → Option Tree → Type 0
HasRoot bytes None = (t : Tree) → AreOfRoot bytes t → ⊥
HasRoot bytes (Some t) = AreOfRoot bytes t

-- bytes are this text, or no legal one
abbrev pub HoldsText : List ℕ → Option File → Type 0
HoldsText bytes None = IsLegalFile bytes → ⊥
HoldsText bytes (Some source) = source.text ≡ bytes
