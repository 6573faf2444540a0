-- Schema paths (RFC 7950, section 6.5).
use Rattle.std.specs.Prelude.{ℕ, ◌==◌, List, [], ◌∷◌, if◌then◌else◌, Option, Some, None}
use Rattle.std.specs.List.{slice_split}
use Rattle.yv_link_scopes.specs.Names.{prefix_of}
use Rattle.yv_link_scopes.specs.Files.{Briefs}
use Rattle.yv_link_scopes.specs.Rows.{Row}
use Rattle.yv_link_scopes.specs.Scopes.{module_of}

-- an absolute path begins with '/'
abbrev pub behind_root : List ℕ → List ℕ
behind_root [] = []
behind_root (b ∷ bs) = if b == 47 then bs else b ∷ bs

-- the names of a path, each perhaps with a prefix: '/' is between them
abbrev pub steps_of : List ℕ → List (List ℕ)
steps_of text = slice_split (λ b. b == 47) (behind_root text)

-- the file of the module of a step: the copy's own without a prefix
abbrev pub module_file_with : Briefs → List Row → (file own : ℕ) → Option (List ℕ) → Option ℕ
module_file_with files rows file own None = Some own
module_file_with files rows file own (Some prefix) = module_of files rows file prefix

-- the file of the module of a name in a path of a file: of that which its prefix identifies,
-- without one of `own`
abbrev pub module_file_of : Briefs → List Row → (file own : ℕ) → List ℕ → Option ℕ
module_file_of files rows file own text = module_file_with files rows file own (prefix_of text)
