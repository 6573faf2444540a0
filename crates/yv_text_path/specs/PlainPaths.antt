-- The paths of leafrefs without predicates, by names with slashes between. These are the
-- definitions of `Texts` in `yv_text_grammar`, which is above this crate.
use Rattle.std.specs.Prelude.{ℕ, Bool, false, ◌&&◌, ◌||◌, ◌==◌, List, [], ◌∷◌}
use Rattle.std.specs.List.{list_all, slice_split}
use Rattle.yv_text_if_feature.specs.Bytes.{dot}
use Rattle.yv_text_if_feature.specs.Names.{is_name}
use Rattle.yv_text_path.specs.Bytes.{slash}

-- a descendant path is names with slashes between (section 6.5)
unfoldable pub is_descendant_path : List ℕ → Bool
is_descendant_path text = list_all is_name (slice_split (λ b. b == slash) text)

-- an absolute path is a slash and a descendant path (section 6.5)
abbrev pub is_absolute_path : List ℕ → Bool
is_absolute_path [] = false
is_absolute_path (b ∷ bs) = b == slash && is_descendant_path bs

-- `../`, and then a descendant path or the same again
abbrev pub is_relative_path : List ℕ → Bool
is_relative_path (a ∷ b ∷ c ∷ rest) =
    (a == dot && (b == dot && c == slash)) && (is_descendant_path rest || is_relative_path rest)
is_relative_path _ = false

-- a path without predicates is absolute or relative (section 9.9.2)
abbrev pub is_plain_path : List ℕ → Bool
is_plain_path text = is_absolute_path text || is_relative_path text
