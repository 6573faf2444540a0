-- The paths of leafrefs (RFC 7950, section 9.9.2): absolute, `/a/p:b`, or relative, `../../p:a/b`.
use Rattle.std.specs.Prelude.{ℕ, ◌==◌, Bool, false, List, [], ◌∷◌, drop, map, Option, Some, None, codes, if◌then◌else◌}
use Rattle.std.specs.List.{prefix_len}
use Rattle.std.specs.Option.{option_and_then}
use Rattle.std.specs.Str.{bytes_eq}
use Rattle.yv_link_scopes.specs.Files.{Files}
use Rattle.yv_link_scopes.specs.Names.{local_of, prefix_of}
use Rattle.yv_node_content.specs.Steps.{Piece, Step}
use Rattle.yv_node_paths.specs.Steps.{module_file_of, path_of, step_of, texts_of}

-- an absolute path begins with '/'
abbrev pub is_absolute : List ℕ → Bool
is_absolute [] = false
is_absolute (b ∷ bs) = b == 47

-- a piece of a path is `..`
abbrev pub is_up : List ℕ → Bool
is_up piece = bytes_eq piece (codes "..")

-- how many pieces at the front are `..`, of those between which '/' stand
abbrev pub ups_of : List ℕ → ℕ
ups_of text = prefix_len is_up (texts_of text)

-- the pieces after these, which are names
abbrev pub names_behind : List ℕ → List (List ℕ)
names_behind text = drop (ups_of text) (texts_of text)

-- how often a path climbs before its names: none where it is absolute
abbrev pub climbs_of : List ℕ → Option ℕ
climbs_of text = if is_absolute text then None else Some (ups_of text)

-- the steps by its names: those after the '/' at its front where it is absolute, else those after
-- the `..`
abbrev pub steps_in : Files → (file : ℕ) → List ℕ → List (Option Step)
steps_in files file text = if is_absolute text then path_of files file (drop 1 text)
    else map (step_of files file) (names_behind text)

-- a piece of a path as it is written in a file: what is between two '/'
abbrev pub piece_of : Files → (file : ℕ) → List ℕ → Piece
piece_of files file text =
    record {
      prefix = prefix_of text;
      module_file = option_and_then (module_file_of files file) (prefix_of text);
      name = local_of text;
    }

-- the pieces of a path
abbrev pub pieces_of : Files → (file : ℕ) → List ℕ → List Piece
pieces_of files file text = map (piece_of files file) (texts_of text)
