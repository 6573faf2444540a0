-- Bad backslash pairs, as the code looks for them; cited by private clauses only.
use Rattle.std.specs.Prelude.{ℕ, ◌+◌, ◌-◌, Bool, true, false, ◌==◌, ◌&&◌, cond, bytes_eq, List, [], ◌∷◌, take, drop, Option, Some, None}
use Rattle.std.specs.List.{list_any}
use Rattle.yv_text_statement.specs.Tree.{Tree}
use Rattle.yv_source.specs.Characters.{backslash}
use Rattle.yv_source.specs.Pieces.{Piece, Double}
use Rattle.yv_source.specs.Escapes.{is_escape, yang_version, newer}
use Rattle.yv_source.specs.declared.scan.FoundPiece.{FoundPiece}
use Rattle.yv_source.specs.declared.scan.FoundPiece.TheVariants as found

-- where a text's first bad pair is, n bytes having been looked at, after a backslash or not
abbrev pub bad_pair : Bool → ℕ → List ℕ → Option ℕ
bad_pair false n [] = None
bad_pair true n [] = Some (n - 1)
bad_pair false n (b ∷ rest) = bad_pair (b == backslash) (n + 1) rest
bad_pair true n (b ∷ rest) = cond (is_escape b) (bad_pair false (n + 1) rest) (Some (n - 1))

-- its offset in a quoted text that is at a place
abbrev pub offset_in_file : ℕ → Option ℕ → Option ℕ
offset_in_file at None = None
offset_in_file at (Some n) = Some (at + 1 + n)

abbrev pub or_else : Option ℕ → Option ℕ → Option ℕ
or_else None x = x
or_else (Some n) x = Some n

-- the first one so far, and of one more piece
abbrev pub bad_on : Option ℕ → ℕ → Piece → Option ℕ
bad_on bad at (Double t) = or_else bad (offset_in_file at (bad_pair false 0 t))
bad_on bad at _ = bad

-- the same, by what the scanner found
abbrev pub bad_found : Option ℕ → ℕ → FoundPiece → List ℕ → Option ℕ
bad_found bad at (found.Double n) text =
    or_else bad (offset_in_file at (bad_pair false 0 (take n (drop (at + 1) text))))
bad_found bad at _ text = bad

-- the test for a file of YANG 1.1
abbrev pub is_newer_text : Option (List ℕ) → Bool
is_newer_text None = false
is_newer_text (Some text) = bytes_eq text newer

abbrev pub is_version : Tree → Bool
is_version t = bytes_eq t.head.keyword yang_version && is_newer_text t.head.argument

abbrev pub is_newer : List Tree → Bool
is_newer ts = list_any is_version ts
