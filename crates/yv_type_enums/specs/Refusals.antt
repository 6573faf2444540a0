-- What is wrong with the names and numbers of enumerations and bits (RFC 7950, sections 9.6.3,
-- 9.6.4, 9.7.3 and 9.7.4).
use Rattle.std.specs.Prelude.{◌≡◌, ℕ, length, Some, slice_get}
use Rattle.yv_text_statement.specs.Order.{Among}
use Rattle.yv_text_statement.specs.Tree.{Tree}
use Rattle.yv_text_statement.specs.declared.refusal.Refusal.{Refusal}
use Rattle.yv_link_scopes.specs.Files.{Files}
use Rattle.yv_link_scopes.specs.Rows.{Row}
use Rattle.yv_link_scopes.specs.RowList.{rows_of, statements_of}
use Rattle.yv_type_enums.specs.Types.{Truth, Start, StartsFrom, IsFaultBy}

-- f is the refusal of the first wrong entry of type k
abbrev pub BadType : Files → Truth → ℕ → Row → Refusal → Type 0
BadType files truth k r f =
    (s : Start) × (t : Tree) × StartsFrom files truth k s
    × (slice_get (statements_of files) k ≡ Some t) × IsFaultBy r.file t s (Some f)

-- f is what is wrong with one of the types
abbrev pub BadLists : Files → Truth → Refusal → Type 0
BadLists files truth f = Among (rows_of files) (BadType files truth) (length (rows_of files)) f
