-- The order of statements in a file.
use Rattle.std.specs.Prelude.{◌≡◌, ℕ, ◌<◌, List, Some, slice_get}
use Rattle.yv_link_scopes.specs.Rows.{Row}

-- of two statements of a file the one with the lower number has the lower offset
abbrev pub FollowOffsets : List Row → ℕ → Type 0
FollowOffsets rows file =
    (i j : ℕ) (p q : Row) → i < j → slice_get rows i ≡ Some p → slice_get rows j ≡ Some q
    → p.file ≡ file → q.file ≡ file
    → p.head.offset < q.head.offset
