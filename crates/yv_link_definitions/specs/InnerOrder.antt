-- Only private clauses cite this: the order of places.
use Rattle.std.specs.Prelude.{◌≡◌, ℕ, ◌<◌, ◌==◌, ◌&&◌, ◌||◌, nat_lt, Bool, true, List, Some, slice_get}
use Rattle.yv_link_definitions.specs.declared.place.Place.{Place}

-- it is before an offset of a file, or in an earlier file
abbrev pub is_before : Place → ℕ → ℕ → Bool
is_before p file offset = nat_lt p.file file || ((p.file == file) && nat_lt p.offset offset)

-- each place is before those after it
abbrev pub Rise : List Place → Type 0
Rise places = (i j : ℕ) (p q : Place) → i < j → slice_get places i ≡ Some p
    → slice_get places j ≡ Some q → is_before p q.file q.offset ≡ true
