-- The order of the items of one parent, where it is known which of them an augment of a module
-- gives: those that none gives come first, and of two others that of lesser number. It is
-- `sibling_cmp` of yv_expand_rounds.
use Rattle.std.specs.Prelude.{ℕ, ◌&&◌, ◌||◌, nat_lt, Bool, if◌then◌else◌}

-- item i comes before item j
abbrev pub comes_before : (given : ℕ → Bool) → (i j : ℕ) → Bool
comes_before given i j = if given i then given j && nat_lt i j else given j || nat_lt i j
