-- Only private clauses cite this: a set of prefixes while they are collected.
use Rattle.std.specs.Prelude.{◌≡◌, ℕ, ◌||◌, Bool, List}
use Rattle.std.specs.Ordering.{nat_cmp}
use Rattle.std.specs.Cmp.Lexicographic.{slice_cmp}
use Rattle.std.specs.BTreeSet.{contains_by}
use Rattle.yv_text_statement.specs.Words.{is_among}
use Rattle.yv_lint.specs.declared.prefixes.Prefixes.{Prefixes}

-- a prefix is in the set
abbrev pub has_prefix : Prefixes → List ℕ → Bool
has_prefix ps p = contains_by (λ k. slice_cmp nat_cmp p k.now) ps.set

-- these prefixes are added
pub record Adds (old new : Prefixes) (added : List (List ℕ)) : Type 0 where
  pub each : (p : List ℕ) → has_prefix new p ≡ (has_prefix old p || is_among added p)
