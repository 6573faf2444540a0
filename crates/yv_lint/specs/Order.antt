-- The order of findings: by file, then by the offset of the statement, then by the rule.
use Rattle.std.specs.Prelude.{◌≡◌, ℕ, ◌<◌, ◌⊎◌, List, [], ◌∷◌, Some, slice_get}
use Rattle.yv_lint.specs.declared.rule.Rule.{Rule}
use Rattle.yv_lint.specs.declared.finding.Finding.{Finding}
use Rattle.yv_lint.specs.Rules.{all_rules}

-- one rule comes before another in the list of rules
pub record IsRuleBefore (r s : Rule) : Type 0 where
  pub first : ℕ
  pub second : ℕ
  pub below : first < second
  pub at_first : slice_get all_rules first ≡ Some r
  pub at_second : slice_get all_rules second ≡ Some s

-- one finding comes before another
abbrev pub IsBefore : Finding → Finding → Type 0
IsBefore f g =
    (f.file < g.file) ⊎ ((f.file ≡ g.file)
    × ((f.offset < g.offset) ⊎ ((f.offset ≡ g.offset) × IsRuleBefore f.rule g.rule)))

-- one finding comes before all of these
abbrev pub IsBeforeAll : Finding → List Finding → Type 0
IsBeforeAll f [] = Unit {0}
IsBeforeAll f (g ∷ gs) = IsBefore f g × IsBeforeAll f gs

-- each finding comes before all that follow it, so that none is there twice
abbrev pub Ascend : List Finding → Type 0
Ascend [] = Unit {0}
Ascend (f ∷ fs) = IsBeforeAll f fs × Ascend fs
