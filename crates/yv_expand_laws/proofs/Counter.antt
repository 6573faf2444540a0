-- Why what is shown needs bounds at any depth: of item 0, in the range from 0 to before 3, stands
-- item 5 below. Without bounds at depth the range shows one node above another, where the path
-- leads; the numbered path, which ends at 3, leads nowhere.
use Rattle.std.proofs.Common.{◌≡◌, false, List, [], ◌∷◌, refl, None, Some}
use Rattle.yv_expand_rounds.specs.declared.end.End.TheVariants as end
use Rattle.yv_expand_rounds.specs.declared.label.Label.{Label}
use Rattle.yv_expand_statements.specs.declared.statement_kind.StatementKind.TheVariants as kind
use Rattle.yv_expand_rounds.specs.Groups.{Groups}
use Rattle.yv_expand_rounds.specs.Paths.{path_end}

abbrev labels : List Label
labels =
    record { kind = kind.Container; name = 1; given = false } ∷ record { kind = kind.Leaf; name = 7; given = false } ∷ record { kind = kind.Leaf; name = 8; given = false }
    ∷ record { kind = kind.Leaf; name = 9; given = false } ∷ record { kind = kind.Leaf; name = 9; given = false } ∷ record { kind = kind.Leaf; name = 2; given = false } ∷ []

abbrev groups : Groups
groups = (0 ∷ []) ∷ (5 ∷ []) ∷ []

within : path_end labels groups 3 (1 ∷ 2 ∷ []) (end.Start 0) ≡ None
within = refl

beyond : path_end labels groups 6 (1 ∷ 2 ∷ []) (end.Start 0) ≡ Some (end.Node 5)
beyond = refl
