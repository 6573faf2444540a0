-- What is left of the final tree (RFC 7950, sections 7.13, 7.17 and 7.20.2).
use Rattle.std.specs.Prelude.{ℕ, ◌&&◌, not, Bool, if◌then◌else◌, false, List, Option, Some, None, slice_get}
use Rattle.yv_expand_rounds.specs.Tree.{Tree, none, item}
use Rattle.yv_expand_statements.specs.Kinds.{is_uses}
use Rattle.yv_base_graph.specs.Marks.{is_marked}
use Rattle.yv_expand_uses.specs.declared.spot.Spot.{Spot}

-- the tree without the items that aren't kept, and without what is below these
abbrev pub remains : (is_kept : ℕ → Bool) → Tree → Tree
remains is_kept none = none
remains is_kept (item i below behind) = if is_kept i
    then item i (remains is_kept below) (remains is_kept behind) else remains is_kept behind

-- an item is that of a `uses`
abbrev pub is_some_uses : Option Spot → Bool
is_some_uses None = false
is_some_uses (Some s) = is_uses s.label.kind

-- an item is a node that is left: it has a mark, and isn't a uses, which isn't a schema node
abbrev pub is_left : List Spot → (marks : List Bool) → ℕ → Bool
is_left spots marks i = is_marked marks i && not (is_some_uses (slice_get spots i))
