use Rattle.std.proofs.Common.{◌∙◌, ap, List}
use Rattle.std.specs.List.{list_any}
use Rattle.yv_values.specs.Identities.{NumberedId, numbered_of}
use Rattle.yv_values.proofs.RisingLists.{moved_same, where_ok}
use Rattle.yv_values.proofs.Twins.{moved_twins, where_none, where_some}
use Rattle.yv_values.proofs.numbered_members.NumberedMembers.by_texts.Goals as goal

pub returns-clause-same : goal.returns-clause-same
returns-clause-same c = where_ok c.from_sorted.result (λ found. where_some found (λ all is p.
    ap (λ (ids : List NumberedId). list_any p ids) is ∙ moved_same numbered_of p _ _ c.in_ok-sort.ensures.permutation)) c.from_sorted.ensures.same

pub returns-clause-twins : goal.returns-clause-twins
returns-clause-twins c = where_ok c.from_sorted.result (λ found. where_none found (moved_twins c.args.members.items _ c.in_ok-sort.ensures.permutation)) c.from_sorted.ensures.twins
