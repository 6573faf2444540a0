use Rattle.std.proofs.Common.{◌∙◌, ap, List}
use Rattle.std.specs.List.{list_any}
use Rattle.yv_values.specs.Identities.{NumberedId, numbered_of}
use Rattle.yv_values.proofs.RisingLists.{moved_same, where_ok}
use Rattle.yv_values.proofs.Twins.{moved_twins, where_none, where_some}
use Rattle.yv_values.proofs.numbered_members.NumberedMembers.new.Goals as goal

pub returns-in_ok-from_rising-clause-same : goal.returns-in_ok-from_rising-clause-same
returns-in_ok-from_rising-clause-same c = λ p. ap (λ (all : List NumberedId). list_any p all) c.in_ok-from_rising.ensures ∙ moved_same numbered_of p _ _ c.in_ok-sort_by.ensures.permutation

pub returns-else-rise-clause-same : goal.returns-else-rise-clause-same
returns-else-rise-clause-same c = where_ok c.by_texts.result (λ found. where_some found (λ all is p.
    is p ∙ moved_same numbered_of p _ _ c.in_ok-sort_by.ensures.permutation)) c.by_texts.ensures.same

pub returns-else-rise-clause-twins : goal.returns-else-rise-clause-twins
returns-else-rise-clause-twins c = where_ok c.by_texts.result (λ found. where_none found (moved_twins c.args.members.items _ c.in_ok-sort_by.ensures.permutation)) c.by_texts.ensures.twins
