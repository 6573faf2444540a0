use Rattle.std.proofs.Common.{◌∙◌, ap, map, sym, subst, List}
use Rattle.yv_values.specs.declared.numbered_members.NumberedMember.{NumberedMember}
use Rattle.yv_values.specs.Identities.{Id, NumberedId, RiseById, between, numbered_of}
use Rattle.yv_values.specs.InnerMembers.{entry_id}
use Rattle.yv_values.proofs.NumberedIdentities.{all_zero, zero_ids}
use Rattle.yv_values.proofs.RisingLists.{where_ok}
use Rattle.yv_values.proofs.members.Members.from_rising.Goals as goal

pub from_rising-requires : goal.from_rising-requires
from_rising-requires c = subst (λ (ids : List Id). RiseById ids) (sym (ap (λ (es : List NumberedMember). map entry_id es) c.in_ok-without_numbers.ensures ∙ zero_ids _)) c.requires

pub returns : goal.returns
returns c = where_ok c.of_numbers.result (λ sorted is.
    is ∙ ap (λ (all : List NumberedId). between all 0 1) (c.in_ok-all.ensures ∙ ap (λ (es : List NumberedMember). map numbered_of es) c.in_ok-without_numbers.ensures) ∙ all_zero c.args.members.items) c.of_numbers.ensures.same
