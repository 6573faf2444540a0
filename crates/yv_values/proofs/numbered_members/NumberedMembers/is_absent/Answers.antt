use Rattle.std.proofs.Common.{◌∙◌, List, ap, sym, refl}
use Rattle.std.specs.List.{list_any}
use Rattle.std.specs.Rc.{rc_slice_items}
use Rattle.yv_values.specs.Identities.{Id, id_cmp, ids_of, is_identity}
use Rattle.yv_values.specs.InnerMembers.{entry_id}
use Rattle.yv_values.proofs.IdentitySearch.{apart, ids_total}
use Rattle.yv_values.proofs.NumberedIdentities.{ids_numbered}
use Rattle.yv_values.proofs.RisingLists.{sorted_from_rising}
use Rattle.yv_values.proofs.numbered_members.NumberedMembers.is_absent.Goals as goal

pub returns-then-stands_after : goal.returns-then-stands_after
returns-then-stands_after c = λ t.
    let module_name = c.args.«module».now in
    let called = c.args.name.now in
    let up = sorted_from_rising entry_id id_cmp ids_total _ c.self.invariant in
    let below = rw c.deref.ensures.value at (c.if-stands_after.ensures refl) in
    let above = rw c.deref-then-stands_after.ensures.value at (c.stands_before.ensures t) in
    let same = sym (ids_numbered _) ∙ ap ids_of c.self.view_is in
    ap (λ (ids : List Id). list_any (is_identity module_name called) ids) (sym same) ∙ apart entry_id module_name called (rc_slice_items c.self.inside.members) c.args.place up below above
