use Rattle.std.proofs.Common.{◌∙◌, List, ap, map, sym, refl, subst}
use Rattle.std.specs.List.{Contains, list_any}
use Rattle.std.specs.Rc.{rc_str_bytes}
use Rattle.std.specs.Str.{bytes_eq}
use Rattle.std.proofs.lemmas.Option.{slice_get_read}
use Rattle.yv_values.specs.declared.members.Member.{Member}
use Rattle.yv_values.specs.declared.numbered_members.NumberedMember.{NumberedMember}
use Rattle.yv_values.specs.Identities.{Id, NumberedId, ids_of, is_identity, numbered_of}
use Rattle.yv_values.specs.InnerMembers.{entry_id}
use Rattle.yv_values.proofs.IdentitySearch.{either_order, found_at}
use Rattle.yv_values.proofs.NumberedIdentities.{contains_mapped, ids_numbered}
use Rattle.yv_values.proofs.numbered_members.NumberedMembers.match_at.Goals as goal

pub returns-in-Some-clause-any : goal.returns-in-Some-clause-any
returns-in-Some-clause-any c =
    let module_name = c.args.«module».now in
    let called = c.args.name.now in
    let m : Member = c.in-Some.entry.now.member in
    let read = slice_get_read c.deref.result.now _ c.args.place c.in-Some.entry.now refl c.in-Some.ensures.lookup.3.0 c.in-Some.ensures.lookup.1 in
    let same = sym (ids_numbered _) ∙ ap ids_of (ap (λ (ms : List NumberedMember). map numbered_of ms) c.deref.ensures.value ∙ c.self.view_is) in
    ap (λ (ids : List Id). list_any (is_identity module_name called) ids) (sym same) ∙ found_at entry_id module_name called c.deref.result.now c.args.place c.in-Some.entry.now read (either_order (bytes_eq (rc_str_bytes m.«module») module_name) (bytes_eq (rc_str_bytes m.name) called) ∙ sym c.if-is_named.ensures)

pub returns-in-Some-clause-there : goal.returns-in-Some-clause-there
returns-in-Some-clause-there c =
    let same = ap (λ (ms : List NumberedMember). map numbered_of ms) c.deref.ensures.value ∙ c.self.view_is in
    subst (λ (all : List NumberedId). Contains all (numbered_of c.in-Some.entry.now)) same (contains_mapped numbered_of c.deref.result.now c.args.place c.in-Some.entry.now c.in-Some.ensures.lookup.3.0 c.in-Some.ensures.lookup.1)
