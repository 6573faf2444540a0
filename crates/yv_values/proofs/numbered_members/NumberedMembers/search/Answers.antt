use Rattle.std.proofs.Common.{◌∙◌, ◌≡◌, List, map, get_or, ap, sym, subst, rules}
use Rattle.std.specs.List.{Contains, list_any}
use Rattle.std.specs.declared.cmp.Ordering.TheVariants.{Equal}
use Rattle.std.proofs.lemmas.Fn.{always_returns_same}
use Rattle.yv_values.specs.declared.numbered_members.NumberedMember.{NumberedMember}
use Rattle.yv_values.specs.Identities.{Id, NumberedId, id_cmp, ids_of, is_identity, numbered_of}
use Rattle.yv_values.specs.InnerMembers.{entry_id}
use Rattle.yv_values.proofs.IdentitySearch.{same_id, found, absent, ids_total}
use Rattle.yv_values.proofs.NumberedIdentities.{contains_mapped, ids_numbered}
use Rattle.yv_values.proofs.RisingLists.{sorted_from_rising}
use Rattle.yv_values.proofs.numbered_members.NumberedMembers.search.Goals as goal

pub returns-in-Ok-clause-value : goal.returns-in-Ok-clause-value
returns-in-Ok-clause-value c =
    let module_name = c.args.«module».now in
    let called = c.args.name.now in
    let at = c.in-Ok.ensures.position (λ (m : NumberedMember). id_cmp (entry_id m) record { module_name = module_name; name = called }) (always_returns_same _ _ _ (λ a r k h. search rules)) in
    let same = sym (ids_numbered _) ∙ ap ids_of (ap (λ (ms : List NumberedMember). map numbered_of ms) c.deref.ensures.value ∙ c.self.view_is) in
    sym (found entry_id module_name called c.deref.result.now c.in-Ok.at c.index-deref-at.result c.in-Ok.ensures.bound at) ∙ ap (λ (ids : List Id). list_any (is_identity module_name called) ids) same

pub returns-in-Ok-clause-same : goal.returns-in-Ok-clause-same
returns-in-Ok-clause-same c =
    let module_name = c.args.«module».now in
    let called = c.args.name.now in
    let m = c.index-deref-at.result in
    let at = c.in-Ok.ensures.position (λ (m : NumberedMember). id_cmp (entry_id m) record { module_name = module_name; name = called }) (always_returns_same _ _ _ (λ a r k h. search rules)) in
    let read = ap (λ (ms : List NumberedMember). get_or ms c.in-Ok.at m) (c.deref.ensures.value ∙ sym c.deref-in-Ok.ensures.value) ∙ sym c.index-deref-at.is in
    same_id module_name called (entry_id m) (subst (λ (n : NumberedMember). id_cmp (entry_id n) record { module_name = module_name; name = called } ≡ Equal) read (at m))

pub returns-in-Ok-clause-there : goal.returns-in-Ok-clause-there
returns-in-Ok-clause-there c =
    let m = c.index-deref-at.result in
    let same = ap (λ (ms : List NumberedMember). map numbered_of ms) c.deref.ensures.value ∙ c.self.view_is in
    let read = c.index-deref-at.is ∙ ap (λ (ms : List NumberedMember). get_or ms c.in-Ok.at m) (c.deref-in-Ok.ensures.value ∙ sym c.deref.ensures.value) in
    subst (λ (all : List NumberedId). Contains all (numbered_of m)) same (contains_mapped numbered_of c.deref.result.now c.in-Ok.at m c.in-Ok.ensures.bound read)

pub returns-in-Err-clause-value : goal.returns-in-Err-clause-value
returns-in-Err-clause-value c =
    let module_name = c.args.«module».now in
    let called = c.args.name.now in
    let parted = c.in-Err.ensures.position (λ (m : NumberedMember). id_cmp (entry_id m) record { module_name = module_name; name = called }) (always_returns_same _ _ _ (λ a r k h. search rules)) in
    let same = sym (ids_numbered _) ∙ ap ids_of (ap (λ (ms : List NumberedMember). map numbered_of ms) c.deref.ensures.value ∙ c.self.view_is) in
    sym (absent entry_id module_name called c.deref.result.now c.in-Err.field-0 (rw c.deref.ensures.value (sorted_from_rising entry_id id_cmp ids_total _ c.self.invariant)) parted) ∙ ap (λ (ids : List Id). list_any (is_identity module_name called) ids) same
