use Rattle.std.proofs.Common.{◌≡◌, List, Option, sym, ◌∙◌, ap, subst}
use Rattle.std.specs.List.{list_any}
use Rattle.std.specs.Prelude.{IfSome}
use Rattle.yv_link_identities.specs.References.{is_at}
use Rattle.yv_link_identities.specs.declared.references.IdentityRef.{IdentityRef}
use Rattle.yv_link.specs.LinkedFiles.{truth_in}
use Rattle.yv_values.specs.Identities.{Id}
use Rattle.yv_type_identities.specs.InnerBases.{bases_at}
use Rattle.yv_type_identities.specs.InnerSets.{is_key}
use Rattle.yv_type_identities.specs.Identities.{IsFound}
use Rattle.yv_type_identities.proofs.ValuesByKey.{type_values, through}
use Rattle.yv_type_identities.proofs.KeyLists.{new_found}
use Rattle.yv_type_identities.proofs.identities.IdentityLists.of.Goals as goal

pub returns-in-Some-clause-same : goal.returns-in-Some-clause-same
returns-in-Some-clause-same c = λ are files choice t module_name called.
    let same : (place : IdentityRef) → list_any (is_key place) c.in_ok-key.key.items ≡ list_any (is_at place) (bases_at c.args.self.now.bases.items c.args.number) =
    λ place. c.in_ok-key.ensures place ∙ ap (list_any (is_at place)) (c.bases_of.ensures ∙ ap (λ l. bases_at l c.args.number) c.deref.ensures.value) in
    let told : IsFound c.args.linked.now c.deref-2.result.now c.in-Some.members =
    subst (λ (o : Option (List Id)). IfSome o (IsFound c.args.linked.now c.deref-2.result.now)) c.in-Some.is (c.in_ok-members.ensures.right c.args.linked.now are) in
    let found : IsFound c.args.linked.now c.in_ok-key.key.items c.in-Some.members = subst (λ ks. IsFound c.args.linked.now ks c.in-Some.members) c.deref-2.ensures.value told in
    through (found files choice t module_name called)
    (type_values (truth_in c.args.linked.now) choice files c.args.number (bases_at c.args.self.now.bases.items c.args.number) c.in_ok-key.key.items module_name called (are.bases files choice t c.args.number) same)

pub returns-clause-same : goal.returns-clause-same
returns-clause-same c = λ are files choice t module_name called.
    let same : (place : IdentityRef) → list_any (is_key place) c.in_ok-key.key.items ≡ list_any (is_at place) (bases_at c.args.self.now.bases.items c.args.number) =
    λ place. c.in_ok-key.ensures place ∙ ap (list_any (is_at place)) (c.bases_of.ensures ∙ ap (λ l. bases_at l c.args.number) c.deref.ensures.value) in
    let found : IsFound c.args.linked.now c.in_ok-key.key.items c.in_ok-members-2.members =
    new_found c.args.linked.now c.args.self.now are c.in_ok-left.left c.in_ok-key.key.items c.deref-3.result.now c.in_ok-members-2.members c.deref-3.ensures.value c.in_ok-left.ensures c.in_ok-members-2.ensures.same in
    through (found files choice t module_name called)
    (type_values (truth_in c.args.linked.now) choice files c.args.number (bases_at c.args.self.now.bases.items c.args.number) c.in_ok-key.key.items module_name called (are.bases files choice t c.args.number) same)

pub returns-in_err-keep-clause-keeps : goal.returns-in_err-keep-clause-keeps
returns-in_err-keep-clause-keeps c = λ are.
    let found : IsFound c.args.linked.now c.in_ok-key.key.items c.in_ok-members-2.members =
    new_found c.args.linked.now c.args.self.now are c.in_ok-left.left c.in_ok-key.key.items c.deref-3.result.now c.in_ok-members-2.members c.deref-3.ensures.value c.in_ok-left.ensures c.in_ok-members-2.ensures.same in
    c.keep.ensures c.args.linked.now are (subst (IsFound c.args.linked.now c.in_ok-key.key.items) (sym c.in_ok-copy.ensures.same) found)

pub returns-clause-keeps : goal.returns-clause-keeps
returns-clause-keeps c = λ are.
    let found : IsFound c.args.linked.now c.in_ok-key.key.items c.in_ok-members-2.members =
    new_found c.args.linked.now c.args.self.now are c.in_ok-left.left c.in_ok-key.key.items c.deref-3.result.now c.in_ok-members-2.members c.deref-3.ensures.value c.in_ok-left.ensures c.in_ok-members-2.ensures.same in
    c.keep.ensures c.args.linked.now are (subst (IsFound c.args.linked.now c.in_ok-key.key.items) (sym c.in_ok-copy.ensures.same) found)
