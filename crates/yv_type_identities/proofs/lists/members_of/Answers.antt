use Rattle.std.proofs.Common.{◌≡◌, ℕ, List, None, Some, refl, length, get_or, sym, ◌∙◌, ap, arith, map}
use Rattle.std.specs.List.{slice_get, list_any}
use Rattle.std.proofs.lemmas.Option.{slice_get_read, slice_get-get_or, slice_get_past}
use Rattle.std.proofs.lemmas.Result.{IfOk-weaker}
use Rattle.yv_values.specs.Identities.{id_of, identity_in, is_identity}
use Rattle.yv_values.specs.Values.{identity}
use Rattle.yv_type_identities.specs.InnerSets.{is_left}
use Rattle.yv_type_identities.specs.declared.candidates.Candidate.{Candidate}
use Rattle.yv_type_identities.proofs.ChosenCandidates.{is_one, id_in, one_is, none_is, id_is, by_number}
use Rattle.yv_type_identities.proofs.ListMembers.{gathering_none, gathering_more, gathering_same, gathered, told_alike}
use Rattle.yv_type_identities.proofs.ValuesByKey.{through}
use Rattle.yv_type_identities.proofs.lists.members_of.Goals as goal
use Rattle.yv_type_identities.proofs.lists.members_of.Goals.{in-Some+in_ok-copy+in_ok-push, in_default}

pub loop-number-init : goal.loop-number-init
loop-number-init c =
    gathering_none c.deref-number-items.result.now (is_one c.args.candidates.now.list.items) (id_in c.args.candidates.now.list.items) c.new-members.result.items c.new-members.ensures.items

pub loop-number-preserved : goal.loop-number-preserved
loop-number-preserved c =
    let cs : List Candidate = c.args.candidates.now.list.items in
    let numbers : List ℕ = c.deref-number-items.result.now in
    let at : ℕ = c.loop-number.number-index in
    let number : ℕ = get_or numbers at 0 in
    let read : slice_get numbers at ≡ Some number = slice_get-get_or numbers at 0 c.loop-number-test.true in
    elim c.match-get.branch [
      | in-Some+in_ok-copy+in_ok-push w ↦
          let here : slice_get cs number ≡ Some w.in-Some.candidate.now =
          ap (λ xs. slice_get xs number) (sym c.deref.ensures.value) ∙ slice_get_read c.deref.result.now (length c.deref.result.now) number w.in-Some.candidate.now refl w.in-Some.ensures.lookup.3.0 w.in-Some.ensures.lookup.1 in
          rw w.members-is (gathering_more numbers (is_one cs) (id_in cs) at number w.in_ok-copy.field-0 c.loop-number.members.items w.push.new.self.items read (one_is cs at number w.in-Some.candidate.now here) (w.in_ok-copy.ensures ∙ sym (id_is cs number w.in-Some.candidate.now here)) w.in_ok-push.ensures.items c.loop-number.invariant)
      | in_default w ↦
          let past : slice_get cs number ≡ None = ap (λ xs. slice_get xs number) (sym c.deref.ensures.value) ∙ slice_get_past c.deref.result.now number w.in_default.ensures.lookup.3 in
          rw w.members-is (gathering_same numbers (is_one cs) (id_in cs) at number c.loop-number.members.items read (none_is cs at number past) c.loop-number.invariant)
    ]

pub returns-clause-same : goal.returns-clause-same
returns-clause-same c = IfOk-weaker c.new.result (λ ids. (module_name called : List ℕ) → identity_in ids module_name called ≡ identity_in (map id_of c.loop-number.members.items) module_name called) _ (λ ids sorted_same module_name called.
    let cs : List Candidate = c.args.candidates.now.list.items in
    let numbers : List ℕ = c.deref-number-items.result.now in
    let last : c.loop-number.number-index ≡ length numbers = omega (arith, c.loop-number-test.false, c.loop-number.auto.number-index-end) in
    let all =
    through (gathered numbers (is_one cs) (id_in cs) c.loop-number.number-index c.loop-number.members.items last c.loop-number.invariant module_name called)
    (by_number cs numbers (λ (d : Candidate). is_left c.args.left.now d.identity) (record { module_name = module_name; name = called }) (rw c.deref-number-items.ensures.value c.in_ok-numbers.ensures)) in
    let sorted : list_any (is_identity module_name called) (map id_of c.loop-number.members.items) ≡ list_any (is_identity module_name called) ids = sym (told_alike (list_any (is_identity module_name called) ids) (list_any (is_identity module_name called) (map id_of c.loop-number.members.items)) (identity module_name called) (sorted_same module_name called)) in (
      λ h. all.0 (sorted ∙ h),
      λ h. sym sorted ∙ all.1 h,
    )) c.new.ensures.same
