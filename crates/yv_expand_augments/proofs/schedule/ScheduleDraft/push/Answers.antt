use Rattle.std.proofs.Common.{◌≡◌, ◌+◌, ◌∷◌, ◌++◌, [], inl, inr, ℕ, List, Some, true, ap, sym, subst, ◌∙◌}
use Rattle.std.specs.BTreeSet.{contains}
use Rattle.std.specs.List.{slice_get}
use Rattle.std.specs.Ordering.{nat_cmp}
use Rattle.std.proofs.lemmas.Option.{same_Some}
use Rattle.yv_text_statement.specs.declared.refusal.Refusal.{Refusal}
use Rattle.yv_expand_augments.specs.InnerSchedule.{AreIdle, IsPathOf}
use Rattle.yv_expand_augments.specs.declared.schedule.AddressedAugment.{AddressedAugment}
use Rattle.yv_expand_augments.specs.declared.schedule.ScheduleDraft.{ScheduleDraft}
use Rattle.yv_expand_augments.proofs.AugmentSchedule.{all_passed, contains_more, idle_push, idle_same, known_before, passed_push, path_of_before, path_of_keep, path_of_last, refusal_code}
use Rattle.yv_expand_augments.proofs.schedule.ScheduleDraft.push.Goals as goal

pub returns-then-not-branch : goal.returns-then-not-branch
returns-then-not-branch c = λ w statement module_file count is next followed. (
    let old : ScheduleDraft = c.args.self.now in
    let idle : List AddressedAugment = old.idle.items in
    let x : AddressedAugment = c.args.it in
    let f : Refusal = c.args.refusal in
    let number : ℕ = c.in_ok-number.number in
    let added = c.in_ok-number.ensures is.all is.tree in
    let there : contains nat_cmp old.known number ≡ true = known_before (contains nat_cmp old.known number) (sym c.in_ok-insert.ensures.added ∙ c.if-not-branch.true) in
    let has : IsPathOf is.all idle number = is.known number there in
    let passed = all_passed w statement module_file count old x f is next followed in
    let same : has.addressed.path.items ≡ x.path.items =
    same_Some has.addressed.path.items x.path.items (sym (added.kept number has.addressed.path.items has.path) ∙ added.at ∙ ap Some c.deref.ensures.value) in
    record {
      from = is.from;
      done = is.done;
      idle = idle_same w statement module_file is.from count idle x f is.idle next passed has.place has.addressed has.at same;
      all = added.all;
      tree = added.tree;
      known = λ n h. path_of_keep is.all added.all idle n added.kept (elim (contains_more old.known c.insert.new.self number c.in_ok-insert.ensures.updates n h) [
        | inl e ↦ subst (IsPathOf is.all idle) e has
        | inr before ↦ is.known n before
      ]);
      passed = passed;
      code = λ l e. refusal_code w.rows x.augment f l next.refused e;
    })

pub returns : goal.returns
returns c = λ w statement module_file count is next followed. (
    let old : ScheduleDraft = c.args.self.now in
    let idle : List AddressedAugment = old.idle.items in
    let x : AddressedAugment = c.args.it in
    let f : Refusal = c.args.refusal in
    let number : ℕ = c.in_ok-number.number in
    let added = c.in_ok-number.ensures is.all is.tree in
    let passed = all_passed w statement module_file count old x f is next followed in
    let items : c.push.new.self.items ≡ idle ++ x ∷ [] = c.in_ok-push.ensures.items in
    let known : (n : ℕ) → contains nat_cmp c.insert.new.self n ≡ true → IsPathOf added.all (idle ++ x ∷ []) n =
    λ n h. elim (contains_more old.known c.insert.new.self number c.in_ok-insert.ensures.updates n h) [
      | inl e ↦ subst (IsPathOf added.all (idle ++ x ∷ [])) e (path_of_last added.all idle x number (added.at ∙ ap Some c.deref.ensures.value))
      | inr before ↦ path_of_before added.all idle x n (path_of_keep is.all added.all idle n added.kept (is.known n before))
    ] in
    record {
      from = is.from;
      done = is.done;
      idle = subst (AreIdle w statement module_file is.from (count + 1)) (sym items) (idle_push w statement module_file is.from count idle x f is.idle next passed);
      all = added.all;
      tree = added.tree;
      known = λ n h. subst (λ (l : List AddressedAugment). IsPathOf added.all l n) (sym items) (known n h);
      passed = λ k y g at refused. passed_push w.rows idle x f next.refused passed k y g (ap (λ (l : List AddressedAugment). slice_get l k) (sym items) ∙ at) refused;
      code = λ l e. refusal_code w.rows x.augment f l next.refused e;
    })
