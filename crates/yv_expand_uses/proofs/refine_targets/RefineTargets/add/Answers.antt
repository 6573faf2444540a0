use Rattle.std.proofs.Common.{◌≡◌, List, ◌+◌, ◌∷◌, ◌++◌, [], ℕ, length, refl, sym, ◌∙◌, ap, arith, length-append, None}
use Rattle.std.specs.List.{slice_get}
use Rattle.yv_expand_uses.specs.InnerRefineTargets.{HasNumber, Key, key_cmp}
use Rattle.yv_expand_uses.specs.declared.refine_targets.KeptTargets.{KeptTargets}
use Rattle.yv_expand_uses.specs.declared.refine_targets.RefineTargets.{RefineTargets}
use Rattle.yv_expand_uses.specs.declared.refine_targets.UsesTargets.{UsesTargets}
use Rattle.std.specs.declared.option.Option.{Option}
use Rattle.yv_expand_uses.proofs.TargetLists.{exact_key, known_more}
use Rattle.yv_expand_uses.proofs.NotedTargets.{kept_before, number_before}
use Rattle.yv_expand_uses.proofs.ListGrowth.{get_last}
use Rattle.yv_expand_uses.proofs.refine_targets.RefineTargets.add.Goals as goal

pub returns-clause-number : goal.returns-clause-number
returns-clause-number c = λ w are is.
    let old : List UsesTargets = c.args.self.now.aimed.items in
    let more : c.push.new.self.items ≡ old ++ c.args.aimed ∷ [] = c.in_ok-push.ensures.items ∙ ap (λ (l : List UsesTargets). l ++ c.args.aimed ∷ []) c.reserve.ensures.items in
    let size = ap length c.reserve.ensures.items in
    record {
      aimed = c.args.aimed;
      at = ap (λ (l : List UsesTargets). slice_get l c.len-number.result) more
          ∙ ap (slice_get (old ++ c.args.aimed ∷ [])) (omega (arith, c.len-number.ensures, size)) ∙ get_last old c.args.aimed;
      is = is;
    }

pub returns-clause-refine_targets : goal.returns-clause-refine_targets
returns-clause-refine_targets c = λ w are is.
    let old : RefineTargets = c.args.self.now in
    let new : RefineTargets = record { known = c.insert.new.self; aimed = c.push.new.self; kept = c.push-2.new.self; refinements = old.refinements } in
    let more : c.push.new.self.items ≡ old.aimed.items ++ c.args.aimed ∷ [] = c.in_ok-push.ensures.items ∙ ap (λ (l : List UsesTargets). l ++ c.args.aimed ∷ []) c.reserve.ensures.items in
    let longer : c.push-2.new.self.items ≡ old.kept.items ++ None ∷ [] = c.in_ok-push-2.ensures.items ∙ ap (λ (l : List (Option KeptTargets)). l ++ None ∷ []) c.reserve-2.ensures.items in
    let size = ap length c.reserve.ensures.items in
    let here : HasNumber w new c.args.statement c.args.module_file c.len-number.result = record {
      aimed = c.args.aimed;
      at = ap (λ (l : List UsesTargets). slice_get l c.len-number.result) more
          ∙ ap (slice_get (old.aimed.items ++ c.args.aimed ∷ [])) (omega (arith, c.len-number.ensures, size)) ∙ get_last old.aimed.items c.args.aimed;
      is = is;
    } in
    let all = known_more key_cmp exact_key (λ (key : Key) (number : ℕ). HasNumber w new key.0 key.1 number) old.known c.insert.new.self (c.args.statement, c.args.module_file) c.len-number.result c.in_ok-insert.ensures.updates
    (λ key number at. number_before old new c.args.aimed more refl w key.0 key.1 number (are.known key.0 key.1 number at)) here in
    record {
      known = λ statement module_file number at. all (statement, module_file) number at;
      each = ap length longer ∙ length-append old.kept.items (None ∷ []) ∙ ap (λ (n : ℕ). n + 1) are.each
          ∙ sym (ap length more ∙ length-append old.aimed.items (c.args.aimed ∷ []));
      kept = kept_before old new c.args.aimed more refl c.push-2.new.self.items are.each longer are.kept;
      uses = are.uses;
    }
