use Rattle.std.proofs.Common.{◌≡◌, ◌<◌, ◌∙◌, ◌++◌, ℕ, length, List, Option, Some, map, sym, ap, subst, arith}
use Rattle.std.specs.Prelude.{IsOk, OnOk, vec_capacity}
use Rattle.std.specs.List.{slice_get}
use Rattle.std.proofs.lemmas.Option.{slice_get_within}
use Rattle.std.specs.declared.vec.Vec.{Vec}
use Rattle.std.specs.declared.alloc.Global.{Global}
use Rattle.yv_expand_refines.specs.Targets.{RefineMeaning, targets_at, all_meant, meaning_of}
use Rattle.yv_expand_refines.specs.declared.targets.RefineTarget.{RefineTarget}
use Rattle.yv_expand_refines.specs.declared.targets.RefinedUses.{RefinedUses}
use Rattle.yv_expand_refines.specs.declared.targets.Refinements.{Refinements}
use Rattle.yv_expand_uses.specs.Paths.{path_in}
use Rattle.yv_expand_uses.specs.InnerRefineTargets.{HasNumber}
use Rattle.yv_expand_uses.specs.InnerPaths.{target_of_path}
use Rattle.yv_expand_uses.specs.InnerPlan.{whole_in}
use Rattle.yv_expand_statements.specs.Kinds.{is_uses}
use Rattle.yv_expand_uses.specs.RefineTargets.{node_meant, refined_at, refines_in}
use Rattle.yv_expand_uses.specs.Spots.{Whole}
use Rattle.yv_expand_uses.specs.declared.refine_targets.UsesTargets.{UsesTargets}
use Rattle.yv_expand_uses.specs.declared.refine_targets.RefineTargets.{RefineTargets}
use Rattle.yv_expand_uses.specs.declared.leading_paths.LeadingPaths.{LeadingPaths}
use Rattle.yv_expand_uses.proofs.TargetLists.{all_refined, meant_told}
use Rattle.yv_expand_uses.proofs.NotedTargets.{none_failed, same_meant, targets_stay, where_fine}
use Rattle.yv_expand_uses.proofs.plan.Plan.refine_all.Goals as goal

pub returns-in_err-make_room-clause-refine_targets : goal.returns-in_err-make_room-clause-refine_targets
returns-in_err-make_room-clause-refine_targets c = targets_stay c.args.refine_targets.now c.make_room.new.self c.make_room.ensures.same (whole_in c.args.self.now) c.requires.refine_targets

pub number_of_targets-requires-clause-refine_targets : goal.number_of_targets-requires-clause-refine_targets
number_of_targets-requires-clause-refine_targets c = targets_stay c.args.refine_targets.now c.make_room.new.self c.make_room.ensures.same (whole_in c.args.self.now) c.requires.refine_targets

pub returns-in_err-number-clause-refine_targets : goal.returns-in_err-number-clause-refine_targets
returns-in_err-number-clause-refine_targets c =
    targets_stay c.make_room.new.self c.number_of_targets.new.refine_targets c.in_err-number.ensures.err (whole_in c.args.self.now)
    (targets_stay c.args.refine_targets.now c.make_room.new.self c.make_room.ensures.same (whole_in c.args.self.now) c.requires.refine_targets)

pub paths_that_lead-requires : goal.paths_that_lead-requires
paths_that_lead-requires c = (let number = c.in_ok-number.ensures.number in slice_get_within c.number_of_targets.new.refine_targets.aimed.items c.in_ok-number.number number.aimed number.at)

pub place-requires-clause-aims_at : goal.place-requires-clause-aims_at
place-requires-clause-aims_at c = (let number = c.in_ok-number.ensures.number in slice_get_within c.number_of_targets.new.refine_targets.aimed.items c.in_ok-number.number number.aimed number.at)

pub place-requires-clause-keeps : goal.place-requires-clause-keeps
place-requires-clause-keeps c =
    let number = c.in_ok-number.ensures.number in
    let less = slice_get_within c.number_of_targets.new.refine_targets.aimed.items c.in_ok-number.number number.aimed number.at in
    let each = c.in_ok-number.ensures.refine_targets.each in
    omega (arith, less, each)

pub returns-in_err-place-clause-refine_targets : goal.returns-in_err-place-clause-refine_targets
returns-in_err-place-clause-refine_targets c = targets_stay c.number_of_targets.new.refine_targets c.place.new.self c.in_err-place.ensures.err (whole_in c.args.self.now) c.in_ok-number.ensures.refine_targets

pub note-requires : goal.note-requires
note-requires c = (c.in_ok-place.ensures.place (whole_in c.args.self.now) c.in_ok-number.ensures.refine_targets).within

-- there is still room for a copy once its refine targets stand
module _ (c : goal.After-note) where
  room : IsOk c.note.result
  room =
      let left : c.place.new.self.refinements.uses ≡ c.make_room.new.self.refinements.uses =
      c.in_ok-place.ensures.uses ∙ ap (λ (r : Refinements). r.uses) c.in_ok-number.ensures.means in
      c.note.ensures.succeeds (subst (λ (us : Vec RefinedUses Global). length us.items < vec_capacity us) (sym left) c.in_ok-make_room.ensures.room)

pub returns-clause-refine_targets : goal.returns-clause-refine_targets
unfolding room
returns-clause-refine_targets c = where_fine c.note.result (room c) (c.note.ensures.refine_targets (whole_in c.args.self.now) (c.in_ok-place.ensures.refine_targets (whole_in c.args.self.now) c.in_ok-number.ensures.refine_targets))

pub returns-clause-keeps : goal.returns-clause-keeps
unfolding room
returns-clause-keeps c = none_failed _ c.note.result (room c)

pub returns-clause-means : goal.returns-clause-means
returns-clause-means c = λ labels st is. (
    let w : Whole = whole_in c.args.self.now in
    let spot = c.args.spot.now in
    let item : ℕ = c.args.item in
    let known : RefineTargets = c.number_of_targets.new.refine_targets in
    let kept : RefineTargets = c.place.new.self in
    let number : ℕ = c.in_ok-number.number in
    let place : ℕ = c.in_ok-place.place in
    let old : List RefineMeaning = all_meant c.args.refine_targets.now.refinements in
    let lead : List ℕ → Option ℕ = target_of_path labels st c.args.end spot.group in
    let has : HasNumber w known spot.statement spot.module_file number = c.in_ok-number.ensures.number in
    let leading_paths : LeadingPaths = c.in_ok-leading_paths.leading_paths in
    let found = c.in_ok-leading_paths.ensures labels st has.is.all has.aimed is has.at has.is.tree in
    let here : slice_get kept.aimed.items number ≡ Some has.aimed = ap (λ (v : Vec UsesTargets Global). slice_get v.items number) c.in_ok-place.ensures.aims_at ∙ has.at in
    let stand = (c.in_ok-place.ensures.place w c.in_ok-number.ensures.refine_targets).stand has.aimed here in
    let refine_targets : List RefineTarget = targets_at kept.refinements.refine_targets.items place in
    let refines : List ℕ = refines_in w.rows spot.statement in
    let f : ℕ → RefineMeaning = λ k. record { item = item; refine = k; target = node_meant w labels spot c.args.end k st } in
    let told : map (meaning_of item leading_paths.targets.items) refine_targets ≡ map f refines =
    ap (map (meaning_of item leading_paths.targets.items)) stand
    ∙ meant_told item lead has.is.all leading_paths (path_in w spot.module_file) found has.aimed.refine_targets.items refines has.is.refine_targets.refines has.is.refine_targets.each in
    let whole : map f refines ≡ refined_at w labels spot item c.args.end st =
    sym (all_refined (is_uses spot.label.kind) f refines (sym c.has_refines.ensures ∙ c.if-not-has_refines.false)) in
    subst (λ (l : List RefineMeaning). OnOk c.note.result (all_meant c.note.new.self.refinements ≡ l))
    (ap (λ (l : List RefineMeaning). l ++ map (meaning_of item leading_paths.targets.items) refine_targets)
    (c.in_ok-place.ensures.means w c.in_ok-number.ensures.refine_targets ∙ ap (λ (r : Refinements). all_meant r) c.in_ok-number.ensures.means
    ∙ same_meant c.args.refine_targets.now.refinements c.make_room.new.self.refinements c.make_room.ensures.same.refinements)
    ∙ ap (λ (l : List RefineMeaning). old ++ l) (told ∙ whole))
    c.note.ensures.means)
