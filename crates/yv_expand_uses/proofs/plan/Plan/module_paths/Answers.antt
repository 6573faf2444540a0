use Rattle.std.proofs.Common.{◌≡◌, ◌∙◌, ℕ, List, Some, map, get_or, sym, ap}
use Rattle.std.specs.List.{slice_get}
use Rattle.std.specs.declared.vec.Vec.{Vec}
use Rattle.std.specs.declared.alloc.Global.{Global}
use Rattle.std.proofs.lemmas.List.{map_push}
use Rattle.std.proofs.lemmas.Option.{slice_get-get_or}
use Rattle.yv_expand_uses.specs.Paths.{path_in}
use Rattle.yv_expand_uses.specs.Spots.{Whole, own_module_file}
use Rattle.yv_expand_uses.specs.InnerPlan.{whole_in}
use Rattle.yv_expand_uses.proofs.StatementLists.{mapped_all, mapped_more}
use Rattle.yv_expand_uses.proofs.plan.Plan.module_paths.Goals as goal

pub loop-augment-preserved : goal.loop-augment-preserved
loop-augment-preserved c =
    let w : Whole = whole_in c.args.self.now in
    let augments : List ℕ = c.args.self.now.augments.now in
    let items : Vec ℕ Global → List ℕ = λ p. p.items in
    let a : ℕ = get_or augments c.loop-augment.augment-index 0 in
    let at : slice_get augments c.loop-augment.augment-index ≡ Some a = slice_get-get_or augments c.loop-augment.augment-index 0 c.loop-augment-test.true in
    mapped_more (λ (a : ℕ). path_in w (own_module_file w.files (slice_get w.rows a)) a) augments c.loop-augment.augment-index a c.in_ok-path.path.items
    (map items c.loop-augment.paths.items) (map items c.push.new.self.items) at
    (c.in_ok-path.ensures ∙ ap (λ (h : ℕ). path_in w h a) c.own_module_file.ensures)
    (ap (map items) c.in_ok-push.ensures.items ∙ map_push items c.loop-augment.paths.items c.in_ok-path.path) c.loop-augment.invariant

pub returns : goal.returns
returns c =
    let w : Whole = whole_in c.args.self.now in
    sym (mapped_all (λ (a : ℕ). path_in w (own_module_file w.files (slice_get w.rows a)) a) c.args.self.now.augments.now c.loop-augment.augment-index _ c.loop-augment-test.false c.loop-augment.invariant)
