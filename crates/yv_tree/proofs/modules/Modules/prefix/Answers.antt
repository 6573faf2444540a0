use Rattle.std.proofs.Common.{◌∙◌, List, Some, None, sym, ap, arith}
use Rattle.yv_nodes.specs.Rows.{Module}
use Rattle.yv_tree.specs.Lines.{prefix_in}
use Rattle.yv_tree.proofs.ModulePlaces.{leads_by}
use Rattle.yv_tree.proofs.modules.Modules.prefix.Goals as goal

pub bounds-self-inside-place : goal.bounds-self-inside-place
bounds-self-inside-place c =
    let found = leads_by c.self.inside.modules.now c.args.module_file (Some c.in-Some.place) (c.in-Some.ensures ∙ c.get.ensures.value ∙ c.self.invariant c.args.module_file) in
    found.0

pub offset_bounds-self-inside-place : goal.offset_bounds-self-inside-place
offset_bounds-self-inside-place c =
    let found = leads_by c.self.inside.modules.now c.args.module_file (Some c.in-Some.place) (c.in-Some.ensures ∙ c.get.ensures.value ∙ c.self.invariant c.args.module_file) in
    omega (arith, found.0)

pub returns-in-Some : goal.returns-in-Some
returns-in-Some c =
    let found = leads_by c.self.inside.modules.now c.args.module_file (Some c.in-Some.place) (c.in-Some.ensures ∙ c.get.ensures.value ∙ c.self.invariant c.args.module_file) in
    c.as_str.ensures.value ∙ ap (λ (m : Module). m.prefix) c.found.view_is ∙ found.1 _ ∙ ap (λ (ms : List Module). prefix_in ms c.args.module_file) c.self.view_is

pub returns-in-None : goal.returns-in-None
returns-in-None c =
    let none = leads_by c.self.inside.modules.now c.args.module_file None (c.in-None.ensures ∙ c.get.ensures.value ∙ c.self.invariant c.args.module_file) in
    sym none ∙ ap (λ (ms : List Module). prefix_in ms c.args.module_file) c.self.view_is
