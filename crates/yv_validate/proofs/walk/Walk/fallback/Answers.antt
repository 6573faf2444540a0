use Rattle.std.proofs.Common.{◌≡◌, false, Bool, cond, None, sym, ap, ◌∙◌}
use Rattle.yv_node_keys.specs.Numbers.{default_case_at}
use Rattle.yv_nodes.specs.Rows.{below, rank}
use Rattle.yv_walk.specs.Context.{members_of}
use Rattle.yv_walk.specs.Existence.{any, existence_of}
use Rattle.yv_walk.specs.declared.existence.Existence.{Existence}
use Rattle.yv_validate.proofs.Meeting.{choice_standing}
use Rattle.yv_validate.proofs.walk.Walk.fallback.Goals as goal

pub returns : goal.returns
returns c =
    let s = c.args.self.now.schema.now in
    let p = c.args.at.id in
    let ms = members_of c.args.context.now in
    let inner : Existence = existence_of (rank p) (below s p) ms in
    let is : c.existence_of.result ≡ inner = c.existence_of.ensures c.requires.itself.context c.requires.itself.stands ∙ choice_standing s p ms c.node-node.ensures.sound c.requires.node c.requires.kind in
    let none : any inner ≡ false = sym (ap any is) ∙ sym c.any.ensures ∙ c.if-any.false in
    c.default_case.ensures ∙ sym (ap (λ (b : Bool). cond b None (default_case_at s.nodes p)) none)
