use Rattle.std.proofs.Common.{◌≡◌, ◌↔◌, ◌+◌, ℕ, Some, length, refl, ◌∙◌, ap, arith, subst, Option}
use Rattle.std.proofs.lemmas.Option.{slice_get_read}
use Rattle.yv_node_leafrefs.specs.Above.{Closest, parent_of}
use Rattle.yv_node_leafrefs.specs.Links.{IsInner}
use Rattle.yv_node_leafrefs.specs.InnerWays.{AreAbove}
use Rattle.yv_node_leafrefs.proofs.LinkPlacing.{above_more, longer}
use Rattle.yv_node_leafrefs.proofs.inner_nodes.inner_above.Goals as goal

pub closest-place-requires-clause-above : goal.closest-place-requires-clause-above
closest-place-requires-clause-above c =
    let known = c.loop-node.invariant in
    let each : length c.deref.result.now ≡ c.loop-node.node-index = ap length c.deref.ensures.value ∙ known.0 in
    let before : AreAbove c.args.nodes.now (length c.deref.result.now) c.deref.result.now = rw (each, c.deref.ensures.value) known.1 in
    before

pub loop-node-preserved : goal.loop-node-preserved
loop-node-preserved c =
    let rows = c.args.nodes.now in
    let n = c.loop-node.node-index in
    let known = c.loop-node.invariant in
    let at = slice_get_read rows _ n c.node-item.result refl c.loop-node-test.true c.node-item.is in
    let now : (p : ℕ) → (c.closest-place.result ≡ Some p) ↔ (Closest rows (parent_of c.node-item.result) (Some p) × IsInner rows p) = λ p.
    subst (λ (x : Option ℕ). (c.closest-place.result ≡ Some p) ↔ (Closest rows x (Some p) × IsInner rows p)) c.parent_of.ensures
    (c.closest-place.ensures p) in (
      ap length c.in_ok-push.ensures.items ∙ longer c.loop-node.above.items c.closest-place.result ∙ ap (λ k. k + 1) known.0,
      above_more rows n c.loop-node.above.items c.push.new.self.items c.node-item.result c.closest-place.result known.0 known.1 at now
          c.in_ok-push.ensures.items,
    )

pub returns : goal.returns
returns c d p less = c.loop-node.invariant.1 d p (omega (arith, less, c.loop-node-test.false))
