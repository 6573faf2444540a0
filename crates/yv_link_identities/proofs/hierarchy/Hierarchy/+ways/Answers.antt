use Rattle.std.proofs.Common.{◌≡◌, ◌<◌, ◌⊎◌, ◌+◌, ◌-◌, ◌*◌, ℕ, List, inl, inr, refl, sym, ◌∙◌, arith, length, get_or, eq-eqb}
use Rattle.std.proofs.lemmas.Bool.{false≢true}
use Rattle.std.proofs.lemmas.Grind.{get_or_default_zero}
use Rattle.yv_base_graph.specs.Graph.{Graph, LeadsTo, HasEdge}
use Rattle.yv_link_identities.proofs.Ways.{edge_within, item_edge, edge_then, enters_by, enters_not, leads_not, not_above, crosses_back, none_crosses, none_crosses_more, place_within, rank_read}
use Rattle.yv_link_identities.proofs.hierarchy.Hierarchy.+ways.Goals as goal
use Rattle.yv_link_identities.proofs.hierarchy.Hierarchy.+ways.Goals.{enters-then-base-to, enters-else-base-to, leads_far-then-node-from, leads_far-else-node-from, leads_far-else-enters-via-then-enters+else-leads, leads_far-else-enters-via-else-enters, leads_near-then-base-to-via-then-base-to, leads_near-then-base-to-via-else-base-to+then-leads}

pub enters-returns-then-leads : goal.enters-returns-then-leads
enters-returns-then-leads t c =
    let g : Graph = c.args.self.now.bases.items in
    let items : List ℕ = c.deref-base-items.result.now in
    let base : ℕ = get_or items c.loop-base.base-index 0 in
    let onward : (base ≡ c.args.to) ⊎ LeadsTo g base c.args.to = elim c.if-base-to.branch [
      | enters-then-base-to w ↦ inl w.if-base-to.true
      | enters-else-base-to w ↦ inr (w.leads.ensures.0 (sym w.value-is ∙ c.if-leads.true))
    ] in (
      λ _. enters_by g c.args.self.now.ranks.items c.args.middle c.args.node c.args.to c.loop-base.base-index _ c.index.result.now items c.args.self.now.graph c.args.self.now.ranked c.requires.node c.index.ensures c.deref-base-items.ensures.value c.loop-base-test.true c.index-in-loop-base.ensures c.if-index-middle.true onward,
      λ _. refl,
    )

pub enters-returns : goal.enters-returns
enters-returns t c = (
  λ f. absurd (false≢true f),
  λ w. absurd (enters_not _ _ _ _ _ _ _ _ c.index.ensures c.deref-base-items.ensures.value c.loop-base-test.false c.loop-base.invariant w),
)

pub leads-returns-then-index : goal.leads-returns-then-index
leads-returns-then-index t c = (
  λ f. absurd (false≢true f),
  λ w. absurd (not_above _ _ _ _ _ _ _ c.args.self.now.ranked c.stem-node.ensures.leads.0 c.stem-node.ensures.within c.requires.to c.index.ensures c.index-2.ensures c.if-index.true w),
)

pub leads_far-returns-then-leads : goal.leads_far-returns-then-leads
leads_far-returns-then-leads t c =
    let g : Graph = c.args.self.now.bases.items in
    let reached : (c.index-node.result.now ≡ c.args.from) ⊎ LeadsTo g c.args.from c.index-node.result.now = elim c.if-node-from.branch [
      | leads_far-then-node-from w ↦ inl w.if-node-from.true
      | leads_far-else-node-from w ↦ inr (w.leads.ensures.0 (sym w.value-is ∙ c.if-leads.true))
    ] in
    (λ _. crosses_back g _ _ _ _ c.index-node.result.now reached (c.enters.ensures.0 c.if-enters.true), λ _. refl)

pub leads_far-loop-place-preserved : goal.leads_far-loop-place-preserved
leads_far-loop-place-preserved t c =
    let g : Graph = c.args.self.now.bases.items in
    let n : ℕ = c.index-node.result.now in
    let within : c.loop-place.place < length c.args.self.now.order.items = place_within _ _ _ _ _ _ c.args.self.now.ranked c.args.self.now.placed c.requires.from c.index-high.ensures (omega (arith, c.loop-place-test.true)) in
    none_crosses_more g _ _ _ _ _ _ n c.loop-place.invariant (c.index-node.ensures ∙ get_or_default_zero _ _ _ within) (λ o enters. elim c.else-enters.branch [
      | leads_far-else-enters-via-then-enters+else-leads w ↦ elim w.if-node-from.branch [
        | leads_far-then-node-from v ↦ false≢true (sym w.if-leads.false ∙ v.value-is ∙ eq-eqb n c.args.from v.if-node-from.true)
        | leads_far-else-node-from v ↦ elim o [
          | inl same ↦ v.if-node-from.false same
          | inr way ↦ false≢true (sym w.if-leads.false ∙ v.value-is ∙ v.leads.ensures.1 way)
        ]
      ]
      | leads_far-else-enters-via-else-enters w ↦ false≢true (sym w.if-enters.false ∙ c.enters.ensures.1 enters)
    ])

pub leads_far-returns : goal.leads_far-returns
leads_far-returns t c =
    let ranks : List ℕ = c.args.self.now.ranks.items in
    let high : c.index-high.result.now ≡ get_or ranks c.args.from 0 = rank_read _ _ _ _ c.args.self.now.ranked c.requires.from c.index-high.ensures in
    let low : c.index-low.result.now ≡ get_or ranks c.args.to 0 = rank_read _ _ _ _ c.args.self.now.ranked c.requires.to c.index-low.ensures in (
      λ f. absurd (false≢true f),
      λ w. absurd (none_crosses _ _ _ _ _ _ _ c.args.self.now.graph c.args.self.now.ranked c.args.self.now.placed c.requires.from (omega (arith, high, c.loop-place-test.false)) (omega (arith, high, low, c.requires.falls)) (omega (arith, low)) c.loop-place.invariant w),
    )

pub leads_near-leads-requires : goal.leads_near-leads-requires
leads_near-leads-requires t c =
    let g : Graph = c.args.self.now.bases.items in
    let ranks : List ℕ = c.args.self.now.ranks.items in
    let base : ℕ = get_or c.deref-base-items.result.now c.loop-base.base-index 0 in
    let edge : HasEdge g c.args.from base = item_edge g c.args.from c.loop-base.base-index c.index.result.now c.deref-base-items.result.now c.requires.from c.index.ensures c.deref-base-items.ensures.value c.loop-base-test.true in
    let falls : get_or ranks base 0 < get_or ranks c.args.from 0 = c.args.self.now.ranked.falls c.args.from base edge in
    let smaller : 3 * (get_or ranks base 0 - get_or ranks c.args.to 0) + 2 < t = omega (arith, falls, c.requires.falls, c.decreases) in
    (smaller, ((edge_within g c.args.from base c.args.self.now.graph edge).1, c.requires.to))

pub leads_near-returns-then-base-to : goal.leads_near-returns-then-base-to
leads_near-returns-then-base-to t c =
    let g : Graph = c.args.self.now.bases.items in
    let items : List ℕ = c.deref-base-items.result.now in
    let base : ℕ = get_or items c.loop-base.base-index 0 in
    let edge : HasEdge g c.args.from base = item_edge g c.args.from c.loop-base.base-index c.index.result.now items c.requires.from c.index.ensures c.deref-base-items.ensures.value c.loop-base-test.true in
    let onward : (base ≡ c.args.to) ⊎ LeadsTo g base c.args.to = elim c.then-base-to.branch [
      | leads_near-then-base-to-via-then-base-to w ↦ inl w.if-base-to.true
      | leads_near-then-base-to-via-else-base-to+then-leads w ↦ inr (w.leads.ensures.0 w.if-leads.true)
    ] in
    (λ _. edge_then g c.args.from base c.args.to edge onward, λ _. refl)

pub leads_near-returns : goal.leads_near-returns
leads_near-returns t c = (
  λ f. absurd (false≢true f),
  λ w. absurd (leads_not _ _ _ _ _ _ c.index.ensures c.deref-base-items.ensures.value c.loop-base-test.false c.loop-base.invariant w),
)
