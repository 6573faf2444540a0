use Rattle.std.proofs.Common.{◌≡◌, ◌++◌, ◌+◌, ◌-◌, [], ◌∷◌, List, ℕ, Option, Some, None, map, reverse, sym, ap, ◌∙◌, arith}
use Rattle.std.proofs.lemmas.List.{map-append}
use Rattle.std.specs.Option.{option_map}
use Rattle.yv_nodes.specs.declared.node.NodeId.{NodeId}
use Rattle.yv_node_leafrefs.specs.InnerWays.{upwards}
use Rattle.yv_node_leafrefs.proofs.Upward.{behind, ended, further, map-reverse, whole}
use Rattle.yv_node_leafrefs.proofs.link.way.Goals as goal

pub returns-in_default : goal.returns-in_default
returns-in_default c =
    let above = c.args.above.now in
    let k = c.args.count in
    let all = upwards above k (Some c.args.target.0) in
    let found : List ℕ = map (λ (n : NodeId). n.0) c.loop.way.items in
    let known : behind found (upwards above (k - c.loop.counter) None) ≡ all =
    ap (λ (p : Option ℕ). behind found (upwards above (k - c.loop.counter) p)) (sym c.in_default.is) ∙ c.loop.invariant in
    sym (ap (option_map reverse) (ended above k c.loop.counter found all c.loop-test.true known))

pub loop-preserved : goal.loop-preserved
loop-preserved c =
    let above = c.args.above.now in
    let k = c.args.count in
    let i = c.loop.counter in
    let n = c.in-Some.number in
    let found : List ℕ = map (λ (n : NodeId). n.0) c.loop.way.items in
    let now : map (λ (n : NodeId). n.0) c.push.new.self.items ≡ found ++ n ∷ [] = ap (map (λ (n : NodeId). n.0)) c.in_ok-push.ensures.items
    ∙ map-append (λ (n : NodeId). n.0) c.loop.way.items (record { 0 = n } ∷ []) in
    ap (λ (xs : List ℕ). behind xs (upwards above (k - (i + 1)) c.above_at-place.result)) now
    ∙ ap (λ (p : Option ℕ). behind (found ++ n ∷ []) (upwards above (k - (i + 1)) p)) c.above_at-place.ensures
    ∙ further above k i found n c.loop-test.true
    ∙ ap (λ (p : Option ℕ). behind found (upwards above (k - i) p)) (sym c.in-Some.is)
    ∙ c.loop.invariant

pub returns : goal.returns
returns c =
    let above = c.args.above.now in
    let k = c.args.count in
    let i = c.loop.counter in
    let found : List ℕ = map (λ (n : NodeId). n.0) c.loop.way.items in
    let all : Some found ≡ upwards above k (Some c.args.target.0) =
    sym (whole above k i found c.loop.place (omega (arith, c.loop-test.false))) ∙ c.loop.invariant in
    ap Some (ap (map (λ (n : NodeId). n.0)) c.reverse.ensures.items ∙ map-reverse (λ (n : NodeId). n.0) c.loop.way.items)
    ∙ ap (option_map reverse) all
