use Rattle.std.proofs.Common.{◌≡◌, ◌<◌, ℕ, List, Option, length, get_or, ◌∙◌, ap, subst, arith}
use Rattle.std.specs.List.{Contains, list_any}
use Rattle.std.specs.Prelude.{IfSome}
use Rattle.yv_link_identities.proofs.PassingNumbers.{longer}
use Rattle.yv_type_identities.specs.InnerRuns.{IsKnown, in_node, is_in}
use Rattle.yv_type_identities.specs.declared.runs.Run.{Run}
use Rattle.yv_type_identities.proofs.NumberRuns.{Joins, run_is, runs_more}
use Rattle.yv_type_identities.proofs.runs.runs.Goals as goal

pub loop-node-preserved : goal.loop-node-preserved
loop-node-preserved c =
    let ranks : List ℕ = c.args.ranks.now in
    let node : ℕ = get_or c.args.order.now c.loop-node.node-index 0 in
    let within : node < length c.args.graph.now = omega (arith, c.requires.places.within c.loop-node.node-index c.loop-node-test.true, c.requires.each) in
    record {
      each = ap length c.in_ok-push.ensures.items ∙ longer c.loop-node.found.items _ ∙ omega (arith, c.loop-node.invariant.each);
      runs = runs_more c.args.graph.now ranks c.args.order.now c.requires.places c.requires.each c.loop-node.found.items c.push.new.self.items c.run_of-run.result c.loop-node.node-index c.in_ok-push.ensures.items c.loop-node.invariant.each
          (λ run e.
          let known = subst (λ (o : Option Run). IfSome o (λ _. (a : ℕ) → Contains c.deref-in-loop-node.result.now a → IsKnown c.deref.result.now (get_or ranks a 0))) e c.run_of-run.ensures.known in
          let numbers = subst (λ (o : Option Run). IfSome o (λ r. (n : ℕ) → is_in r n ≡ list_any (λ a. in_node c.deref.result.now (get_or ranks a 0) n) c.deref-in-loop-node.result.now)) e c.run_of-run.ensures.numbers in
          let joins : Joins c.deref.result.now ranks c.deref-in-loop-node.result.now run = record { known = known; numbers = numbers } in
          let in-row = subst (λ (nodes : List ℕ). Joins c.deref.result.now ranks nodes run) c.deref-in-loop-node.ensures.value joins in
          let in-found = subst (λ (rs : List (Option Run)). Joins rs ranks c.index-graph-node.result.items run) c.deref.ensures.value in-row in
          run_is c.args.graph.now ranks c.args.order.now c.requires.places c.requires.each c.loop-node.found.items node c.index-graph-node.result run c.requires.graph within c.index-graph-node.is c.loop-node.invariant.runs in-found)
          c.loop-node.invariant.runs;
    }
