use Rattle.std.proofs.Common.{◌≡◌, ℕ, List, length, sym, ap, ◌∙◌, subst, arith}
use Rattle.std.specs.List.{slice_get}
use Rattle.std.proofs.lemmas.Option.{slice_get-get_or}
use Rattle.yv_text_statement.specs.Order.{Among, IsLeast}
use Rattle.yv_text_statement.proofs.Least.{least_more, least_start}
use Rattle.yv_nodes.specs.Places.{places}
use Rattle.yv_nodes.specs.Rows.{Row, blank_row}
use Rattle.yv_node_keys.specs.Bad.{BadOfLeafs}
use Rattle.yv_node_keys.specs.InnerTargets.{AreUpTo}
use Rattle.yv_node_keys.proofs.Spots.{IsNumbered, is_numbered, length_rows}
use Rattle.yv_node_keys.proofs.ListRefusals.{both_none}
use Rattle.yv_node_keys.proofs.targets.leaf_targets.Goals as goal

pub loop-number-init : goal.loop-number-init
loop-number-init c = record {
  right = c.new-targets.ensures.right c.args.nodes.now.rows;
  known = λ none. c.new-targets.ensures.up_to c.args.nodes.now.rows;
  least = λ ts are. least_start (places ts) (λ k. BadOfLeafs);
}

pub loop-number-preserved : goal.loop-number-preserved
loop-number-preserved c =
    let rows : List Row = c.args.nodes.now.rows in
    let n = c.loop-number.number in
    let at = slice_get-get_or rows n blank_row (omega arith) in
    record {
      right = c.in_ok-here.ensures.right;
      known = λ none.
          let clear = both_none c.loop-number.fault c.in_ok-here.here c.lesser-fault.result c.lesser-fault.ensures none in
          c.in_ok-here.ensures.keeps clear.1 (c.loop-number.invariant.known clear.0);
      least = λ ts are.
          let row : IsNumbered ts n _ = is_numbered ts n _ (ap (λ (rs : List Row). slice_get rs n) (sym are) ∙ at) in
          least_more (places ts) (λ k. BadOfLeafs) n row.spot.place _ _ _ row.at_place c.lesser-fault.ensures (c.loop-number.invariant.least ts are) (c.in_ok-here.ensures.fault ts are row.spot.place row.at_place);
    }

pub returns-clause-targets : goal.returns-clause-targets
returns-clause-targets c = λ none. record { all = subst (AreUpTo c.args.nodes.now.rows c.loop-number.targets) (omega arith) (c.loop-number.invariant.known none) }

pub returns-clause-fault : goal.returns-clause-fault
returns-clause-fault c = λ ts are.
    let all : length (places ts) ≡ c.loop-number.number = sym (length_rows ts) ∙ ap length (sym are) ∙ omega arith in
    subst (λ (n : ℕ). IsLeast (Among (places ts) (λ k. BadOfLeafs) n) c.loop-number.fault) (sym all) (c.loop-number.invariant.least ts are)
