use Rattle.std.proofs.Common.{◌≡◌, ℕ, ◌∷◌, [], Some, length, length-append, get_or, sym, ap, ◌∙◌, arith, List, subst}
use Rattle.std.specs.List.{slice_get}
use Rattle.std.proofs.lemmas.Option.{slice_get-get_or}
use Rattle.yv_text_statement.specs.Order.{Among, IsLeast}
use Rattle.yv_text_statement.proofs.Least.{least_more}
use Rattle.yv_nodes.specs.Places.{places}
use Rattle.yv_nodes.specs.Rows.{Row, blank_row}
use Rattle.yv_node_checks.proofs.Spots.{IsNumbered, is_numbered, length_rows}
use Rattle.yv_node_checks.proofs.Namesakes.{cases_more}
use Rattle.yv_node_checks.specs.InnerBelow.{AreBelow}
use Rattle.yv_node_checks.specs.InnerNamesakes.{case_of_row}
use Rattle.yv_node_checks.specs.Mandatory.{BadOfDefault}
use Rattle.yv_node_checks.proofs.mandatory.least_by_default.Goals as goal

pub loop-number-preserved : goal.loop-number-preserved
loop-number-preserved c =
    let rows : List Row = c.args.nodes.now.rows in
    let all : List Row = c.all-in-loop-number.result.now in
    let i = c.loop-number.number in
    let r : Row = get_or rows i blank_row in
    let at : slice_get rows i ≡ Some r = slice_get-get_or rows i blank_row (omega arith) in
    let grown = c.in_ok-push.ensures.items in
    record {
      each = omega (arith, ap length grown, length-append c.loop-number.cases.items (c.next_case-case.result ∷ []), c.loop-number.invariant.each);
      cases = cases_more rows c.loop-number.cases.items c.push.new.self.items i c.next_case-case.result c.loop-number.invariant.each c.loop-number.invariant.cases c.next_case-case.ensures grown;
      least = λ ts are.
          let row : IsNumbered ts i r = is_numbered ts i r (ap (λ (rs : List Row). slice_get rs i) (sym are) ∙ at) in
          let known : AreBelow ts c.deref-in-loop-number.result.now 0 = rw c.deref-in-loop-number.ensures.value (c.in_ok-below.ensures ts (c.all.ensures ∙ are)) in
          let there : slice_get all i ≡ Some c.get.result.now = ap (λ (rs : List Row). slice_get rs i) c.all-in-loop-number.ensures ∙ at ∙ ap (λ (x : Row). Some x) (sym c.get.ensures) in
          let its = c.next_case-case.ensures ∙ ap (case_of_row rows) (sym c.get.ensures) ∙ ap (λ (rs : List Row). case_of_row rs c.get.result.now) (sym c.all-in-loop-number.ensures) in
          least_more (places ts) (λ k. BadOfDefault) i row.spot.place _ _ _ row.at_place c.lesser-least.ensures (c.loop-number.invariant.least ts are)
          (c.wrong_default-here.ensures ts i row.spot.place (c.all-in-loop-number.ensures ∙ are) known there row.at_place its);
    }

pub returns : goal.returns
returns c = λ ts are.
    let all : length (places ts) ≡ c.loop-number.number = sym (length_rows ts) ∙ ap length (sym are) ∙ omega arith in
    subst (λ (n : ℕ). IsLeast (Among (places ts) (λ k. BadOfDefault) n) c.loop-number.least) (sym all) (c.loop-number.invariant.least ts are)
