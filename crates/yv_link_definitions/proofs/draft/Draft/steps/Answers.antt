use Rattle.std.proofs.Common.{List, ℕ, Option, Some, ◌∙◌, ap, arith, subst}
use Rattle.yv_link_scopes.specs.Rows.{Row, row}
use Rattle.yv_link_scopes.specs.Files.{Briefs}
use Rattle.yv_link_scopes.specs.Views.{files_in, rows_in}
use Rattle.yv_link_definitions.proofs.Words.{row_read, rows_count}
use Rattle.yv_link_definitions.proofs.DefinitionGraph.{GivesPair, joins_within, pairing_all, pairing_none, pairing_other, pairing_pair}
use Rattle.yv_link_definitions.proofs.draft.Draft.steps.Goals as goal
use Rattle.yv_link_definitions.proofs.draft.Draft.steps.Goals.{in-Some+in_ok-push, in_default}

pub loop-number-init : goal.loop-number-init
loop-number-init c =
    pairing_none _ _ _ (c.in_ok-steps.ensures.0 ∙ rows_count row _ (rows_in c.args.self.now.rows.now) c.entries-entries.ensures) c.in_ok-steps.ensures.1

pub pair-requires-clause-at : goal.pair-requires-clause-at
pair-requires-clause-at c = row_read row _ (rows_in c.args.self.now.rows.now) c.loop-number.number c.index-entries-number.result c.entries-entries.ensures c.loop-number-test.true c.index-entries-number.is

pub index_mut-requires : goal.index_mut-requires
index_mut-requires c =
    let files : Briefs = files_in c.args.self.now.rows.now in
    let rows : List Row = rows_in c.args.self.now.rows.now in
    let w = joins_within files rows c.loop-number.number c.in-Some.own c.in-Some.meant ((c.pair.ensures c.in-Some.own c.in-Some.meant).0 c.in-Some.is) in
    omega (arith, w.0, c.loop-number.invariant.each)

pub loop-number-preserved : goal.loop-number-preserved
loop-number-preserved c =
    let files : Briefs = files_in c.args.self.now.rows.now in
    let rows : List Row = rows_in c.args.self.now.rows.now in
    elim c.match-pair.branch [
      | in-Some+in_ok-push w ↦
          let gives : GivesPair files rows c.loop-number.number (Some (w.in-Some.own, w.in-Some.meant)) = subst (λ (o : Option (ℕ × ℕ)). GivesPair files rows c.loop-number.number o) w.in-Some.is c.pair.ensures in
          let inside = joins_within files rows c.loop-number.number w.in-Some.own w.in-Some.meant ((c.pair.ensures w.in-Some.own w.in-Some.meant).0 w.in-Some.is) in
          pairing_pair files rows c.loop-number.number w.in-Some.own w.in-Some.meant c.loop-number.steps.items c.match-pair.steps.items w.index_mut.result.now w.push.new.self c.loop-number.invariant gives (omega (arith, inside.0, c.loop-number.invariant.each)) w.index_mut.ensures.value w.in_ok-push.ensures.items (ap (λ v. v.items) w.steps-is)
      | in_default w ↦ rw w.steps-is (pairing_other files rows c.loop-number.number _ c.pair.result c.loop-number.invariant c.pair.ensures w.in_default.is)
    ]

pub returns : goal.returns
returns c =
    pairing_all _ (rows_in c.args.self.now.rows.now) c.loop-number.number _ (omega (arith, rows_count row _ (rows_in c.args.self.now.rows.now) c.entries-entries.ensures, c.loop-number-test.false, c.loop-number.auto.number-end)) c.loop-number.invariant
