use Rattle.std.proofs.Common.{List, refl, sym, ◌∙◌}
use Rattle.std.proofs.lemmas.Bool.{false≢true}
use Rattle.std.specs.List.{slice_index}
use Rattle.yv_link_scopes.specs.Files.{Briefs}
use Rattle.yv_link_scopes.specs.Rows.{Row}
use Rattle.yv_link_scopes.specs.Views.{files_in, rows_in}
use Rattle.yv_type_chains.proofs.TypeSubsequence.{sifted_all, sifted_more, sifted_none, sifted_other}
use Rattle.yv_type_chains.proofs.draft.Draft.types_only.Goals as goal
use Rattle.yv_type_chains.proofs.draft.Draft.types_only.Goals.{then-is_type_at+in_ok-push, else-is_type_at}

pub loop-number-init : goal.loop-number-init
loop-number-init c = λ all. sifted_none (files_in c.args.self.now.rows.now) (rows_in c.args.self.now.rows.now) c.args.order.now _ c.new-types.ensures.items

pub loop-number-preserved : goal.loop-number-preserved
loop-number-preserved c = λ all.
    let files : Briefs = files_in c.args.self.now.rows.now in
    let rows : List Row = rows_in c.args.self.now.rows.now in
    let n = c.loop-number.number-index in
    let x = slice_index c.args.order.now n in
    elim c.if-is_type_at.branch [
      | then-is_type_at+in_ok-push w ↦ rw w.types-is (sifted_more files rows c.args.order.now n x c.loop-number-test.true refl all c.loop-number.types.items (c.loop-number.invariant all) (c.is_type_at.ensures.0 w.if-is_type_at.true) w.push.new.self.items w.in_ok-push.ensures.items)
      | else-is_type_at w ↦ rw w.types-is (sifted_other files rows c.args.order.now n x c.loop-number-test.true refl c.loop-number.types.items (λ t. false≢true (sym w.if-is_type_at.false ∙ c.is_type_at.ensures.1 t)) (c.loop-number.invariant all))
    ]

pub returns : goal.returns
returns c = λ all. sifted_all (files_in c.args.self.now.rows.now) (rows_in c.args.self.now.rows.now) c.args.order.now c.loop-number.number-index c.loop-number.types.items c.loop-number-test.false all (c.loop-number.invariant all)
