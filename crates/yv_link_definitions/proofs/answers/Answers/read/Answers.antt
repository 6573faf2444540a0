use Rattle.std.proofs.Common.{◌≡◌, ℕ, length, subst, arith}
use Rattle.yv_link_scopes.specs.Rows.{row}
use Rattle.yv_link_scopes.specs.Views.{files_in, rows_in}
use Rattle.yv_link_definitions.specs.InnerAnswers.{TellFirst}
use Rattle.yv_link_definitions.proofs.Words.{rows_count}
use Rattle.yv_link_definitions.proofs.answers.Answers.read.Goals as goal

pub returns : goal.returns
returns c =
    let rows = rows_in c.args.draft.now.rows.now in
    let all : c.loop-number.number ≡ length rows = omega (arith, rows_count row _ rows c.entries-entries.ensures, c.loop-number-test.false, c.loop-number.auto.number-end) in
    subst (λ (n : ℕ). TellFirst (files_in c.args.draft.now.rows.now) rows n c.loop-number.answers) all c.loop-number.invariant
