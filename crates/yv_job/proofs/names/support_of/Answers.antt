use Rattle.std.proofs.Common.{◌∙◌, ap, map, Bor, List, ℕ}
use Rattle.std.proofs.lemmas.Result.{IfOk-weaker}
use Rattle.yv_text_statement.specs.Selection.{entry_of}
use Rattle.yv_job.proofs.NameLemmas.{support_from}
use Rattle.yv_job.proofs.names.support_of.Goals as goal

pub returns : goal.returns
returns c =
    let now = λ (p : Bor (List ℕ)). p.now in
    IfOk-weaker c.entries.result _ _ (λ o h. support_from now c.deref.result.now (λ v. map entry_of v.items) c.args.text.now o (ap (map now) c.deref.ensures.value ∙ c.in_ok-parts.ensures) h) c.entries.ensures
