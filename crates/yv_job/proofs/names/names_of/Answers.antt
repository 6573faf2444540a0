use Rattle.std.proofs.Common.{◌∙◌, sym, ap, map, Bor, List, ℕ}
use Rattle.yv_job.proofs.NameLemmas.{names_taken, names_refused}
use Rattle.yv_job.proofs.names.names_of.Goals as goal

pub returns-then-all_names : goal.returns-then-all_names
returns-then-all_names c =
    let now = λ (p : Bor (List ℕ)). p.now in
    let value = c.deref.ensures.value in
    names_taken now c.deref.result.now c.args.text.now _ (ap (map now) value ∙ c.in_ok-parts.ensures)
    (c.in_ok-copy_texts.ensures ∙ ap (map now) (c.deref-then-all_names.ensures.value ∙ sym value)) (sym c.if-all_names.ensures)

pub returns : goal.returns
returns c =
    let now = λ (p : Bor (List ℕ)). p.now in
    names_refused now c.deref.result.now c.args.text.now (ap (map now) c.deref.ensures.value ∙ c.in_ok-parts.ensures) (sym c.if-all_names.ensures)
