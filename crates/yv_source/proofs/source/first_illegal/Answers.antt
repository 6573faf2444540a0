use Rattle.std.proofs.Common.{ℕ, ◌+◌, drop, sym, ap, ◌∙◌, subst}
use Rattle.std.proofs.lemmas.List.{take_rest}
use Rattle.yv_source.proofs.Legality.{LegalTo, legal_start, legal_run, legal_boundary, legal_all, legal_past, illegal_at}
use Rattle.yv_source.proofs.source.first_illegal.Goals as goal

pub loop-c-init : goal.loop-c-init
loop-c-init c = legal_start c.args.text.now c.utf8.text

pub range_from-requires : goal.range_from-requires
range_from-requires c =
    let here = legal_run c.loop-c.invariant _ c.common_len-at.result (take_rest c.as_bytes-bytes.result.now c.loop-c.at ∙ ap (drop c.loop-c.at) c.as_bytes-bytes.ensures.value) c.common_len-at.ensures.within c.common_len-at.ensures.common in
    λ some. legal_boundary here

pub returns-in_default-clause-none : goal.returns-in_default-clause-none
returns-in_default-clause-none c =
    let here = legal_run c.loop-c.invariant _ c.common_len-at.result (take_rest c.as_bytes-bytes.result.now c.loop-c.at ∙ ap (drop c.loop-c.at) c.as_bytes-bytes.ensures.value) c.common_len-at.ensures.within c.common_len-at.ensures.common in
    legal_all here (sym c.range_from.ensures.value ∙ c.in_default.ensures.none)

pub returns-then-not-is_legal-clause-finds : goal.returns-then-not-is_legal-clause-finds
returns-then-not-is_legal-clause-finds c =
    let here = legal_run c.loop-c.invariant _ c.common_len-at.result (take_rest c.as_bytes-bytes.result.now c.loop-c.at ∙ ap (drop c.loop-c.at) c.as_bytes-bytes.ensures.value) c.common_len-at.ensures.within c.common_len-at.ensures.common in
    illegal_at here c.in-Some.c _ (sym c.range_from.ensures.value ∙ c.in-Some.ensures.some) (sym c.is_legal.ensures ∙ c.if-not-is_legal.true)

pub loop-c-preserved : goal.loop-c-preserved
loop-c-preserved c =
    let here = legal_run c.loop-c.invariant _ c.common_len-at.result (take_rest c.as_bytes-bytes.result.now c.loop-c.at ∙ ap (drop c.loop-c.at) c.as_bytes-bytes.ensures.value) c.common_len-at.ensures.within c.common_len-at.ensures.common in
    let P : ℕ → Type 0 = λ k. LegalTo c.args.text.now (c.loop-c.at + c.common_len-at.result + k) in
    subst P (sym c.len_utf8-at.ensures.value)
    (legal_past here c.in-Some.c _ (sym c.range_from.ensures.value ∙ c.in-Some.ensures.some) (sym c.is_legal.ensures ∙ c.if-not-is_legal.false))
