use Rattle.std.proofs.Common.{◌≡◌, MatchBool, true, sym, ◌∙◌}
use Rattle.yv_text_statement.specs.Order.{IsLeast, Stands, refusal_at}
use Rattle.yv_text_grammar.specs.Argument.{ArgumentFits}
use Rattle.yv_text_grammar.specs.Conditions.{is_unsupported}
use Rattle.yv_text_grammar.specs.Refusals.{keyword_at}
use Rattle.yv_text_statement.specs.declared.keyword.Keyword.TheVariants as word
use Rattle.yv_text_statement.specs.declared.refusal.Code.TheVariants as code
use Rattle.yv_text_grammar.proofs.StatementFit.{neither, spared, told}
use Rattle.yv_text_grammar.proofs.Keywords.{one, other, is_same, failed, fails, passed}
use Rattle.yv_text_statement.proofs.Least.{least_refused, least_lesser}
use Rattle.yv_text_grammar.proofs.refusal.own_refusal.Goals as goal

pub returns : goal.returns
returns c =
    let s = c.args.statement.now in
    let at_keyword : c.args.keyword ≡ keyword_at s = c.requires in
    let U : Type 0 = is_unsupported c.args.xpath (keyword_at s) s.head.argument ≡ true in
    let N : Type 0 = keyword_at s ≡ word.Unknown in
    let F : Type 0 = ArgumentFits c.args.parent (keyword_at s) s.head.argument in
    let unsupported : c.is_unsupported-unsupported.result ≡ is_unsupported c.args.xpath (keyword_at s) s.head.argument =
    rw (← c.requires, ← c.argument-argument.ensures) c.is_unsupported-unsupported.ensures in
    let first : IsLeast (Stands U (refusal_at code.Unsupported 0 s.head)) c.refusal_if-first.result =
    rw c.refusal_if-first.ensures (least_refused U _ _ (λ h. sym unsupported ∙ h) (λ h. unsupported ∙ h)) in
    let second : IsLeast (Stands N (refusal_at code.UnknownStatement 0 s.head)) c.refusal_if-second.result =
    rw c.refusal_if-second.ensures (least_refused N _ _ (λ h. sym at_keyword ∙ one _ _ (sym c.eq-unknown.ensures ∙ h)) (λ h. c.eq-unknown.ensures ∙ is_same _ _ (at_keyword ∙ h))) in
    let fitting : MatchBool c.fits-fits.result F (F → ⊥) = rw (← c.requires, ← c.argument-argument.ensures) c.fits-fits.ensures in
    let third : IsLeast (Stands (F → ⊥) (refusal_at code.BadArgument 0 s.head)) c.refusal_if-third.result =
    rw c.refusal_if-third.ensures (least_refused (F → ⊥) _ _ (failed F _ fitting) (fails F _ fitting)) in
    record {
      fits = told _ (λ none.
          let outer = neither _ _ _ c.lesser-2.ensures none in
          let inner = neither _ _ _ c.lesser.ensures outer.1 in
          record {
            supported = sym unsupported ∙ spared _ _ (sym c.refusal_if-first.ensures ∙ outer.0);
            known = λ e. other _ _ (sym c.eq-unknown.ensures ∙ spared _ _ (sym c.refusal_if-second.ensures ∙ inner.0)) (at_keyword ∙ e);
            argument = passed F _ fitting (spared _ _ (sym c.refusal_if-third.ensures ∙ inner.1));
          });
      least = least_lesser _ _ _ _ _ c.lesser-2.ensures first (least_lesser _ _ _ _ _ c.lesser.ensures second third);
    }
