use Rattle.std.proofs.Common.{◌≡◌, false, [], ◌∷◌, ◌++◌, append_assoc, append-nil, sym, ◌∙◌, ap, subst}
use Rattle.yv_text_if_feature.specs.Reads.{HasRead}
use Rattle.yv_text_if_feature.specs.WordTokens.{token_shown, tokens_left}
use Rattle.yv_text_if_feature.specs.Tokens.{tokens}
use Rattle.yv_text_if_feature.proofs.ConditionTruth.{decided, none_agrees}
use Rattle.yv_text_if_feature.proofs.if_feature.is_if_feature.Goals as goal

pub loop-word-init : goal.loop-word-init
loop-word-init c = ([], c.new-evaluator.ensures (λ _. false), sym c.new-word-items.ensures ∙ ap tokens_left (sym c.into_iter-word-iterator.ensures.into_iter_gives))

pub loop-word-preserved : goal.loop-word-preserved
loop-word-preserved c =
    let q = c.loop-word.invariant in
    let t = token_shown c.in-Some.word in
    (q.0 ++ t ∷ [], c.take.ensures (λ _. false) q.0 q.1 (none_agrees t), q.2 ∙ ap (λ ts. q.0 ++ ts) c.in-Some.ensures.steps ∙ sym (append_assoc q.0 (t ∷ []) (tokens_left c.next.new.self)))

pub returns : goal.returns
returns c =
    let q = c.loop-word.invariant in
    let all : q.0 ≡ tokens c.args.text.now = sym (q.2 ∙ ap (λ ts. q.0 ++ ts) c.in-None.ensures.steps.0 ∙ append-nil q.0) in
    let read : HasRead (λ _. false) c.loop-word.evaluator (tokens c.args.text.now) = subst (HasRead (λ _. false) c.loop-word.evaluator) all q.1 in
    let told = decided (λ _. false) (tokens c.args.text.now) c.truth.result (c.truth.ensures (λ _. false) (tokens c.args.text.now) read) in
    (λ e. told.0 (sym c.is_some.ensures ∙ e), λ p. c.is_some.ensures ∙ told.1 p)
