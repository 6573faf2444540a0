use Rattle.std.proofs.Common.{◌≡◌, [], ◌∷◌, ◌++◌, ◌&&◌, append_assoc, append-nil, refl, sym, ◌∙◌, ap}
use Rattle.yv_text_if_feature.specs.WordTokens.{token_shown, tokens_left}
use Rattle.yv_text_if_feature.specs.Tokens.{tokens}
use Rattle.yv_link_features.specs.InnerNames.{is_settled, means_in}
use Rattle.yv_link_features.proofs.FeatureWords.{all_known, known_more}
use Rattle.yv_link_features.proofs.names.FeatureNames.are_known.Goals as goal

pub loop-word-init : goal.loop-word-init
loop-word-init c = ([], refl, sym c.new-word-items.ensures ∙ ap tokens_left (sym c.into_iter-word-iterator.ensures.into_iter_gives))

pub loop-word-preserved : goal.loop-word-preserved
loop-word-preserved c =
    let q = c.loop-word.invariant in
    let t = token_shown c.in-Some.word in (
      q.0 ++ t ∷ [],
      c.both-known.ensures
          ∙ ap (λ b. b && c.is_settled-settled.result) q.1
          ∙ ap (λ b. all_known (means_in c.args.self.now) c.args.file q.0 && b) (c.is_settled-settled.ensures ∙ ap (is_settled t) c.feature_of_word-feature.ensures)
          ∙ sym (known_more (means_in c.args.self.now) c.args.file q.0 t),
      q.2 ∙ ap (λ ts. q.0 ++ ts) c.in-Some.ensures.steps ∙ sym (append_assoc q.0 (t ∷ []) (tokens_left c.next.new.self)),
    )

pub returns : goal.returns
returns c =
    let q = c.loop-word.invariant in
    let all : q.0 ≡ tokens c.args.text.now = sym (q.2 ∙ ap (λ ts. q.0 ++ ts) c.in-None.ensures.steps.0 ∙ append-nil q.0) in
    q.1 ∙ ap (all_known (means_in c.args.self.now) c.args.file) all
