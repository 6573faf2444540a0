use Rattle.std.proofs.Common.{◌++◌, ◌-◌, length, sym, ◌∙◌, ap}
use Rattle.std.specs.Option.{option_to_list}
use Rattle.yv_text_if_feature.specs.Tokens.{tokens}
use Rattle.yv_text_if_feature.specs.WordTokens.{tokens_left}
use Rattle.yv_link_features.specs.InnerNames.{means_in, meant_among}
use Rattle.yv_link_features.proofs.Fronts.{front_taken}
use Rattle.yv_link_features.proofs.names.FeatureNames.add_meanings.Goals as goal

pub loop-word-preserved : goal.loop-word-preserved
loop-word-preserved c =
    let rest = meant_among (means_in c.args.self.now) c.args.file (tokens_left c.next.new.self) in
    let step = ap (meant_among (means_in c.args.self.now) c.args.file) c.in-Some.ensures.steps ∙ ap (λ o. option_to_list o ++ rest) (sym c.feature_of_word.ensures ∙ c.in_default.is) in
    record {
      left = ap (λ xs. c.loop-word.features.items ++ xs) (sym step) ∙ c.loop-word.invariant.left;
      longer = c.loop-word.invariant.longer;
    }

pub returns-clause-part : goal.returns-clause-part
returns-clause-part c =
    let means = means_in c.args.self.now in
    let old = c.args.features.now.items in
    let now = c.loop-word.features.items in (
      length now - length old,
      front_taken now (meant_among means c.args.file (tokens_left c.loop-word.word-iterator)) old (meant_among means c.args.file (tokens c.args.text.now))
          c.loop-word.invariant.left c.loop-word.invariant.longer,
    )

pub returns-in_err-push-clause-part : goal.returns-in_err-push-clause-part
returns-in_err-push-clause-part c =
    let means = means_in c.args.self.now in
    let old = c.args.features.now.items in
    let now = c.loop-word.features.items in (
      length now - length old,
      c.in_err-push.ensures.items
          ∙ front_taken now (meant_among means c.args.file (tokens_left c.loop-word.word-iterator)) old (meant_among means c.args.file (tokens c.args.text.now))
          c.loop-word.invariant.left c.loop-word.invariant.longer,
    )
