use Rattle.std.proofs.Common.{◌≡◌, false, List, ◌++◌}
use Rattle.yv_text_if_feature.specs.Reads.{HasRead}
use Rattle.yv_text_if_feature.specs.WordTokens.{tokens_left}
use Rattle.yv_text_if_feature.specs.Tokens.{Token, tokens}
use Rattle.yv_text_if_feature.proofs.if_feature.is_if_feature.Given as goal

abbrev pub invariant-loop-word : goal.invariant-loop-word
invariant-loop-word l = (before : List Token) × HasRead (λ _. false) l.evaluator before × (tokens l.text ≡ before ++ tokens_left l.word-iterator)
