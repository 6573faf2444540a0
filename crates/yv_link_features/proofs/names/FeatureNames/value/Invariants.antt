use Rattle.std.proofs.Common.{◌≡◌, List, ◌++◌}
use Rattle.yv_text_if_feature.specs.Reads.{HasRead}
use Rattle.yv_text_if_feature.specs.WordTokens.{tokens_left}
use Rattle.yv_text_if_feature.specs.Tokens.{Token, tokens}
use Rattle.yv_link_features.specs.Features.{from_marks}
use Rattle.yv_link_features.specs.InnerNames.{means_in}
use Rattle.yv_link_features.proofs.FeatureWords.{all_known, names_on}
use Rattle.yv_link_features.proofs.names.FeatureNames.value.Given as goal

abbrev pub invariant-loop-word : goal.invariant-loop-word
invariant-loop-word l =
    (before : List Token) × (l.known ≡ all_known (means_in l.self) l.file before) × (tokens l.text ≡ before ++ tokens_left l.word-iterator)
    × HasRead (names_on (means_in l.self) l.file (from_marks l.on)) l.evaluator before
