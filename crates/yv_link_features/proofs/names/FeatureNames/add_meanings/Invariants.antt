use Rattle.std.proofs.Common.{◌≡◌, ◌++◌, ◌≤◌, length}
use Rattle.yv_text_if_feature.specs.WordTokens.{tokens_left}
use Rattle.yv_text_if_feature.specs.Tokens.{tokens}
use Rattle.yv_link_features.specs.InnerNames.{means_in, meant_among}
use Rattle.yv_link_features.proofs.names.FeatureNames.add_meanings.Given as goal

abbrev pub invariant-loop-word : goal.invariant-loop-word
invariant-loop-word l = record {
  left : l.features.items ++ meant_among (means_in l.self) l.file (tokens_left l.word-iterator) ≡ l.fn.features.items ++ meant_among (means_in l.self) l.file (tokens l.text);
  longer : length l.fn.features.items ≤ length l.features.items;
}
