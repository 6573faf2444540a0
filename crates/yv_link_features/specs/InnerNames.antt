-- Only private clauses cite this: what the words of an expression mean by rows and places.
use Rattle.std.specs.Prelude.{ℕ, Bool, true, List, [], ◌∷◌, ◌++◌, Option, None, is_some}
use Rattle.std.specs.Option.{option_to_list}
use Rattle.yv_text_if_feature.specs.Tokens.{Token}
use Rattle.yv_text_if_feature.specs.Tokens as token
use Rattle.yv_link_scopes.specs.Views.{files_in, rows_in}
use Rattle.yv_link_scopes.specs.Tables.{table_of}
use Rattle.yv_link_features.specs.Meaning.{Meaning, looked_up}
use Rattle.yv_link_features.specs.declared.names.FeatureNames.{FeatureNames}

abbrev pub means_in : FeatureNames → Meaning
means_in names =
    looked_up (table_of names.places.now) (files_in names.rows.now) (rows_in names.rows.now)

-- the feature that a word means, if it is a name
abbrev pub feature_of_word : Meaning → ℕ → Token → Option ℕ
feature_of_word means file (token.Name n) = means file n
feature_of_word means file t = None

-- a word is no name, or a feature is meant
abbrev pub is_settled : Token → Option ℕ → Bool
is_settled (token.Name n) feature = is_some feature
is_settled t feature = true

-- the features that words mean, in order
abbrev pub meant_among : Meaning → ℕ → List Token → List ℕ
meant_among means file [] = []
meant_among means file (t ∷ ts) =
    option_to_list (feature_of_word means file t) ++ meant_among means file ts
