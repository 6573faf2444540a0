-- What a feature depends on (RFC 7950, section 7.20.1).
use Rattle.std.specs.Prelude.{◌≡◌, ℕ, true, List, Some, slice_get}
use Rattle.std.specs.List.{Contains}
use Rattle.yv_text_if_feature.specs.Tokens.{names_among, tokens}
use Rattle.yv_link_scopes.specs.Rows.{Row, name_in}
use Rattle.yv_link_features.specs.Meaning.{Meaning}
use Rattle.yv_link_features.specs.On.{is_if_feature_of}

-- the names in a condition's expression, also those under `not`
abbrev pub names_of : Row → List (List ℕ)
names_of q = names_among (tokens (name_in q))

-- a condition of the numbered statement names a feature
pub record DependsOn (means : Meaning) (rows : List Row) (number feature : ℕ) : Type 0 where
  pub place : ℕ
  pub condition : Row
  pub at : slice_get rows place ≡ Some condition
  pub own : is_if_feature_of number condition ≡ true
  pub name : List ℕ
  pub named : Contains (names_of condition) name
  pub meant : means condition.file name ≡ Some feature

-- one statement leads to another by one such step or more; only features are led to
pub data LeadsTo (means : Meaning) (rows : List Row) : ℕ → ℕ → Type 0 where
  by_step : {a b : ℕ} → DependsOn means rows a b → LeadsTo means rows a b
  by_way : {a b c : ℕ} → DependsOn means rows a b → LeadsTo means rows b c → LeadsTo means rows a c
