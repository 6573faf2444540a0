-- Which statements may refine which nodes, by what their keywords mean.
use Rattle.std.proofs.Common.{◌≡◌, ℕ, Bool, true, false, ◌||◌, List, refl, codes, if◌then◌else◌}
use Rattle.yv_text_statement.specs.declared.keyword.Keyword.{Keyword}
use Rattle.yv_text_statement.specs.declared.keyword.Keyword.TheVariants as word
use Rattle.yv_text_statement.specs.Keywords.{keyword_of, same}
use Rattle.yv_text_statement.specs.Words.{is_among}
use Rattle.yv_text_statement.proofs.KeywordTexts.{is_by_text}
use Rattle.yv_link_scopes.proofs.Keywords.{extended_by_colon}
use Rattle.yv_expand.proofs.KeywordKinds.{among_by_kind}
use Rattle.yv_expand_statements.specs.AllowedRefines.{is_allowed, with_default, with_mandatory, with_presence, with_elements, element_limits, of_any_node}
use Rattle.yv_expand_changes.specs.InnerKeywords.{has_defaults, has_mandatory, has_presence, has_elements, is_allowed_by, is_allowed_with}

abbrev is_limit : Keyword → Bool
is_limit word.MinElements = true
is_limit word.MaxElements = true
is_limit _ = false

abbrev is_of_any : Keyword → Bool
is_of_any word.Config = true
is_of_any word.Description = true
is_of_any word.Reference = true
is_of_any word.IfFeature = true
is_of_any _ = false

default_words : (text : List ℕ) → is_among with_default text ≡ has_defaults (keyword_of text)
unfolding keyword_of
default_words text = among_by_kind has_defaults with_default text refl refl refl refl

mandatory_words : (text : List ℕ) → is_among with_mandatory text ≡ has_mandatory (keyword_of text)
unfolding keyword_of
mandatory_words text = among_by_kind has_mandatory with_mandatory text refl refl refl refl

presence_words : (text : List ℕ) → is_among with_presence text ≡ has_presence (keyword_of text)
unfolding keyword_of
presence_words text = among_by_kind has_presence with_presence text refl refl refl refl

elements_words : (text : List ℕ) → is_among with_elements text ≡ has_elements (keyword_of text)
unfolding keyword_of
elements_words text = among_by_kind has_elements with_elements text refl refl refl refl

limit_words : (text : List ℕ) → is_among element_limits text ≡ is_limit (keyword_of text)
unfolding keyword_of
limit_words text = among_by_kind is_limit element_limits text refl refl refl refl

of_any_words : (text : List ℕ) → is_among of_any_node text ≡ is_of_any (keyword_of text)
unfolding keyword_of
of_any_words text = among_by_kind is_of_any of_any_node text refl refl refl refl

-- the same, test by test
by_keyword : (k : Keyword) (defaults mandatory presence elements : Bool) → (
    if same k word.Default then defaults
    else if same k word.Mandatory then mandatory
    else if same k word.Presence then presence
    else if is_limit k then elements
    else is_of_any k || same k word.Extended
    ) ≡ is_allowed_with k defaults mandatory presence elements
by_keyword word.Default d m p e = refl
by_keyword word.Mandatory d m p e = refl
by_keyword word.Presence d m p e = refl
by_keyword word.Extended d m p e = refl
by_keyword _ d m p e = refl

pub allowed_by_kind : (text target : List ℕ) → is_allowed text target ≡ is_allowed_by (keyword_of text) (keyword_of target)
unfolding is_allowed
allowed_by_kind text target =
    rw (← is_by_text text (codes "default") word.Default refl, ← is_by_text text (codes "mandatory") word.Mandatory refl, ← is_by_text text (codes "presence") word.Presence refl, default_words target, mandatory_words target, presence_words target, limit_words text, elements_words target, of_any_words text, ← extended_by_colon text)
    (by_keyword (keyword_of text) (has_defaults (keyword_of target)) (has_mandatory (keyword_of target)) (has_presence (keyword_of target)) (has_elements (keyword_of target)))
