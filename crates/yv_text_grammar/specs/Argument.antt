-- Which arguments fit (RFC 7950, sections 7 and 9, and the grammar of section 14).
use Rattle.std.specs.Prelude.{◌≡◌, ℕ, Bool, true, false, List, [], ◌∷◌, Option, None, Some, codes}
use Rattle.yv_text_grammar.specs.Forms.{form_of}
use Rattle.yv_text_if_feature.specs.IfFeature.{IfFeature, Spells}
use Rattle.yv_text_if_feature.specs.Names.{is_identifier, is_name}
use Rattle.yv_text_path.specs.Paths.{IsPath}
use Rattle.yv_text_grammar.specs.Texts.{is_absolute_path, is_date, is_descendant_path, is_enum_name, is_enum_value, is_fraction_digits, is_key, is_max_elements, is_number, is_one_of, is_unique}
use Rattle.yv_text_statement.specs.declared.keyword.Keyword.{Keyword}
use Rattle.yv_text_grammar.specs.declared.form.Form.{Form}
use Rattle.yv_text_grammar.specs.declared.form.Form.TheVariants as form

-- whether a text has a form; of an `if-feature` and of a leafref's path see below
abbrev pub has_form : Form → List ℕ → Bool
has_form form.Identifier text = is_identifier text
has_form form.Name text = is_name text
has_form form.EnumName text = is_enum_name text
has_form form.Version text = is_one_of (codes "1" ∷ codes "1.1" ∷ []) text
has_form form.Boolean text = is_one_of (codes "true" ∷ codes "false" ∷ []) text
has_form form.Status text =
    is_one_of (codes "current" ∷ codes "deprecated" ∷ codes "obsolete" ∷ []) text
has_form form.OrderedBy text = is_one_of (codes "system" ∷ codes "user" ∷ []) text
has_form form.Modifier text = is_one_of (codes "invert-match" ∷ []) text
has_form form.Date text = is_date text
has_form form.Unsigned text = is_number 0 4294967295 text
has_form form.MaxElements text = is_max_elements text
has_form form.EnumValue text = is_enum_value text
has_form form.FractionDigits text = is_fraction_digits text
has_form form.Key text = is_key text
has_form form.Unique text = is_unique text
has_form form.DescendantPath text = is_descendant_path text
has_form form.AbsolutePath text = is_absolute_path text
has_form form.LeafrefPath text = true
has_form form.IfFeature text = true
has_form form.Text text = true
has_form form.Absent text = false

-- whether there may be no argument
abbrev pub may_lack : Form → Bool
may_lack form.Absent = true
may_lack _ = false

-- an argument, or its absence, is as a form allows
abbrev pub argument_has : Form → Option (List ℕ) → Bool
argument_has f None = may_lack f
argument_has f (Some text) = has_form f text

-- the text of an `if-feature` spells a condition (section 7.20.2), and that of a leafref's `path` is
-- one (section 9.9.2)
abbrev pub IsSpelled : Form → Option (List ℕ) → Type 0
IsSpelled form.IfFeature (Some text) = (c : IfFeature) × Spells text c
IsSpelled form.LeafrefPath (Some text) =
    (bare : List ℕ) × (names : List (List ℕ)) × IsPath text bare names
IsSpelled f argument = Unit {0}

-- the argument of a statement with this keyword, in the block of a parent, has its form
abbrev pub ArgumentFits : Keyword → Keyword → Option (List ℕ) → Type 0
ArgumentFits parent keyword argument = (argument_has (form_of parent keyword) argument ≡ true)
    × IsSpelled (form_of parent keyword) argument
