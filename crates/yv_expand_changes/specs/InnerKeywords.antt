-- Only private clauses cite this: which statements may refine which nodes, by their keywords.
use Rattle.std.specs.Prelude.{Bool, true, false}
use Rattle.yv_text_statement.specs.declared.keyword.Keyword.{Keyword}
use Rattle.yv_text_statement.specs.declared.keyword.Keyword.TheVariants as word

-- a node of this keyword may have defaults
abbrev pub has_defaults : Keyword → Bool
has_defaults word.Leaf = true
has_defaults word.LeafList = true
has_defaults word.Choice = true
has_defaults _ = false

-- it may be mandatory
abbrev pub has_mandatory : Keyword → Bool
has_mandatory word.Leaf = true
has_mandatory word.Choice = true
has_mandatory word.Anydata = true
has_mandatory word.Anyxml = true
has_mandatory _ = false

-- it may have a presence
abbrev pub has_presence : Keyword → Bool
has_presence word.Container = true
has_presence _ = false

-- it may have limits on its elements
abbrev pub has_elements : Keyword → Bool
has_elements word.List = true
has_elements word.LeafList = true
has_elements _ = false

-- a statement of this keyword may refine a node that may or may not have these
abbrev pub is_allowed_with : Keyword → (defaults mandatory presence elements : Bool) → Bool
is_allowed_with word.Default defaults mandatory presence elements = defaults
is_allowed_with word.Mandatory defaults mandatory presence elements = mandatory
is_allowed_with word.Presence defaults mandatory presence elements = presence
is_allowed_with word.MinElements defaults mandatory presence elements = elements
is_allowed_with word.MaxElements defaults mandatory presence elements = elements
is_allowed_with word.Config defaults mandatory presence elements = true
is_allowed_with word.Description defaults mandatory presence elements = true
is_allowed_with word.Reference defaults mandatory presence elements = true
is_allowed_with word.IfFeature defaults mandatory presence elements = true
is_allowed_with word.Extended defaults mandatory presence elements = true
is_allowed_with _ defaults mandatory presence elements = false

-- a statement of this keyword may refine a node of another
abbrev pub is_allowed_by : (keyword target : Keyword) → Bool
is_allowed_by keyword target =
    is_allowed_with keyword (has_defaults target) (has_mandatory target) (has_presence target)
    (has_elements target)
