-- Which statements may be in the block of which, and how often (RFC 7950, section 7). Deviations are
-- left out, which aren't supported. `yang-version` may be missing, and `input`, `output` and
-- `augment` may be without data definitions.
use Rattle.std.specs.Prelude.{Bool, true, false, List, [], ◌∷◌, ◌++◌, Option, None, Some, if◌then◌else◌}
use Rattle.yv_text_statement.specs.Keywords.{same}
use Rattle.yv_text_statement.specs.declared.keyword.Keyword.{Keyword}
use Rattle.yv_text_statement.specs.declared.keyword.Keyword.TheVariants as word
use Rattle.yv_text_grammar.specs.declared.table.Occurs.{Occurs}
use Rattle.yv_text_grammar.specs.declared.table.Occurs.TheVariants.{One, Optional, Any}

-- children, each a keyword and how often it may be: exactly once, at most once, or any number of
-- times
abbrev pub Rows : Type 0
Rows = List (Keyword × Occurs)

-- what defines data
abbrev pub definitions : Rows
definitions = (word.Container, Any) ∷ (word.Leaf, Any) ∷ (word.LeafList, Any) ∷ (word.List, Any)
    ∷ (word.Choice, Any) ∷ (word.Anydata, Any) ∷ (word.Anyxml, Any) ∷ (word.Uses, Any) ∷ []

-- the substatements that most statements have for readers
abbrev pub documentation : Rows
documentation = (word.Description, Optional) ∷ (word.Reference, Optional) ∷ []

-- these and the status
abbrev pub description : Rows
description = (word.Status, Optional) ∷ documentation

-- these and the conditions
abbrev pub with_if_features : Rows
with_if_features = (word.IfFeature, Any) ∷ description

-- these and `when`
abbrev pub with_when : Rows
with_when = (word.When, Optional) ∷ with_if_features

-- these and `must`
abbrev pub with_must_and_when : Rows
with_must_and_when = (word.Must, Any) ∷ with_when

-- what a module and a submodule share
abbrev pub top : Rows
top = (word.Organization, Optional) ∷ (word.Contact, Optional) ∷ documentation ++ (word.Import, Any)
    ∷ (word.Include, Any) ∷ (word.Revision, Any) ∷ definitions ++ (word.Augment, Any)
    ∷ (word.Rpc, Any) ∷ (word.Notification, Any) ∷ (word.Typedef, Any) ∷ (word.Grouping, Any)
    ∷ (word.Identity, Any) ∷ (word.Feature, Any) ∷ (word.Extension, Any) ∷ []

-- the children that a statement may have, by its keyword, under the number of the section
unfoldable pub rows_of : Keyword → Rows
-- 7.1.1
rows_of word.Module =
    (word.YangVersion, Optional) ∷ (word.Namespace, One) ∷ (word.Prefix, One) ∷ [] ++ top
-- 7.2.1
rows_of word.Submodule = (word.YangVersion, Optional) ∷ (word.BelongsTo, One) ∷ [] ++ top
-- 7.1.5
rows_of word.Import = (word.Prefix, One) ∷ (word.RevisionDate, Optional) ∷ [] ++ documentation
-- 7.1.6
rows_of word.Include = (word.RevisionDate, Optional) ∷ [] ++ documentation
-- 7.2.2
rows_of word.BelongsTo = (word.Prefix, One) ∷ []
-- 7.1.9.1
rows_of word.Revision = documentation
-- 7.3.1
rows_of word.Typedef =
    (word.Type, One) ∷ (word.Default, Optional) ∷ (word.Units, Optional) ∷ [] ++ description
-- 7.4.1
rows_of word.Type = (word.Base, Any) ∷ (word.Bit, Any) ∷ (word.Enum, Any)
    ∷ (word.FractionDigits, Optional) ∷ (word.Length, Optional) ∷ (word.Path, Optional)
    ∷ (word.Pattern, Any) ∷ (word.Range, Optional) ∷ (word.RequireInstance, Optional)
    ∷ (word.Type, Any) ∷ []
-- 7.5.2
rows_of word.Container = definitions ++ (word.Action, Any) ∷ (word.Notification, Any)
    ∷ (word.Typedef, Any) ∷ (word.Grouping, Any) ∷ (word.Config, Optional)
    ∷ (word.Presence, Optional) ∷ [] ++ with_must_and_when
-- 7.5.4
rows_of word.Must =
    (word.ErrorMessage, Optional) ∷ (word.ErrorAppTag, Optional) ∷ [] ++ documentation
-- 7.21.5
rows_of word.When = documentation
-- 7.6.2
rows_of word.Leaf = (word.Type, One) ∷ (word.Units, Optional) ∷ (word.Default, Optional)
    ∷ (word.Config, Optional) ∷ (word.Mandatory, Optional) ∷ [] ++ with_must_and_when
-- 7.7.3
rows_of word.LeafList = (word.Type, One) ∷ (word.Units, Optional) ∷ (word.Default, Any)
    ∷ (word.Config, Optional) ∷ (word.MinElements, Optional) ∷ (word.MaxElements, Optional)
    ∷ (word.OrderedBy, Optional) ∷ [] ++ with_must_and_when
-- 7.8.1
rows_of word.List = definitions ++ (word.Action, Any) ∷ (word.Notification, Any)
    ∷ (word.Typedef, Any) ∷ (word.Grouping, Any) ∷ (word.Config, Optional) ∷ (word.Key, Optional)
    ∷ (word.Unique, Any) ∷ (word.MinElements, Optional) ∷ (word.MaxElements, Optional)
    ∷ (word.OrderedBy, Optional) ∷ [] ++ with_must_and_when
-- 7.9.1
rows_of word.Choice = (word.Case, Any) ∷ (word.Choice, Any) ∷ (word.Container, Any)
    ∷ (word.Leaf, Any) ∷ (word.LeafList, Any) ∷ (word.List, Any) ∷ (word.Anydata, Any)
    ∷ (word.Anyxml, Any) ∷ (word.Default, Optional) ∷ (word.Config, Optional)
    ∷ (word.Mandatory, Optional) ∷ [] ++ with_when
-- 7.9.2.1
rows_of word.Case = definitions ++ with_when
-- 7.10.1
rows_of word.Anydata =
    (word.Config, Optional) ∷ (word.Mandatory, Optional) ∷ [] ++ with_must_and_when
-- 7.11.1
rows_of word.Anyxml =
    (word.Config, Optional) ∷ (word.Mandatory, Optional) ∷ [] ++ with_must_and_when
-- 7.12.1
rows_of word.Grouping = definitions ++ (word.Action, Any) ∷ (word.Notification, Any)
    ∷ (word.Typedef, Any) ∷ (word.Grouping, Any) ∷ [] ++ description
-- 7.13.1
rows_of word.Uses = (word.Refine, Any) ∷ (word.Augment, Any) ∷ [] ++ with_when
-- 7.13.2
rows_of word.Refine = (word.Default, Any) ∷ (word.Config, Optional) ∷ (word.Mandatory, Optional)
    ∷ (word.Presence, Optional) ∷ (word.MinElements, Optional) ∷ (word.MaxElements, Optional)
    ∷ (word.Must, Any) ∷ (word.IfFeature, Any) ∷ [] ++ documentation
-- 7.17.1
rows_of word.Augment = definitions ++ (word.Case, Any) ∷ (word.Action, Any)
    ∷ (word.Notification, Any) ∷ [] ++ with_when
-- 7.14.1
rows_of word.Rpc = (word.Input, Optional) ∷ (word.Output, Optional) ∷ (word.Typedef, Any)
    ∷ (word.Grouping, Any) ∷ [] ++ with_if_features
-- 7.15.1
rows_of word.Action = (word.Input, Optional) ∷ (word.Output, Optional) ∷ (word.Typedef, Any)
    ∷ (word.Grouping, Any) ∷ [] ++ with_if_features
-- 7.14.2.1
rows_of word.Input =
    definitions ++ (word.Must, Any) ∷ (word.Typedef, Any) ∷ (word.Grouping, Any) ∷ []
-- 7.14.3.1
rows_of word.Output =
    definitions ++ (word.Must, Any) ∷ (word.Typedef, Any) ∷ (word.Grouping, Any) ∷ []
-- 7.16.1
rows_of word.Notification =
    definitions ++ (word.Must, Any) ∷ (word.Typedef, Any) ∷ (word.Grouping, Any) ∷ []
    ++ with_if_features
-- 7.18.1
rows_of word.Identity = (word.Base, Any) ∷ [] ++ with_if_features
-- 7.20.1.1
rows_of word.Feature = with_if_features
-- 7.19.1
rows_of word.Extension = (word.Argument, Optional) ∷ [] ++ description
-- 7.19.2.1
rows_of word.Argument = (word.YinElement, Optional) ∷ []
-- 9.6.4.1
rows_of word.Enum = (word.Value, Optional) ∷ [] ++ with_if_features
-- 9.7.4.1
rows_of word.Bit = (word.Position, Optional) ∷ [] ++ with_if_features
-- 9.2.4.1
rows_of word.Range =
    (word.ErrorMessage, Optional) ∷ (word.ErrorAppTag, Optional) ∷ [] ++ documentation
-- 9.4.4.1
rows_of word.Length =
    (word.ErrorMessage, Optional) ∷ (word.ErrorAppTag, Optional) ∷ [] ++ documentation
-- 9.4.5.1
rows_of word.Pattern = (word.Modifier, Optional) ∷ (word.ErrorMessage, Optional)
    ∷ (word.ErrorAppTag, Optional) ∷ [] ++ documentation
rows_of _ = []

-- how often a child with this keyword may be, where it may
abbrev pub occurs_in : Rows → Keyword → Option Occurs
occurs_in [] k = None
occurs_in (r ∷ rs) k = if same r.0 k then Some r.1 else occurs_in rs k

-- a substatement has to be there exactly once
abbrev pub is_one : Occurs → Bool
is_one One = true
is_one Optional = false
is_one Any = false
