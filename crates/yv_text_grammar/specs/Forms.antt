-- Which form the argument of each statement has (RFC 7950, sections 7 and 9, and the grammar of
-- section 14).
use Rattle.std.specs.Prelude.{if◌then◌else◌}
use Rattle.yv_text_statement.specs.Keywords.{same}
use Rattle.yv_text_statement.specs.declared.keyword.Keyword.{Keyword}
use Rattle.yv_text_statement.specs.declared.keyword.Keyword.TheVariants as word
use Rattle.yv_text_grammar.specs.declared.form.Form.{Form}
use Rattle.yv_text_grammar.specs.declared.form.Form.TheVariants as form

-- the form of the argument of a statement with this keyword, in the block of a parent; what isn't
-- named has any text
unfoldable pub form_of : Keyword → Keyword → Form
form_of parent word.Module = form.Identifier
form_of parent word.Submodule = form.Identifier
form_of parent word.Prefix = form.Identifier
form_of parent word.Import = form.Identifier
form_of parent word.Include = form.Identifier
form_of parent word.BelongsTo = form.Identifier
form_of parent word.Typedef = form.Identifier
form_of parent word.Container = form.Identifier
form_of parent word.Leaf = form.Identifier
form_of parent word.LeafList = form.Identifier
form_of parent word.List = form.Identifier
form_of parent word.Choice = form.Identifier
form_of parent word.Case = form.Identifier
form_of parent word.Anydata = form.Identifier
form_of parent word.Anyxml = form.Identifier
form_of parent word.Grouping = form.Identifier
form_of parent word.Rpc = form.Identifier
form_of parent word.Action = form.Identifier
form_of parent word.Notification = form.Identifier
form_of parent word.Identity = form.Identifier
form_of parent word.Feature = form.Identifier
form_of parent word.Extension = form.Identifier
form_of parent word.Argument = form.Identifier
form_of parent word.Bit = form.Identifier
form_of parent word.Type = form.Name
form_of parent word.Uses = form.Name
form_of parent word.Base = form.Name
form_of parent word.Enum = form.EnumName
form_of parent word.YangVersion = form.Version
form_of parent word.Config = form.Boolean
form_of parent word.Mandatory = form.Boolean
form_of parent word.RequireInstance = form.Boolean
form_of parent word.YinElement = form.Boolean
form_of parent word.Status = form.Status
form_of parent word.OrderedBy = form.OrderedBy
form_of parent word.Modifier = form.Modifier
form_of parent word.Revision = form.Date
form_of parent word.RevisionDate = form.Date
form_of parent word.MinElements = form.Unsigned
form_of parent word.MaxElements = form.MaxElements
form_of parent word.Value = form.EnumValue
form_of parent word.Position = form.Unsigned
form_of parent word.FractionDigits = form.FractionDigits
form_of parent word.Key = form.Key
form_of parent word.Unique = form.Unique
form_of parent word.Refine = form.DescendantPath
form_of parent word.Augment =
    if same parent word.Uses then form.DescendantPath else form.AbsolutePath
form_of parent word.Path = form.LeafrefPath
form_of parent word.IfFeature = form.IfFeature
form_of parent word.Input = form.Absent
form_of parent word.Output = form.Absent
form_of parent _ = form.Text
