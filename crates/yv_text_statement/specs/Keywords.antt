-- The keywords of YANG statements, by name (RFC 7950, section 14).
use Rattle.std.specs.Prelude.{ℕ, Bool, List, [], ◌∷◌, Option, None, Some, if◌then◌else◌, codes, ◌==◌}
use Rattle.std.specs.List.{list_any}
use Rattle.std.specs.Str.{bytes_eq}
use denote.Enum.Bare.{sameb}
use Rattle.yv_text_statement.specs.contracts.keyword.Keyword.{the_type}
use Rattle.yv_text_statement.specs.declared.keyword.Keyword.{Keyword}
use Rattle.yv_text_statement.specs.declared.keyword.Keyword.TheVariants as word

-- the names, each with its keyword
abbrev pub names : List (List ℕ × Keyword)
names =
    (codes "leaf", word.Leaf) ∷
    (codes "type", word.Type) ∷
    (codes "description", word.Description) ∷
    (codes "container", word.Container) ∷
    (codes "list", word.List) ∷
    (codes "key", word.Key) ∷
    (codes "reference", word.Reference) ∷
    (codes "enum", word.Enum) ∷
    (codes "leaf-list", word.LeafList) ∷
    (codes "uses", word.Uses) ∷
    (codes "path", word.Path) ∷
    (codes "mandatory", word.Mandatory) ∷
    (codes "default", word.Default) ∷
    (codes "config", word.Config) ∷
    (codes "value", word.Value) ∷
    (codes "range", word.Range) ∷
    (codes "units", word.Units) ∷
    (codes "status", word.Status) ∷
    (codes "typedef", word.Typedef) ∷
    (codes "grouping", word.Grouping) ∷
    (codes "case", word.Case) ∷
    (codes "choice", word.Choice) ∷
    (codes "base", word.Base) ∷
    (codes "identity", word.Identity) ∷
    (codes "pattern", word.Pattern) ∷
    (codes "length", word.Length) ∷
    (codes "if-feature", word.IfFeature) ∷
    (codes "augment", word.Augment) ∷
    (codes "bit", word.Bit) ∷
    (codes "position", word.Position) ∷
    (codes "presence", word.Presence) ∷
    (codes "min-elements", word.MinElements) ∷
    (codes "max-elements", word.MaxElements) ∷
    (codes "ordered-by", word.OrderedBy) ∷
    (codes "unique", word.Unique) ∷
    (codes "refine", word.Refine) ∷
    (codes "require-instance", word.RequireInstance) ∷
    (codes "revision", word.Revision) ∷
    (codes "import", word.Import) ∷
    (codes "prefix", word.Prefix) ∷
    (codes "module", word.Module) ∷
    (codes "submodule", word.Submodule) ∷
    (codes "include", word.Include) ∷
    (codes "belongs-to", word.BelongsTo) ∷
    (codes "anydata", word.Anydata) ∷
    (codes "anyxml", word.Anyxml) ∷
    (codes "rpc", word.Rpc) ∷
    (codes "action", word.Action) ∷
    (codes "input", word.Input) ∷
    (codes "output", word.Output) ∷
    (codes "notification", word.Notification) ∷
    (codes "feature", word.Feature) ∷
    (codes "extension", word.Extension) ∷
    (codes "argument", word.Argument) ∷
    (codes "yang-version", word.YangVersion) ∷
    (codes "namespace", word.Namespace) ∷
    (codes "organization", word.Organization) ∷
    (codes "contact", word.Contact) ∷
    (codes "revision-date", word.RevisionDate) ∷
    (codes "fraction-digits", word.FractionDigits) ∷
    (codes "yin-element", word.YinElement) ∷
    (codes "error-message", word.ErrorMessage) ∷
    (codes "error-app-tag", word.ErrorAppTag) ∷
    (codes "modifier", word.Modifier) ∷
    (codes "must", word.Must) ∷
    (codes "when", word.When) ∷
    (codes "deviation", word.Deviation) ∷
    (codes "deviate", word.Deviate) ∷
    []

-- the keyword that this name has among names
abbrev pub keyword_in : List (List ℕ × Keyword) → List ℕ → Keyword
keyword_in [] text = word.Unknown
keyword_in (n ∷ ns) text = if bytes_eq n.0 text then n.1 else keyword_in ns text

-- a keyword with a colon (58) is an extension's (section 6.3.1); one that isn't among the names is
-- unknown
unfoldable pub keyword_of : List ℕ → Keyword
keyword_of text = if list_any (λ b. b == 58) text then word.Extended else keyword_in names text

-- whether two keywords are one
abbrev pub same : Keyword → Keyword → Bool
same a b = sameb the_type a b

-- the name that this keyword has among names
abbrev pub name_in : List (List ℕ × Keyword) → Keyword → Option (List ℕ)
name_in [] keyword = None
name_in (n ∷ ns) keyword = if same n.1 keyword then Some n.0 else name_in ns keyword

-- how a keyword is written; there is no one text for those of extensions, nor for unknown ones
abbrev pub spelling : Keyword → Option (List ℕ)
spelling keyword = name_in names keyword
