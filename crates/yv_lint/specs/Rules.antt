-- The rules, and where they find something to mend.
use Rattle.std.specs.Prelude.{ℕ, ◌&&◌, not, Bool, false, List, [], ◌∷◌, codes}
use Rattle.yv_text_statement.specs.Tree.{Tree}
use Rattle.yv_text_statement.specs.Words.{is_among}
use Rattle.yv_text_statement.specs.declared.keyword.Keyword.{Keyword}
use Rattle.yv_text_statement.specs.declared.keyword.Keyword.TheVariants as word
use Rattle.yv_link_scopes.specs.Files.{Files}
use Rattle.yv_lint.specs.declared.rule.Rule.{Rule}
use Rattle.yv_lint.specs.declared.rule.Rule.TheVariants as rule
use Rattle.yv_lint.specs.Statements.{keyword_at, has_keyword, has_child, child_name, is_one_of}
use Rattle.yv_lint.specs.Places.{Place}
use Rattle.yv_lint.specs.Versions.{mixes_versions}
use Rattle.yv_lint.specs.Groups.{is_out_of_order}
use Rattle.yv_lint.specs.Dates.{is_no_day, is_unsorted}
use Rattle.yv_lint.specs.FileNames.{is_misnamed}
use Rattle.yv_lint.specs.Newer.{is_too_new}
use Rattle.yv_lint.specs.Arguments.{has_anchor, asks_too_many}
use Rattle.yv_lint.specs.Used.{used_prefixes}
use Rattle.yv_lint.specs.Definitions.{is_unused, own_prefix}

-- the rules, in the order of the findings at one statement
abbrev pub all_rules : List Rule
all_rules =
    rule.FileName ∷
    rule.NoRevision ∷
    rule.IncompleteHeader ∷
    rule.StatementOrder ∷
    rule.UnusedImport ∷
    rule.VersionMix ∷
    rule.NoSuchDate ∷
    rule.RevisionOrder ∷
    rule.Version11 ∷
    rule.MinAboveMax ∷
    rule.UnusedTypedef ∷
    rule.UnusedGrouping ∷
    rule.PatternAnchor ∷
    rule.NoDescription ∷
    []

-- the name of a rule
abbrev pub name_of : Rule → List ℕ
name_of rule.FileName = codes "FileName"
name_of rule.NoRevision = codes "NoRevision"
name_of rule.IncompleteHeader = codes "IncompleteHeader"
name_of rule.StatementOrder = codes "StatementOrder"
name_of rule.UnusedImport = codes "UnusedImport"
name_of rule.VersionMix = codes "VersionMix"
name_of rule.NoSuchDate = codes "NoSuchDate"
name_of rule.RevisionOrder = codes "RevisionOrder"
name_of rule.Version11 = codes "Version11"
name_of rule.MinAboveMax = codes "MinAboveMax"
name_of rule.UnusedTypedef = codes "UnusedTypedef"
name_of rule.UnusedGrouping = codes "UnusedGrouping"
name_of rule.PatternAnchor = codes "PatternAnchor"
name_of rule.NoDescription = codes "NoDescription"

-- a file lacks something that its users look for first (RFC 8407, section 4.8)
abbrev pub lacks_header : Tree → Bool
lacks_header root =
    not (has_child word.Organization root && (has_child word.Contact root
    && has_child word.Description root))

-- the statements that define something for others (RFC 8407, sections 4.12 to 4.17)
abbrev pub is_definition : Keyword → Bool
is_definition =
    is_one_of (word.Typedef ∷ word.Grouping ∷ word.Identity ∷ word.Feature ∷ word.Extension ∷
    word.Rpc ∷ word.Action ∷ word.Notification ∷ [])

-- a definition doesn't say what it is for
abbrev pub lacks_description : Tree → Bool
lacks_description t = is_definition (keyword_at t) && not (has_child word.Description t)

-- an import whose prefix its file doesn't use
abbrev pub is_unused_import : Tree → Tree → Bool
is_unused_import root t =
    has_keyword word.Import t && not (is_among (used_prefixes root) (child_name word.Prefix t))

-- a rule about a file as a whole finds something at its root; the file has this path
abbrev pub stands_at_root : List ℕ → Tree → Rule → Bool
stands_at_root path root rule.FileName = is_misnamed path root
stands_at_root path root rule.NoRevision = not (has_child word.Revision root)
stands_at_root path root rule.IncompleteHeader = lacks_header root
stands_at_root path root _ = false

-- a rule finds something at a place in the file with this root, which is one of these files
abbrev pub stands_at : Files → Tree → Place → Rule → Bool
stands_at files root p rule.StatementOrder = is_out_of_order p
stands_at files root p rule.UnusedImport = is_unused_import root p.statement
stands_at files root p rule.VersionMix = mixes_versions files root p.statement
stands_at files root p rule.NoSuchDate = is_no_day p.statement
stands_at files root p rule.RevisionOrder = is_unsorted p
stands_at files root p rule.Version11 = is_too_new root p
stands_at files root p rule.MinAboveMax = asks_too_many p.statement
stands_at files root p rule.UnusedTypedef = is_unused word.Typedef word.Type (own_prefix root) p
stands_at files root p rule.UnusedGrouping = is_unused word.Grouping word.Uses (own_prefix root) p
stands_at files root p rule.PatternAnchor = has_anchor p.statement
stands_at files root p rule.NoDescription = lacks_description p.statement
stands_at files root p _ = false
