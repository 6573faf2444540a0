-- What the words of a command line ask for. The first word is the program's name.
use Rattle.std.specs.Prelude.{◌≡◌, ◌≤◌, ◌⊎◌, ◌∷◌, ℕ, List, [], Bool, true, false, IsTrue, Option, Some, None, IsSome, codes, length}
use Rattle.std.specs.List.{filter}
use Rattle.std.specs.Option.{unwrap_or}
use Rattle.std.specs.Str.Parse.{IsNumeral, digits_value}
use Rattle.clap.specs.Words.{Text, Row, all_of, first_of, fault_of, subcommand_of}
use Rattle.yv_job.specs.Jobs.{CommandAsked, Compiles, Draws, Checks}
use Rattle.yv_job.specs.Requests.{ActionAsked, Lists, Does, ChecksAll, Lints, RequestAsked}
use Rattle.yv_job.specs.declared.job.OutputForm.{OutputForm}
use Rattle.yv_job.specs.declared.job.OutputForm.TheVariants as form
use Rattle.yv_job.specs.declared.job.OutputOptions.{OutputOptions}
use Rattle.yv_job.specs.declared.request.Each.{Each}
use Rattle.yv_job.specs.declared.request.Each.TheVariants as each
use Rattle.yv_lint.specs.RuleNames.{are_names, is_named}
use Rattle.yv_lint.specs.Rules.{all_rules}
use Rattle.yv_lint.specs.declared.rule.Rule.{Rule}
use Rattle.yv_text_statement.specs.Selection.{ModuleChoice, Entry}
use Rattle.yv_text_statement.specs.declared.document_kind.Kind.{Kind}
use Rattle.yv_text_statement.specs.declared.document_kind.Kind.TheVariants.{All, ConfigOnly}
use Rattle.yv_job.specs.CommandLine.{yangcheck_app}
use Rattle.yv_job.specs.Names.{IsNames, IsSupport, IsWay}
use Rattle.yv_tree_drawing.specs.Steps.{Step}
use Rattle.yv_tree_drawing.specs.Trees.{TreeAsked}

-- the documents that were named, in order: one or more
abbrev pub data_of : List Row → Option (List Text)
data_of rows = all_of (codes "data") rows

-- the text is decimal digits alone, and writes the number
abbrev pub IsDecimal : Text → ℕ → Type 0
IsDecimal t n = IsNumeral 10 t × (digits_value 10 t ≡ n)

-- the number of levels is a decimal number from 1 to 128, and all levels are drawn where none was
-- named
abbrev pub IsDepthFor : Option Text → Option ℕ → Type 0
IsDepthFor None d = d ≡ None
IsDepthFor (Some t) None = ⊥
IsDepthFor (Some t) (Some n) = IsDecimal t n × (1 ≤ n) × (n ≤ 128)

-- the steps are those of the way, none where there is no way
abbrev pub IsBelowFor : Option Text → List Step → Type 0
IsBelowFor None steps = steps ≡ []
IsBelowFor (Some t) steps = IsWay t steps

-- a flag was given: then clap's value for it is `true`
abbrev pub IsFlag : Option Text → Bool → Type 0
IsFlag value true = value ≡ Some (codes "true")
IsFlag value false = value ≡ Some (codes "true") → ⊥

-- what `--module`, `--depth`, `--below` and `--columns` ask for, with the number of files that were
-- named
pub record IsTree (rows : List Row) (t : TreeAsked) : Type 0 where
  pub modules : unwrap_or (all_of (codes "module") rows) [] ≡ t.modules
  pub files : length (unwrap_or (all_of (codes "file") rows) []) ≡ t.named_files
  pub depth : IsDepthFor (first_of (codes "depth") rows) t.drawing.depth
  pub below : IsBelowFor (first_of (codes "below") rows) t.drawing.below
  pub columns : IsFlag (first_of (codes "columns") rows) t.drawing.columns

-- the command of this name, with the values of its arguments, compiles, draws, or checks one
-- document, which is a whole file, in text
abbrev pub IsCommand : Text → List Row → Option Each → OutputForm → CommandAsked → Type 0
IsCommand name rows each f Compiles = name ≡ codes "compile"
IsCommand name rows each f (Draws t) = (name ≡ codes "tree") × IsTree rows t
IsCommand name rows each f (Checks d) =
    (name ≡ codes "validate") × (data_of rows ≡ Some (d ∷ [])) × (each ≡ None) × (f ≡ form.Text)

-- the sources are those that were given, one or more, and they are several, or it was said what
-- each of them holds, or JSON was asked for
pub record AreSources (rows : List Row) (each : Option Each) (f : OutputForm)
    (sources : List Text) : Type 0 where
  pub given : data_of rows ≡ Some sources
  pub some : 1 ≤ length sources
  pub many : (2 ≤ length sources) ⊎ (IsSome each ⊎ (f ≡ form.Json))

-- the rules are those that the text names, each name being one of a rule, and all where there is no
-- text
abbrev pub IsRulesFor : Option Text → List Rule → Type 0
IsRulesFor None rules = rules ≡ all_rules
IsRulesFor (Some t) rules = IsTrue (are_names t) × (rules ≡ filter (is_named t) all_rules)

-- it does that, or checks all documents of sources, or lists findings of the rules of `--rules`, or
-- shows which files there are
abbrev pub IsAsked : Text → List Row → Option Each → OutputForm → ActionAsked → Type 0
IsAsked name rows each f Lists = name ≡ codes "files"
IsAsked name rows each f (Does c) = IsCommand name rows each f c
IsAsked name rows each f (ChecksAll sources) =
    (name ≡ codes "validate") × AreSources rows each f sources
IsAsked name rows each f (Lints rules) =
    (name ≡ codes "lint") × IsRulesFor (first_of (codes "rules") rows) rules

-- the folders that were named, none where none were
abbrev pub IsFolders : List Row → List Text → Type 0
IsFolders rows folders = unwrap_or (all_of (codes "path") rows) [] ≡ folders

-- the limit is a decimal number from 1 to 1,000,000, and 100,000 where none was named
abbrev pub IsLimit : Option Text → ℕ → Type 0
IsLimit None n = n ≡ 100000
IsLimit (Some t) n = IsDecimal t n × (1 ≤ n) × (n ≤ 1000000)

-- the number of faults of a document that have a line each on standard error is a decimal number
-- up to 10,000, and 20 where none was named
abbrev pub IsExplainFor : Option Text → ℕ → Type 0
IsExplainFor None n = n ≡ 20
IsExplainFor (Some t) n = IsDecimal t n × (n ≤ 10000)

-- modules with their features, none where none were named
abbrev pub IsSupportFor : Option Text → List Entry → Type 0
IsSupportFor None es = es ≡ []
IsSupportFor (Some t) es = IsSupport t es

-- modules that are not implemented, none where none were named
abbrev pub IsImportsFor : Option Text → List Text → Type 0
IsImportsFor None ns = ns ≡ []
IsImportsFor (Some t) ns = IsNames t ns

-- what a command line calls a kind
abbrev pub kind_word : Kind → Text
kind_word All = codes "data"
kind_word ConfigOnly = codes "config"

-- the text is a kind's word, and the kind is all data where none was named
abbrev pub IsKindFor : Option Text → Kind → Type 0
IsKindFor None k = k ≡ All
IsKindFor (Some t) k = t ≡ kind_word k

-- what a command line calls what a source holds
abbrev pub each_word : Each → Text
each_word each.File = codes "file"
each_word each.Line = codes "line"
each_word each.Name = codes "name"
each_word each.Name0 = codes "name0"

-- the text says what each source holds, and nothing was said where there is none
abbrev pub IsEachFor : Option Text → Option Each → Type 0
IsEachFor None e = e ≡ None
IsEachFor (Some t) None = ⊥
IsEachFor (Some t) (Some e) = t ≡ each_word e

-- what a command line calls a form
abbrev pub form_word : OutputForm → Text
form_word form.Text = codes "text"
form_word form.Json = codes "json"

-- the text is a form's word, and the form is text where none was named
abbrev pub IsFormFor : Option Text → OutputForm → Type 0
IsFormFor None f = f ≡ form.Text
IsFormFor (Some t) f = t ≡ form_word f

-- the form is that of `--format`, and measures are wanted where `--measures` was given
pub record IsOutput (rows : List Row) (o : OutputOptions) : Type 0 where
  pub form : IsFormFor (first_of (codes "format") rows) o.form
  pub measures : IsFlag (first_of (codes "measures") rows) o.measures

-- the choice is that of `--support` and `--import-only`
pub record IsChoice (rows : List Row) (c : ModuleChoice) : Type 0 where
  pub support : IsSupportFor (first_of (codes "support") rows) c.support
  pub imports : IsImportsFor (first_of (codes "import-only") rows) c.imports

-- the files are those that were given, 1 to 256 of them
pub record IsFiles (rows : List Row) (files : List Text) : Type 0 where
  pub given : all_of (codes "file") rows ≡ Some files
  pub fewest : 1 ≤ length files
  pub most : length files ≤ 256

-- the command of this name, with the values of its arguments, asks for this
pub record Asks (name : Text) (rows : List Row) (w : RequestAsked) : Type 0 where
  pub asked : IsAsked name rows w.each w.output.form w.action
  pub limit : IsLimit (first_of (codes "max-nodes") rows) w.limit
  pub choice : IsChoice rows w.choice
  pub kind : IsKindFor (first_of (codes "kind") rows) w.kind
  pub explain : IsExplainFor (first_of (codes "explain") rows) w.explain
  pub each : IsEachFor (first_of (codes "each") rows) w.each
  pub output : IsOutput rows w.output
  pub folders : IsFolders rows w.folders
  pub files : IsFiles rows w.files

-- the same of a command that may not be there
abbrev pub AsksIn : Option (Text × List Row) → RequestAsked → Type 0
AsksIn None w = ⊥
AsksIn (Some p) w = Asks p.0 p.1 w

-- clap finds no fault in the words
abbrev pub AreUnderstood : List Text → Type 0
AreUnderstood words = fault_of yangcheck_app words ≡ []

-- the words ask for this: clap understands them, and the command that it finds asks for it
pub record WordsAsk (words : List Text) (w : RequestAsked) : Type 0 where
  pub understood : AreUnderstood words
  pub found : AsksIn (subcommand_of yangcheck_app words) w

-- no words ask for two requests
abbrev pub WordsAskOnce : Type 0
WordsAskOnce = (words : List Text) (v w : RequestAsked) → WordsAsk words v → WordsAsk words w → v ≡ w
