-- What clap's kinds of error come to.
use Rattle.std.proofs.Common.{◌≡◌, ◌⊎◌, ◌∙◌, inl, inr, ℕ, List, Option, ap, sym, subst, codes}
use Rattle.clap.specs.Words.{Text, Row, first_of, fault_of, IsAmong}
use Rattle.clap.specs.declared.error.kind.ErrorKind.{ErrorKind}
use Rattle.clap.specs.declared.error.kind.ErrorKind.TheVariants as kind
use Rattle.yv_job.specs.Asks.{AreUnderstood, Asks, IsAsked, IsEachFor, IsFormFor, IsImportsFor, IsExplainFor, IsKindFor, IsLimit, IsSupportFor, IsRulesFor, IsDepthFor, IsBelowFor}
use Rattle.yv_job.specs.CommandLine.{yangcheck_app}
use Rattle.yv_job.specs.Faults.{IfUsage, AreRefused, IsReason, of_each, of_explain, of_form, of_imports, of_kind, of_limit, of_rules, of_depth, of_below, of_support, value_line}
use Rattle.yv_job.specs.Requests.{ActionAsked, RequestAsked}
use Rattle.yv_job.specs.declared.job.OutputForm.{OutputForm}
use Rattle.yv_job.specs.declared.request.Each.{Each}
use Rattle.yv_job.proofs.AskLemmas.{same_each, same_form}
use Rattle.yv_lint.specs.declared.rule.Rule.{Rule}
use Rattle.yv_tree_drawing.specs.Steps.{Step}
use Rattle.yv_text_statement.specs.Selection.{Entry}
use Rattle.yv_text_statement.specs.declared.document_kind.Kind.{Kind}
use Rattle.yv_job.specs.Matches.{IsFaultFor, IsReport}
use Rattle.yv_job.specs.declared.matches.ReportOptions.{ReportOptions}
use Rattle.yv_job.specs.declared.request.JobFault.{JobFault}
use Rattle.yv_job.specs.declared.request.JobFault.TheVariants.{Usage, Help, NoMemory}

-- an error that comes to usage is no help
pub usage_is_not_help : (words : List Text) (k : ErrorKind) (f : JobFault) → (k ≡ kind.OutOfMemory) ⊎ IsAmong k (fault_of yangcheck_app words) → IsFaultFor k f
    → IfUsage f (λ _. AreUnderstood words ⊎ AreRefused words)
usage_is_not_help words k (Usage text) h i = elim h [
  | inl memory ↦ absurd (i.0 memory)
  | inr among ↦ inr (k, among, i.1)
]
usage_is_not_help words k (Help text) h i = tt
usage_is_not_help words k NoMemory h i = tt

-- what is said of a value that is not what its option takes
pub limit_line : (name : Text) (rows : List Row) (value : Option Text) (line : Text) → value ≡ first_of (codes "max-nodes") rows → ((n : ℕ) → IsLimit value n → ⊥)
    → line ≡ value_line (codes "max-nodes") (codes "a number from 1 to 1000000") value → IsReason name rows line
limit_line name rows value line same unfit is =
    of_limit (λ n h. unfit n (subst (λ v. IsLimit v n) (sym same) h)) (is ∙ ap (value_line (codes "max-nodes") (codes "a number from 1 to 1000000")) same)

pub explain_line : (name : Text) (rows : List Row) (value : Option Text) (line : Text) → value ≡ first_of (codes "explain") rows → ((n : ℕ) → IsExplainFor value n → ⊥)
    → line ≡ value_line (codes "explain") (codes "a number from 0 to 10000") value → IsReason name rows line
explain_line name rows value line same unfit is =
    of_explain (λ n h. unfit n (subst (λ v. IsExplainFor v n) (sym same) h)) (is ∙ ap (value_line (codes "explain") (codes "a number from 0 to 10000")) same)

pub kind_line : (name : Text) (rows : List Row) (value : Option Text) (line : Text) → value ≡ first_of (codes "kind") rows → ((k : Kind) → IsKindFor value k → ⊥)
    → line ≡ value_line (codes "kind") (codes "data or config") value → IsReason name rows line
kind_line name rows value line same unfit is =
    of_kind (λ k h. unfit k (subst (λ v. IsKindFor v k) (sym same) h)) (is ∙ ap (value_line (codes "kind") (codes "data or config")) same)

pub support_line : (name : Text) (rows : List Row) (value : Option Text) (line : Text) → value ≡ first_of (codes "support") rows → ((es : List Entry) → IsSupportFor value es → ⊥)
    → line ≡ value_line (codes "support") (codes "MODULE:FEATURE,FEATURE/MODULE:") value → IsReason name rows line
support_line name rows value line same unfit is =
    of_support (λ es h. unfit es (subst (λ v. IsSupportFor v es) (sym same) h)) (is ∙ ap (value_line (codes "support") (codes "MODULE:FEATURE,FEATURE/MODULE:")) same)

pub imports_line : (name : Text) (rows : List Row) (value : Option Text) (line : Text) → value ≡ first_of (codes "import-only") rows → ((ns : List Text) → IsImportsFor value ns → ⊥)
    → line ≡ value_line (codes "import-only") (codes "MODULE,MODULE") value → IsReason name rows line
imports_line name rows value line same unfit is =
    of_imports (λ ns h. unfit ns (subst (λ v. IsImportsFor v ns) (sym same) h)) (is ∙ ap (value_line (codes "import-only") (codes "MODULE,MODULE")) same)

pub each_line : (name : Text) (rows : List Row) (value : Option Text) (line : Text) → value ≡ first_of (codes "each") rows → ((e : Option Each) → IsEachFor value e → ⊥)
    → line ≡ value_line (codes "each") (codes "file, line, name or name0") value → IsReason name rows line
each_line name rows value line same unfit is =
    of_each (λ e h. unfit e (subst (λ v. IsEachFor v e) (sym same) h)) (is ∙ ap (value_line (codes "each") (codes "file, line, name or name0")) same)

pub form_line : (name : Text) (rows : List Row) (value : Option Text) (line : Text) → value ≡ first_of (codes "format") rows → ((f : OutputForm) → IsFormFor value f → ⊥)
    → line ≡ value_line (codes "format") (codes "text or json") value → IsReason name rows line
form_line name rows value line same unfit is =
    of_form (λ f h. unfit f (subst (λ v. IsFormFor v f) (sym same) h)) (is ∙ ap (value_line (codes "format") (codes "text or json")) same)

pub rules_line : (name : Text) (rows : List Row) (value : Option Text) (line : Text) → value ≡ first_of (codes "rules") rows → ((rs : List Rule) → IsRulesFor value rs → ⊥)
    → line ≡ value_line (codes "rules") (codes "names of rules joined by commas") value → IsReason name rows line
rules_line name rows value line same unfit is =
    of_rules (λ rs h. unfit rs (subst (λ v. IsRulesFor v rs) (sym same) h)) (is ∙ ap (value_line (codes "rules") (codes "names of rules joined by commas")) same)

pub depth_line : (name : Text) (rows : List Row) (value : Option Text) (line : Text) → value ≡ first_of (codes "depth") rows → ((d : Option ℕ) → IsDepthFor value d → ⊥)
    → line ≡ value_line (codes "depth") (codes "a number from 1 to 128") value → IsReason name rows line
depth_line name rows value line same unfit is =
    of_depth (λ d h. unfit d (subst (λ v. IsDepthFor v d) (sym same) h)) (is ∙ ap (value_line (codes "depth") (codes "a number from 1 to 128")) same)

pub below_line : (name : Text) (rows : List Row) (value : Option Text) (line : Text) → value ≡ first_of (codes "below") rows → ((xs : List Step) → IsBelowFor value xs → ⊥)
    → line ≡ value_line (codes "below") (codes "/MODULE:NAME/NAME") value → IsReason name rows line
below_line name rows value line same unfit is =
    of_below (λ xs h. unfit xs (subst (λ v. IsBelowFor v xs) (sym same) h)) (is ∙ ap (value_line (codes "below") (codes "/MODULE:NAME/NAME")) same)

-- where nothing can be reported, the words ask for nothing
pub no_report : (name : Text) (rows : List Row) → ((o : ReportOptions) → IsReport rows o → ⊥) → (w : RequestAsked) → Asks name rows w → ⊥
no_report name rows none w asks =
    none (record { kind = w.kind; each = w.each; output = w.output; explain = w.explain })
    (record { kind = asks.kind; each = asks.each; output = asks.output; explain = asks.explain })

-- where nothing is asked for with what was read of two options, nothing is with what they may say
pub no_action : (name : Text) (rows : List Row) (e : Option Each) (f : OutputForm) → IsEachFor (first_of (codes "each") rows) e → IsFormFor (first_of (codes "format") rows) f
    → ((a : ActionAsked) → IsAsked name rows e f a → ⊥)
    → (d : Option Each) (g : OutputForm) (a : ActionAsked) → IsEachFor (first_of (codes "each") rows) d → IsFormFor (first_of (codes "format") rows) g → IsAsked name rows d g a → ⊥
no_action name rows e f is_each is_form none d g a each form asked =
    let moved = subst (λ (x : Option Each). IsAsked name rows x g a) (same_each _ d e each is_each) asked in
    none a (subst (λ (o : OutputForm). IsAsked name rows e o a) (same_form _ g f form is_form) moved)

-- so the words ask for nothing
pub no_request : (name : Text) (rows : List Row) (e : Option Each) (f : OutputForm) → IsEachFor (first_of (codes "each") rows) e → IsFormFor (first_of (codes "format") rows) f
    → ((a : ActionAsked) → IsAsked name rows e f a → ⊥) → (w : RequestAsked) → Asks name rows w → ⊥
no_request name rows e f is_each is_form none w asks =
    no_action name rows e f is_each is_form none w.each w.output.form w.action asks.each asks.output.form asks.asked
