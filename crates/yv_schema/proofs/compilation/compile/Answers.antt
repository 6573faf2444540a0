use Rattle.std.proofs.Common.{◌≡◌, ◌<◌, ◌≤◌, ◌∙◌, inl, inr, length, refl, sym, None, Some, Ok, Err, arith, subst}
use Rattle.std.specs.Prelude.{Result, OnOk}
use Rattle.std.proofs.lemmas.Bool.{cases_lt}
use Rattle.std.proofs.lemmas.Result.{IfOk-weaker, on_ok_weaker}
use Rattle.yv_text_statement.specs.declared.refusal.Stop.TheVariants.{NoMemory}
use Rattle.yv_text_statement.specs.declared.refusal.Refusal.{Refusal}
use Rattle.yv_text_statement.specs.Order.{IsLeast}
use Rattle.yv_text_statement.specs.Selection.{selected_of}
use Rattle.yv_text_statement.specs.declared.refusal.Stop.{Stop}
use Rattle.yv_link_scopes.specs.Files.{Files}
use Rattle.yv_link_scopes.specs.RowList.{rows_of}
use Rattle.yv_link.proofs.Phases.{err_again}
use Rattle.yv_nodes.specs.Rows.{whole}
use Rattle.yv_schema.specs.InnerPhases.{AreClear, Compiles}
use Rattle.yv_schema.specs.Refuses.{Refuses}
use Rattle.yv_schema.proofs.BasisOfTree.{if_ok}
use Rattle.yv_schema.proofs.ExpandedTree.{expansion_phase}
use Rattle.yv_schema.proofs.PhaseLemmas.{HavePhases, least_first, least_linked, least_of_stages, least_own, none_before_types}
use Rattle.yv_schema.proofs.SiblingNames.{defaults_are_cases, siblings_differ}
use Rattle.yv_schema.proofs.compilation.compile.Goals.{After-of_linked}
use Rattle.yv_schema.proofs.compilation.compile.Goals as goal

-- files that are linked have few statements
few_of : {A : Type 0} (files : Files) (linked : Result A Stop) (a : A) → linked ≡ Ok a
    → (4294967293 < length (rows_of files) → linked ≡ Err NoMemory) → length (rows_of files) ≤ 4294967293
few_of files linked a is many = elim (cases_lt 4294967293 (length (rows_of files))) [
  | inl more ↦ absurd (let bad : Ok a ≡ Err NoMemory = sym is ∙ many more in cc)
  | inr at_most ↦ at_most
]

on_ok : {A E P : Type 0} (r : Result A E) → P → OnOk r P
on_ok (Ok a) p = p
on_ok (Err e) p = tt

pub returns-in-Some-clause-refusal : goal.returns-in-Some-clause-refusal
returns-in-Some-clause-refusal c =
    let choice = selected_of c.args.selection.now in
    let files = c.args.files.now in
    let limit = c.args.limit in
    let phases : HavePhases = record { first = c.links_have_phases.ensures.first; last = c.links_have_phases.ensures.last; expansion = expansion_phase } in
    let own = rw c.in-Some.is at c.first_bad_file.ensures in
    let least : IsLeast (Refuses choice files limit) (Some c.in-Some.refusal) =
    least_of_stages choice files limit (Some c.in-Some.refusal) (least_first choice files limit phases c.in-Some.refusal (least_own choice files limit phases c.in-Some.refusal own)) in
    λ r e. let same : c.in-Some.refusal ≡ r = cc in subst (λ (x : Refusal). IsLeast (Refuses choice files limit) (Some x)) same least

pub returns-in-Err-clause-refusal : goal.returns-in-Err-clause-refusal
returns-in-Err-clause-refusal c =
    let choice = selected_of c.args.selection.now in
    let files = c.args.files.now in
    let limit = c.args.limit in
    let phases : HavePhases = record { first = c.links_have_phases.ensures.first; last = c.links_have_phases.ensures.last; expansion = expansion_phase } in
    let own = rw c.in_default.is at c.first_bad_file.ensures in
    λ r e. least_of_stages choice files limit (Some r) (least_first choice files limit phases r (least_linked choice files limit phases r own (c.in-Err.ensures.refusal r (err_again _ _ e))))

pub of_linked-requires : goal.of_linked-requires
of_linked-requires c =
    let own = rw c.in_default.is at c.first_bad_file.ensures in
    let files = c.args.files.now in
    let choice = selected_of c.args.selection.now in
    let statements = few_of files (Ok c.in-Ok.linked) c.in-Ok.linked refl c.in-Ok.ensures.many in
    let clear : AreClear choice files c.in-Ok.linked = record { few = omega arith; statements = statements; own = own; links = c.in-Ok.ensures.clear; are = c.in-Ok.ensures.links } in
    record { files = files; clear = clear }

compiled : (c : After-of_linked) → Compiles (selected_of c.args.selection.now) c.args.files.now c.args.limit c.of_linked.result
compiled c =
    let own = rw c.in_default.is at c.first_bad_file.ensures in
    let files = c.args.files.now in
    let choice = selected_of c.args.selection.now in
    let statements = few_of files (Ok c.in-Ok.linked) c.in-Ok.linked refl c.in-Ok.ensures.many in
    let clear : AreClear choice files c.in-Ok.linked = record { few = omega arith; statements = statements; own = own; links = c.in-Ok.ensures.clear; are = c.in-Ok.ensures.links } in
    c.of_linked.ensures files clear

pub returns-clause-schema : goal.returns-clause-schema
returns-clause-schema c =
    let all = compiled (goal.at.returns-clause-schema c).After-of_linked in
    IfOk-weaker c.of_linked.result _ _ (λ s is. is.schema) all.schema

pub returns-clause-limit : goal.returns-clause-limit
returns-clause-limit c =
    let all = compiled (goal.at.returns-clause-limit c).After-of_linked in
    IfOk-weaker c.of_linked.result _ _ (λ s is. is.limited) all.schema

pub returns-clause-modules : goal.returns-clause-modules
returns-clause-modules c =
    let all = compiled (goal.at.returns-clause-modules c).After-of_linked in
    IfOk-weaker c.of_linked.result _ _ (λ s is. is.modules) all.schema

pub returns-clause-augments : goal.returns-clause-augments
returns-clause-augments c =
    let all = compiled (goal.at.returns-clause-augments c).After-of_linked in
    IfOk-weaker c.of_linked.result _ _ (λ s is. is.augments) all.schema

pub returns-clause-references : goal.returns-clause-references
returns-clause-references c =
    let all = compiled (goal.at.returns-clause-references c).After-of_linked in
    IfOk-weaker c.of_linked.result _ _ (λ s is. is.references) all.schema

pub returns-clause-links : goal.returns-clause-links
returns-clause-links c =
    let all = compiled (goal.at.returns-clause-links c).After-of_linked in
    IfOk-weaker c.of_linked.result _ _ (λ s is. is.links) all.schema

pub returns-clause-units : goal.returns-clause-units
returns-clause-units c =
    let all = compiled (goal.at.returns-clause-units c).After-of_linked in
    IfOk-weaker c.of_linked.result _ _ (λ s is. is.units) all.schema

pub returns-clause-sound : goal.returns-clause-sound
returns-clause-sound c =
    let all = compiled (goal.at.returns-clause-sound c).After-of_linked in
    IfOk-weaker c.of_linked.result _ _ (λ s is. is.sound) all.schema

pub returns-clause-clear : goal.returns-clause-clear
returns-clause-clear c =
    let all = compiled (goal.at.returns-clause-clear c).After-of_linked in
    on_ok_weaker c.of_linked.result (least_of_stages (selected_of c.args.selection.now) c.args.files.now c.args.limit None) all.clear

pub returns-clause-siblings : goal.returns-clause-siblings
returns-clause-siblings c =
    let all = compiled (goal.at.returns-clause-siblings c).After-of_linked in
    if_ok c.of_linked.result all.schema all.clear
    (λ s is none.
    siblings_differ (selected_of c.args.selection.now) c.args.files.now c.args.limit (whole s)
    (least_of_stages (selected_of c.args.selection.now) c.args.files.now c.args.limit None none) is.schema)

pub returns-clause-cases : goal.returns-clause-cases
returns-clause-cases c =
    let all = compiled (goal.at.returns-clause-cases c).After-of_linked in
    if_ok c.of_linked.result all.schema all.clear
    (λ s is none.
    defaults_are_cases (selected_of c.args.selection.now) c.args.files.now c.args.limit (whole s)
    (least_of_stages (selected_of c.args.selection.now) c.args.files.now c.args.limit None none) is.schema)

pub returns-clause-refusal : goal.returns-clause-refusal
returns-clause-refusal c =
    let all = compiled (goal.at.returns-clause-refusal c).After-of_linked in
    λ r e. least_of_stages (selected_of c.args.selection.now) c.args.files.now c.args.limit (Some r) (all.refusal r e)

pub returns-clause-builds : goal.returns-clause-builds
returns-clause-builds c =
    let all = compiled (goal.at.returns-clause-builds c).After-of_linked in
    all.builds

pub returns-clause-before : goal.returns-clause-before
returns-clause-before c =
    let all = compiled (goal.at.returns-clause-before c).After-of_linked in
    λ e. none_before_types (selected_of c.args.selection.now) c.args.files.now c.args.limit (all.before e)

pub returns-in-Some-clause-many : goal.returns-in-Some-clause-many
returns-in-Some-clause-many c = λ more. absurd (omega (arith, more))

pub returns-in-Err-clause-many : goal.returns-in-Err-clause-many
returns-in-Err-clause-many c = λ more. absurd (omega (arith, more))

pub returns-clause-many : goal.returns-clause-many
returns-clause-many c = λ more. absurd (omega (arith, more))

pub returns-clause-few : goal.returns-clause-few
returns-clause-few c = on_ok c.of_linked.result (few_of c.args.files.now (Ok c.in-Ok.linked) c.in-Ok.linked refl c.in-Ok.ensures.many)
