use Rattle.std.proofs.Common.{List, Option, ℕ, Bool, length, ◌∙◌, ap, sym, subst}
use Rattle.yv_nodes.specs.Rows.{Row}
use Rattle.yv_node_leafrefs.specs.Schema.{Schema, leafref_of_row}
use Rattle.yv_node_leafrefs.specs.Leafrefs.{AreLeafrefs}
use Rattle.yv_node_leafrefs.specs.InnerOutline.{schema_in}
use Rattle.yv_node_leafrefs.specs.InnerGraph.{AreTargets, AreLeafrefCycles}
use Rattle.yv_node_leafrefs.specs.declared.leafrefs.Leafrefs.{Leafrefs}
use Rattle.yv_node_leafrefs.proofs.leafrefs.Leafrefs.read.Goals as goal

pub cycles-requires : goal.cycles-requires
cycles-requires c =
    let s : Schema = schema_in (record { nodes = c.all.result; statements = c.args.statements; of = c.args.of; leafrefs = c.args.leafrefs }) in (
      s,
      ap length c.deref.ensures.value ∙ c.in_ok-targets.ensures.each,
      subst (λ (ts : List (Option ℕ)). AreTargets s ts) (sym c.deref.ensures.value) c.in_ok-targets.ensures.targets,
    )

pub first_refusal-fault-requires-clause-targets : goal.first_refusal-fault-requires-clause-targets
first_refusal-fault-requires-clause-targets c =
    let s : Schema = schema_in (record { nodes = c.all.result; statements = c.args.statements; of = c.args.of; leafrefs = c.args.leafrefs }) in
    subst (λ (ts : List (Option ℕ)). AreTargets s ts) (sym c.deref-2.ensures.value) c.in_ok-targets.ensures.targets

pub first_refusal-fault-requires-clause-marks : goal.first_refusal-fault-requires-clause-marks
first_refusal-fault-requires-clause-marks c =
    let s : Schema = schema_in (record { nodes = c.all.result; statements = c.args.statements; of = c.args.of; leafrefs = c.args.leafrefs }) in
    subst (λ (ms : List Bool). AreLeafrefCycles s ms) (sym c.deref-3.ensures.value)
    (c.in_ok-marks.ensures.cycles s (ap length c.deref.ensures.value ∙ c.in_ok-targets.ensures.each) (subst (λ (ts : List (Option ℕ)). AreTargets s ts) (sym c.deref.ensures.value) c.in_ok-targets.ensures.targets))

pub returns : goal.returns
returns c =
    let l : Leafrefs = record { targets = c.in_ok-targets.targets; fault = c.first_refusal-fault.result } in
    subst (λ (rs : List Row). AreLeafrefs (record { rows = rs; says = leafref_of_row c.args.of.now c.args.leafrefs.now }) l) c.all.ensures (record {
      few = c.in_ok-draft.ensures.few;
      each = c.in_ok-targets.ensures.each;
      exact = c.in_ok-targets.ensures.targets;
      wrong = c.first_refusal-fault.ensures;
    })
