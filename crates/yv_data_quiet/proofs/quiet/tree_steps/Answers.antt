use Rattle.std.proofs.Common.{◌≡◌, ℕ, ◌+◌, Bool, false, true, Some, sym, ap, ◌∙◌}
use Rattle.yv_node_content.specs.Kinds.{is_operation_or_notification}
use Rattle.yv_nodes.specs.Defaults.{width}
use Rattle.yv_nodes.specs.Rows.{below, Row, row_at}
use Rattle.yv_schema_tables.specs.Measures.{is_open}
use Rattle.yv_data_quiet.specs.NamedLeafs.{is_read}
use Rattle.yv_data_quiet.specs.Quiet.{are_quiet, is_mute, steps_at}
use Rattle.yv_data_quiet.proofs.Children.{rank_is}
use Rattle.yv_data_quiet.proofs.QuietSteps.{if_sum, of_closed, of_open, of_operation}
use Rattle.yv_data_quiet.proofs.quiet.tree_steps.Goals as goal

pub returns-then-is_operation_or_notification : goal.returns-then-is_operation_or_notification
returns-then-is_operation_or_notification c =
    let s = c.args.schema.now in
    let id = c.args.id in
    let is : c.kind-kind.result ≡ (row_at s id).label.defined.kind = c.kind-kind.ensures ∙ ap (λ (r : Row). r.label.defined.kind) c.node-node.ensures.value in
    of_operation s id.0 (row_at s id).label (below s id) (sym (ap is_operation_or_notification is) ∙ sym c.is_operation_or_notification.ensures ∙ c.if-is_operation_or_notification.true)

pub returns-then-not-is_open : goal.returns-then-not-is_open
returns-then-not-is_open c =
    let s = c.args.schema.now in
    let id = c.args.id in
    let row = c.node-node.ensures.value in
    let is : c.kind-kind.result ≡ (row_at s id).label.defined.kind = c.kind-kind.ensures ∙ ap (λ (r : Row). r.label.defined.kind) row in
    let other = sym (ap is_operation_or_notification is) ∙ sym c.is_operation_or_notification.ensures ∙ c.if-is_operation_or_notification.false in
    let mute : is_mute (is_read s id.0) (row_at s id).label.defined.kind (row_at s id).label ≡ true =
    sym (c.is_mute.ensures ∙ ap (λ (r : Row). is_mute c.is_read-asked.result r.label.defined.kind r.label) row
    ∙ ap (λ (b : Bool). is_mute b (row_at s id).label.defined.kind (row_at s id).label) c.is_read-asked.ensures) ∙ c.if-not-is_mute.false in
    let closed : is_open (row_at s id).label ≡ false = sym (c.is_open.ensures ∙ ap (λ (r : Row). is_open r.label) row) ∙ c.if-not-is_open.true in
    of_closed s id.0 (row_at s id).label (below s id) c.width-width.result other mute closed (c.width-width.ensures.value ∙ ap (λ (r : Row). width r.label) row)

pub returns : goal.returns
returns c =
    let s = c.args.schema.now in
    let id = c.args.id in
    let row = c.node-node.ensures.value in
    let is : c.kind-kind.result ≡ (row_at s id).label.defined.kind = c.kind-kind.ensures ∙ ap (λ (r : Row). r.label.defined.kind) row in
    let other = sym (ap is_operation_or_notification is) ∙ sym c.is_operation_or_notification.ensures ∙ c.if-is_operation_or_notification.false in
    let mute : is_mute (is_read s id.0) (row_at s id).label.defined.kind (row_at s id).label ≡ true =
    sym (c.is_mute.ensures ∙ ap (λ (r : Row). is_mute c.is_read-asked.result r.label.defined.kind r.label) row
    ∙ ap (λ (b : Bool). is_mute b (row_at s id).label.defined.kind (row_at s id).label) c.is_read-asked.ensures) ∙ c.if-not-is_mute.false in
    let opened : is_open (row_at s id).label ≡ true = sym (c.is_open.ensures ∙ ap (λ (r : Row). is_open r.label) row) ∙ c.if-not-is_open.false in
    let quiet : are_quiet s (id.0 + 1) (below s id) ≡ true =
    ap (λ (first : ℕ). are_quiet s first (below s id)) (sym (rank_is s id c.node-node.ensures.sound c.requires.node)) ∙ c.in_ok-inner.ensures.quiet in
    if_sum c.checked_add.result _ (c.width-width.result + c.in_ok-inner.inner) (λ steps. steps_at s id ≡ Some steps) c.checked_add.ensures
    (λ all sum. of_open s id.0 (row_at s id).label (below s id) c.width-width.result c.in_ok-inner.inner all other mute opened quiet
    (c.width-width.ensures.value ∙ ap (λ (r : Row). width r.label) row) c.in_ok-inner.ensures.steps sum)
