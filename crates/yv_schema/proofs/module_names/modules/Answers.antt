use Rattle.std.proofs.Common.{◌≡◌, ◌<◌, ◌≤◌, sym, ◌∙◌, subst, length, get_or}
use Rattle.yv_text_statement.specs.Selection.{selected_of}
use Rattle.yv_link_scopes.specs.Files.{Files}
use Rattle.yv_link_scopes.specs.Views.{lent_in}
use Rattle.yv_schema.specs.Module.{modules_of}
use Rattle.yv_schema.proofs.ImplementedModules.{given_all, given_more, given_other}
use Rattle.yv_schema.proofs.module_names.modules.Goals as goal
use Rattle.yv_schema.proofs.module_names.modules.Goals.{then-is_given+in_ok-name+in_ok-from_str+in_ok-push, else-is_given}

pub loop-number-preserved : goal.loop-number-preserved
loop-number-preserved c =
    let choice = selected_of c.args.selection.now in
    let roots = lent_in c.args.rows.now in
    let i = c.loop-number.number in
    let t = c.root-item.result in
    let lt : i < length roots = subst (λ (fs : Files). i < length fs) c.statements-root-items.ensures c.loop-number-test.true in
    let is : t ≡ get_or roots i t = subst (λ (fs : Files). t ≡ get_or fs i t) c.statements-root-items.ensures c.root-item.is in
    elim c.if-is_given.branch [
      | then-is_given+in_ok-name+in_ok-from_str+in_ok-push w ↦
          let more = given_more choice roots i t lt is c.loop-number.modules.items w.push.new.self.items (modules_of choice roots) _ _ (sym c.is_given.ensures ∙ w.if-is_given.true)
          (w.in_ok-name.ensures roots c.requires.module_files) (w.in_ok-from_str.ensures.ok ∙ w.prefix_of.ensures) w.in_ok-push.ensures.items c.loop-number.invariant in
          (rw w.modules-is more)
      | else-is_given w ↦
          let more = given_other choice roots i t lt is c.loop-number.modules.items (modules_of choice roots) (sym c.is_given.ensures ∙ w.if-is_given.false) c.loop-number.invariant in
          (rw w.modules-is more)
    ]

pub returns : goal.returns
returns c =
    let choice = selected_of c.args.selection.now in
    let roots = lent_in c.args.rows.now in
    given_all choice roots c.loop-number.number c.loop-number.modules.items (modules_of choice roots)
    (subst (λ (fs : Files). length fs ≤ c.loop-number.number) c.statements-root-items.ensures c.loop-number-test.false) c.loop-number.invariant
