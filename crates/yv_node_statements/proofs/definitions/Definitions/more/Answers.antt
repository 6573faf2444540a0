use Rattle.std.proofs.Common.{◌≡◌, ◌++◌, sym, ◌∙◌}
use Rattle.std.proofs.lemmas.Result.{IfOk-weaker}
use Rattle.std.specs.Option.{option_copied}
use Rattle.std.specs.Rc.{rc_str_bytes}
use Rattle.yv_types.specs.Scopes.{AreScopes}
use Rattle.yv_node_statements.specs.Definitions.{definition_of, refined_definition}
use Rattle.yv_node_statements.specs.Context.{files_in, typing_in}
use Rattle.yv_node_statements.proofs.Later.{default_stays, kept_is, types_stay, valued_is}
use Rattle.yv_node_statements.proofs.SharedDefaults.{by_type_stays}
use Rattle.yv_node_statements.proofs.definitions.Definitions.more.Goals.{then-is_moved+in_ok-changed-inside, else-is_moved}
use Rattle.yv_node_statements.proofs.definitions.Definitions.more.Goals as goal

pub returns : goal.returns
returns c = λ before is.
    let origin = c.args.origin in
    let typing = typing_in c.args.self.now in
    let files = files_in c.args.self.now in
    let refines = c.args.refines.now in
    let text = rc_str_bytes c.in_ok-draft-inside.field-0 in
    let all : c.if-is_moved.changed ≡ refined_definition typing files origin (before ++ refines) =
    elim c.if-is_moved.branch [
      | then-is_moved+in_ok-changed-inside w ↦
          let scopes : AreScopes files w.deref.result.now = rw w.deref.ensures.value c.args.self.now.reader_so.scopes in
          let given = w.in_ok-changed-inside.field-0.value in
          let stay = types_stay typing files origin before refines c.args.said.now _ c.in_ok-changed.changed text is (λ i. record ((c.draft-2.view_is ∙ c.in_ok-draft.ensures) i) { features = text }) c.in_ok-draft-inside.ensures c.in_ok-changed.ensures in
          let types = w.types_of-types.ensures ∙ sym stay in
          let default = default_stays typing files origin before refines c.args.said.now _ c.in_ok-changed.changed text is (λ i. record ((c.draft-2.view_is ∙ c.in_ok-draft.ensures) i) { features = text }) c.in_ok-draft-inside.ensures c.in_ok-changed.ensures in
          let kept = by_type_stays files (definition_of typing files origin) c.in_ok-changed.changed (option_copied w.values_of-kept.result) (sym stay) (sym default) w.values_of-kept.ensures in
          w.changed-is ∙ (λ i. record (c.changed.view_is i) { defaults = given })
          ∙ (λ i. record c.in_ok-changed.changed { defaults = w.in_ok-changed-inside.ensures files scopes types kept i })
          ∙ valued_is typing files origin before refines c.args.said.now _ c.in_ok-changed.changed text is (λ i. record ((c.draft-2.view_is ∙ c.in_ok-draft.ensures) i) { features = text }) c.in_ok-draft-inside.ensures c.in_ok-changed.ensures
      | else-is_moved w ↦
          w.changed-is
          ∙ kept_is typing files origin before refines c.args.said.now _ c.in_ok-changed.changed text is (λ i. record ((c.draft-2.view_is ∙ c.in_ok-draft.ensures) i) { features = text }) c.in_ok-draft-inside.ensures c.in_ok-changed.ensures (sym c.is_moved.ensures ∙ w.if-is_moved.false)
    ] in
    IfOk-weaker c.finish.result _ _ (λ d e. e ∙ all) c.finish.ensures
