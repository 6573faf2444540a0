use Rattle.std.proofs.Common.{◌≡◌, ℕ, ◌==◌, false, List, length, None, sym, ap, ◌∙◌, subst}
use Rattle.yv_values.specs.Values.{Val}
use Rattle.yv_nodes.specs.Defaults.{defaults_of}
use Rattle.yv_nodes.specs.Rows.{row_at}
use Rattle.yv_validate.specs.InnerNotes.{default_value}
use Rattle.yv_validate.proofs.NoteGrowth.{last_wins, noted_more}
use Rattle.yv_validate.proofs.notes.Notes.keep_default.Goals as goal

pub returns : goal.returns
returns c =
    let s = c.args.schema.now in
    let id = c.args.id in
    let l = (row_at s id).label in
    let are : c.defaults.result.now ≡ defaults_of l = c.defaults.ensures.value ∙ ap (λ r. defaults_of r.label) c.node.ensures.value in
    let some : (length (defaults_of l) == 0) ≡ false = subst (λ (vs : List Val). (length vs == 0) ≡ false) are (sym c.is_empty.ensures ∙ c.if-is_empty.false) in
    record {
      each = λ n named. noted_more s c.args.self.now.values c.insert.new.self id.0 None (default_value l)
          (λ m e. ap (λ (i : ℕ). default_value (row_at s (record { 0 = i })).label) (sym e)) (last_wins (defaults_of l) some) c.in_ok-insert.ensures.updates n;
    }
