use Rattle.std.proofs.Common.{◌≡◌, ◌∙◌, List, ℕ, None, sym, ap, subst}
use Rattle.std.specs.Ordering.{nat_cmp}
use Rattle.std.specs.Cmp.Lexicographic.{slice_cmp}
use Rattle.std.specs.BTreeMap.{get_by}
use Rattle.yv_search.specs.InnerModules.{row_at, first_kept}
use Rattle.yv_search.proofs.TableSteps.{new_row}
use Rattle.yv_search.proofs.table.Table.keep.Goals as goal

pub returns-in_ok-insert : goal.returns-in_ok-insert
returns-in_ok-insert c = λ q.
    new_row c.args.self.now.rows c.insert.new.self c.as_bytes-in-None.result.now c.args.row c.in_ok-insert.ensures.updates
    (subst (λ (w : List ℕ). get_by (λ k. slice_cmp nat_cmp w k.now) c.args.self.now.rows ≡ None) (c.as_bytes.ensures.value ∙ sym c.as_bytes-in-None.ensures.value) (sym c.in-None.ensures.value)) q
    ∙ ap (λ (w : List ℕ). first_kept (row_at c.args.self.now q) w c.args.row q) c.as_bytes-in-None.ensures.value
