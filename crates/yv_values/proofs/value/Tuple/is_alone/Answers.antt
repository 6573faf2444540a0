use Rattle.yv_values.proofs.Same.{one_atom}
use Rattle.yv_values.proofs.value.Tuple.is_alone.Goals as goal

pub returns-in-len1 : goal.returns-in-len1
returns-in-len1 c =
    rw (← c.self.view_is, ← c.value.view_is, ← c.as_slice.ensures) (one_atom c.as_slice.result.now c.atom-item.result c.value.inside.atom c.eq.result c.in-len1.len_at_least c.in-len1.len_below c.atom-item.is c.eq.ensures)
