use Rattle.yv_link_identities.proofs.Faulty.{cycles_read, clear_cycle, cycle_by}
use Rattle.yv_link_identities.proofs.build.read_hierarchy.Goals as goal

pub first_refusal-requires : goal.first_refusal-requires
first_refusal-requires c = cycles_read _ _ c.in_ok-bases.bases.items _ c.in_ok-cycles.cycles.items _ c.in_ok-bases.ensures c.deref.ensures.value c.in_ok-cycles.ensures.exact c.deref-2.ensures.value

pub unreachable-requires : goal.unreachable-requires
unreachable-requires c =
    clear_cycle _ _ c.in_ok-bases.bases.items _ c.in_default-2.field-0 c.first_refusal.ensures c.in_default.is c.in_ok-bases.ensures (cycle_by _ _ _ _ c.deref-3.ensures.value c.in_default-2.is c.in_ok-ranks.ensures.cycle)
