use Rattle.std.proofs.Common.{◌≡◌, ℕ, ◌++◌, List, length}
use Rattle.yv_base_tables.specs.InnerChains.{Leads, IsChain}
use Rattle.yv_base_tables.proofs.NumberChains.{left}
use Rattle.yv_base_tables.proofs.chains.Chains.write.Given as goal

abbrev pub invariant-loop-next : goal.invariant-loop-next
invariant-loop-next l = record {
  least : ℕ;
  rest : List ℕ;
  leads : Leads l.self.next.items least l.next rest;
  whole : (ks : List ℕ) → IsChain l.self l.place ks → l.numbers.items ++ rest ≡ l.initial.numbers.items ++ ks;
}

abbrev pub decreases-loop-next : goal.decreases-loop-next
decreases-loop-next l = left (length l.self.next.items) l.next
