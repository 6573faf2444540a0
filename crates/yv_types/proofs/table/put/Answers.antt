use Rattle.std.proofs.Common.{inl, inr, ap, ◌∙◌}
use Rattle.std.specs.Option.{option_map}
use Rattle.std.proofs.lemmas.Bool.{cases_eq}
use Rattle.yv_types.specs.InnerTables.{entry_at, entry_of, plains}
use Rattle.yv_types.proofs.table.put.Goals as goal

pub returns-clause-here : goal.returns-clause-here
returns-clause-here c = ap (option_map plains) c.in_ok-put.ensures.here

pub returns-clause-elsewhere : goal.returns-clause-elsewhere
returns-clause-elsewhere c = λ k ne. ap (option_map plains) (c.in_ok-put.ensures.elsewhere k ne)

pub returns-clause-entries : goal.returns-clause-entries
returns-clause-entries c = λ k. elim (cases_eq k c.args.place) [
  | inl same ↦ inr (ap (entry_at c.put.new.self) same ∙ ap (option_map entry_of) c.in_ok-put.ensures.here)
  | inr ne ↦ inl (ap (option_map entry_of) (c.in_ok-put.ensures.elsewhere k ne))
]
