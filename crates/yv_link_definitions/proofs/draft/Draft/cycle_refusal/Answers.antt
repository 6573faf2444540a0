use Rattle.std.proofs.Common.{Option, refl, subst}
use Rattle.yv_text_statement.specs.Order.{IsLeast}
use Rattle.yv_text_statement.specs.declared.refusal.Refusal.{Refusal}
use Rattle.yv_link_definitions.specs.Refusals.{BadIn}
use Rattle.yv_link_scopes.specs.Views.{files_in, rows_in}
use Rattle.yv_link_definitions.proofs.Faulty.{cycles_read, clear_cycle}
use Rattle.yv_link_definitions.proofs.draft.Draft.cycle_refusal.Goals as goal

pub nodes_on_cycles-requires : goal.nodes_on_cycles-requires
nodes_on_cycles-requires c = record { graph = c.requires.steps.within }

pub first_refusal-requires-clause-cycles : goal.first_refusal-requires-clause-cycles
first_refusal-requires-clause-cycles c = cycles_read _ _ c.args.steps.now _ c.in_ok-cycles.cycles.items _ c.requires.steps refl c.in_ok-cycles.ensures.exact c.deref.ensures.value

pub unreachable-requires : goal.unreachable-requires
unreachable-requires c =
    clear_cycle _ _ c.args.steps.now _ c.requires.cycle.0 c.first_refusal.ensures c.in_default.is c.requires.steps c.requires.cycle.1

pub returns : goal.returns
returns c =
    let own = c.args.self.now.rows.now in
    subst (λ (o : Option Refusal). IsLeast (BadIn (files_in own) (rows_in own)) o) c.in-Some.is c.first_refusal.ensures
