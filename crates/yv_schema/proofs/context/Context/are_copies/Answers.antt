use Rattle.std.proofs.Common.{◌≡◌, ℕ, [], Option, rules, arith, sym, subst, ◌∙◌}
use Rattle.std.specs.List.{slice_index_or}
use Rattle.std.proofs.lemmas.Grind.{common_steps}
use Rattle.yv_expand_refines.specs.Changes.{ChangesView, each, sequence_at}
use Rattle.yv_expand_tree.specs.FinalTree.{FinalTreeView}
use Rattle.yv_schema.proofs.ContextBasis.{same_said}
use Rattle.yv_schema.proofs.context.Context.are_copies.Goals as goal

pub returns-then-eq : goal.returns-then-eq
returns-then-eq c = λ b tells held.
    let tree : FinalTreeView = c.args.self.now.tree.now in
    let from : c.origin.result ≡ c.origin-2.result = first_of (search rules, grind (arith, common_steps), cc) in
    let same : c.sequence.result ≡ c.sequence-then-eq.result = first_of (search rules, grind (arith, common_steps), cc) in
    let Refined : ℕ → Option ℕ → ChangesView → Type 0 = λ item s k. slice_index_or (each k) item [] ≡ sequence_at k.sequences s in
    let at_one : Refined c.args.one c.sequence.result tree.changes = subst (Refined c.args.one c.sequence.result) c.changes-changes.ensures c.sequence.ensures.refines in
    let at_other : Refined c.args.other c.sequence-then-eq.result tree.changes = subst (Refined c.args.other c.sequence-then-eq.result) c.changes-changes.ensures c.sequence-then-eq.ensures.refines in
    same_said b c.args.self.now tells c.args.one c.args.other c.sequence.result c.sequence-then-eq.result (sym c.origin.ensures ∙ from ∙ c.origin-2.ensures) at_one at_other same
