use Rattle.std.proofs.Common.{◌≡◌, ℕ, List, [], Option, sym, ap, subst, ◌∙◌}
use Rattle.std.specs.Prelude.{IfOk, slice_index_or}
use Rattle.yv_expand.specs.Tree.{Item}
use Rattle.yv_node_statements.specs.Definitions.{refined_definition}
use Rattle.yv_node_content.specs.Definition.{Definition}
use Rattle.yv_expand_refines.specs.Changes.{ChangesView, each, sequence_at}
use Rattle.yv_node_statements.specs.RefinedContext.{files_of, sequences_of, typing_of}
use Rattle.yv_expand_tree.specs.Final.{Final, changes_of}
use Rattle.yv_expand_tree.specs.FinalTree.{origin_at}
use Rattle.yv_schema.proofs.context.Context.definition.Goals as goal

pub returns : goal.returns
returns c = λ b tells.
    let said = c.args.self.now.refined.now in
    let item : ℕ = c.args.item in
    let typing : typing_of said ≡ b.typing = tells.refined.typing ∙ tells.typing in
    let files : files_of said ≡ b.files = tells.refined.files ∙ tells.files in
    let origin : c.origin.result ≡ origin_at b.final.items item =
    c.origin.ensures ∙ ap (λ (items : List Item). origin_at items item) (tells.kept.items ∙ ap (λ (f : Final). f.items) tells.final) in
    let place : Option ℕ = c.sequence-sequence.result in
    let changes : sequence_at (sequences_of said) place ≡ slice_index_or (changes_of b.files b.final) item [] =
    ap (λ (sequences : List (List ℕ)). sequence_at sequences place) (tells.refined.sequences ∙ sym (ap (λ (k : ChangesView). k.sequences) c.changes.ensures))
    ∙ sym c.sequence-sequence.ensures.refines
    ∙ ap (λ (k : ChangesView). slice_index_or (each k) item []) c.changes.ensures
    ∙ ap (λ (all : List (List ℕ)). slice_index_or all item []) (tells.kept.changes ∙ ap (changes_of b.files) tells.final) in
    let given : Definition = refined_definition (typing_of said) (files_of said) c.origin.result (sequence_at (sequences_of said) place) in
    let same : given ≡ refined_definition b.typing b.files (origin_at b.final.items item) (slice_index_or (changes_of b.files b.final) item []) =
    (λ i. refined_definition (typing i) (files i) (origin i) (changes i)) in
    subst (λ (d : Definition). IfOk c.of.result (λ x. x ≡ d)) same c.of.ensures
