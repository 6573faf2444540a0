use Rattle.std.proofs.Common.{◌≡◌, ℕ, [], List, None, length, map, refl, sym, ap, ap₂, ◌∙◌, subst}
use Rattle.std.specs.List.{slice_get}
use Rattle.std.specs.Option.{option_and_then}
use Rattle.yv_link_scopes.specs.Files.{Files}
use Rattle.yv_link_scopes.specs.Views.{rows_in}
use Rattle.yv_link_scopes.specs.RowList.{rows_of, statements_of}
use Rattle.yv_expand_statements.specs.declared.origin.Origin.{Origin}
use Rattle.yv_node_statements.specs.Kinds.{TypeMeanings}
use Rattle.yv_node_statements.specs.Context.{files_in, typing_in}
use Rattle.yv_node_leafrefs.specs.Above.{AreBehind}
use Rattle.yv_node_leafrefs.specs.Leafrefs.{AreLeafrefs}
use Rattle.yv_node_leafrefs.specs.Schema.{AreAlike, Schema, leafref_of_row}
use Rattle.yv_schema.specs.Referrals.{referral_at}
use Rattle.yv_schema.specs.InnerResolution.{origins_of, schema_of_rows, statement_number}
use Rattle.yv_schema.specs.InnerBasis.{leafrefs_of, stated_of}
use Rattle.yv_nodes.specs.Rows.{Row}
use Rattle.yv_schema.proofs.BasisLeafrefs.{are_alike, are_named, count_statements, links_are, origins_told}
use Rattle.yv_schema.proofs.ResolvedLeafrefs.{links_resolved}
use Rattle.yv_schema.proofs.LinklessTrees.{answered_without, no_items, said_nowhere}
use Rattle.yv_schema.proofs.leafrefs.resolve_leafrefs.Goals as goal

pub read-requires-clause-behind : goal.read-requires-clause-behind
read-requires-clause-behind c =
    subst (λ (rows : List Row). AreBehind rows) (sym c.requires.are) (c.rows_of_a_tree_are_behind.ensures (stated_of c.requires.basis))

pub read-requires-clause-names : goal.read-requires-clause-names
read-requires-clause-names c =
    let b = c.requires.basis in
    let origins : c.in_ok-origins.origins.items ≡ origins_of b = c.in_ok-origins.ensures ∙ origins_told b c.args.context.now c.requires.tells in
    let count : ℕ = length (rows_in c.args.rows.now) in
    let many : count ≡ length (statements_of b.files) =
    ap (λ (fs : Files). length (rows_of fs)) (sym c.requires.of_files) ∙ count_statements b.files (c.statements_have_their_rows.ensures b.files) in
    let numbers : c.in_ok-statements.statements.items ≡ map (statement_number count) (origins_of b) =
    c.in_ok-statements.ensures ∙ ap (map (statement_number count)) (c.deref-2.ensures.value ∙ origins) in
    rw (c.deref-3.ensures.value) (are_named b count c.args.nodes.rows c.in_ok-statements.statements.items many c.requires.are numbers)

pub links_unless-requires-clause-behind : goal.links_unless-requires-clause-behind
links_unless-requires-clause-behind c =
    subst (λ (rows : List Row). AreBehind rows) (sym c.requires.are) (c.rows_of_a_tree_are_behind.ensures (stated_of c.requires.basis))

pub returns-clause-answers : goal.returns-clause-answers
returns-clause-answers c = λ b tells files are.
    let rows = c.args.nodes.rows in
    let of = c.in_ok-said.said.of.items in
    let leafrefs = c.in_ok-said.said.leafrefs.items in
    let s : Schema = schema_of_rows rows of leafrefs in
    let read = rw (c.deref-4.ensures.value, c.deref-5.ensures.value) at c.in_ok-leafrefs.ensures in
    let origins : c.deref.result.now ≡ origins_of b = c.deref.ensures.value ∙ c.in_ok-origins.ensures ∙ origins_told b c.args.context.now tells in
    let typing : typing_in c.definitions.result.now ≡ b.typing = ap typing_in c.definitions.ensures ∙ tells.typing in
    let of_files : files_in c.definitions.result.now ≡ b.files = ap files_in c.definitions.ensures ∙ tells.files in
    let told : (n : ℕ) → leafref_of_row of leafrefs n ≡ option_and_then (referral_at b.typing b.files) (slice_get (origins_of b) n) =
    λ n. c.in_ok-said.ensures.says n
    ∙ ap₂ (λ (t : TypeMeanings) (fs : Files). option_and_then (referral_at t fs) (slice_get c.deref.result.now n)) typing of_files
    ∙ ap (λ (os : List Origin). option_and_then (referral_at b.typing b.files) (slice_get os n)) origins in
    let alike : AreAlike s (leafrefs_of b) = are_alike b rows of leafrefs are told in
    let known : AreLeafrefs (leafrefs_of b) c.in_ok-leafrefs.leafrefs = c.alike_schemas_have_the_same_leafrefs.ensures s (leafrefs_of b) c.in_ok-leafrefs.leafrefs alike read in
    let typed = c.in_ok-resolve.ensures.types (leafrefs_of b) (stated_of b) known (sym are) refl in
    let least = c.refusal-fault.ensures (leafrefs_of b) known in
    let links = c.in_ok-links.links in
    let made = links_are b s c.refusal-fault.result links least (c.alike_schemas_have_the_same_links.ensures s (leafrefs_of b) links alike) c.in_ok-links.ensures.some c.in_ok-links.ensures.none in
    record {
      tree = typed.0;
      is = typed.1;
      rows = typed.2;
      fault = least;
      linked = links_resolved c.links_lead.ensures c.types_leave_links.ensures (leafrefs_of b) (stated_of b) typed.0 links refl typed.1 made;
      links = λ none. c.alike_schemas_have_the_same_links.ensures s (leafrefs_of b) links alike (c.in_ok-links.ensures.some none);
    }

pub returns-then-is_empty-clause-answers : goal.returns-then-is_empty-clause-answers
returns-then-is_empty-clause-answers c = λ b tells files are.
    let rows = c.args.nodes.rows in
    let of = c.in_ok-said.said.of.items in
    let leafrefs = c.in_ok-said.said.leafrefs.items in
    let s : Schema = schema_of_rows rows of leafrefs in
    let origins : c.deref.result.now ≡ origins_of b = c.deref.ensures.value ∙ c.in_ok-origins.ensures ∙ origins_told b c.args.context.now tells in
    let typing : typing_in c.definitions.result.now ≡ b.typing = ap typing_in c.definitions.ensures ∙ tells.typing in
    let of_files : files_in c.definitions.result.now ≡ b.files = ap files_in c.definitions.ensures ∙ tells.files in
    let told : (n : ℕ) → leafref_of_row of leafrefs n ≡ option_and_then (referral_at b.typing b.files) (slice_get (origins_of b) n) =
    λ n. c.in_ok-said.ensures.says n
    ∙ ap₂ (λ (t : TypeMeanings) (fs : Files). option_and_then (referral_at t fs) (slice_get c.deref.result.now n)) typing of_files
    ∙ ap (λ (os : List Origin). option_and_then (referral_at b.typing b.files) (slice_get os n)) origins in
    let alike : AreAlike s (leafrefs_of b) = are_alike b rows of leafrefs are told in
    let none : leafrefs ≡ [] = sym c.as_slice.ensures.value ∙ no_items c.as_slice.result.now (sym c.is_empty.ensures ∙ c.if-is_empty.true) in
    let silent : (n : ℕ) → (leafrefs_of b).says n ≡ None = λ n. sym (alike.says n) ∙ said_nowhere of leafrefs none n in
    let made = c.without_leafrefs.ensures in
    answered_without b c.args.nodes c.without_leafrefs.result c.links_lead.ensures silent are made.nodes made.links made.fault made.few
