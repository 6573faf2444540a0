use Rattle.std.proofs.Common.{◌≡◌, ap, ap₂, sym, ◌∙◌}
use Rattle.yv_expand_statements.specs.declared.origin.Origin.TheVariants as origin
use Rattle.yv_link_scopes.specs.Files.{Files}
use Rattle.yv_node_statements.specs.Context.{files_in, typing_in}
use Rattle.yv_node_statements.specs.Definitions.{leafref_of}
use Rattle.yv_node_statements.specs.Kinds.{TypeMeanings}
use Rattle.yv_schema.specs.InnerResolution.{AreSilent}
use Rattle.yv_schema.proofs.LinklessTrees.{answered_without, silent_nodes}
use Rattle.yv_schema.proofs.leafrefs.resolve.Goals as goal

pub returns-then-not-has_leafrefs-clause-answers : goal.returns-then-not-has_leafrefs-clause-answers
returns-then-not-has_leafrefs-clause-answers c = λ b tells files are.
    let typing : typing_in c.definitions.result.now ≡ b.typing = ap typing_in c.definitions.ensures ∙ tells.typing in
    let of_files : files_in c.definitions.result.now ≡ b.files = ap files_in c.definitions.ensures ∙ tells.files in
    let none = c.has_leafrefs.ensures c.if-not-has_leafrefs.true in
    let silent : AreSilent b.typing b.files = λ number. ap₂ (λ (t : TypeMeanings) (fs : Files). leafref_of t fs (origin.Statement number)) (sym typing) (sym of_files) ∙ none number in
    let made = c.without_leafrefs.ensures in
    answered_without b c.args.nodes c.without_leafrefs.result c.links_lead.ensures (silent_nodes b silent) are made.nodes made.links made.fault made.few
