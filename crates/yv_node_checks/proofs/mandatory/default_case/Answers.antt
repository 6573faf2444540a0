use Rattle.std.proofs.Common.{ap, ◌∙◌, List, ℕ, Option}
use Rattle.std.specs.List.{find}
use Rattle.yv_text_statement.specs.TextInFile.{TextInFile, written_of}
use Rattle.yv_nodes.specs.declared.node.NodeId.{NodeId}
use Rattle.yv_node_checks.specs.InnerBelow.{case_among, is_named_at}
use Rattle.yv_node_checks.proofs.mandatory.default_case.Goals as goal

pub returns-in-Some : goal.returns-in-Some
returns-in-Some c =
    let rows = c.args.nodes.now.rows in
    let r = c.args.node.now in
    let module_file = r.label.module_file in
    let w : TextInFile = written_of c.in-Some.written.now in
    c.first_named.ensures ∙ ap (λ (h : ℕ). find (is_named_at rows h c.as_str.result.now) c.children.result.now) c.module_file.ensures
    ∙ ap (λ (name : List ℕ). find (is_named_at rows module_file name) c.children.result.now) c.as_str.ensures.value
    ∙ ap (λ (cs : List NodeId). find (is_named_at rows module_file w.text) cs) c.children.ensures
    ∙ ap (λ (o : Option TextInFile). case_among rows module_file o r.children) c.in-Some.ensures
