use Rattle.std.proofs.Common.{◌≡◌, ◌∙◌, List, ℕ, Bool, ap, subst, sym}
use Rattle.std.specs.Option.{IfSome}
use Rattle.std.specs.Rc.{rc_str_bytes}
use Rattle.yv_nodes.specs.Labels.{label_of}
use Rattle.yv_node_content.specs.Definition.{Definition}
use Rattle.yv_nodes.specs.Rows.{Row}
use Rattle.yv_nodes.specs.Tree.{Label}
use Rattle.yv_schema.specs.Module.{module_name}
use Rattle.yv_schema.specs.InnerBasis.{module_file_of, label_at}
use Rattle.yv_schema.proofs.SchemaTreeRows.{row_is, seen_below}
use Rattle.yv_schema.proofs.tree.Builder.node.Goals as goal

pub returns-clause-node : goal.returns-clause-node
returns-clause-node c = λ b ls tells module_files seen known.
    let d = c.in_ok-definition.definition in
    let module_file = c.module_file-module_file.result in
    let name = rc_str_bytes c.in_ok-name.name in
    let named : name ≡ module_name b.files module_file = c.in_ok-name.ensures b.files module_files in
    let at : module_file ≡ module_file_of b c.args.item.now.origin = c.module_file-module_file.ensures b tells in
    let is : label_of d module_file name ls ≡ label_at b ls c.args.item.now.origin =
    ap (λ (text : List ℕ). label_of d module_file text ls) named ∙ ap (λ (n : ℕ). label_of d n (module_name b.files n) ls) at
    ∙ ap (λ (d : Definition). label_of d (module_file_of b c.args.item.now.origin) (module_name b.files (module_file_of b c.args.item.now.origin)) ls) (c.in_ok-definition.ensures b tells) in
    let key : IfSome c.args.is_key (λ (k : Bool). k ≡ (label_of d module_file name ls).is_key) =
    subst (λ (v : Bool). IfSome c.args.is_key (λ (k : Bool). k ≡ v)) (sym (ap (λ (l : Label). l.is_key) is)) known in
    c.new.ensures
    ∙ row_is b ls c.args.item.now c.args.parent c.args.children.items d module_file name c.in_ok-standing.standing is (c.in_ok-standing.ensures ls seen key name c.args.parent c.args.children.items)

pub returns-clause-parent : goal.returns-clause-parent
returns-clause-parent c = ap (λ (r : Row). r.parent) c.new.ensures

pub returns-clause-above : goal.returns-clause-above
returns-clause-above c = λ b ls tells module_files seen known.
    let d = c.in_ok-definition.definition in
    let module_file = c.module_file-module_file.result in
    let name = rc_str_bytes c.in_ok-name.name in
    let named : name ≡ module_name b.files module_file = c.in_ok-name.ensures b.files module_files in
    let at : module_file ≡ module_file_of b c.args.item.now.origin = c.module_file-module_file.ensures b tells in
    let is : label_of d module_file name ls ≡ label_at b ls c.args.item.now.origin =
    ap (λ (text : List ℕ). label_of d module_file text ls) named ∙ ap (λ (n : ℕ). label_of d n (module_name b.files n) ls) at
    ∙ ap (λ (d : Definition). label_of d (module_file_of b c.args.item.now.origin) (module_name b.files (module_file_of b c.args.item.now.origin)) ls) (c.in_ok-definition.ensures b tells) in
    let key : IfSome c.args.is_key (λ (k : Bool). k ≡ (label_of d module_file name ls).is_key) =
    subst (λ (v : Bool). IfSome c.args.is_key (λ (k : Bool). k ≡ v)) (sym (ap (λ (l : Label). l.is_key) is)) known in
    seen_below b ls c.args.above.now c.args.item.now d module_file name c.in_ok-standing.standing c.in_ok-above_others.above_others c.args.parent c.args.children.items is
    (c.in_ok-standing.ensures ls seen key name c.args.parent c.args.children.items) (c.in_ok-above_others.ensures ls) seen
