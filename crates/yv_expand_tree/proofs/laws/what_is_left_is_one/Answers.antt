use Rattle.std.proofs.Common.{◌≡◌, ◌∙◌, sym, ap, Bool, List}
use Rattle.yv_link_scopes.specs.RowList.{rows_of}
use Rattle.yv_expand.specs.Tree.{all_of, join}
use Rattle.yv_expand_augments.specs.Remains.{is_left, remains}
use Rattle.yv_base_graph.specs.Marks.{is_marked}
use Rattle.yv_expand_changes.specs.IfFeatures.{item_marks, statement_marks}
use Rattle.yv_expand_tree.specs.Final.{changes_of, spots_of}
use Rattle.yv_expand_tree.specs.Remains.{nodes_of}
use Rattle.yv_expand_tree.proofs.NodePositions.{parents_first}
use Rattle.yv_expand_tree.proofs.laws.what_is_left_is_one.Goals as goal

pub returns : goal.returns
returns c = λ choice files truth f a b is p q. (
    let statements : List Bool = statement_marks truth files in
    let spots = spots_of files f in
    let whole = is.expanded in
    let same : p.marks ≡ q.marks =
    c.if_features_have_one_answer.ensures (rows_of files) spots f.items (is_marked statements) (is_marked (item_marks statements spots (changes_of files f))) p.marks q.marks
    (parents_first (join (all_of whole.trees) (all_of whole.added)) f.items whole.listed) p.on q.on in
    p.are ∙ ap (λ (ms : List Bool). nodes_of (remains (is_left spots ms) f.tree)) same ∙ sym q.are)
