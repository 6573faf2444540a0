use Rattle.std.proofs.Common.{◌≡◌, ℕ, arith, true, Some, Option, IfSome, List, length, map, not, is_some, sym, ap, ◌∙◌, subst, Vec, Global}
use Rattle.std.specs.List.{slice_get}
use Rattle.std.proofs.lemmas.List.{length-map}
use Rattle.std.proofs.lemmas.Option.{slice_get-get_or}
use Rattle.yv_text_statement.specs.declared.refusal.Code.TheVariants as code
use Rattle.yv_text_statement.specs.declared.refusal.Refusal.{Refusal}
use Rattle.yv_text_statement.specs.Order.{Stands}
use Rattle.yv_text_statement.proofs.Least.{least_lesser}
use Rattle.yv_nodes.specs.declared.node.NodeId.{NodeId}
use Rattle.yv_nodes.specs.Tree.{Label}
use Rattle.yv_nodes.specs.Rows.{Row, blank_row}
use Rattle.yv_nodes.specs.Refusals.{refusal_of}
use Rattle.yv_node_content.specs.Steps.{Step}
use Rattle.yv_node_keys.specs.Numbers.{key_leaf_at, tree_in, unique_leaf_at}
use Rattle.yv_node_keys.specs.Refusals.{is_bad_key, is_bad_unique}
use Rattle.yv_nodes.specs.Alike.{untyped_at}
use Rattle.yv_node_content.specs.Definition.{Definition, paths_in}
use Rattle.yv_node_keys.specs.InnerNamesakes.{HaveNames, NamesDefault}
use Rattle.yv_node_keys.specs.InnerTargets.{lists_at, cases_at}
use Rattle.yv_node_keys.proofs.Namesakes.{case_called, has_both, leafs_called, leafs_known, uniques_known}
use Rattle.yv_node_keys.proofs.NumberTables.{IsBoth, both}
use Rattle.yv_node_keys.proofs.ListRefusals.{both_none, label_at, least_here, not_refused, same_not, there}
use Rattle.yv_node_keys.proofs.targets.LeafTargets.meet.Goals as goal

pub returns-clause-keeps : goal.returns-clause-keeps
returns-clause-keeps c = λ none before.
    let rows : List Row = c.args.nodes.now.rows in
    let n = c.args.number.0 in
    let r : Row = c.get-node.result.now in
    let at : slice_get rows n ≡ Some r = slice_get-get_or rows n blank_row c.requires.within ∙ ap Some (sym c.get-node.ensures) in
    let clear = both_none c.refusal_if-bad_key.result c.refusal_if-bad_unique.result c.lesser.result c.lesser.ensures none in
    let keyed : is_some c.in_ok-keys.keys ≡ true = there (is_some c.in_ok-keys.keys) c.is_none.result c.is_none.ensures (not_refused _ _ _ c.refusal_if-bad_key.ensures clear.0) in
    let unique : is_some c.in_ok-uniques.uniques ≡ true = there (is_some c.in_ok-uniques.uniques) c.is_none-2.result c.is_none-2.ensures (not_refused _ _ _ c.refusal_if-bad_unique.ensures clear.1) in
    let P : List (Option Step) → Type 0 = λ steps. IfSome c.in_ok-keys.keys (λ ns. map (λ n. Some n) ns.items ≡ map (key_leaf_at rows c.args.number) steps) in
    let Q : List (List (List (Option Step))) → Type 0 = λ statements. IfSome c.in_ok-uniques.uniques (λ found. map (λ ns. map (λ n. Some n) ns.items) found.items ≡ map (map (unique_leaf_at rows c.args.number)) statements) in
    let found : IsBoth rows n c.in_ok-keys.keys c.in_ok-uniques.uniques =
    both rows n r at c.in_ok-keys.keys c.in_ok-uniques.uniques keyed unique (subst P c.keys.ensures c.in_ok-keys.ensures.numbers) (subst Q c.uniques.ensures c.in_ok-uniques.ensures.numbers) in
    record {
      lists = c.in_ok-keep_both.ensures.up_to rows found.key_leafs found.unique_leafs found.keys_are found.uniques_are found.has before.lists;
      cases = c.in_ok-keep_case.ensures.up_to rows c.default_case-case.ensures before.cases;
    }

pub returns-clause-fault : goal.returns-clause-fault
returns-clause-fault c = λ ts are p here.
    let rows : List Row = c.args.nodes.now.rows in
    let n = c.args.number.0 in
    let r : Row = c.get-node.result.now in
    let at : slice_get rows n ≡ Some r = slice_get-get_or rows n blank_row c.requires.within ∙ ap Some (sym c.get-node.ensures) in
    let label : r.label ≡ p.label = label_at ts n r p (ap (λ (rs : List Row). slice_get rs n) (sym are) ∙ at) here in
    let keyless : c.is_none.result ≡ is_bad_key (tree_in p) p.label.defined.keys =
    same_not c.is_none.result (is_bad_key (tree_in p) p.label.defined.keys)
    (sym c.is_none.ensures ∙ c.in_ok-keys.ensures.refuses ts are p here ∙ ap (λ (steps : List (Option Step)). not (is_bad_key (tree_in p) steps)) (c.keys.ensures ∙ ap (λ (l : Label). l.defined.keys) label)) in
    let misled : c.is_none-2.result ≡ is_bad_unique (tree_in p) p.label.defined.uniques =
    same_not c.is_none-2.result (is_bad_unique (tree_in p) p.label.defined.uniques)
    (sym c.is_none-2.ensures ∙ c.in_ok-uniques.ensures.refuses ts are p here ∙ ap (λ (us : List (List (List (Option Step)))). not (is_bad_unique (tree_in p) us)) (c.uniques.ensures ∙ ap (λ (l : Label). l.defined.uniques) label)) in
    let first = least_here code.BadKey _ p.label _ _ _ c.refusal_if-bad_key.ensures label keyless in
    let second = least_here code.BadUnique _ p.label _ _ _ c.refusal_if-bad_unique.ensures label misled in
    least_lesser (λ (f : Refusal). Stands (is_bad_key (tree_in p) p.label.defined.keys ≡ true) (refusal_of code.BadKey p.label) f)
    (λ (f : Refusal). Stands (is_bad_unique (tree_in p) p.label.defined.uniques ≡ true) (refusal_of code.BadUnique p.label) f) _ _ _ c.lesser.ensures first second

pub key_leafs_like-requires-clause-names : goal.key_leafs_like-requires-clause-names
key_leafs_like-requires-clause-names c =
    let rows : List Row = c.args.nodes.now.rows in
    let model : ℕ = c.in_ok-model.model.0 in
    let keys : List (Option Step) = c.keys.result.now in
    let same : keys ≡ (untyped_at rows model).keys = c.keys.ensures ∙ ap (λ (r : Row). r.label.defined.keys) c.get-node.ensures ∙ ap (λ (d : Definition). d.keys) (sym c.in_ok-model.ensures.alike) in
    subst (HaveNames rows keys) (sym c.kept_keys-known.ensures)
    (leafs_called rows model (lists_at c.args.self.now.lists model) keys (omega (arith, c.in_ok-model.ensures.before, c.requires.within)) (λ leafs. c.requires.right.lists model leafs) same)

pub key_leafs_like-requires-clause-known : goal.key_leafs_like-requires-clause-known
key_leafs_like-requires-clause-known c =
    let rows : List Row = c.args.nodes.now.rows in
    let model : NodeId = c.in_ok-model.model in
    let keys : List (Option Step) = c.keys.result.now in
    let same : keys ≡ (untyped_at rows model.0).keys = c.keys.ensures ∙ ap (λ (r : Row). r.label.defined.keys) c.get-node.ensures ∙ ap (λ (d : Definition). d.keys) (sym c.in_ok-model.ensures.alike) in
    subst (λ (ns : List NodeId). length ns ≡ length keys → map (λ n. Some n) ns ≡ map (key_leaf_at rows model) keys) (sym c.kept_keys-known.ensures)
    (leafs_known rows model (lists_at c.args.self.now.lists model.0) keys (omega (arith, c.in_ok-model.ensures.before, c.requires.within)) (λ leafs. c.requires.right.lists model.0 leafs) same)

pub unique_leafs_like-requires : goal.unique_leafs_like-requires
unique_leafs_like-requires c =
    let rows : List Row = c.args.nodes.now.rows in
    let model : NodeId = c.in_ok-model.model in
    let uniques : List (List (List (Option Step))) = map paths_in c.uniques.result.now in
    let same : uniques ≡ (untyped_at rows model.0).uniques = c.uniques.ensures ∙ ap (λ (r : Row). r.label.defined.uniques) c.get-node.ensures ∙ ap (λ (d : Definition). d.uniques) (sym c.in_ok-model.ensures.alike) in
    let long : length uniques ≡ length c.uniques.result.now = length-map c.uniques.result.now paths_in in
    subst (λ (vs : List (Vec NodeId Global)). length vs ≡ length c.uniques.result.now → map (λ (v : Vec NodeId Global). map (λ n. Some n) v.items) vs ≡ map (map (unique_leaf_at rows model)) uniques) (sym c.kept_uniques-known.ensures)
    (λ many. uniques_known rows model (lists_at c.args.self.now.lists model.0) uniques (omega (arith, c.in_ok-model.ensures.before, c.requires.within)) (λ leafs. c.requires.right.lists model.0 leafs) same (many ∙ sym long))

pub default_case-case-requires : goal.default_case-case-requires
default_case-case-requires c =
    let rows : List Row = c.args.nodes.now.rows in
    let first : ℕ = c.first_alike-first.result.0 in
    subst (NamesDefault rows c.args.number.0) (sym c.kept_case.ensures)
    (case_called rows first c.args.number.0 (cases_at c.args.self.now.cases first) (omega (arith, c.first_alike-first.ensures.before, c.requires.within)) c.requires.within (λ case. c.requires.right.cases first case)
    c.first_alike-first.ensures.alike)

pub returns-clause-right : goal.returns-clause-right
returns-clause-right c =
    let rows : List Row = c.args.nodes.now.rows in
    let n = c.args.number.0 in
    let r : Row = c.get-node.result.now in
    let at : slice_get rows n ≡ Some r = slice_get-get_or rows n blank_row c.requires.within ∙ ap Some (sym c.get-node.ensures) in
    let P : List (Option Step) → Option (Vec NodeId Global) → Type 0 = λ steps o. IfSome o (λ ns. map (λ n. Some n) ns.items ≡ map (key_leaf_at rows c.args.number) steps) in
    let Q : List (List (List (Option Step))) → Option (Vec (Vec NodeId Global) Global) → Type 0 = λ statements o. IfSome o (λ found. map (λ ns. map (λ n. Some n) ns.items) found.items ≡ map (map (unique_leaf_at rows c.args.number)) statements) in
    let p : P r.label.defined.keys c.in_ok-keys.keys = subst (λ (steps : List (Option Step)). P steps c.in_ok-keys.keys) c.keys.ensures c.in_ok-keys.ensures.numbers in
    let q : Q r.label.defined.uniques c.in_ok-uniques.uniques = subst (λ (us : List (List (List (Option Step)))). Q us c.in_ok-uniques.uniques) c.uniques.ensures c.in_ok-uniques.ensures.numbers in
    record {
      lists = c.in_ok-keep_both.ensures.right rows
          (has_both rows n r at c.in_ok-keys.keys c.in_ok-uniques.uniques
          (λ ks us e f. record { keys = subst (P r.label.defined.keys) e p; uniques = subst (Q r.label.defined.uniques) f q })) c.requires.right.lists;
      cases = c.in_ok-keep_case.ensures.right rows c.default_case-case.ensures c.requires.right.cases;
    }
