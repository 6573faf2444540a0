-- Data nodes of which none is a choice or case: nothing is opened.
use Rattle.std.proofs.Common.{◌≡◌, ℕ, suc, ◌+◌, ◌<◌, List, [], ◌∷◌, length, get_or, true, false, refl, sym, ap, ◌∙◌, subst, arith}
use Rattle.std.specs.List.{AllByRecursion}
use Rattle.std.proofs.lemmas.Bool.{false≢true}
use Rattle.yv_node_content.specs.Kinds.{is_case, is_data, is_passed}
use Rattle.yv_node_content.specs.declared.kind.NodeKind.{NodeKind}
use Rattle.yv_node_content.specs.declared.kind.NodeKind.TheVariants as kind
use Rattle.yv_nodes.specs.declared.node.NodeId.{NodeId}
use Rattle.yv_nodes.specs.Tree.{count, Forest, Label, labels, no_trees, node, tree}
use Rattle.yv_nodes.specs.Numbers.{numbers_from}
use Rattle.yv_nodes.specs.Rows.{Row}
use Rattle.yv_schema_tables.specs.DataChildren.{opened_from}
use Rattle.yv_schema_tables.specs.InnerSits.{HaveTrees, inside_of, told_from, told_of}
use Rattle.yv_schema_tables.specs.InnerTables.{labels_at}
use Rattle.yv_schema_tables.proofs.PickedTrees.{inside_have, picked_have, told_have}
use Rattle.yv_schema_tables.proofs.Members.{label_in, numbers_have}

not_passed : (k : NodeKind) → is_data k ≡ true → is_passed k ≡ false
not_passed kind.Choice h = absurd (false≢true h)
not_passed kind.Case h = absurd (false≢true h)
not_passed _ h = refl

not_case : (k : NodeKind) → is_data k ≡ true → is_case k ≡ false
not_case kind.Case h = absurd (false≢true h)
not_case _ h = refl

abbrev pub IsData : Label → Type 0
IsData l = is_data l.defined.kind ≡ true

opened_plain : (at : ℕ) (ts : Forest) → AllByRecursion IsData (labels ts) → opened_from at ts ≡ numbers_from at ts
opened_plain at no_trees h = refl
opened_plain at (tree (node l kids) ts) h =
    rw (not_passed l.defined.kind h.0, h.0) (ap (λ (ns : List NodeId). record { 0 = at } ∷ ns) (opened_plain (at + 1 + count kids) ts h.1))

told_plain : (at : ℕ) (ts : Forest) → AllByRecursion IsData (labels ts) → told_from at ts ≡ numbers_from at ts
told_plain at no_trees h = refl
told_plain at (tree (node l kids) ts) h =
    rw (not_case l.defined.kind h.0, not_passed l.defined.kind h.0) (ap (λ (ns : List NodeId). record { 0 = at } ∷ ns) (told_plain (at + 1 + count kids) ts h.1))

module _ (rows : List Row) where
  each : (cs : List NodeId) → ((k : ℕ) → k < length cs → IsData (label_in rows (get_or cs k (record { 0 = 0 })))) → AllByRecursion IsData (labels_at rows cs)
  each [] f = tt
  each (c ∷ cs) f = (f 0 (omega arith), each cs (λ k lt. f (suc k) (omega (arith, lt))))

  module _ (cs : List NodeId) (h : HaveTrees rows cs) (all : (k : ℕ) → k < length cs → IsData (label_in rows (get_or cs k (record { 0 = 0 })))) where
    of_trees : AllByRecursion IsData (labels h.trees)
    of_trees = subst (AllByRecursion IsData) (numbers_have rows cs h ∙ ap labels (picked_have rows cs h)) (each cs all)

    pub inside_plain : inside_of rows cs ≡ cs
    inside_plain = inside_have rows cs h ∙ opened_plain h.at h.trees of_trees ∙ sym h.are

    pub told_plainly : told_of rows cs ≡ cs
    told_plainly = told_have rows cs h ∙ told_plain h.at h.trees of_trees ∙ sym h.are
