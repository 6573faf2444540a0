-- What a schema measures, child by child.
use Rattle.std.proofs.Common.{◌≡◌, ◌+◌, ◌*◌, ◌<◌, ◌≤◌, ◌∙◌, max, ap, arith, refl, Bool, true, false}
use Rattle.std.proofs.lemmas.Bool.Decides.{nat_tests}
use Rattle.yv_node_content.specs.Kinds.{is_operation_or_notification}
use Rattle.yv_nodes.specs.Tree.{count, Forest, Label, no_trees, node, tree}
use Rattle.yv_nodes.specs.declared.node.NodeId.{NodeId}
use Rattle.yv_nodes.specs.Rows.{Rows, is_root, rank}
use Rattle.yv_schema_tables.specs.Sound.{IsChild, IsSound}
use Rattle.yv_schema_tables.specs.Measures.{greatest, count_met, met_below, types_of, uniques_of}
use Rattle.yv_schema_tables.specs.InnerPassage.{beside, nothing, one_of, passage_of}
use Rattle.yv_schema_tables.specs.declared.measures.Passage.{Passage}

-- what is left to measure is one child and the others
pub record IsSplit (left : Forest) (one : Passage) (kids others : Forest) : Type 0 where
  pub counted : count left ≡ 1 + count kids + count others
  pub meets : count_met left ≡ one.met + count_met others
  pub most : greatest met_below left ≡ max one.most (greatest met_below others)
  pub uniques : greatest uniques_of left ≡ max one.uniques (greatest uniques_of others)
  pub types : greatest types_of left ≡ max one.types (greatest types_of others)

split_tree : (l : Label) (kids others : Forest) → IsSplit (tree (node l kids) others) (one_of l (passage_of kids)) kids others
split_tree l kids others = by (is_operation_or_notification l.defined.kind) refl
  where
    by : (b : Bool) → is_operation_or_notification l.defined.kind ≡ b → IsSplit (tree (node l kids) others) (one_of l (passage_of kids)) kids others
    by true e = record { counted = refl; meets = rw e refl; most = rw e refl; uniques = rw e refl; types = rw e refl }
    by false e = record { counted = refl; meets = rw e refl; most = rw e refl; uniques = rw e refl; types = rw e refl }

pub is_split : (left : Forest) (l : Label) (kids others : Forest) → left ≡ tree (node l kids) others → IsSplit left (one_of l (passage_of kids)) kids others
is_split left l kids others e =
    let h : IsSplit (tree (node l kids) others) (one_of l (passage_of kids)) kids others = split_tree l kids others in
    record {
      counted = ap count e ∙ h.counted;
      meets = ap count_met e ∙ h.meets;
      most = ap (greatest met_below) e ∙ h.most;
      uniques = ap (greatest uniques_of) e ∙ h.uniques;
      types = ap (greatest types_of) e ∙ h.types;
    }

-- what was measured so far and what is left make up the whole
pub record IsMeasured (all : Passage) (left whole : Forest) : Type 0 where
  pub small : count left < 4294967296
  pub few : all.met + 1024 * count left ≤ 1024 * count whole
  pub meets : all.met + count_met left ≡ count_met whole
  pub most : max all.most (greatest met_below left) ≡ greatest met_below whole
  pub uniques : max all.uniques (greatest uniques_of left) ≡ greatest uniques_of whole
  pub types : max all.types (greatest types_of left) ≡ greatest types_of whole

pub measured_first : (left whole : Forest) → left ≡ whole → count whole < 4294967296 → IsMeasured nothing left whole
measured_first left whole e small = record {
  small = omega (arith, ap count e, small);
  few = omega (arith, ap count e);
  meets = omega (arith, ap count_met e);
  most = omega (arith, ap (greatest met_below) e);
  uniques = omega (arith, ap (greatest uniques_of) e);
  types = omega (arith, ap (greatest types_of) e);
}

pub measured_more : (all one more : Passage) (left whole kids others : Forest) → IsMeasured all left whole → IsSplit left one kids others → one.met ≤ 1024 + 1024 * count kids → more ≡ beside all one → IsMeasured more others whole
measured_more all one more left whole kids others h split few is =
    let meets : more.met ≡ all.met + one.met = ap (λ (p : Passage). p.met) is in
    let most : more.most ≡ max all.most one.most = ap (λ (p : Passage). p.most) is in
    let uniques : more.uniques ≡ max all.uniques one.uniques = ap (λ (p : Passage). p.uniques) is in
    let types : more.types ≡ max all.types one.types = ap (λ (p : Passage). p.types) is in
    record {
      small = omega (arith, split.counted, h.small);
      few = omega (arith, split.counted, h.few, few, meets);
      meets = omega (arith, split.meets, h.meets, meets);
      most = omega (arith, split.most, h.most, most);
      uniques = omega (arith, split.uniques, h.uniques, uniques);
      types = omega (arith, split.types, h.types, types);
    }

pub measured_all : (all : Passage) (left whole : Forest) → left ≡ no_trees → IsMeasured all left whole → all ≡ passage_of whole
measured_all all left whole none h =
    let met_is : all.met ≡ count_met whole = omega (arith, ap count_met none, h.meets) in
    let most_is : all.most ≡ greatest met_below whole = omega (arith, ap (greatest met_below) none, h.most) in
    let uniques_is : all.uniques ≡ greatest uniques_of whole = omega (arith, ap (greatest uniques_of) none, h.uniques) in
    let types_is : all.types ≡ greatest types_of whole = omega (arith, ap (greatest types_of) none, h.types) in
    λ i. record { met = met_is i; most = most_is i; uniques = uniques_is i; types = types_is i }

-- a child is no root
pub child_rank : (s : Rows) (p c : NodeId) → IsSound s → IsChild s p c → rank c ≡ c.0 + 1
child_rank s p c sound child =
    let inner : is_root c ≡ false = grind (arith, nat_tests, sound.small, child.within) in
    rw inner refl

pub few_measured : (all : Passage) (left whole : Forest) → IsMeasured all left whole → all.met ≤ 1024 * count whole
few_measured all left whole h = omega (arith, h.few)
