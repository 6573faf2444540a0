-- A child is found by its member in its parent's directory.
use Rattle.std.proofs.Common.{◌≡◌, ℕ, ◌+◌, ◌≤◌, List, [], ◌∷◌, ◌++◌, length, refl, sym, ap, ◌∙◌, arith, Bool, true, false, ◌||◌, cond, Option, Some, None, IfSome, is_some, subst, inl, inr}
use Rattle.std.specs.List.{AllByRecursion, list_any}
use Rattle.std.specs.Str.{bytes_eq}
use Rattle.std.proofs.lemmas.Bool.{cases_Bool}
use Rattle.yv_node_content.specs.Kinds.{is_data, is_passed}
use Rattle.yv_nodes.specs.declared.node.NodeId.{NodeId}
use Rattle.yv_nodes.specs.Tree.{count, Forest, Label, labels, no_trees, node, tree}
use Rattle.yv_nodes.specs.Rows.{Rows, below, row_at, rank}
use Rattle.yv_schema_tables.specs.declared.directory.Directory.{Directory}
use Rattle.yv_schema_tables.specs.NodeNumbers.{AreModules, HasNoColon}
use Rattle.yv_schema_tables.specs.DataChildren.{opened_from, opened_trees}
use Rattle.yv_schema_tables.specs.Sound.{IsInside, IsSound, inside, is_known, is_object, member_named, object_trees}
use Rattle.yv_schema_tables.specs.InnerSits.{Sits}
use Rattle.yv_schema_tables.specs.InnerTables.{IsAnswering, IsDirectory, member_called, module_file_named, is_called, labels_at}
use Rattle.yv_schema_tables.proofs.NodeMemberNames.{IsAround, bare_is, each_as, fronted_is, unknown_is}
use Rattle.yv_schema_tables.proofs.Members.{AreWithin, append_all, labels_joined, labels_opened, opened_in}
use Rattle.yv_schema_tables.proofs.RowSoundness.{inside_nothing, inside_object, sits_below}
use Rattle.yv_schema_tables.proofs.PickedTrees.{room_of}

-- the nodes of a member are those of its front and its name
named_called : (s : Rows) (around front : Option ℕ) (cs : List NodeId) (member name : List ℕ)
    → AllByRecursion (λ (l : Label). bytes_eq l.member member ≡ is_called around front name l) (labels_at s.nodes cs) → member_named s cs member ≡ member_called s.nodes around cs front name
named_called s around front [] member name h = refl
named_called s around front (c ∷ cs) member name h = rw (h.0, named_called s around front cs member name h.1) refl

named_none : (s : Rows) (cs : List NodeId) (member : List ℕ) → AllByRecursion (λ (l : Label). bytes_eq l.member member ≡ false) (labels_at s.nodes cs) → member_named s cs member ≡ None
named_none s [] member h = refl
named_none s (c ∷ cs) member h = rw (h.0) (named_none s cs member h.1)

module _ (s : Rows) (apart : AreModules s.modules) (around : Option ℕ) (p : NodeId) (are : AllByRecursion (IsAround s.modules around) (labels_at s.nodes (inside s p))) where
  -- the directory of what stands in an object has what members name
  pub answering : (directory : Directory) → IsDirectory s.nodes around (inside s p) directory → IsAnswering s p directory
  answering directory has = record {
    bare = λ member plain.
        has.gives None member ∙ sym (named_called s around None (inside s p) member member
        (each_as (IsAround s.modules around) (λ (l : Label). bytes_eq l.member member ≡ is_called around None member l) (labels_at s.nodes (inside s p)) (λ l h. bare_is s.modules apart around member l plain h) are));
    fronted = λ owner name module_file known.
        has.gives (Some module_file) name ∙ sym (named_called s around (Some module_file) (inside s p) (owner ++ 58 ∷ name) name
        (each_as (IsAround s.modules around) (λ (l : Label). bytes_eq l.member (owner ++ 58 ∷ name) ≡ is_called around (Some module_file) name l) (labels_at s.nodes (inside s p)) (λ l h. fronted_is s.modules apart around owner name module_file l known h) are));
  }

  pub unknown_named : (owner name : List ℕ) → HasNoColon owner → module_file_named s.modules owner ≡ None → member_named s (inside s p) (owner ++ 58 ∷ name) ≡ None
  unknown_named owner name plain unknown =
      named_none s (inside s p) (owner ++ 58 ∷ name)
      (each_as (IsAround s.modules around) (λ (l : Label). bytes_eq l.member (owner ++ 58 ∷ name) ≡ false) (labels_at s.nodes (inside s p)) (λ l h. unknown_is s.modules apart around owner name l plain unknown h) are)

either_holds : (P : NodeId → Type 0) (c : NodeId) (rest : Option NodeId) (b : Bool) → P c → IfSome rest P → IfSome (cond b (Some c) rest) P
either_holds P c rest true here later = here
either_holds P c rest false here later = later

named_among : (s : Rows) (P : NodeId → Type 0) (cs : List NodeId) (member : List ℕ) → AllByRecursion P cs → IfSome (member_named s cs member) P
named_among s P [] member h = tt
named_among s P (c ∷ cs) member h = either_holds P c (member_named s cs member) (bytes_eq (row_at s c).label.member member) h.0 (named_among s P cs member h.1)

abbrev IsData : Label → Type 0
IsData l = is_data l.defined.kind ≡ true

-- opened trees are those of data nodes
all_data : (ts : Forest) → AllByRecursion (λ (l : Label). is_data l.defined.kind ≡ true) (labels (opened_trees ts))
all_data no_trees = tt
all_data (tree (node l kids) ts) =
    let own : Forest = cond (is_passed l.defined.kind) (opened_trees kids) (cond (is_data l.defined.kind) (tree (node l kids) no_trees) no_trees) in
    rw (labels_joined own (opened_trees ts)) (append_all IsData (labels own) (labels (opened_trees ts)) (by (is_passed l.defined.kind) (is_data l.defined.kind) refl (all_data kids)) (all_data ts))
  where
    by : (passed of_data : Bool) → is_data l.defined.kind ≡ of_data → AllByRecursion IsData (labels (opened_trees kids))
        → AllByRecursion IsData (labels (cond passed (opened_trees kids) (cond of_data (tree (node l kids) no_trees) no_trees)))
    by true of_data e inner = inner
    by false true e inner = (e, tt)
    by false false e inner = tt

inside_each : (s : Rows) (p : NodeId) (low high : ℕ) (cs : List NodeId) → rank p ≤ low → high ≤ length s.nodes → AreWithin low high cs → AllByRecursion IsData (labels_at s.nodes cs) → AllByRecursion (IsInside s p) cs
inside_each s p low high [] le room h k = tt
inside_each s p low high (c ∷ cs) le room h k = (record { behind = omega (arith, le, h.0); within = omega (arith, room, h.0); is_met = k.0 }, inside_each s p low high cs le room h.1 k.1)

-- what stands in an object
pub all_inside : (s : Rows) (p : NodeId) → IsSound s → rank p ≤ length s.nodes → AllByRecursion (IsInside s p) (inside s p)
all_inside s p sound within =
    let ts : Forest = below s p in
    let sit : Sits s.nodes (rank p) ts = sits_below s p sound within in
    elim (cases_Bool (is_object s p)) [
      | inl object ↦
          subst (λ (cs : List NodeId). AllByRecursion (IsInside s p) cs) (sym (inside_object s p object))
          (inside_each s p (rank p) (rank p + count ts) (opened_from (rank p) ts) (omega arith) (room_of s.nodes (rank p) ts sit) (opened_in (rank p) ts) (rw (labels_opened s.nodes (rank p) ts sit) (all_data ts)))
      | inr none ↦ subst (λ (cs : List NodeId). AllByRecursion (IsInside s p) cs) (sym (inside_nothing s p none)) tt
    ]

-- what is found stands in the object
pub inside_named : (s : Rows) (p : NodeId) (member : List ℕ) (found : Option NodeId) → IsSound s → rank p ≤ length s.nodes → found ≡ member_named s (inside s p) member → IfSome found (IsInside s p)
inside_named s p member found sound within is =
    subst (λ (o : Option NodeId). IfSome o (IsInside s p)) (sym is) (named_among s (IsInside s p) (inside s p) member (all_inside s p sound within))

chosen : (here : Bool) (c : NodeId) (found : Option NodeId) (known : Bool) → is_some found ≡ known → is_some (cond here (Some c) found) ≡ (here || known)
chosen true c found known e = refl
chosen false c found known e = e

-- a member is found among numbers where one of their nodes has it
named_any : (s : Rows) (cs : List NodeId) (member : List ℕ) → is_some (member_named s cs member) ≡ list_any (λ (l : Label). bytes_eq l.member member) (labels_at s.nodes cs)
named_any s [] member = refl
named_any s (c ∷ cs) member =
    chosen (bytes_eq (row_at s c).label.member member) c (member_named s cs member) (list_any (λ (l : Label). bytes_eq l.member member) (labels_at s.nodes cs)) (named_any s cs member)

known_any : (ts : Forest) (member : List ℕ) → is_known ts member ≡ list_any (λ (l : Label). bytes_eq l.member member) (labels ts)
known_any no_trees member = refl
known_any (tree (node l kids) ts) member = ap (λ (b : Bool). bytes_eq l.member member || b) (known_any ts member)

-- a name is found in an object exactly where one of the opened trees is called so
opened_known : (s : Rows) (p : NodeId) (member : List ℕ) → IsSound s → rank p ≤ length s.nodes → is_some (member_named s (opened_from (rank p) (below s p)) member) ≡ is_known (opened_trees (below s p)) member
opened_known s p member sound within =
    let sit : Sits s.nodes (rank p) (below s p) = sits_below s p sound within in
    named_any s (opened_from (rank p) (below s p)) member
    ∙ ap (λ (ls : List Label). list_any (λ (l : Label). bytes_eq l.member member) ls) (labels_opened s.nodes (rank p) (below s p) sit)
    ∙ sym (known_any (opened_trees (below s p)) member)

pub known_is : (s : Rows) (p : NodeId) (member : List ℕ) → IsSound s → rank p ≤ length s.nodes → is_some (member_named s (inside s p) member) ≡ is_known (object_trees s p) member
known_is s p member sound within = by (is_object s p) (opened_known s p member sound within)
  where
    by : (object : Bool) → is_some (member_named s (opened_from (rank p) (below s p)) member) ≡ is_known (opened_trees (below s p)) member
        → is_some (member_named s (cond object (opened_from (rank p) (below s p)) []) member) ≡ is_known (cond object (opened_trees (below s p)) no_trees) member
    by true e = e
    by false e = refl
