-- The first node of a name among items, one by one.
use Rattle.std.proofs.Common.{◌≡◌, ◌⊎◌, ℕ, ◌==◌, Bool, true, false, if◌then◌else◌, List, [], ◌∷◌, ◌++◌, ◌<◌, ◌+◌, length, take, get_or, inl, inr, refl, sym, ◌∙◌, ap, Option, Some, None}
use Rattle.std.specs.Ordering.{is_lt}
use Rattle.std.proofs.lemmas.Bool.{eqb-true}
use Rattle.std.proofs.lemmas.List.{take_more}
use Rattle.yv_expand_rounds.specs.declared.label.Label.{Label}
use Rattle.yv_expand_statements.specs.Kinds.{is_node}
use Rattle.yv_expand_rounds.specs.Labels.{is_named, is_some_named}
use Rattle.yv_expand_rounds.specs.Order.{sibling_cmp}
use Rattle.yv_expand_rounds.specs.Paths.{first_named}
use Rattle.yv_expand_rounds.specs.declared.first_nodes.FirstNodes.{FirstNodes}
use Rattle.yv_expand_rounds.specs.InnerFirstNodes.{AreFirst, node_of}
use Rattle.yv_expand_rounds.specs.InnerGroups.{displaced_item, earlier, firsts, node_name, note_item}
use Rattle.yv_expand_rounds.proofs.Least.{first_more, first_part, second_part}

-- one item more
pub first_taken : (labels : List Label) (items : List ℕ) (i name : ℕ) → i < length items
    → note_item labels (firsts labels (take i items)) (get_or items i 0) name ≡ first_named labels name (take (i + 1) items)
first_taken labels items i name within =
    first_more labels (take i items) (get_or items i 0) name (firsts labels (take i items)) refl
    ∙ ap (first_named labels name) (sym (take_more items i 0 within))

pub named_taken : (labels : List Label) (items : List ℕ) (i name : ℕ) (first : Option ℕ) → i < length items → first ≡ first_named labels name (take i items)
    → is_named labels name (get_or items i 0) ≡ true → Some (earlier labels first (get_or items i 0)) ≡ first_named labels name (take (i + 1) items)
named_taken labels items i name first within so_far named =
    let item : ℕ = get_or items i 0 in
    ap (λ o. Some (earlier labels o item)) so_far
    ∙ sym (ap (λ (b : Bool). if b then Some (earlier labels (first_named labels name (take i items)) item) else first_named labels name (take i items)) named)
    ∙ first_taken labels items i name within

pub other_taken : (labels : List Label) (items : List ℕ) (i name : ℕ) (first : Option ℕ) → i < length items → first ≡ first_named labels name (take i items)
    → is_named labels name (get_or items i 0) ≡ false → first ≡ first_named labels name (take (i + 1) items)
other_taken labels items i name first within so_far named =
    let item : ℕ = get_or items i 0 in
    so_far
    ∙ sym (ap (λ (b : Bool). if b then Some (earlier labels (first_named labels name (take i items)) item) else first_named labels name (take i items)) named)
    ∙ first_taken labels items i name within

-- the first nodes of items and of one more
pub are_first_more : (labels : List Label) (items : List ℕ) (item : ℕ) (old new : FirstNodes) → AreFirst labels items old
    → ((n : ℕ) → node_of new n ≡ note_item labels (node_of old) item n) → AreFirst labels (items ++ item ∷ []) new
are_first_more labels items item old new are noted = record {
  named = λ n. noted n ∙ first_more labels items item n (node_of old) (are.named n);
}

pub are_first_still : (labels : List Label) (items : List ℕ) (old new : FirstNodes) → AreFirst labels items old
    → ((n : ℕ) → node_of new n ≡ node_of old n) → AreFirst labels items new
are_first_still labels items old new are same = record { named = λ n. same n ∙ are.named n }

-- the name of a node
pub node_named : (l : Option Label) (n : ℕ) → is_some_named n l ≡ true → node_name l ≡ Some n
node_named None n h = absurd (let bad : false ≡ true = h in cc)
node_named (Some l) n h =
    ap (λ (b : Bool). if b then Some l.name else None) (first_part (is_node l.kind) (l.name == n) h)
    ∙ ap Some (eqb-true l.name n (second_part (is_node l.kind) (l.name == n) h))

chosen : (labels : List Label) (i item : ℕ) (b : Bool) → is_lt (sibling_cmp labels item i) ≡ b
    → (Some (earlier labels (Some i) item) ≡ Some i) ⊎ (displaced_item labels (Some i) item ≡ Some i)
chosen labels i item true e = inr (ap (λ (x : Bool). if x then Some i else None) e)
chosen labels i item false e = inl (ap (λ (x : Bool). Some (if x then item else i)) e)

-- the first node of each name is the first still when an item enters, but for the one that this
-- item displaces
pub keeps_but : (labels : List Label) (members : List ℕ) (item n i : ℕ) (gone : Option ℕ)
    → (is_named labels n item ≡ true → gone ≡ displaced_item labels (first_named labels n members) item) → first_named labels n members ≡ Some i
    → (first_named labels n (members ++ item ∷ []) ≡ Some i) ⊎ (gone ≡ Some i)
keeps_but labels members item n i gone is was = go (is_named labels n item) refl where
  more : note_item labels (firsts labels members) item n ≡ first_named labels n (members ++ item ∷ [])
  more = first_more labels members item n (firsts labels members) refl

  by_name : (b : Bool) → is_named labels n item ≡ b
      → (if b then Some (earlier labels (first_named labels n members) item) else first_named labels n members) ≡ first_named labels n (members ++ item ∷ [])
  by_name b e =
      sym (ap (λ (x : Bool). if x then Some (earlier labels (first_named labels n members) item) else first_named labels n members) e) ∙ more

  go : (b : Bool) → is_named labels n item ≡ b → (first_named labels n (members ++ item ∷ []) ≡ Some i) ⊎ (gone ≡ Some i)
  go false e = inl (sym (by_name false e) ∙ was)
  go true e = elim (chosen labels i item (is_lt (sibling_cmp labels item i)) refl) [
    | inl still ↦ inl (sym (by_name true e) ∙ ap (λ o. Some (earlier labels o item)) was ∙ still)
    | inr displaced ↦ inr (is e ∙ ap (λ o. displaced_item labels o item) was ∙ displaced)
  ]
