-- Nodes by number, in order, and the nodes that they show.
use Rattle.std.proofs.Common.{◌≡◌, ℕ, zero, suc, ◌+◌, List, [], ◌∷◌, ◌++◌, length, map, refl, sym, ◌∙◌, ap, ap₂, arith, Option, Some, None}
use Rattle.std.specs.List.{slice_get}
use Rattle.std.proofs.lemmas.List.{map-append}
use Rattle.yv_expand.specs.Tree.{Node, Nodes, count, item, item_list, none}
use Rattle.yv_expand_laws.specs.Schema.{shown_nodes}
use Rattle.yv_expand_laws.specs.Shows.{Items}
use Rattle.yv_schema.specs.Schema.{node_list}

pub not_none : {A : Type 0} {x : A} → None ≡ Some x → ⊥
not_none e = cc

pub in_front : {A : Type 0} (xs ys : List A) (k : ℕ) (x : A) → slice_get xs k ≡ Some x → slice_get (xs ++ ys) k ≡ Some x
in_front [] ys k x at = absurd (not_none at)
in_front (z ∷ xs) ys zero x at = at
in_front (z ∷ xs) ys (suc k) x at = in_front xs ys k x at

pub in_rest : {A : Type 0} (xs ys : List A) (k : ℕ) → slice_get (xs ++ ys) (length xs + k) ≡ slice_get ys k
in_rest [] ys k = ap (slice_get ys) (let e : 0 + k ≡ k = omega arith in e)
in_rest (z ∷ xs) ys k = ap (slice_get (z ∷ xs ++ ys)) (let e : length (z ∷ xs) + k ≡ suc (length xs + k) = omega arith in e) ∙ in_rest xs ys k

-- all of these nodes have a property
abbrev pub AllLeft : (ℕ → Type 0) → Nodes → Type 0
AllLeft P none = Unit {0}
AllLeft P (item i below behind) = P i × AllLeft P below × AllLeft P behind

pub all_left : (P : ℕ → Type 0) (parent : Option ℕ) (first : ℕ) (nodes : Nodes)
    → ((k : ℕ) (x : Node) → slice_get (item_list parent first nodes) k ≡ Some x → P x.origin) → AllLeft P nodes
all_left P parent first none each = tt
all_left P parent first (item i below behind) each =
    let inner : List Node = item_list (Some first) (first + 1) below in
    let outer : List Node = item_list parent (first + 1 + count below) behind in (
      each 0 (record { origin = i; parent = parent }) refl,
      all_left P (Some first) (first + 1) below (λ k x at. each (suc k) x (in_front inner outer k x at)),
      all_left P parent (first + 1 + count below) behind (λ k x at. each (suc (length inner + k)) x (in_rest inner outer k ∙ at)),
    )

-- the nodes in order show the nodes in order
pub listed : (its : Items) (parent : Option ℕ) (first : ℕ) (nodes : Nodes)
    → node_list (shown_nodes its nodes) ≡ map (λ (x : Node). its.node_of x.origin) (item_list parent first nodes)
listed its parent first none = refl
listed its parent first (item i below behind) =
    ap (λ xs. its.node_of i ∷ xs)
    (ap₂ (λ xs ys. xs ++ ys) (listed its (Some first) (first + 1) below) (listed its parent (first + 1 + count below) behind)
    ∙ sym (map-append (λ (x : Node). its.node_of x.origin) (item_list (Some first) (first + 1) below) (item_list parent (first + 1 + count below) behind)))
