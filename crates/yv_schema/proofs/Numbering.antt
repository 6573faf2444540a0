-- The places of the nodes that are left, and of those above and below them, are before a number
-- that isn't less than their count.
use Rattle.std.proofs.Common.{◌≡◌, ℕ, ◌+◌, ◌<◌, ◌≤◌, List, [], inl, inr, length, get_or, refl, sym, subst, arith, Option, Some, None}
use Rattle.std.specs.List.{All, slice_get}
use Rattle.std.specs.Option.{option_and_then}
use Rattle.std.proofs.lemmas.Bool.{cases_lt}
use Rattle.std.proofs.lemmas.List.{get_or_past, length-map}
use Rattle.std.proofs.lemmas.List.Elements.{All-append, All-cons, All-from_get_or, All-get_or, All-nil}
use Rattle.std.proofs.lemmas.Option.{slice_get-get_or, slice_get_within}
use Rattle.yv_expand.specs.Tree as items
use Rattle.yv_expand.specs.Tree.{Node}
use Rattle.yv_schema.specs.Families as families
use Rattle.yv_base_tables.specs.Families.{numbers_at}
use Rattle.yv_expand_tree.specs.Final.{spots_of}
use Rattle.yv_expand_tree.specs.FinalTree.{source_at}
use Rattle.yv_nodes.specs.Rows.{rank}
use Rattle.yv_schema.specs.InnerRows.{IsWithin, number_at, parent_of}
use Rattle.yv_schema.specs.InnerBasis.{NumberedBasis, nodes_in}
use Rattle.yv_schema.proofs.AugmentNotes.{Follows, each_at, givers, rank_up_to}
use Rattle.yv_schema.proofs.ParentNodes.{before_each}
use Rattle.yv_schema.proofs.SchemaTreeRows.{within_more}

abbrev pub AllBefore : ℕ → List ℕ → Type 0
AllBefore n ps = All (λ (p : ℕ). p < n) ps

-- the places of the nodes of one parent
pub numbers_before : (first n : ℕ) (t : items.Nodes) → first + items.count t ≤ n → AllBefore n (families.numbers_from first t)
numbers_before first n items.none le = All-nil (λ (p : ℕ). p < n)
numbers_before first n (items.item origin below behind) le =
    All-cons (λ (p : ℕ). p < n) first (families.numbers_from (first + 1 + items.count below) behind) (omega (arith, le))
    (numbers_before (first + 1 + items.count below) n behind (omega (arith, le)))

-- those of the nodes below each
pub below_before : (first n : ℕ) (t : items.Nodes) → first + items.count t ≤ n → All (AllBefore n) (families.below_from first t)
below_before first n items.none le = All-nil (AllBefore n)
below_before first n (items.item origin below behind) le =
    All-cons (AllBefore n) (families.numbers_from (first + 1) below) _ (numbers_before (first + 1) n below (omega (arith, le)))
    (All-append (AllBefore n) (families.below_from (first + 1) below) (families.below_from (first + 1 + items.count below) behind)
    (below_before (first + 1) n below (omega (arith, le))) (below_before (first + 1 + items.count below) n behind (omega (arith, le))))

pub each_before : (n : ℕ) (lists : List (List ℕ)) (k : ℕ) → All (AllBefore n) lists → AllBefore n (get_or lists k [])
each_before n lists k all = elim (cases_lt k (length lists)) [
  | inl here ↦ All-get_or (AllBefore n) lists k [] here all
  | inr past ↦ subst (AllBefore n) (sym (get_or_past lists k [] past)) (All-nil (λ (p : ℕ). p < n))
]

-- the node above each stands before it
pub parents_first : (b : NumberedBasis) (left : List Node) → left ≡ nodes_in b → (k : ℕ) (x : Node) → slice_get left k ≡ Some x → IsWithin x.parent k
parents_first b left are k x at =
    let there : slice_get (nodes_in b) k ≡ Some x = subst (λ (xs : List Node). slice_get xs k ≡ Some x) are at in
    within_more x.parent (0 + k) k (omega arith) (before_each None 0 b.nodes tt k x there)

pub rank_within : (parent : Option ℕ) (n m : ℕ) → IsWithin parent n → n ≤ m → rank (parent_of parent) ≤ m
rank_within None n m within le = omega arith
rank_within (Some place) n m within le = rank_up_to (number_at place) m (omega (arith, within, le))

-- the places of the nodes above them
pub parents_before : (b : NumberedBasis) (left : List Node) (n : ℕ) → left ≡ nodes_in b → length left ≤ n → (k : ℕ) (x : Node) → slice_get left k ≡ Some x → IsWithin x.parent n
parents_before b left n are le k x at =
    within_more x.parent k n (omega (arith, le, slice_get_within left k x at)) (parents_first b left are k x at)

-- that of the node above one
above_one : (left : List Node) (n k : ℕ) (o : Option Node) → ((x : Node) → slice_get left k ≡ Some x → IsWithin x.parent n) → slice_get left k ≡ o → IsWithin (option_and_then (λ (x : Node). x.parent) o) n
above_one left n k None each at = tt
above_one left n k (Some x) each at = each x at

pub above_before : (left : List Node) (n : ℕ) (o : Option ℕ) → ((k : ℕ) (x : Node) → slice_get left k ≡ Some x → IsWithin x.parent n)
    → IsWithin (option_and_then (λ (x : Node). x.parent) (option_and_then (slice_get left) o)) n
above_before left n None each = tt
above_before left n (Some k) each = above_one left n k (slice_get left k) (each k) refl

-- each node has its giver, or none
pub givers_many : (b : NumberedBasis) (follows : Follows b) → length (givers b follows) ≡ length (nodes_in b)
givers_many b follows = length-map (nodes_in b) (λ (x : Node). source_at (spots_of b.files b.final) b.final.augments x.origin)

-- the numbers at a place are those of what has it
pub family_before : (places : List (Option ℕ)) (place n : ℕ) → length places ≤ n → AllBefore n (numbers_at places place)
family_before places place n le = All-from_get_or (λ (p : ℕ). p < n) (numbers_at places place) 0 (λ k lt.
    let at = each_at places place k (get_or (numbers_at places place) k 0) (slice_get-get_or (numbers_at places place) k 0 lt) in
    omega (arith, le, slice_get_within places (get_or (numbers_at places place) k 0) (Some place) at))
