-- What is kept of the nodes above, by their numbers.
use Rattle.std.proofs.Common.{◌≡◌, ℕ, zero, suc, ◌+◌, ◌<◌, ◌≤◌, List, [], ◌∷◌, ◌++◌, length, refl, sym, ap, ◌∙◌, arith, Option, Some, None, inl, inr}
use Rattle.std.specs.List.{slice_get}
use Rattle.std.specs.Option.{option_map, unwrap_or}
use Rattle.std.proofs.lemmas.Bool.{cases_lt}
use Rattle.yv_nodes.specs.declared.node.NodeId.{NodeId}
use Rattle.yv_nodes.specs.Tree.{Label, Forest}
use Rattle.yv_nodes.specs.Places.{Place, places}
use Rattle.yv_nodes.specs.Rows.{Row, root}
use Rattle.yv_nodes.specs.InnerSpots.{AreRows, IsUnder, Spot, spots, row_of, place_of}
use Rattle.yv_node_checks.proofs.Spots.{map_get, places_spots, rows_spots}
use Rattle.yv_node_checks.specs.declared.lineage.Ancestry.{Ancestry}
use Rattle.yv_node_checks.specs.Above.{line}
use Rattle.yv_node_checks.specs.InnerAncestry.{ancestry_at, ancestry_of, label_in, nearest_of}

-- of the first n places what they and those above them say is kept
abbrev pub AreKept : Forest → List Ancestry → ℕ → Type 0
AreKept ts kept n = (k : ℕ) (p : Place) → k < n → slice_get (places ts) k ≡ Some p → slice_get kept k ≡ Some (ancestry_of (line p))

pub place_at : (ts : Forest) (k : ℕ) (s : Spot) → slice_get (spots ts) k ≡ Some s → slice_get (places ts) k ≡ Some s.place
place_at ts k s at = ap (λ (ps : List Place). slice_get ps k) (places_spots root [] 0 ts) ∙ map_get place_of (spots ts) k s at

pub row_at : (rows : List Row) (ts : Forest) (k : ℕ) (s : Spot) → AreRows rows ts → slice_get (spots ts) k ≡ Some s → slice_get rows k ≡ Some (row_of s)
row_at rows ts k s are at = ap (λ (rs : List Row). slice_get rs k) (are ∙ rows_spots root [] 0 ts) ∙ map_get row_of (spots ts) k s at

-- nothing stands past the end
get_past : {X : Type 0} (xs : List X) (k : ℕ) → length xs ≤ k → slice_get xs k ≡ None
get_past [] k le = refl
get_past (x ∷ xs) zero le = absurd (omega arith)
get_past (x ∷ xs) (suc k) le = get_past xs k (omega (arith, le))

pub ancestry_is : (ts : Forest) (kept : List Ancestry) (n : ℕ) (parent : NodeId) (above : List Label) → length kept ≤ 4294967295 → AreKept ts kept n → IsUnder (spots ts) n parent above
    → ancestry_at kept parent ≡ ancestry_of above
ancestry_is ts kept n parent above few known (inl u) =
    let past : slice_get kept parent.0 ≡ None = ap (λ (p : NodeId). slice_get kept p.0) u.0 ∙ get_past kept 4294967295 few in
    ap (λ (o : Option Ancestry). unwrap_or o (ancestry_of [])) past ∙ ap ancestry_of (sym u.1)
ancestry_is ts kept n parent above few known (inr u) =
    let q : Spot = u.1.0 in
    ap (λ (o : Option Ancestry). unwrap_or o (ancestry_of [])) (known parent.0 q.place u.0 (place_at ts parent.0 q u.1.1)) ∙ ap ancestry_of (sym u.1.2)

pub nearest_is : (rows : List Row) (ts : Forest) (n : ℕ) (parent : NodeId) (above : List Label) → length rows ≤ 4294967295 → AreRows rows ts → IsUnder (spots ts) n parent above
    → option_map label_in (slice_get rows parent.0) ≡ nearest_of above
nearest_is rows ts n parent above few are (inl u) =
    let past : slice_get rows parent.0 ≡ None = ap (λ (p : NodeId). slice_get rows p.0) u.0 ∙ get_past rows 4294967295 few in
    ap (λ (o : Option Row). option_map label_in o) past ∙ ap nearest_of (sym u.1)
nearest_is rows ts n parent above few are (inr u) =
    let q : Spot = u.1.0 in
    ap (λ (o : Option Row). option_map label_in o) (row_at rows ts parent.0 q are u.1.1) ∙ ap nearest_of (sym u.1.2)

pub append_left : {X : Type 0} (xs : List X) (y : X) (k : ℕ) (x : X) → slice_get xs k ≡ Some x → slice_get (xs ++ y ∷ []) k ≡ Some x
append_left [] y k x at = cc
append_left (z ∷ xs) y zero x at = at
append_left (z ∷ xs) y (suc k) x at = append_left xs y k x at

pub append_last : {X : Type 0} (xs : List X) (y : X) (k : ℕ) → length xs ≡ k → slice_get (xs ++ y ∷ []) k ≡ Some y
append_last [] y zero e = refl
append_last [] y (suc k) e = absurd (omega (arith, e))
append_last (z ∷ xs) y zero e = absurd (omega (arith, e))
append_last (z ∷ xs) y (suc k) e = append_last xs y k (omega (arith, e))

pub kept_more : (ts : Forest) (kept more : List Ancestry) (n : ℕ) (p : Place) (own : Ancestry) → AreKept ts kept n → length kept ≡ n → slice_get (places ts) n ≡ Some p → own ≡ ancestry_of (line p) → more ≡ kept ++ own ∷ [] → AreKept ts more (n + 1)
kept_more ts kept more n p own known many at is all = λ k q lt here.
    elim (cases_lt k n) [
      | inl l ↦ ap (λ (ss : List Ancestry). slice_get ss k) all ∙ append_left kept own k (ancestry_of (line q)) (known k q l here)
      | inr ge ↦ let e : k ≡ n = omega (arith, lt, ge) in
          let same : p ≡ q = let g : slice_get (places ts) k ≡ Some p = ap (slice_get (places ts)) e ∙ at in cc (g, here) in
          ap (λ (ss : List Ancestry). slice_get ss k) all ∙ append_last kept own k (many ∙ sym e) ∙ ap (λ (s : Ancestry). Some s) is ∙ ap (λ (r : Place). Some (ancestry_of (line r))) same
    ]
