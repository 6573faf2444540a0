-- What is known of each place of a tree by its number.
use Rattle.std.proofs.Common.{◌≡◌, ℕ, zero, suc, ◌+◌, ◌-◌, ◌<◌, ◌≤◌, List, [], ◌∷◌, ◌++◌, map, length, length-append, refl, sym, ap, ◌∙◌, subst, arith, append_assoc, append-nil, Some, inl, inr}
use Rattle.std.specs.List.{slice_get}
use Rattle.std.proofs.lemmas.Bool.{cases_lt}
use Rattle.std.proofs.lemmas.List.{map-append}
use Rattle.std.proofs.lemmas.List.{length-map}
use Rattle.yv_nodes.specs.declared.node.NodeId.{NodeId}
use Rattle.yv_nodes.specs.Tree.{Label, node, Forest, no_trees, tree, count}
use Rattle.yv_nodes.specs.Places.{Place, places_below, places}
use Rattle.yv_nodes.specs.Rows.{Row, root}
use Rattle.yv_nodes.specs.Numbers.{numbers_from, rows_below}
use Rattle.yv_nodes.specs.InnerSpots.{IsUnder, node_id, Sits, Spot, spots_below, spots, row_of, place_of}

pub length_spots : (parent : NodeId) (above : List Label) (at : ℕ) (ts : Forest) → length (spots_below parent above at ts) ≡ count ts
length_spots parent above at no_trees = refl
length_spots parent above at (tree (node l kids) ts) =
    omega (
      arith,
      length-append (spots_below (node_id at) (l ∷ above) (at + 1) kids) (spots_below parent above (at + 1 + count kids) ts),
      length_spots (node_id at) (l ∷ above) (at + 1) kids,
      length_spots parent above (at + 1 + count kids) ts,
    )

-- the rows and the places are those of the spots
pub rows_spots : (parent : NodeId) (above : List Label) (at : ℕ) (ts : Forest) → rows_below parent at ts ≡ map row_of (spots_below parent above at ts)
rows_spots parent above at no_trees = refl
rows_spots parent above at (tree (node l kids) ts) =
    let own : Row = record { label = l; parent = parent; children = numbers_from (at + 1) kids } in
    ap (λ (rs : List Row). own ∷ rs ++ rows_below parent (at + 1 + count kids) ts) (rows_spots (node_id at) (l ∷ above) (at + 1) kids)
    ∙ ap (λ (rs : List Row). own ∷ map row_of (spots_below (node_id at) (l ∷ above) (at + 1) kids) ++ rs) (rows_spots parent above (at + 1 + count kids) ts)
    ∙ ap (λ (rs : List Row). own ∷ rs) (sym (map-append row_of (spots_below (node_id at) (l ∷ above) (at + 1) kids) (spots_below parent above (at + 1 + count kids) ts)))

pub places_spots : (parent : NodeId) (above : List Label) (at : ℕ) (ts : Forest) → places_below above ts ≡ map place_of (spots_below parent above at ts)
places_spots parent above at no_trees = refl
places_spots parent above at (tree (node l kids) ts) =
    let own : Place = record { label = l; above = above; kids = kids } in
    ap (λ (rs : List Place). own ∷ rs ++ places_below above ts) (places_spots (node_id at) (l ∷ above) (at + 1) kids)
    ∙ ap (λ (rs : List Place). own ∷ map place_of (spots_below (node_id at) (l ∷ above) (at + 1) kids) ++ rs) (places_spots parent above (at + 1 + count kids) ts)
    ∙ ap (λ (rs : List Place). own ∷ rs) (sym (map-append place_of (spots_below (node_id at) (l ∷ above) (at + 1) kids) (spots_below parent above (at + 1 + count kids) ts)))

at_seam : {X : Type 0} (front : List X) (x : X) (back : List X) (n : ℕ) → length front ≡ n → slice_get (front ++ x ∷ back) n ≡ Some x
at_seam [] x back zero e = refl
at_seam [] x back (suc n) e = absurd (omega (arith, e))
at_seam (y ∷ front) x back zero e = absurd (omega (arith, e))
at_seam (y ∷ front) x back (suc n) e = at_seam front x back n (omega (arith, e))

module _ (all : List Spot) (at : ℕ) (l : Label) (kids ts : Forest) (h : Sits all at (tree (node l kids) ts)) where
  abbrev pub own : Spot
  own = record { place = record { label = l; above = h.above; kids = kids }; parent = h.parent; children = numbers_from (at + 1) kids }

  abbrev pub inner : List Spot
  inner = spots_below (node_id at) (l ∷ h.above) (at + 1) kids

  abbrev pub others : List Spot
  others = spots_below h.parent h.above (at + 1 + count kids) ts

  -- the spot of the first tree
  pub spot_first : slice_get all at ≡ Some own
  spot_first =
      let flat : all ≡ h.front ++ own ∷ (inner ++ others ++ h.back) = h.split ∙ simp append_assoc in
      ap (λ (ss : List Spot). slice_get ss at) flat ∙ at_seam h.front own (inner ++ others ++ h.back) at h.before

  -- the spots below it
  pub kids_sit : Sits all (at + 1) kids
  kids_sit = record {
    parent = node_id at;
    above = l ∷ h.above;
    front = h.front ++ own ∷ [];
    back = others ++ h.back;
    split = h.split ∙ simp append_assoc;
    before = omega (arith, h.before, length-append h.front (own ∷ []));
    under = inr (omega arith, (own, spot_first, refl));
  }

  under_more : (parent : NodeId) (above : List Label) (m : ℕ) → at ≤ m → IsUnder all at parent above → IsUnder all m parent above
  under_more parent above m le (inl u) = inl u
  under_more parent above m le (inr u) = inr (omega (arith, u.0, le), u.1)

  -- those of the other trees
  pub others_sit : Sits all (at + 1 + count kids) ts
  others_sit = record {
    parent = h.parent;
    above = h.above;
    front = h.front ++ own ∷ inner;
    back = h.back;
    split = h.split ∙ simp append_assoc;
    before = omega (arith, h.before, length-append h.front (own ∷ inner), length_spots (node_id at) (l ∷ h.above) (at + 1) kids);
    under = under_more h.parent h.above (at + 1 + count kids) (omega arith) h.under;
  }

-- what is known of the spot of a number
pub record IsSpot (all : List Spot) (at : ℕ) (s : Spot) : Type 0 where
  pub children : s.children ≡ numbers_from (at + 1) s.place.kids
  pub sit : Sits all (at + 1) s.place.kids
  pub under : IsUnder all at s.parent s.place.above

pub spot_in : (all : List Spot) (at i place : ℕ) (ts : Forest) → i < count ts → place ≡ at + i → Sits all at ts → (s : Spot) × (slice_get all place ≡ Some s) × IsSpot all place s
spot_in all at i place no_trees lt e h = absurd (omega arith)
spot_in all at zero place (tree (node l kids) ts) lt e h =
    let here : place ≡ at = omega (arith, e) in
    let s : Spot = record { place = record { label = l; above = h.above; kids = kids }; parent = h.parent; children = numbers_from (at + 1) kids } in
    subst (λ (n : ℕ). (s : Spot) × (slice_get all n ≡ Some s) × IsSpot all n s) (sym here)
    (s, spot_first all at l kids ts h, record { children = refl; sit = kids_sit all at l kids ts h; under = h.under })
spot_in all at (suc i) place (tree (node l kids) ts) lt e h =
    elim (cases_lt i (count kids)) [
      | inl less ↦ spot_in all (at + 1) i place kids less (omega (arith, e)) (kids_sit all at l kids ts h)
      | inr more ↦ spot_in all (at + 1 + count kids) (i - count kids) place ts (omega (arith, lt)) (omega (arith, e)) (others_sit all at l kids ts h)
    ]

pub all_sit : (ts : Forest) → Sits (spots ts) 0 ts
all_sit ts = record { parent = root; above = []; front = []; back = []; split = sym (append-nil (spots ts)); before = refl; under = inl (refl, refl) }

-- what is known of the row of a number, of the rows of a tree
pub record IsNumbered (ts : Forest) (at : ℕ) (r : Row) : Type 0 where
  pub spot : Spot
  pub at_spot : slice_get (spots ts) at ≡ Some spot
  pub at_place : slice_get (places ts) at ≡ Some spot.place
  pub is : r ≡ row_of spot
  pub known : IsSpot (spots ts) at spot

map_got : {X Y : Type 0} (f : X → Y) (xs : List X) (k : ℕ) (y : Y) → slice_get (map f xs) k ≡ Some y → (x : X) × (slice_get xs k ≡ Some x) × (f x ≡ y)
map_got f [] k y at = cc
map_got f (x ∷ xs) zero y at = (x, refl, cc)
map_got f (x ∷ xs) (suc k) y at = map_got f xs k y at

pub map_get : {X Y : Type 0} (f : X → Y) (xs : List X) (n : ℕ) (x : X) → slice_get xs n ≡ Some x → slice_get (map f xs) n ≡ Some (f x)
map_get f [] n x at = cc
map_get f (y ∷ ys) zero x at = let same : y ≡ x = cc in ap (λ z. Some (f z)) same
map_get f (y ∷ ys) (suc n) x at = map_get f ys n x at

pub slice_within : {X : Type 0} (xs : List X) (k : ℕ) (x : X) → slice_get xs k ≡ Some x → k < length xs
slice_within [] k x at = cc
slice_within (y ∷ ys) zero x at = omega arith
slice_within (y ∷ ys) (suc k) x at = omega (arith, slice_within ys k x at)

pub is_numbered : (ts : Forest) (at : ℕ) (r : Row) → slice_get (rows_below root 0 ts) at ≡ Some r → IsNumbered ts at r
is_numbered ts at r h =
    let got = map_got row_of (spots ts) at r (ap (λ (rs : List Row). slice_get rs at) (sym (rows_spots root [] 0 ts)) ∙ h) in
    let within : at < count ts = omega (arith, slice_within (spots ts) at got.0 got.1, length_spots root [] 0 ts) in
    let found = spot_in (spots ts) 0 at at ts within (omega arith) (all_sit ts) in
    record {
      spot = found.0;
      at_spot = found.1;
      at_place = ap (λ (ps : List Place). slice_get ps at) (places_spots root [] 0 ts) ∙ map_get place_of (spots ts) at found.0 found.1;
      is = sym got.2 ∙ ap row_of (let same : got.0 ≡ found.0 = cc (got.1, found.1) in same);
      known = found.2;
    }

-- as many rows as nodes
pub length_rows : (ts : Forest) → length (rows_below root 0 ts) ≡ length (places ts)
length_rows ts =
    ap length (rows_spots root [] 0 ts) ∙ length-map (spots ts) row_of ∙ sym (ap length (places_spots root [] 0 ts) ∙ length-map (spots ts) place_of)
