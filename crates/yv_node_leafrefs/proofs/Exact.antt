-- What is found from a target up is the link.
use Rattle.std.proofs.Common.{◌≡◌, ◌≢◌, ◌↔◌, ℕ, zero, suc, ◌+◌, ◌<◌, Bool, true, false, cond, not, List, [], ◌∷◌, length, reverse}
use Rattle.std.proofs.Common.{refl, sym, ◌∙◌, ap, subst, arith, Option, Some, None}
use Rattle.std.proofs.lemmas.Bool.{false≢true, ne_eqb}
use Rattle.std.proofs.lemmas.List.{reverse-reverse}
use Rattle.std.proofs.lemmas.Option.{same_Some, none-some, slice_get_within}
use Rattle.std.specs.List.{slice_index_or}
use Rattle.std.specs.Option.{option_map}
use mathlib.Core.List.{reverse_aux}
use Rattle.yv_node_content.specs.Steps.{Step}
use Rattle.yv_nodes.specs.Link.{Link}
use Rattle.yv_nodes.specs.Rows.{Row}
use Rattle.yv_node_leafrefs.specs.Above.{IsAbove}
use Rattle.yv_node_leafrefs.specs.Schema.{Referral, Schema}
use Rattle.yv_node_leafrefs.specs.Targets.{RefersTo}
use Rattle.yv_node_leafrefs.specs.Ways.{Leads, Means}
use Rattle.yv_node_leafrefs.specs.Links.{AreInner, IsInner, IsLinkOf, LeadsOver}
use Rattle.yv_node_leafrefs.specs.InnerWays.{AreAbove, is_path, link_of_path, link_over, upwards}
use Rattle.yv_node_leafrefs.proofs.LinkClosing.{above_one, child_above}

over : (rows : List Row) (own : ℕ) (ss : List (Option Step)) (a b : Option ℕ) → Leads rows own ss a b
    → (cs : List ℕ) × LeadsOver rows own ss cs a b
over rows own [] a b e = ([], e)
over rows own (s ∷ ss) a b (c, means, rest) = let behind = over rows own ss (Some c) b rest in (c ∷ behind.0, (means, behind.1))

-- where there is one more node, a node stands above
one_up : (above : List (Option ℕ)) (j : ℕ) (o : Option ℕ) (d : ℕ) (ys : List ℕ)
    → option_map (λ cs. d ∷ cs) (upwards above (suc j) o) ≡ Some ys
    → (p : ℕ) × (o ≡ Some p) × (zs : List ℕ) × (upwards above (suc j) (Some p) ≡ Some zs) × (d ∷ zs ≡ ys)
one_up above j None d ys e = absurd (none-some ys e)
one_up above j (Some p) d ys e = by (upwards above (suc j) (Some p)) refl
  where
    by : (o : Option (List ℕ)) → upwards above (suc j) (Some p) ≡ o
        → (q : ℕ) × (Some p ≡ Some q) × (zs : List ℕ) × (upwards above (suc j) (Some q) ≡ Some zs) × (d ∷ zs ≡ ys)
    by None is = absurd (none-some ys (ap (option_map (λ (cs : List ℕ). d ∷ cs)) (sym is) ∙ e))
    by (Some zs) is = (p, refl, zs, is, same_Some (d ∷ zs) ys (ap (option_map (λ (cs : List ℕ). d ∷ cs)) (sym is) ∙ e))

more : (rows : List Row) (c : ℕ) (cs : List ℕ) → IsInner rows c → AreInner rows cs → AreInner rows (c ∷ cs)
more rows c cs here behind zero x l h = subst (IsInner rows) (same_Some c x h) here
more rows c cs here behind (suc i) x l h = behind i x (omega (arith, l)) h

single : (rows : List Row) (c : ℕ) → AreInner rows (c ∷ [])
single rows c i x l h = absurd (omega (arith, l))

module _ (rows : List Row) (above : List (Option ℕ)) (table : AreAbove rows (length rows) above) (own : ℕ) where
  known : (s : Option Step) (a : Option ℕ) (d p : ℕ) → Means rows own a s d
      → (slice_index_or above d None ≡ Some p) ↔ (IsAbove rows (Some p) d × IsInner rows p)
  known s a d p means = let up = child_above rows own a s d means in table d p (slice_get_within rows d up.0 up.1)

  -- what is found from the end up is the way
  down : (ss : List (Option Step)) (c : ℕ) (cs : List ℕ) (b : Option ℕ) (j : ℕ) (xs : List ℕ) → LeadsOver rows own ss cs (Some c) b
      → upwards above (length ss + suc j) b ≡ Some xs
      → (ys : List ℕ) × (upwards above (suc j) (Some c) ≡ Some ys) × (reverse_aux cs ys ≡ xs) × AreInner rows (c ∷ cs)
  down [] c [] b j xs e found =
      let many : 0 + suc j ≡ suc j = omega arith in
      (xs, ap (upwards above (suc j)) e ∙ ap (λ k. upwards above k b) (sym many) ∙ found, refl, single rows c)
  down [] c (d ∷ ds) b j xs h found = absurd h
  down (s ∷ ss) c [] b j xs h found = absurd h
  down (s ∷ ss) c (d ∷ ds) b j xs (means, rest) found =
      let many : suc (length ss) + suc j ≡ length ss + suc (suc j) = omega arith in
      let behind = down ss d ds b (suc j) xs rest (ap (λ k. upwards above k b) (sym many) ∙ found) in
      let up = one_up above j (slice_index_or above d None) d behind.0 behind.1 in
      let here = (known s (Some c) d up.0 means).0 up.1 in
      let same : up.0 ≡ c = same_Some up.0 c (above_one rows d (Some up.0) (Some c) here.0 (child_above rows own (Some c) s d means)) in (
        up.2,
        ap (λ k. upwards above (suc j) (Some k)) (sym same) ∙ up.3,
        ap (reverse_aux ds) up.4 ∙ behind.2,
        more rows c (d ∷ ds) (subst (IsInner rows) same here.1) behind.3,
      )

  -- the way is found from its end up
  up : (ss : List (Option Step)) (c : ℕ) (cs : List ℕ) (b : Option ℕ) (j : ℕ) (ys : List ℕ) → LeadsOver rows own ss cs (Some c) b
      → AreInner rows (c ∷ cs)
      → upwards above (suc j) (Some c) ≡ Some ys → upwards above (length ss + suc j) b ≡ Some (reverse_aux cs ys)
  up [] c [] b j ys e inner found =
      let many : 0 + suc j ≡ suc j = omega arith in
      ap (λ k. upwards above k b) many ∙ ap (upwards above (suc j)) (sym e) ∙ found
  up [] c (d ∷ ds) b j ys h inner found = absurd h
  up (s ∷ ss) c [] b j ys h inner found = absurd h
  up (s ∷ ss) c (d ∷ ds) b j ys (means, rest) inner found =
      let many : suc (length ss) + suc j ≡ length ss + suc (suc j) = omega arith in
      let at : slice_index_or above d None ≡ Some c = (known s (Some c) d c means).1
      (child_above rows own (Some c) s d means, inner 0 c (omega arith) refl) in
      let next : upwards above (suc (suc j)) (Some d) ≡ Some (d ∷ ys) =
      ap (λ (o : Option ℕ). option_map (λ (cs : List ℕ). d ∷ cs) (upwards above (suc j) o)) at
      ∙ ap (option_map (λ (cs : List ℕ). d ∷ cs)) found in
      ap (λ k. upwards above k b) many ∙ up ss d ds b (suc j) (d ∷ ys) rest (λ i x l h. inner (suc i) x (omega (arith, l)) h) next

  pub all_down : (ss : List (Option Step)) (cs : List ℕ) (a b : Option ℕ) (xs : List ℕ) → LeadsOver rows own ss cs a b
      → upwards above (length ss) b ≡ Some xs → (reverse cs ≡ xs) × AreInner rows cs
  all_down [] [] a b xs e found = (same_Some [] xs found, λ i c l h. absurd (omega (arith, l)))
  all_down [] (c ∷ cs) a b xs h found = absurd h
  all_down (s ∷ ss) [] a b xs h found = absurd h
  all_down (s ∷ ss) (c ∷ cs) a b xs (means, rest) found =
      let many : suc (length ss) ≡ length ss + suc zero = omega arith in
      let behind = down ss c cs b zero xs rest (ap (λ k. upwards above k b) (sym many) ∙ found) in
      (ap (reverse_aux cs) (same_Some (c ∷ []) behind.0 behind.1) ∙ behind.2, behind.3)

  pub all_up : (ss : List (Option Step)) (cs : List ℕ) (a b : Option ℕ) → LeadsOver rows own ss cs a b → AreInner rows cs
      → upwards above (length ss) b ≡ Some (reverse cs)
  all_up [] [] a b e inner = refl
  all_up [] (c ∷ cs) a b h inner = absurd h
  all_up (s ∷ ss) [] a b h inner = absurd h
  all_up (s ∷ ss) (c ∷ cs) a b (means, rest) inner =
      let many : suc (length ss) ≡ length ss + suc zero = omega arith in
      ap (λ k. upwards above k b) many ∙ up ss c cs b zero (c ∷ []) rest inner refl

cond_is : {A : Type 0} (b : Bool) (o : Option A) (y : A) → cond b o None ≡ Some y → (b ≡ true) × (o ≡ Some y)
cond_is true o y e = (refl, e)
cond_is false o y e = absurd (none-some y e)

map_is : {A B : Type 0} (f : A → B) (o : Option A) (y : B) → option_map f o ≡ Some y → (x : A) × (o ≡ Some x) × (f x ≡ y)
map_is f None y e = absurd (none-some y e)
map_is f (Some x) y e = (x, refl, same_Some (f x) y e)

path_of : (climbs : Option ℕ) → climbs ≢ Some 0 → is_path climbs ≡ true
path_of None other = refl
path_of (Some zero) other = absurd (other refl)
path_of (Some (suc k)) other = ap not (ne_eqb (suc k) 0 (λ e. absurd (omega (arith, e))))

begins_of : (climbs : Option ℕ) → is_path climbs ≡ true → climbs ≢ Some 0
begins_of None path e = none-some 0 e
begins_of (Some zero) path e = false≢true path
begins_of (Some (suc k)) path e = let none : suc k ≡ 0 = same_Some (suc k) 0 e in omega (arith, none)

module _ (s : Schema) (above : List (Option ℕ)) (table : AreAbove s.rows (length s.rows) above) (n : ℕ) where
  made : (t : ℕ) (refers : RefersTo s n t) (link : Link) → link_of_path above refers.ref t ≡ Some link → IsLinkOf s n link
  made t refers link e =
      let ref = refers.ref in
      let parts =
      cond_is (is_path ref.climbs)
      (option_map (λ cs. link_over ref t (reverse cs)) (upwards above (length ref.steps) (Some t))) link e in
      let found = map_is (λ cs. link_over ref t (reverse cs)) (upwards above (length ref.steps) (Some t)) link parts.1 in
      let way = over s.rows refers.row.label.module_file ref.steps refers.start (Some t) refers.leads in
      let behind = all_down s.rows above table refers.row.label.module_file ref.steps way.0 refers.start (Some t) found.0 way.1 found.1 in
      let steps : way.0 ≡ reverse found.0 = sym (reverse-reverse way.0) ∙ ap reverse behind.0 in
      subst (λ (l : Link). IsLinkOf s n l) (ap (link_over ref t) steps ∙ found.2)
      (
      record {
        refers = refers;
        climbs = refl;
        begins = begins_of ref.climbs parts.0;
        way = way.1;
        inner = behind.1;
        is_required = refl;
      }
      )

  is_made : (link : Link) (is : IsLinkOf s n link) → link_of_path above is.refers.ref link.target ≡ Some link
  is_made link is =
      let ref = is.refers.ref in
      let found =
      all_up s.rows above table is.refers.row.label.module_file ref.steps link.steps is.refers.start (Some link.target) is.way is.inner in
      let path : is_path ref.climbs ≡ true = path_of ref.climbs (λ e. is.begins (is.climbs ∙ e)) in
      ap (λ (b : Bool). cond b
      (option_map (λ cs. link_over ref link.target (reverse cs)) (upwards above (length ref.steps) (Some link.target))) None) path
      ∙ ap (option_map (λ cs. link_over ref link.target (reverse cs))) found
      ∙ ap (λ cs. Some (link_over ref link.target cs)) (reverse-reverse link.steps)
      ∙ ap (λ (climbs : Option ℕ). let l : Link = record { climbs = climbs; steps = link.steps; target = link.target; is_required = ref.is_required } in Some l)
      (sym is.climbs)
      ∙ ap (λ (required : Bool). let l : Link = record { climbs = link.climbs; steps = link.steps; target = link.target; is_required = required } in Some l)
      (sym is.is_required)

  -- where a leafref says this and refers to the target, its link is the one that is found
  pub exact : (t : ℕ) (ref : Referral) → s.says n ≡ Some ref → RefersTo s n t → ((x : ℕ) → RefersTo s n x → t ≡ x) → (link : Link)
      → (link_of_path above ref t ≡ Some link) ↔ IsLinkOf s n link
  exact t ref says refers only link = (
    λ e. made t refers link (ap (λ (q : Referral). link_of_path above q t) (same_Some refers.ref ref (sym refers.is_leafref.says ∙ says)) ∙ e),
    λ is.
        ap (λ (q : Referral). link_of_path above q t) (same_Some ref is.refers.ref (sym says ∙ is.refers.is_leafref.says))
        ∙ ap (link_of_path above is.refers.ref) (only link.target is.refers) ∙ is_made link is,
  )

-- where nothing is referred to, no link is found
pub none_at : (s : Schema) (n : ℕ) → ((x : ℕ) → RefersTo s n x → ⊥) → (link : Link)
    → (◌≡◌ {A = Option Link} None (Some link)) ↔ IsLinkOf s n link
none_at s n never link = (λ e. absurd (none-some link e), λ is. absurd (never link.target is.refers))

-- a node that has a link is one of the rows
pub within : (s : Schema) (n : ℕ) (link : Link) → IsLinkOf s n link → n < length s.rows
within s n link is = slice_get_within s.rows n is.refers.row is.refers.is_leafref.at
