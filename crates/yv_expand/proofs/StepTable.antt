-- The steps, as they are filled statement by statement.
use Rattle.std.proofs.Common.{◌≡◌, ℕ, ◌+◌, ◌<◌, ◌≤◌, inl, inr, zero, suc, List, [], ◌∷◌, ◌++◌, length, set, get_or, sym, ◌∙◌, ap, subst, arith, Option, Some, None, IfSome, length-set}
use Rattle.std.proofs.lemmas.Bool.{cases_lt}
use Rattle.std.proofs.lemmas.List.{append-nil, get_or_default}
use Rattle.std.proofs.lemmas.List.Elements.{Contains-append_cases}
use Rattle.std.proofs.lemmas.Option.{slice_get_within, slice_get-get_or}
use Rattle.std.specs.List.{slice_get, Contains}
use Rattle.std.specs.declared.vec.Vec.{Vec}
use Rattle.std.specs.declared.alloc.Global.{Global}
use Rattle.yv_link_scopes.specs.Files.{Briefs}
use Rattle.yv_link_scopes.specs.Rows.{Row}
use Rattle.yv_base_graph.specs.Graph.{IsGraph}
use Rattle.yv_expand.specs.InnerLists.{Lists, ArePlaced, part_place, placed_from, is_place}
use Rattle.yv_expand.specs.InnerSteps.{AreSteps, list_of}
use Rattle.yv_expand.proofs.UnitListing.{numbers_are, set_at}
use Rattle.yv_expand.proofs.UsedGrouping.{Uses}

abbrev Parts : List Row → ℕ → List ℕ
Parts rows k = placed_from part_place k 0 rows

-- what a statement steps to, and where the names are those of the files, that it uses it
pub record Taking (H : Type 0) (files : Briefs) (rows : List Row) (k : ℕ) (items : List ℕ) : Type 0 where
  pub used : Option ℕ
  pub are : items ≡ Parts rows k ++ list_of used
  pub within : IfSome used (λ d. d < length rows)
  pub uses : H → Uses files rows k used

pub record Stepping (H : Type 0) (files : Briefs) (rows : List Row) (i : ℕ) (g : Lists) : Type 0 where
  pub each : length g ≡ length rows
  pub ahead : (k : ℕ) (v : Vec ℕ Global) → i ≤ k → slice_get g k ≡ Some v → v.items ≡ Parts rows k
  pub done : (k : ℕ) (v : Vec ℕ Global) → k < i → slice_get g k ≡ Some v → Taking H files rows k v.items

module _ (H : Type 0) (files : Briefs) (rows : List Row) where
  pub stepping_none : (g : Lists) → ArePlaced part_place rows (length rows) g → Stepping H files rows 0 g
  stepping_none g p = record { each = p.each; ahead = λ k v l at. p.items k v at; done = λ k v l at. absurd (omega (arith, l)) }

  -- one more statement, which uses nothing
  pub stepping_other : (i : ℕ) (g : Lists) (o : Option ℕ) → Stepping H files rows i g → (H → Uses files rows i o) → o ≡ None → Stepping H files rows (i + 1) g
  stepping_other i g o old uses none = record {
    each = old.each;
    ahead = λ k v l at. old.ahead k v (omega (arith, l)) at;
    done = λ k v l at. elim (cases_lt k i) [
      | inl less ↦ old.done k v less at
      | inr up ↦
          let here : i ≡ k = omega (arith, l, up) in
          record {
            used = None;
            are = old.ahead k v (omega (arith, up)) at ∙ sym (append-nil (Parts rows k));
            within = tt;
            uses = λ h. subst (λ (n : ℕ). Uses files rows n None) here (subst (λ (p : Option ℕ). Uses files rows i p) none (uses h));
          }
    ];
  }

  -- one more statement, which uses this
  pub stepping_some : (i d : ℕ) (g g' : Lists) (row row' : Vec ℕ Global) (o : Option ℕ) → Stepping H files rows i g → (H → Uses files rows i o) → IfSome o (λ m. m < length rows) → o ≡ Some d → i < length g → row ≡ get_or g i row → row'.items ≡ row.items ++ d ∷ [] → g' ≡ set g i row' → Stepping H files rows (i + 1) g'
  stepping_some i d g g' row row' o old uses within some inside read more now = record {
    each = ap length now ∙ (let l : length (set g i row') ≡ length g = length-set g i row' in l) ∙ old.each;
    ahead = λ k v l at. elim (set_at g i k row' v (ap (λ x. slice_get x k) (sym now) ∙ at)) [
      | inl (same, v_is) ↦ absurd (omega (arith, l, same))
      | inr (ne, was) ↦ old.ahead k v (omega (arith, l)) was
    ];
    done = λ k v l at. elim (set_at g i k row' v (ap (λ x. slice_get x k) (sym now) ∙ at)) [
      | inl (same, v_is) ↦
          let was : slice_get g i ≡ Some row = slice_get-get_or g i row inside ∙ ap Some (sym read) in
          record {
            used = Some d;
            are = ap (λ (x : Vec ℕ Global). x.items) v_is ∙ more ∙ ap (λ l. l ++ d ∷ []) (old.ahead i row (omega arith) was ∙ ap (Parts rows) (sym same));
            within = subst (λ (p : Option ℕ). IfSome p (λ m. m < length rows)) some within;
            uses = λ h. subst (λ (n : ℕ). Uses files rows n (Some d)) (sym same) (subst (λ (p : Option ℕ). Uses files rows i p) some (uses h));
          }
      | inr (ne, was) ↦ old.done k v (omega (arith, l, ne)) was
    ];
  }

  part_within : (k b : ℕ) → Contains (Parts rows k) b → b < length rows
  part_within k b c =
      let p = numbers_are (λ j r. is_place k (part_place j r)) 0 rows b c in
      omega (arith, p.3, slice_get_within rows p.0 p.1 p.2)

  used_within : (o : Option ℕ) (b : ℕ) → IfSome o (λ d. d < length rows) → Contains (list_of o) b → b < length rows
  used_within None b w c = absurd (omega (arith, c.1))
  used_within (Some d) b w (zero, l, at) = omega (arith, w, at)
  used_within (Some d) b w (suc j, l, at) = absurd (omega (arith, l))

  item_within : (k b : ℕ) (items : List ℕ) → Taking H files rows k items → Contains items b → b < length rows
  item_within k b items t c = elim (Contains-append_cases (Parts rows k) (list_of t.used) b (subst (λ (l : List ℕ). Contains l b) t.are c)) [
    | inl part ↦ part_within k b part
    | inr used ↦ used_within t.used b t.within used
  ]

  pub stepping_graph : (i : ℕ) (g : Lists) → length rows ≤ i → Stepping H files rows i g → IsGraph g
  stepping_graph i g past all = λ k d h j x l.
      let v : Vec ℕ Global = get_or g k d in
      let t : Taking H files rows k v.items = all.done k v (omega (arith, h, all.each, past)) (slice_get-get_or g k d h) in
      let c : Contains v.items (get_or v.items j x) = (j, l, get_or_default v.items j (get_or v.items j x) x l) in
      let w : get_or v.items j x < length rows = item_within k (get_or v.items j x) v.items t c in
      omega (arith, w, all.each)

  pub stepping_all : (i : ℕ) (g : Lists) → length rows ≤ i → Stepping H files rows i g → H → AreSteps files rows g
  stepping_all i g past all h = record {
    each = all.each;
    takes = λ k v at.
        let t : Taking H files rows k v.items = all.done k v (omega (arith, slice_get_within g k v at, all.each, past)) at in
        (t.used, t.are, t.uses h);
  }
