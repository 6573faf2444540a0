-- One step of a path.
use Rattle.std.proofs.Common.{◌≡◌, ◌↔◌, ℕ, zero, suc, ◌+◌, ◌<◌, ◌≤◌, List, [], ◌∷◌, map, drop, length, refl, sym, ◌∙◌, subst, arith, Option, Some, None}
use Rattle.std.proofs.lemmas.Option.{same_Some, none-some, slice_get_within}
use Rattle.std.specs.List.{slice_get}
use Rattle.yv_node_content.specs.Steps.{Step}
use Rattle.yv_nodes.specs.Rows.{Row}
use Rattle.yv_node_leafrefs.specs.Ways.{Means, Leads}
use Rattle.yv_node_leafrefs.specs.InnerNames.{NameNumbers, stride_of}
use Rattle.yv_node_leafrefs.specs.InnerIndex.{Table, Finds, target_of_stride}
use Rattle.yv_node_leafrefs.specs.declared.strides.Stride.{Stride}

step_at : (told : NameNumbers) (strides : List (Option Stride)) (steps : List (Option Step)) (i : ℕ) (t : Option Stride) → strides ≡ map (stride_of told) steps → slice_get strides i ≡ Some t
    → (s : Option Step) × (drop i steps ≡ s ∷ drop (i + 1) steps) × (t ≡ stride_of told s)
step_at told [] steps i t same at = absurd (none-some t at)
step_at told (x ∷ xs) [] i t same at = absurd (let bad : x ∷ xs ≡ [] = same in cc)
step_at told (x ∷ xs) (s ∷ ss) zero t same at = (s, refl, (let e : x ≡ stride_of told s = (let h : x ∷ xs ≡ stride_of told s ∷ map (stride_of told) ss = same in cc) in sym (same_Some x t at) ∙ e))
step_at told (x ∷ xs) (s ∷ ss) (suc i) t same at =
    let rest = step_at told xs ss i t (let h : x ∷ xs ≡ stride_of told s ∷ map (stride_of told) ss = same in cc) at in
    (rest.0, rw (let e : suc i + 1 ≡ suc (i + 1) = omega arith in e) rest.1, rest.2)

drop_past : {A : Type 0} (xs : List A) (i : ℕ) → length xs ≤ i → drop i xs ≡ []
drop_past [] zero l = refl
drop_past [] (suc i) l = refl
drop_past (y ∷ ys) zero l = absurd (omega (arith, l))
drop_past (y ∷ ys) (suc i) l = drop_past ys i (omega (arith, l))

module _ (rows : List Row) (told : NameNumbers) (table : Table) (finds : Finds rows told table) (own : ℕ) (strides : List (Option Stride)) (steps : List (Option Step)) (same : strides ≡ map (stride_of told) steps)
    (i : ℕ) (t : Option Stride) (at : slice_get strides i ≡ Some t) (a b : Option ℕ) where
  -- where a step means a node, the path leads on from there; where it means none, the path leads
  -- nowhere
  pub leads_next : (n : ℕ) → target_of_stride table own a t ≡ Some n → Leads rows own (drop i steps) a b ↔ Leads rows own (drop (i + 1) steps) (Some n) b
  leads_next n is =
      let here = step_at told strides steps i t same at in
      let means : (c : ℕ) → (target_of_stride table own a t ≡ Some c) ↔ Means rows own a here.0 c = subst (λ (z : Option Stride). (c : ℕ) → (target_of_stride table own a z ≡ Some c) ↔ Means rows own a here.0 c) (sym here.2) (finds own a here.0) in
      rw here.1 (
        (λ (c, mean, rest). let node : c ≡ n = same_Some c n (sym ((means c).1 mean) ∙ is) in subst (λ k. Leads rows own (drop (i + 1) steps) (Some k) b) node rest),
        (λ rest. (n, (means n).0 is, rest)),
      )

  pub leads_nowhere : target_of_stride table own a t ≡ None → Leads rows own (drop i steps) a b → ⊥
  leads_nowhere none =
      let here = step_at told strides steps i t same at in
      let means : (c : ℕ) → (target_of_stride table own a t ≡ Some c) ↔ Means rows own a here.0 c = subst (λ (z : Option Stride). (c : ℕ) → (target_of_stride table own a z ≡ Some c) ↔ Means rows own a here.0 c) (sym here.2) (finds own a here.0) in
      rw here.1 (λ (c, mean, rest). none-some c (sym none ∙ (means c).1 mean))

pub leads_done : (rows : List Row) (own : ℕ) (steps : List (Option Step)) (i : ℕ) (a b : Option ℕ) → length steps ≤ i → Leads rows own (drop i steps) a b ↔ (a ≡ b)
leads_done rows own steps i a b l = rw (drop_past steps i l) ((λ h. h), (λ h. h))

pub means_within : (rows : List Row) (own : ℕ) (a : Option ℕ) (s : Option Step) (c : ℕ) → Means rows own a s c → c < length rows
means_within rows own a None c h = absurd h
means_within rows own a (Some s) c (child, least) = slice_get_within rows c child.row child.at
