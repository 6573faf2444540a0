-- What a leafref refers to, found step by step.
use Rattle.std.proofs.Common.{◌≡◌, ◌↔◌, inl, inr, ℕ, zero, suc, ◌+◌, ◌<◌, true, false, List, [], ◌∷◌, ◌++◌, length, refl, sym, ◌∙◌, ap, subst, arith, Option, Some, None}
use Rattle.std.proofs.lemmas.Bool.{cases_lt, false≢true}
use Rattle.std.proofs.lemmas.List.{get_or_append_left}
use Rattle.std.proofs.lemmas.Option.{same_Some, none-some, slice_get_within}
use Rattle.std.specs.List.{slice_get, slice_index_or}
use Rattle.std.specs.Option.{option_and_then}
use Rattle.yv_nodes.specs.Rows.{Row}
use Rattle.yv_node_content.specs.Steps.{Step}
use Rattle.yv_node_leafrefs.specs.Schema.{Referral, Schema}
use Rattle.yv_node_leafrefs.specs.Above.{parent_of}
use Rattle.yv_node_leafrefs.specs.Ways.{Climbs, Begins, Leads}
use Rattle.yv_node_leafrefs.specs.Targets.{IsLeafref, RefersTo, is_fit}
use Rattle.yv_node_leafrefs.specs.InnerOutline.{rows_in, leafrefs_in, schema_in}
use Rattle.yv_node_leafrefs.specs.InnerIndex.{IsDraft}
use Rattle.yv_node_leafrefs.specs.InnerGraph.{AreTargets, IsOne}
use Rattle.yv_node_leafrefs.specs.declared.outline.Outline.{Outline}
use Rattle.yv_node_leafrefs.specs.declared.draft.Draft.{Draft}
use Rattle.yv_node_leafrefs.proofs.ClimbUniqueness.{closest_within}
use Rattle.yv_node_leafrefs.proofs.PathSteps.{means_within}
use Rattle.yv_node_leafrefs.proofs.AncestorPlaces.{last_of, past}

-- a leafref says one thing
same_row : (t : Schema) (n : ℕ) (r s : Row) (p q : Referral) → IsLeafref t n r p → IsLeafref t n s q → r ≡ s
same_row t n r s p q a b = same_Some r s (sym a.at ∙ b.at)

same_ref : (t : Schema) (n : ℕ) (r s : Row) (p q : Referral) → IsLeafref t n r p → IsLeafref t n s q → p ≡ q
same_ref t n r s p q a b = same_Some p q (sym a.says ∙ b.says)

-- the ways of a leafref that says this
abbrev pub Follows : Schema → ℕ → Row → Referral → ℕ → Type 0
Follows t n row ref x = (a : Option ℕ) × Begins t.rows n ref.climbs a × Leads t.rows row.label.module_file ref.steps a (Some x) × (found : Row) × (slice_get t.rows x ≡ Some found) × (is_fit row ref found ≡ true)

pub follows_of : (t : Schema) (n x : ℕ) (row : Row) (ref : Referral) → IsLeafref t n row ref → RefersTo t n x → Follows t n row ref x
follows_of t n x row ref one refers =
    let r : refers.row ≡ row = same_row t n refers.row row refers.ref ref refers.is_leafref one in
    let p : refers.ref ≡ ref = same_ref t n refers.row row refers.ref ref refers.is_leafref one in
    subst (λ (q : Referral). Follows t n row q x) p (subst (λ (s : Row). Follows t n s refers.ref x) r (refers.start, refers.begins, refers.leads, refers.found, refers.at, refers.fit))

pub refers_of : (t : Schema) (n x : ℕ) (row : Row) (ref : Referral) → IsLeafref t n row ref → Follows t n row ref x → RefersTo t n x
refers_of t n x row ref one (a, begins, leads, found, at, fit) = record {
  row = row;
  ref = ref;
  is_leafref = one;
  start = a;
  begins = begins;
  leads = leads;
  found = found;
  at = at;
  fit = fit;
}

-- the places of a way are nodes
climbs_within : (rows : List Row) (k : ℕ) (a b : Option ℕ) (p : ℕ) → ((q : ℕ) → a ≡ Some q → q < length rows) → Climbs rows k a b → b ≡ Some p → p < length rows
climbs_within rows zero a b p known same e = known p (same ∙ e)
climbs_within rows (suc k) None b p known h e = absurd h
climbs_within rows (suc k) (Some c) b p known (x, (r, at, closest), rest) e = climbs_within rows k x b p (λ q f. closest_within rows (parent_of r) x q closest f) rest e

pub begins_within : (rows : List Row) (n : ℕ) (climbs a : Option ℕ) (p : ℕ) → n < length rows → Begins rows n climbs a → a ≡ Some p → p < length rows
begins_within rows n None a p within same e = absurd (none-some p (sym same ∙ e))
begins_within rows n (Some k) a p within h e = climbs_within rows k (Some n) a p (λ q f. subst (λ m. m < length rows) (same_Some n q f) within) h e

pub leads_within : (rows : List Row) (own : ℕ) (steps : List (Option Step)) (a b : Option ℕ) (x : ℕ) → ((q : ℕ) → a ≡ Some q → q < length rows) → Leads rows own steps a b → b ≡ Some x → x < length rows
leads_within rows own [] a b x known same e = known x (same ∙ e)
leads_within rows own (s ∷ ss) a b x known (c, means, rest) e =
    leads_within rows own ss (Some c) b x (λ q f. subst (λ m. m < length rows) (same_Some c q f) (means_within rows own a s c means)) rest e

pub target_within : (t : Schema) (n : ℕ) (row : Row) (climbs a : Option ℕ) (own : ℕ) (steps : List (Option Step)) (x : ℕ) → slice_get t.rows n ≡ Some row → Begins t.rows n climbs a → Leads t.rows own steps a (Some x) → x < length t.rows
target_within t n row climbs a own steps x at begins leads =
    leads_within t.rows own steps a (Some x) x (λ q e. begins_within t.rows n climbs a q (slice_get_within t.rows n row at) begins e) leads refl

module _ (t : Schema) (n : ℕ) (row : Row) (ref : Referral) (one : IsLeafref t n row ref) where
  pub lost_start : (start : Option (Option ℕ)) → ((a : Option ℕ) → (start ≡ Some a) ↔ Begins t.rows n ref.climbs a) → start ≡ None → (x : ℕ) → RefersTo t n x → ⊥
  lost_start start begins none x refers = let f = follows_of t n x row ref one refers in none-some f.0 (sym none ∙ (begins f.0).1 f.1)

  pub lost_walk : (a : Option ℕ) (walk : Option ℕ) → ((b : Option ℕ) → (Some a ≡ Some b) ↔ Begins t.rows n ref.climbs b) → ((y : ℕ) → (walk ≡ Some y) ↔ Leads t.rows row.label.module_file ref.steps a (Some y))
      → walk ≡ None → (x : ℕ) → RefersTo t n x → ⊥
  lost_walk a walk begins leads none x refers =
      let f = follows_of t n x row ref one refers in
      let same : f.0 ≡ a = sym (same_Some a f.0 ((begins f.0).1 f.1)) in
      none-some x (sym none ∙ (leads x).1 (subst (λ (b : Option ℕ). Leads t.rows row.label.module_file ref.steps b (Some x)) same f.2))

  module _ (a : Option ℕ) (y : ℕ) (begins : (b : Option ℕ) → (Some a ≡ Some b) ↔ Begins t.rows n ref.climbs b) (leads : (z : ℕ) → (Some y ≡ Some z) ↔ Leads t.rows row.label.module_file ref.steps a (Some z))
      (found : Row) (at : slice_get t.rows y ≡ Some found) where
    only : (x : ℕ) → RefersTo t n x → (y ≡ x) × (is_fit row ref found ≡ true)
    only x refers =
        let f = follows_of t n x row ref one refers in
        let same : f.0 ≡ a = sym (same_Some a f.0 ((begins f.0).1 f.1)) in
        let node : y ≡ x = same_Some y x ((leads x).1 (subst (λ (b : Option ℕ). Leads t.rows row.label.module_file ref.steps b (Some x)) same f.2)) in
        let row_is : f.3 ≡ found = same_Some f.3 found (sym f.4 ∙ ap (slice_get t.rows) (sym node) ∙ at) in
        (node, subst (λ (r : Row). is_fit row ref r ≡ true) row_is f.5)

    pub fits : is_fit row ref found ≡ true → (x : ℕ) → (Some y ≡ Some x) ↔ RefersTo t n x
    fits fit x = (
      (λ e. subst (λ m. RefersTo t n m) (same_Some y x e) (refers_of t n y row ref one (a, (begins a).0 refl, (leads y).0 refl, found, at, fit))),
      (λ refers. ap Some (only x refers).0),
    )

    pub misfits : is_fit row ref found ≡ false → (x : ℕ) → RefersTo t n x → ⊥
    misfits misfit x refers = false≢true (sym misfit ∙ (only x refers).1)

-- nothing is referred to
pub nothing : (P : ℕ → Type 0) (o : Option ℕ) → o ≡ None → ((x : ℕ) → P x → ⊥) → (x : ℕ) → (o ≡ Some x) ↔ P x
nothing P o none never x = ((λ h. absurd (none-some x (sym none ∙ h))), (λ p. absurd (never x p)))

-- one more target
pub targets_more : (t : Schema) (n : ℕ) (targets new : List (Option ℕ)) (found : Option ℕ) → length targets ≡ n → ((c x : ℕ) → c < n → (slice_index_or targets c None ≡ Some x) ↔ RefersTo t c x)
    → ((x : ℕ) → (found ≡ Some x) ↔ RefersTo t n x) → new ≡ targets ++ found ∷ [] → (c x : ℕ) → c < n + 1 → (slice_index_or new c None ≡ Some x) ↔ RefersTo t c x
targets_more t n targets new found each known now more c x l = elim (cases_lt c n) [
  | inl less ↦
      let same : slice_index_or new c None ≡ slice_index_or targets c None = ap (λ xs. slice_index_or xs c None) more ∙ get_or_append_left targets (found ∷ []) None c (omega (arith, less, each)) in
      rw same (known c x less)
  | inr up ↦
      let last : c ≡ n = omega (arith, up, l) in
      let got : slice_index_or new c None ≡ found = ap (λ xs. slice_index_or xs c None) more ∙ ap (λ k. slice_index_or (targets ++ found ∷ []) k None) (last ∙ sym each) ∙ last_of targets found None in
      rw (got, last) (now x)
]

pub targets_all : (t : Schema) (targets : List (Option ℕ)) → length targets ≡ length t.rows → ((c x : ℕ) → c < length t.rows → (slice_index_or targets c None ≡ Some x) ↔ RefersTo t c x) → AreTargets t targets
targets_all t targets each known c x = elim (cases_lt c (length t.rows)) [
  | inl less ↦ known c x less
  | inr up ↦ nothing (RefersTo t c) (slice_index_or targets c None) (past targets c None (omega (arith, up, each))) (λ y refers. absurd (let w : c < length t.rows = slice_get_within t.rows c refers.row refers.is_leafref.at in omega (arith, w, up))) x
]

pub got : {A : Type 0} (xs : List A) (k : ℕ) → k < length xs → (x : A) × (slice_get xs k ≡ Some x)
got [] k l = absurd (omega (arith, l))
got (x ∷ xs) zero l = (x, refl)
got (x ∷ xs) (suc k) l = got xs k (omega (arith, l))

-- a node outside operations is a leafref exactly where it says something
pub one_exactly : (o : Outline) (d : Draft) (n k : ℕ) (r : Row) → IsDraft o d → slice_get (rows_in o) n ≡ Some r → slice_index_or d.inside.items n false ≡ false → slice_index_or o.of.now n None ≡ Some k
    → ((k < length (leafrefs_in o)) → IsOne (schema_in o) n) × (IsOne (schema_in o) n → k < length (leafrefs_in o))
one_exactly o d n k r draft at outside says = (
  (λ l.
      let both = got (leafrefs_in o) k l in (
        r,
        both.0,
        record {
          at = at;
          says = ap (option_and_then (slice_get (leafrefs_in o))) says ∙ both.1;
          outside = λ i. false≢true (sym outside ∙ (draft.inside n (slice_get_within (rows_in o) n r at)).1 i);
        },
      )),
  (λ (row, ref, one).
      slice_get_within (leafrefs_in o) k ref (sym (ap (option_and_then (slice_get (leafrefs_in o))) says) ∙ one.says)),
)

-- none but leafrefs refer
pub one_of : (s : Schema) (n x : ℕ) → RefersTo s n x → IsOne s n
one_of s n x refers = (refers.row, refers.ref, refers.is_leafref)
