-- What is kept of numbers, one after the other.
use Rattle.std.proofs.Common.{◌≡◌, ◌==◌, ℕ, ◌+◌, Bool, true, false, cond, List, [], ◌∷◌, length, Option, Some, None, refl, sym, ap, ◌∙◌, subst, arith, inl, inr, map, is_some, IfSome, Vec, Global}
use Rattle.std.proofs.lemmas.Bool.{cases_lt}
use Rattle.std.proofs.lemmas.Option.{same_Some}
use Rattle.std.proofs.lemmas.Bool.Decides.{nat_tests}
use Rattle.std.specs.List.{slice_get}
use Rattle.std.specs.Vec.{vec_len}
use Rattle.std.specs.Ordering.{nat_cmp}
use Rattle.std.specs.BTreeMap.{BTreeMap, UpdatesBy, get_by}
use Rattle.yv_nodes.specs.declared.node.NodeId.{NodeId}
use Rattle.yv_nodes.specs.Rows.{Row}
use Rattle.yv_node_keys.specs.Numbers.{key_leaf_at, unique_leaf_at}
use Rattle.yv_nodes.specs.InnerSpots.{node_id}
use Rattle.yv_node_keys.specs.InnerTargets.{AreLeafsOf, HasLeafs, IsKeptUpTo, IsRight}
use Rattle.yv_node_keys.specs.declared.targets.ListLeafs.{ListLeafs}
use Rattle.yv_node_keys.proofs.NamedChildren.{module_file_is}

equal : (n k : ℕ) → n ≡ k → (n == k) ≡ true
equal n k e = grind (arith, nat_tests, e)

unequal : (n k : ℕ) → (n ≡ k → ⊥) → (n == k) ≡ false
unequal n k e = grind (arith, nat_tests, e)

module _ {V : Type 0} (at : ℕ → Option V) (Holds : ℕ → Option V → Type 0) (n : ℕ) (kept : IsKeptUpTo at Holds n) where
  -- one number more
  pub kept_more : (new : ℕ → Option V) (w : Option V) → ((k : ℕ) → new k ≡ cond (n == k) w (at k)) → Holds n w → IsKeptUpTo new Holds (n + 1)
  kept_more new w is here = record {
    before = λ k lt. elim (cases_lt k n) [
      | inl less ↦
          let other : new k ≡ at k = is k ∙ ap (λ (b : Bool). cond b w (at k)) (unequal n k (λ e. omega (arith, e, less))) in
          subst (Holds k) (sym other) (kept.before k less)
      | inr more ↦
          let same : n ≡ k = omega (arith, lt, more) in
          let own : new k ≡ w = is k ∙ ap (λ (b : Bool). cond b w (at k)) (equal n k same) in
          subst (Holds k) (sym own) (subst (λ (m : ℕ). Holds m w) same here)
    ];
    behind = λ k le. is k ∙ ap (λ (b : Bool). cond b w (at k)) (unequal n k (λ e. omega (arith, e, le))) ∙ kept.behind k (omega (arith, le));
  }

  -- one number more of which nothing is kept
  pub kept_none : Holds n None → IsKeptUpTo at Holds (n + 1)
  kept_none here = record {
    before = λ k lt. elim (cases_lt k n) [
      | inl less ↦ kept.before k less
      | inr more ↦
          let same : n ≡ k = omega (arith, lt, more) in
          subst (λ (o : Option V). Holds k o) (sym (kept.behind k (omega (arith, same)))) (subst (λ (m : ℕ). Holds m None) same here)
    ];
    behind = λ k le. kept.behind k (omega (arith, le));
  }

-- one more that is right
pub right_more : {V : Type 0} (at new : ℕ → Option V) (Holds : ℕ → Option V → Type 0) (n : ℕ) (v : V) → ((k : ℕ) → new k ≡ cond (n == k) (Some v) (at k)) → Holds n (Some v)
    → IsRight at Holds → IsRight new Holds
right_more {V} at new Holds n v is here right k w found = by (n == k) refl
  where
    by : (b : Bool) → (n == k) ≡ b → Holds k (Some w)
    by true e =
        let same : n ≡ k = grind (arith, nat_tests, e) in
        let own : Some v ≡ Some w = sym (is k ∙ ap (λ (b : Bool). cond b (Some v) (at k)) e) ∙ found in
        subst (λ (x : V). Holds k (Some x)) (same_Some v w own) (subst (λ (m : ℕ). Holds m (Some v)) same here)
    by false e = right k w (sym (is k ∙ ap (λ (b : Bool). cond b (Some v) (at k)) e) ∙ found)

-- what a map has where a number was added
pub put_number : {V : Type 0} (old new : BTreeMap ℕ V) (n : ℕ) (v : V) → UpdatesBy nat_cmp (nat_cmp n) old new (Some v) → (k : ℕ) → get_by (nat_cmp k) new ≡ cond (n == k) (Some v) (get_by (nat_cmp k) old)
put_number old new n v u k = u.0 k ∙ ap (λ (b : Bool). cond b (Some v) (get_by (nat_cmp k) old)) (module_file_is n k)

-- a list that names no leaf needs nothing kept
pub empty_leafs : (rows : List Row) (k : ℕ) (leafs : ListLeafs) → leafs.keys.items ≡ [] → leafs.uniques.items ≡ [] → HasLeafs rows k (Some leafs) → HasLeafs rows k None
empty_leafs rows k leafs no_keys no_uniques h = λ r at. record {
  keys = ap (map (λ (n : NodeId). Some n)) (sym no_keys) ∙ (h r at).keys;
  uniques = ap (map (λ (ns : Vec NodeId Global). map (λ (n : NodeId). Some n) ns.items)) (sym no_uniques) ∙ (h r at).uniques;
}

no_items : {A : Type 0} (xs : List A) → length xs ≡ 0 → xs ≡ []
no_items [] e = refl
no_items (x ∷ xs) e = absurd (omega (arith, e))

pub none_there : {A : Type 0} (v : Vec A Global) → (vec_len v == 0) ≡ true → v.items ≡ []
none_there v e = let zero : vec_len v ≡ 0 = grind (arith, nat_tests, e) in no_items v.items (omega (arith, v.ok, zero))

-- a list of which both are there
pub record IsBoth (rows : List Row) (k : ℕ) (keys : Option (Vec NodeId Global)) (uniques : Option (Vec (Vec NodeId Global) Global)) : Type 0 where
  pub key_leafs : Vec NodeId Global
  pub unique_leafs : Vec (Vec NodeId Global) Global
  pub keys_are : keys ≡ Some key_leafs
  pub uniques_are : uniques ≡ Some unique_leafs
  pub has : HasLeafs rows k (Some (record { keys = key_leafs; uniques = unique_leafs }))

module _ (rows : List Row) (k : ℕ) (r : Row) (at : slice_get rows k ≡ Some r) where
  pub both : (keys : Option (Vec NodeId Global)) (uniques : Option (Vec (Vec NodeId Global) Global)) → is_some keys ≡ true → is_some uniques ≡ true
      → IfSome keys (λ ns. map (λ n. Some n) ns.items ≡ map (key_leaf_at rows (node_id k)) r.label.defined.keys)
      → IfSome uniques (λ found. map (λ ns. map (λ n. Some n) ns.items) found.items ≡ map (map (unique_leaf_at rows (node_id k))) r.label.defined.uniques)
      → IsBoth rows k keys uniques
  both None uniques a b p q = absurd (let bad : false ≡ true = a in cc)
  both (Some ks) None a b p q = absurd (let bad : false ≡ true = b in cc)
  both (Some ks) (Some us) a b p q = record {
    key_leafs = ks;
    unique_leafs = us;
    keys_are = refl;
    uniques_are = refl;
    has = λ s here. subst (λ (t : Row). AreLeafsOf rows k t (Some (record { keys = ks; uniques = us }))) (same_Some r s (sym at ∙ here)) (record { keys = p; uniques = q });
  }
