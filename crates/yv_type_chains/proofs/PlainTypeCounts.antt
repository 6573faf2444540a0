-- How many plain types the values of a type may have.
use Rattle.std.proofs.Common.{◌≡◌, ℕ, ◌+◌, ◌⊎◌, inl, inr, suc, true, false, List, [], ◌∷◌, refl, sym, ◌∙◌, ap, subst, arith, Option, Some, None, codes}
use Rattle.std.specs.List.{slice_get, Contains}
use Rattle.std.specs.Option.{option_and_then}
use Rattle.std.proofs.lemmas.Bool.{false≢true}
use Rattle.std.proofs.lemmas.Option.{same_Some}
use Rattle.yv_link_scopes.specs.Files.{Briefs}
use Rattle.yv_link_scopes.specs.Rows.{Row, name_in}
use Rattle.yv_type_chains.specs.Types.{Follows, IsTypeAt, RestsOn, is_leafref, is_union, types_in}
use Rattle.yv_type_chains.specs.Counts.{Counts, CountAll, leafref, union, plain, through_typedef, none, more}
use Rattle.yv_type_chains.specs.InnerBase.{NamesBuiltIn}
use Rattle.yv_type_chains.specs.InnerCounts.{IsCount, cap, total_from}
use Rattle.yv_base_tables.specs.Slots.{at}
use Rattle.yv_type_chains.specs.InnerTables.{AreFollowed}
use Rattle.yv_link_definitions.specs.BuiltIn.{is_built_in}
use Rattle.yv_link_definitions.specs.Refers.{is_type}
use Rattle.std.specs.Str.{bytes_eq}
use Rattle.std.proofs.lemmas.Slice.Eq.{bytes_eq-Decides}
use Rattle.yv_type_chains.proofs.Words.{both_true}
use Rattle.yv_type_chains.proofs.Blocks.{type_in}
use Rattle.yv_type_chains.proofs.TypeBases.{apart, no_number}
use Rattle.yv_type_chains.proofs.FollowedTypes.{names_type}
use Rattle.yv_type_chains.proofs.TypeOrder.{union_built_in}

pub leafref_built_in : (r : Row) → is_leafref r ≡ true → is_built_in (name_in r) ≡ true
unfolding is_built_in
leafref_built_in r h = rw ((bytes_eq-Decides (name_in r) (codes "leafref")).0 (both_true (is_type r) (bytes_eq (name_in r) (codes "leafref")) h).1) refl

leafref_union : codes "leafref" ≡ codes "union" → ⊥
leafref_union e = false≢true (ap (λ word. bytes_eq word (codes "union")) e)

-- no type is both
pub one_kind : (r : Row) → is_leafref r ≡ true → is_union r ≡ true → ⊥
one_kind r h g =
    leafref_union (sym ((bytes_eq-Decides (name_in r) (codes "leafref")).0 (both_true (is_type r) (bytes_eq (name_in r) (codes "leafref")) h).1)
    ∙ (bytes_eq-Decides (name_in r) (codes "union")).0 (both_true (is_type r) (bytes_eq (name_in r) (codes "union")) g).1)

module _ (files : Briefs) (rows : List Row) where
  pub count_type : {k n : ℕ} → Counts files rows k n → IsTypeAt rows k
  count_type {k} (leafref {r = r} here is) = (r, here, (both_true (is_type r) (bytes_eq (name_in r) (codes "leafref")) is).0)
  count_type {k} (union {r = r} here is all) = (r, here, (both_true (is_type r) (bytes_eq (name_in r) (codes "union")) is).0)
  count_type {k} (plain {r = r} here is named out apart) = (r, here, is)
  count_type {k} (through_typedef {j = j} f h) = (f.refers.statement, f.refers.at, (names_type files rows k f.definition f.refers.statement f.refers.at f.refers).0)

  behind_head : (m j : ℕ) (ms : List ℕ) → Contains ms j → Contains (m ∷ ms) j
  behind_head m j ms c = (suc c.0, let l = c.1 in omega (arith, l), c.2)

  head_in : (m : ℕ) (ms : List ℕ) → Contains (m ∷ ms) m
  head_in m ms = (0, omega arith, refl)

  -- the sum of capped counts is the capped sum of counts
  cap_twice : (t a c : ℕ) → c ≡ cap a → cap (cap t + c) ≡ cap (t + a)
  cap_twice t a c e = omega (arith, e)

  cap_more : (t a b n : ℕ) → n ≡ a + b → cap (t + a + b) ≡ cap (t + n)
  cap_more t a b n e = omega (arith, e)

  -- what is summed up is the members' sum
  total_exists : (counts : List (Option ℕ)) (t : ℕ) (ms : List ℕ) (c : ℕ) → ((j : ℕ) → Contains ms j → IsCount files rows j (at counts j)) → total_from counts (cap t) ms ≡ Some c → (n : ℕ) × CountAll files rows ms n × (c ≡ cap (t + n))
  total_exists counts t [] c known e = (0, none, sym (same_Some (cap t) c e) ∙ omega arith)
  total_exists counts t (m ∷ ms) c known e = by (at counts m) (known m (head_in m ms)) (λ s h. total_exists counts s ms c (λ j i. known j (behind_head m j ms i)) h) e
    where
      by : (o : Option ℕ) → IsCount files rows m o → ((s : ℕ) → total_from counts (cap s) ms ≡ Some c → (n : ℕ) × CountAll files rows ms n × (c ≡ cap (s + n))) → option_and_then (λ count. total_from counts (cap (cap t + count)) ms) o ≡ Some c → (n : ℕ) × CountAll files rows (m ∷ ms) n × (c ≡ cap (t + n))
      by None k others h = absurd (let bad : None ≡ Some c = h in cc)
      by (Some x) k others h =
          let one = k.exists x refl in
          let rest = others (t + one.0) (ap (λ s. total_from counts s ms) (sym (cap_twice t one.0 x one.2)) ∙ h) in
          (one.0 + rest.0, more one.1 rest.1 refl, rest.2 ∙ cap_more t one.0 rest.0 (one.0 + rest.0) refl)

  total_all : (counts : List (Option ℕ)) (t : ℕ) {ms : List ℕ} {n : ℕ} → ((j : ℕ) → Contains ms j → IsCount files rows j (at counts j)) → CountAll files rows ms n → total_from counts (cap t) ms ≡ Some (cap (t + n))
  total_all counts t known none = ap Some (omega arith)
  total_all counts t known (more {m = m} {a = a} {b = b} {n = n} {ms = ms} one rest e) =
      ap (λ o. option_and_then (λ count. total_from counts (cap (cap t + count)) ms) o) ((known m (head_in m ms)).all a one)
      ∙ ap (λ s. total_from counts s ms) (cap_twice t a (cap a) refl)
      ∙ total_all counts (t + a) (λ j i. known j (behind_head m j ms i)) rest
      ∙ ap Some (cap_more t a b n e)

  -- how a type has its count
  abbrev pub Shape : ℕ → ℕ → Row → Type 0
  Shape k n r = ((is_leafref r ≡ true) × (n ≡ 0))
      ⊎ (((is_union r ≡ true) × CountAll files rows (types_in rows k) n)
      ⊎ (((is_leafref r ≡ false) × (is_union r ≡ false) × NamesBuiltIn rows k × (n ≡ 1))
      ⊎ ((j : ℕ) × Follows files rows k j × Counts files rows j n)))

  pub shape : {k n : ℕ} (r : Row) → slice_get rows k ≡ Some r → Counts files rows k n → Shape k n r
  shape r at (leafref {r = q} here is) = inl (ap is_leafref (same_Some r q (sym at ∙ here)) ∙ is, refl)
  shape r at (union {r = q} here is all) = inr (inl (ap is_union (same_Some r q (sym at ∙ here)) ∙ is, all))
  shape r at (plain {r = q} here is named out off) =
      let same : r ≡ q = same_Some r q (sym at ∙ here) in
      inr (inr (inl (ap is_leafref same ∙ out, ap is_union same ∙ off, record { statement = q; at = here; is = is; named = named }, refl)))
  shape r at (through_typedef {j = j} f h) = inr (inr (inr (j, f, h)))

  module _ (k : ℕ) (r : Row) (here : slice_get rows k ≡ Some r) where
    built : is_type r ≡ true → is_built_in (name_in r) ≡ true → NamesBuiltIn rows k
    built is named = record { statement = r; at = here; is = is; named = named }

    pub count_leafref : is_leafref r ≡ true → IsCount files rows k (Some 0)
    count_leafref is = record {
      exists = λ c e. (0, leafref here is, let z : 0 ≡ c = same_Some 0 c e in omega (arith, z));
      all = λ n h. elim (shape r here h) [
        | inl p ↦ ap Some (let z = p.1 in omega (arith, z))
        | inr (inl p) ↦ absurd (one_kind r is p.0)
        | inr (inr (inl p)) ↦ absurd (false≢true (sym p.0 ∙ is))
        | inr (inr (inr p)) ↦ absurd (apart files rows k p.0 (built (both_true (is_type r) (bytes_eq (name_in r) (codes "leafref")) is).0 (leafref_built_in r is)) p.1)
      ];
    }

    pub count_union : (counts : List (Option ℕ)) (o : Option ℕ) → is_union r ≡ true → o ≡ total_from counts 0 (types_in rows k) → ((j : ℕ) → RestsOn files rows k j → IsCount files rows j (at counts j)) → IsCount files rows k o
    count_union counts o is e known = record {
      exists = λ c h. let p = total_exists counts 0 (types_in rows k) c members (sym e ∙ h) in (p.0, union here is p.1, p.2 ∙ (let z = p.0 in omega arith));
      all = λ n h. elim (shape r here h) [
        | inl p ↦ absurd (one_kind r p.0 is)
        | inr (inl p) ↦ e ∙ total_all counts 0 members p.1 ∙ ap Some (omega arith)
        | inr (inr (inl p)) ↦ absurd (false≢true (sym p.1 ∙ is))
        | inr (inr (inr p)) ↦ absurd (apart files rows k p.0 (built (both_true (is_type r) (bytes_eq (name_in r) (codes "union")) is).0 (union_built_in r is)) p.1)
      ];
    }
      where
        members : (j : ℕ) → Contains (types_in rows k) j → IsCount files rows j (at counts j)
        members j c =
            let p = type_in k rows j c in
            known j (inr (record { outer = r; at = here; is = is; member = p.0; member_at = p.1; member_is = p.2 }))

    module _ (out : is_leafref r ≡ false) (off : is_union r ≡ false) where
      pub count_plain : NamesBuiltIn rows k → IsCount files rows k (Some 1)
      count_plain b =
          let same : b.statement ≡ r = same_Some b.statement r (sym b.at ∙ here) in
          record {
            exists = λ c e. (1, plain here (ap is_type (sym same) ∙ b.is) (ap (λ (x : Row). is_built_in (name_in x)) (sym same) ∙ b.named) out off, let z : 1 ≡ c = same_Some 1 c e in omega (arith, z));
            all = λ n h. elim (shape r here h) [
              | inl p ↦ absurd (false≢true (sym out ∙ p.0))
              | inr (inl p) ↦ absurd (false≢true (sym off ∙ p.0))
              | inr (inr (inl p)) ↦ ap Some (let z = p.3 in omega (arith, z))
              | inr (inr (inr p)) ↦ absurd (apart files rows k p.0 b p.1)
            ];
          }

      module _ (follows : List (Option ℕ)) (told : AreFollowed files rows follows) (not_built : NamesBuiltIn rows k → ⊥) where
        pub count_along : (counts : List (Option ℕ)) (j : ℕ) (o : Option ℕ) → at follows k ≡ Some j → o ≡ at counts j → ((j : ℕ) → RestsOn files rows k j → IsCount files rows j (at counts j)) → IsCount files rows k o
        count_along counts j o is e known =
            let f : Follows files rows k j = (told k j).0 is in
            let own : IsCount files rows j (at counts j) = known j (inl f) in
            record {
              exists = λ c h. let p = own.exists c (sym e ∙ h) in (p.0, through_typedef f p.1, p.2);
              all = λ n h. elim (shape r here h) [
                | inl p ↦ absurd (false≢true (sym out ∙ p.0))
                | inr (inl p) ↦ absurd (false≢true (sym off ∙ p.0))
                | inr (inr (inl p)) ↦ absurd (not_built p.2)
                | inr (inr (inr p)) ↦
                    let same : p.0 ≡ j = same_Some p.0 j (sym ((told k p.0).1 p.1) ∙ is) in
                    e ∙ own.all n (subst (λ i. Counts files rows i n) same p.2)
              ];
            }

        pub count_none : at follows k ≡ None → IsCount files rows k None
        count_none is = record {
          exists = λ c h. absurd (no_number c h);
          all = λ n h. elim (shape r here h) [
            | inl p ↦ absurd (false≢true (sym out ∙ p.0))
            | inr (inl p) ↦ absurd (false≢true (sym off ∙ p.0))
            | inr (inr (inl p)) ↦ absurd (not_built p.2)
            | inr (inr (inr p)) ↦ absurd (no_number p.0 (sym is ∙ (told k p.0).1 p.1))
          ];
        }
