-- A type leads to one built-in type, and has one count.
use Rattle.std.proofs.Common.{◌≡◌, ℕ, ◌+◌, inl, inr, List, [], ◌∷◌, refl, sym, ◌∙◌, ap, subst, arith, Option, Some, codes, true}
use Rattle.std.specs.List.{slice_get}
use Rattle.std.proofs.lemmas.Bool.{false≢true}
use Rattle.std.proofs.lemmas.Option.{same_Some}
use Rattle.yv_link_scopes.specs.Files.{Briefs}
use Rattle.yv_link_scopes.specs.Rows.{Row, name_in}
use Rattle.yv_link_scopes.specs.Scopes.{MeansIn}
use Rattle.yv_link_scopes.specs.declared.kind.NameKind.{NameKind}
use Rattle.yv_link_scopes.specs.declared.kind.NameKind.TheVariants.{Typedef}
use Rattle.yv_type_chains.specs.Types.{Follows, HasBase, built_in, through_typedef, type_of, is_leafref, is_union}
use Rattle.yv_type_chains.specs.Counts.{Counts, CountAll}
use Rattle.yv_type_chains.specs.Counts.{leafref, union, plain, none, more}
use Rattle.yv_type_chains.specs.Counts as counts
use Rattle.std.specs.Str.{bytes_eq}
use Rattle.yv_link_definitions.specs.Refers.{is_type}
use Rattle.yv_type_chains.proofs.Words.{both_true}
use Rattle.yv_type_chains.proofs.TypeOrder.{union_built_in}
use Rattle.yv_type_chains.proofs.PlainTypeCounts.{leafref_built_in, one_kind, shape}
use Rattle.yv_type_chains.proofs.TypeBases.{apart, base_by}

abbrev pub MeansOne : Type 0
MeansOne = (files : Briefs) (rows : List Row) (kind : NameKind) (number : ℕ) (name : List ℕ) (d e : Option ℕ) → MeansIn files rows kind number name d → MeansIn files rows kind number name e → d ≡ e

module _ (one : MeansOne) (files : Briefs) (rows : List Row) where
  pub follows_once : (k i j : ℕ) → Follows files rows k i → Follows files rows k j → i ≡ j
  follows_once k i j f g =
      let row : f.refers.statement ≡ g.refers.statement = same_Some f.refers.statement g.refers.statement (sym f.refers.at ∙ g.refers.at) in
      let means : MeansIn files rows Typedef k (name_in g.refers.statement) (Some f.definition) = subst (λ (x : Row). MeansIn files rows Typedef k (name_in x) (Some f.definition)) row f.refers.means in
      let same : f.definition ≡ g.definition = same_Some f.definition g.definition (one files rows Typedef k (name_in g.refers.statement) (Some f.definition) (Some g.definition) means g.refers.means) in
      same_Some i j (sym f.stands ∙ ap (type_of rows) same ∙ g.stands)

  pub base_once : {k b : ℕ} (c : ℕ) → HasBase files rows k b → HasBase files rows k c → b ≡ c
  base_once {k} c (built_in {r = r} here is named) h = elim (base_by files rows h) [
    | inl p ↦ p.1
    | inr q ↦ absurd (apart files rows k q.0 (record { statement = r; at = here; is = is; named = named }) q.1)
  ]
  base_once {k} c (through_typedef {j = j} f rest) h = elim (base_by files rows h) [
    | inl p ↦ absurd (apart files rows k j p.0 f)
    | inr q ↦ base_once c rest (subst (λ i. HasBase files rows i c) (follows_once k q.0 j q.1 f) q.2)
  ]

  all_by : {m : ℕ} {ms : List ℕ} {n : ℕ} → CountAll files rows (m ∷ ms) n → (a b : ℕ) × Counts files rows m a × CountAll files rows ms b × (n ≡ a + b)
  all_by (more {a = a} {b = b} one rest e) = (a, b, one, rest, e)

  none_by : {n : ℕ} → CountAll files rows [] n → 0 ≡ n
  none_by none = refl

  leafref_apart : (k j : ℕ) (r : Row) → slice_get rows k ≡ Some r → is_leafref r ≡ true → Follows files rows k j → ⊥
  leafref_apart k j r here is f = apart files rows k j (record { statement = r; at = here; is = (both_true (is_type r) (bytes_eq (name_in r) (codes "leafref")) is).0; named = leafref_built_in r is }) f

  union_apart : (k j : ℕ) (r : Row) → slice_get rows k ≡ Some r → is_union r ≡ true → Follows files rows k j → ⊥
  union_apart k j r here is f = apart files rows k j (record { statement = r; at = here; is = (both_true (is_type r) (bytes_eq (name_in r) (codes "union")) is).0; named = union_built_in r is }) f

  mutual
    pub count_once : {k m : ℕ} (n : ℕ) → Counts files rows k m → Counts files rows k n → m ≡ n
    count_once {k} n (leafref {r = r} here is) h = elim (shape files rows r here h) [
      | inl p ↦ sym p.1
      | inr (inl p) ↦ absurd (one_kind r is p.0)
      | inr (inr (inl p)) ↦ absurd (false≢true (sym p.0 ∙ is))
      | inr (inr (inr p)) ↦ absurd (leafref_apart k p.0 r here is p.1)
    ]
    count_once {k} n (union {r = r} here is all) h = elim (shape files rows r here h) [
      | inl p ↦ absurd (one_kind r p.0 is)
      | inr (inl p) ↦ all_once n all p.1
      | inr (inr (inl p)) ↦ absurd (false≢true (sym p.1 ∙ is))
      | inr (inr (inr p)) ↦ absurd (union_apart k p.0 r here is p.1)
    ]
    count_once {k} n (plain {r = r} here is named out off) h = elim (shape files rows r here h) [
      | inl p ↦ absurd (false≢true (sym out ∙ p.0))
      | inr (inl p) ↦ absurd (false≢true (sym off ∙ p.0))
      | inr (inr (inl p)) ↦ sym p.3
      | inr (inr (inr p)) ↦ absurd (apart files rows k p.0 (record { statement = r; at = here; is = is; named = named }) p.1)
    ]
    count_once {k} n (counts.through_typedef {j = j} f rest) h = elim (shape files rows f.refers.statement f.refers.at h) [
      | inl p ↦ absurd (leafref_apart k j f.refers.statement f.refers.at p.0 f)
      | inr (inl p) ↦ absurd (union_apart k j f.refers.statement f.refers.at p.0 f)
      | inr (inr (inl p)) ↦ absurd (apart files rows k j p.2 f)
      | inr (inr (inr p)) ↦ count_once n rest (subst (λ i. Counts files rows i n) (follows_once k p.0 j p.1 f) p.2)
    ]

    all_once : {ms : List ℕ} {m : ℕ} (n : ℕ) → CountAll files rows ms m → CountAll files rows ms n → m ≡ n
    all_once n none h = none_by h
    all_once n (more {a = a} {b = b} {n = m} one rest e) h =
        let p = all_by h in
        let q : a ≡ p.0 = count_once p.0 one p.2 in
        let s : b ≡ p.1 = all_once p.1 rest p.3 in
        let t = p.4 in
        omega (arith, e, q, s, t)
