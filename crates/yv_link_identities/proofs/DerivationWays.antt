-- Derivation, and ways in the graph of the bases.
use Rattle.std.proofs.Common.{◌≡◌, ℕ, ◌+◌, ◌<◌, inl, inr, suc, Bool, true, false, ◌&&◌, cond, List, [], ◌∷◌, refl, sym, ◌∙◌, ap, subst, arith, Option, Some, None}
use Rattle.std.proofs.lemmas.Bool.{cases_Bool}
use Rattle.std.proofs.lemmas.Option.{same_Some}
use Rattle.std.specs.List.{slice_get, position_from}
use Rattle.std.specs.Option.{option_and_then}
use Rattle.yv_link_scopes.specs.Names.{local_of, first_where}
use Rattle.yv_link_scopes.specs.Files.{Briefs, has_word}
use Rattle.yv_link_scopes.specs.Rows.{Row, name_in}
use Rattle.yv_link_scopes.specs.Tables.{Table, first_of, word_of, is_same, place_of_kind}
use Rattle.yv_link_scopes.specs.Scopes.{block_of}
use Rattle.yv_link_scopes.specs.declared.kind.NameKind.TheVariants.{Identity}
use Rattle.yv_base_graph.specs.Graph.{Graph, LeadsTo, by_edge, by_way, AreOnCycles}
use Rattle.yv_link_identities.specs.Names.{is_identity, meaning_of, identity_meant, HasBase}
use Rattle.yv_link_identities.specs.Derivation.{IsDerivedFrom, directly, further}
use Rattle.yv_link_identities.specs.InnerIdentityNumbers.{is_identity_at, number_at, count_of}
use Rattle.yv_link_identities.specs.InnerPairs.{AreBases, AreIdentityCycles}
use Rattle.yv_link_identities.proofs.Numbering.{identity_at, number_of_row}

-- what stands at the place that is found
pub found_at : {X : Type 0} (p : X → Bool) (k d : ℕ) (xs : List X) → position_from p k xs ≡ Some d → (x : X) × (i : ℕ) × (d ≡ k + i) × (slice_get xs i ≡ Some x) × (p x ≡ true)
found_at p k d [] h = cc
found_at {X} p k d (x ∷ xs) h = elim (cases_Bool (p x)) [
  | inl t ↦ let e : Some k ≡ Some d = ap (λ b. cond b (Some k) (position_from p (k + 1) xs)) (sym t) ∙ h in (x, 0, omega (arith, same_Some k d e), refl, t)
  | inr f ↦
      let e : position_from p (k + 1) xs ≡ Some d = ap (λ b. cond b (Some k) (position_from p (k + 1) xs)) (sym f) ∙ h in
      let r = found_at p (k + 1) d xs e in
      (r.0, suc r.1, omega (arith, r.2), r.3, r.4)
]

pub found_where : {X : Type 0} (p : X → Bool) (d : ℕ) (xs : List X) → first_where p xs ≡ Some d → (x : X) × (slice_get xs d ≡ Some x) × (p x ≡ true)
found_where p d xs h =
    let r = found_at p 0 d xs h in
    let e : r.1 ≡ d = omega (arith, r.2) in
    (r.0, ap (slice_get xs) (sym e) ∙ r.3, r.4)

front : (a b : Bool) → (a && b) ≡ true → a ≡ true
front true b h = refl
front false b h = cc

bound : (o : Option ℕ) (f : ℕ → Option ℕ) (d : ℕ) → option_and_then f o ≡ Some d → (k : ℕ) × (f k ≡ Some d)
bound None f d h = cc
bound (Some k) f d h = (k, h)

-- a name means identities alone
pub meant_identity : (files : Briefs) (rows : List Row) (r : Row) (d : ℕ) → identity_meant files rows r ≡ Some d → is_identity_at rows d ≡ true
meant_identity files rows r d h =
    let b = bound (block_of files rows r.file (name_in r)) (λ block. first_of Identity rows block (local_of (name_in r))) d h in
    let f = found_where (λ (x : Row). has_word (word_of Identity) x.head && is_same b.0 (local_of (name_in r)) (place_of_kind Identity x) (name_in x)) d rows b.1 in
    identity_at rows d f.0 f.1 ∙ front (is_identity f.0) (is_same b.0 (local_of (name_in r)) (place_of_kind Identity f.0) (name_in f.0)) f.2

pub base_numbers : (files : Briefs) (rows : List Row) (i d : ℕ) → HasBase files rows i d → (is_identity_at rows i ≡ true) × (is_identity_at rows d ≡ true)
base_numbers files rows i d h = (identity_at rows i h.own h.own_at ∙ h.is_one, meant_identity files rows h.statement d h.means)

pub derived_numbers : (files : Briefs) (rows : List Row) {i d : ℕ} → IsDerivedFrom files rows i d → (is_identity_at rows i ≡ true) × (is_identity_at rows d ≡ true)
derived_numbers files rows (directly {i = i} {b = d} h) = base_numbers files rows i d h
derived_numbers files rows (further {i = i} {b = b} {c = d} h w) = ((base_numbers files rows i b h).0, (derived_numbers files rows w).1)

pub leads_derived : (files : Briefs) (rows : List Row) (g : Graph) {a b : ℕ} → AreBases files rows g → LeadsTo g a b → IsDerivedFrom files rows (number_at rows a) (number_at rows b)
leads_derived files rows g s (by_edge {a = a} {b = b} e) = directly (s.edge a b e)
leads_derived files rows g s (by_way {a = a} {b = c} {c = b} e w) = further (s.edge a c e) (leads_derived files rows g s w)

pub derived_leads : (files : Briefs) (rows : List Row) (g : Graph) {i d : ℕ} → AreBases files rows g → IsDerivedFrom files rows i d → (a b : ℕ) → a < count_of rows → b < count_of rows → number_at rows a ≡ i → number_at rows b ≡ d → LeadsTo g a b
derived_leads files rows g s (directly {i = i} {b = d} h) a b l m e f =
    by_edge (s.all a b l m (subst (λ (k : ℕ). HasBase files rows k (number_at rows b)) (sym e) (subst (λ (k : ℕ). HasBase files rows i k) (sym f) h)))
derived_leads files rows g s (further {i = i} {b = c} {c = d} h w) a b l m e f =
    let n = number_of_row rows c (base_numbers files rows i c h).1 in
    by_way
    (s.all a n.0 l n.1 (subst (λ (k : ℕ). HasBase files rows k (number_at rows n.0)) (sym e) (subst (λ (k : ℕ). HasBase files rows i k) (sym n.2) h)))
    (derived_leads files rows g s w n.0 b n.1 m n.2 f)

-- marks of cycles in the graph are marks of identities that are derived from themselves
pub cycles_of : (files : Briefs) (rows : List Row) (g : Graph) (marks : List Bool) → AreBases files rows g → AreOnCycles g marks → AreIdentityCycles files rows marks
cycles_of files rows g marks s c = record {
  exact = λ a h. (λ m. leads_derived files rows g s (c.cycle a m), λ d. c.marked a (derived_leads files rows g s d a a h h refl refl));
}

-- what a name means, as it is looked up
pub meaning_found : (files : Briefs) (rows : List Row) (t : Table) (file : ℕ) (name loc : List ℕ) (block : ℕ) (o : Option ℕ) → o ≡ t block loc → t ≡ first_of Identity rows → loc ≡ local_of name → Some block ≡ block_of files rows file name → o ≡ meaning_of files rows file name
meaning_found files rows t file name loc block o found table part at =
    found
    ∙ ap (t block) part
    ∙ ap (λ (u : Table). u block (local_of name)) table
    ∙ ap (λ p. option_and_then (λ b. first_of Identity rows b (local_of name)) p) at

pub meaning_named : (files : Briefs) (rows : List Row) (file : ℕ) (name name' : List ℕ) (o : Option ℕ) → o ≡ meaning_of files rows file name → name ≡ name' → o ≡ meaning_of files rows file name'
meaning_named files rows file name name' o h e = h ∙ ap (meaning_of files rows file) e
