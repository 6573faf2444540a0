-- The list that types share, and the parts of it that are values of types.
use Rattle.std.proofs.Common.{◌≡◌, ℕ, ◌<◌, ◌&&◌, ◌||◌, ◌↔◌, Bool, true, false, cond, IsTrue, List, [], ◌∷◌, length, map, get_or, Option, Some, refl, sym, ◌∙◌, ap, subst, arith}
use Rattle.std.specs.List.{filter, slice_get, list_any}
use Rattle.std.specs.Option.{option_map, option_and_then, unwrap_or}
use Rattle.std.specs.Str.{bytes_eq}
use Rattle.std.proofs.lemmas.Option.{same_Some, slice_get_within, slice_get-get_or, slice_get-map}
use Rattle.std.proofs.lemmas.Slice.Eq.{bytes_eq-Decides}
use Rattle.yv_base_graph.specs.Graph.{Graph, ArePlaces, LeadsTo}
use Rattle.yv_text_statement.specs.Selection.{ModuleChoice}
use Rattle.yv_link_scopes.specs.Files.{Files, Briefs, brief_of}
use Rattle.yv_link_scopes.specs.RowList.{rows_of}
use Rattle.yv_link_scopes.specs.Rows.{Row}
use Rattle.yv_link_identities.specs.Names.{is_identity as is_identity_row}
use Rattle.yv_link_identities.specs.References.{is_at, number_of, ref_of}
use Rattle.yv_link_identities.specs.declared.references.IdentityRef.{IdentityRef}
use Rattle.yv_link.specs.LinkedFiles.{AreLinked, truth_in}
use Rattle.yv_link.specs.declared.linked_files.Linked.{Linked}
use Rattle.yv_values.specs.Identities.{Id, NumberedId, between, id_of, ids_of, is_identity}
use Rattle.yv_values.proofs.NumberedIdentities.{is_itself}
use Rattle.yv_type_identities.specs.Bases.{IsBelow}
use Rattle.yv_type_identities.specs.Identities.{IsFound}
use Rattle.yv_type_identities.specs.InnerBases.{IsBelowKey}
use Rattle.yv_type_identities.specs.InnerCandidates.{AreCandidates}
use Rattle.yv_type_identities.specs.InnerRuns.{AreDerived, AreIdentityPlaces, AreRuns, AreShared, HasRun, IsRunOf, in_run, is_in, number_at, numbered_by, rank_by, run_at, run_of}
use Rattle.yv_type_identities.specs.InnerSets.{is_key}
use Rattle.yv_type_identities.specs.declared.candidates.Candidate.{Candidate}
use Rattle.yv_type_identities.specs.declared.identity_places.IdentityPlaces.{IdentityPlaces}
use Rattle.yv_type_identities.specs.declared.runs.Run.{Run}
use Rattle.yv_type_identities.specs.declared.shared_members.SharedMembers.{SharedMembers}
use Rattle.yv_type_identities.proofs.Apart.{only_first, own_of}
use Rattle.yv_type_identities.proofs.Below.{named, ref_at, same_place}
use Rattle.yv_type_identities.proofs.DerivationGraph.{bound, derived_leads, leads_derived, there_identity}
use Rattle.yv_type_identities.proofs.Numbering.{one_there}
use Rattle.yv_type_identities.proofs.PlaceSets.{same_at}
use Rattle.yv_type_identities.proofs.RowLoop.{both, both_true, found, finds, mapped}

-- ### what is derived from an identity, by the runs

module _ (files : Briefs) (rows : List Row) (places : IdentityPlaces) (are : AreIdentityPlaces rows places) where
  -- the one identity at a place
  number_there : (place : IdentityRef) (k : ℕ) → number_at places place ≡ Some k → number_of rows place ≡ Some k
  number_there place k at =
      let r = are.only place k at in
      only_first (λ x. is_identity_row x && is_at place (ref_of x)) rows k r.0 (number_of rows place) refl r.1 (both_true (is_identity_row r.0) _ r.2 (same_place place (ref_of r.0) (sym r.3)))
      (λ j y stands t.
      let p = both (is_identity_row y) (is_at place (ref_of y)) t in
      one_there rows places are j k y r.0 stands r.1 p.0 r.2 (sym (same_at place (ref_of y) p.1) ∙ sym r.3))

  pub below_is : (g : Graph) → AreDerived files rows g → (i k : ℕ) (r : Row) (base : IdentityRef) → slice_get rows i ≡ Some r → is_identity_row r ≡ true → number_at places base ≡ Some k → LeadsTo g k i ↔ IsBelow files rows (ref_of r) base
  below_is g der i k r base at is based = (
    λ w. record {
      number = i;
      statement = r;
      stands = at;
      is_there = refl;
      base_number = k;
      base_meant = number_there base k based;
      derived = leads_derived files rows g der (let b = are.only base k based in there_identity rows k b.0 b.1 b.2) w;
    },
    λ b.
        let own = own_of files rows (ref_of r) base b.number b.base_number b.derived in
        let same : own.0 ≡ b.statement = same_Some own.0 b.statement (sym own.1 ∙ b.stands) in
        let one : b.number ≡ i = one_there rows places are b.number i own.0 r own.1 at own.2 is (ap ref_of same ∙ b.is_there) in
        let two : b.base_number ≡ k = same_Some b.base_number k (sym b.base_meant ∙ number_there base k based) in
        subst (λ (x : ℕ). LeadsTo g x i) two (subst (λ (x : ℕ). LeadsTo g b.base_number x) one (derived_leads files rows g der b.derived)),
  )

  -- the run of a base has the numbers of exactly what is derived from it
  pub run_below : (g : Graph) (ranks order : List ℕ) (runs : List (Option Run)) → AreDerived files rows g → ArePlaces ranks order → length ranks ≡ length g → AreRuns g ranks order runs
      → (base : IdentityRef) (run : Run) → option_and_then (λ r. run_at runs r) (rank_by places ranks base) ≡ Some run
      → (i : ℕ) (r : Row) → slice_get rows i ≡ Some r → is_identity_row r ≡ true → IsTrue (is_in run (unwrap_or (rank_by places ranks (ref_of r)) 0)) ↔ IsBelow files rows (ref_of r) base
  run_below g ranks order runs der ordered each made base run at i r stands is =
      let ranked = bound (rank_by places ranks base) (λ k. run_at runs k) run at in
      let numbered = bound (number_at places base) (λ k. slice_get ranks k) ranked.0 ranked.1 in
      let k : ℕ = numbered.0 in
      let within : k < length ranks = slice_get_within ranks k ranked.0 numbered.2 in
      let rank : get_or ranks k 0 ≡ ranked.0 = same_Some (get_or ranks k 0) ranked.0 (sym (slice_get-get_or ranks k 0 within) ∙ numbered.2) in
      let here : get_or order ranked.0 0 ≡ k = ap (λ x. get_or order x 0) (sym rank) ∙ (ordered.found k within).1 in
      let of : IsRunOf g ranks k run = subst (λ (x : ℕ). IsRunOf g ranks x run) here (made ranked.0 run ranked.2) in
      let low : i < length g = omega (arith, slice_get_within rows i r stands, der.each) in
      let own : unwrap_or (rank_by places ranks (ref_of r)) 0 ≡ get_or ranks i 0 =
      ap (λ o. unwrap_or (option_and_then (λ x. slice_get ranks x) o) 0) (are.found i r stands is) ∙ ap (λ o. unwrap_or o 0) (slice_get-get_or ranks i 0 (omega (arith, low, each))) in
      let to = of i low in
      let b = below_is g der i k r base stands is numbered.1 in
      (λ t. b.0 (to.0 (ap (is_in run) (sym own) ∙ t)), λ h. ap (is_in run) own ∙ to.1 (b.1 h))

-- ### the values of a type, as a part

any_between : (module_name called : List ℕ) (q : NumberedId → Bool) (all : List NumberedId) → list_any (is_identity module_name called) (ids_of (filter q all)) ≡ list_any (λ (e : NumberedId). q e && is_identity module_name called e.id) all
any_between module_name called q [] = refl
any_between module_name called q (x ∷ xs) = by (q x) (any_between module_name called q xs)
  where
    by : (b : Bool) → list_any (is_identity module_name called) (ids_of (filter q xs)) ≡ list_any (λ (e : NumberedId). q e && is_identity module_name called e.id) xs
        → list_any (is_identity module_name called) (ids_of (cond b (x ∷ filter q xs) (filter q xs))) ≡ ((b && is_identity module_name called x.id) || list_any (λ (e : NumberedId). q e && is_identity module_name called e.id) xs)
    by true h = ap (λ t. is_identity module_name called x.id || t) h
    by false h = h

id_is : (module_name called : List ℕ) (i : Id) → is_identity module_name called i ≡ true → i ≡ record { module_name = module_name; name = called }
id_is module_name called i h =
    let p = both (bytes_eq i.module_name module_name) (bytes_eq i.name called) h in
    let make : List ℕ → List ℕ → Id = λ m n. record { module_name = m; name = n } in
    ap (λ m. make m i.name) ((bytes_eq-Decides i.module_name module_name).0 p.0) ∙ ap (make module_name) ((bytes_eq-Decides i.name called).0 p.1)

some_run : (o : Option Run) (run : Run) (n : ℕ) → o ≡ Some run → in_run o n ≡ is_in run n
some_run o run n e = ap (λ x. in_run x n) e

module _ (linked : Linked) (cs : List Candidate) (shared : SharedMembers) (are : AreShared linked cs shared) (all : (files : Files) (choice : ModuleChoice) → AreLinked files choice linked → AreCandidates (truth_in linked) choice files cs) where
  abbrev entry : Candidate → NumberedId
  entry = numbered_by shared.places shared.ranks.items

  module _ (key : List (ℕ × ℕ)) (run : Run) (known : (c : ℕ) (k : ℕ × ℕ) → slice_get key c ≡ Some k → HasRun shared k)
      (met : (n : ℕ) → IsTrue (is_in run n) ↔ ((c : ℕ) (k : ℕ × ℕ) → slice_get key c ≡ Some k → IsTrue (in_run (run_of shared (ref_at k)) n))) where
    -- a candidate is in the part where it is derived from each base
    in_part : (files : Files) (choice : ModuleChoice) → AreLinked files choice linked → (i : ℕ) (r : Row) (c : Candidate) → slice_get (rows_of files) i ≡ Some r → is_identity_row r ≡ true → c.identity ≡ ref_of r
        → IsTrue (is_in run (entry c).number) ↔ IsBelowKey (map brief_of files) (rows_of files) key (ref_of r)
    in_part files choice t i r c at is place =
        let n : ℕ = (entry c).number in
        let own : unwrap_or (rank_by shared.places shared.ranks.items (ref_of r)) 0 ≡ n = ap (λ p. unwrap_or (rank_by shared.places shared.ranks.items p) 0) (sym place) in (
          λ h base some.
              let f = found (is_key base) key some in
              let k = known f.0 f.1 f.2 in
              let in' : is_in k.0 n ≡ true = sym (some_run (run_of shared (ref_at f.1)) k.0 n k.1) ∙ (met n).0 h f.0 f.1 f.2 in
              subst (IsBelow (map brief_of files) (rows_of files) (ref_of r)) (sym (named base f.1 f.3)) ((are.exact files choice t (ref_at f.1) k.0 k.1 i r at is).0 (ap (is_in k.0) own ∙ in')),
          λ h. (met n).1 (λ c' k at'.
              let is' = known c' k at' in
              let below = h (ref_at k) (finds (is_key (ref_at k)) key c' k at' (same_place (ref_at k) (ref_at k) refl)) in
              some_run (run_of shared (ref_at k)) is'.0 n is'.1 ∙ ap (is_in is'.0) (sym own) ∙ (are.exact files choice t (ref_at k) is'.0 is'.1 i r at is).1 below),
        )

    pub part_found : (members : List Id) → members ≡ between shared.all run.low run.high → IsFound linked key members
    part_found members is files choice t module_name called =
        let p : NumberedId → Bool = λ e. is_in run e.number && is_identity module_name called e.id in
        let same : list_any (is_identity module_name called) members ≡ list_any p (map entry cs) =
        ap (list_any (is_identity module_name called)) is ∙ any_between module_name called (λ e. is_in run e.number) shared.all ∙ are.listed p in
        let candidates = all files choice t in (
          λ h.
              let f = found p (map entry cs) (sym same ∙ h) in
              let c = mapped entry (slice_get cs f.0) f.1 (sym (slice_get-map entry cs f.0) ∙ f.2) in
              let q = both (is_in run f.1.number) (is_identity module_name called f.1.id) f.3 in
              let s = candidates.sound f.0 c.0 c.1 in
              let number : (entry c.0).number ≡ f.1.number = ap (λ (e : NumberedId). e.number) c.2 in
              let id : id_of c.0.member ≡ f.1.id = ap (λ (e : NumberedId). e.id) c.2 in
              (s.0, s.1, s.2, s.3, (in_part files choice t s.0 s.1 c.0 s.2 s.3.identity s.4.place).0 (ap (is_in run) number ∙ q.0), sym s.4.name ∙ id ∙ id_is module_name called f.1.id q.1),
          λ h.
              let f = candidates.full h.0 h.1 h.2 h.3 in
              let e : NumberedId = entry f.1 in
              let in' : is_in run e.number ≡ true = (in_part files choice t h.0 h.1 f.1 h.2 h.3.identity f.3.place).1 h.4 in
              let it : is_identity module_name called e.id ≡ true = is_itself module_name called e.id (f.3.name ∙ h.5) in
              same ∙ finds p (map entry cs) f.0 e (slice_get-map entry cs f.0 ∙ ap (option_map entry) f.2) (both_true (is_in run e.number) (is_identity module_name called e.id) in' it),
        )
