-- The members of a union, and their plain types.
use Rattle.std.proofs.Common.{◌≡◌, ℕ, ◌+◌, inl, inr, zero, suc, Bool, true, false, cond, List, [], ◌∷◌, ◌++◌, refl, sym, ◌∙◌, ap, subst, arith, Option, Some, None}
use Rattle.std.specs.List.{Contains, slice_get}
use Rattle.std.specs.Option.{option_and_then}
use Rattle.std.proofs.lemmas.List.{append-nil, append_assoc}
use Rattle.std.proofs.lemmas.List.Elements.{Contains-append_cases}
use Rattle.std.proofs.lemmas.Option.{same_Some}
use Rattle.yv_base_tables.specs.declared.table.Table.{Table}
use Rattle.yv_text_statement.specs.Selection.{ModuleChoice}
use Rattle.yv_link_scopes.specs.Files.{Files}
use Rattle.yv_link_scopes.specs.Rows.{Row}
use Rattle.yv_type_chains.specs.Types.{IsMember, is_type_in, is_union, types_from, types_in}
use Rattle.yv_values.specs.Types.{Plain}
use Rattle.yv_type_enums.specs.Types.{Truth}
use Rattle.yv_types.specs.Spaces.{Space, Spaces, none, more}
use Rattle.yv_types.specs.InnerTables.{IsSpace, joined_from, plains_at}
use Rattle.yv_types.specs.declared.table.SharedTypes.{SharedTypes}

first_in : (b : Bool) (n m : ℕ) → Contains (cond b (n ∷ []) []) m → (b ≡ true) × (n ≡ m)
first_in true n m (zero, l, e) = (refl, e)
first_in true n m (suc k, l, e) = absurd (omega (arith, l))
first_in false n m c = absurd (omega (arith, c.1))

-- what is listed among the types in a block stands there
listed_in : (block n : ℕ) (rows : List Row) (m : ℕ) → Contains (types_from block n rows) m → (i : ℕ) × (r : Row) × (slice_get rows i ≡ Some r) × (m ≡ n + i) × (is_type_in block m r ≡ true)
listed_in block n [] m c = absurd (omega (arith, c.1))
listed_in block n (r ∷ rs) m c = elim (Contains-append_cases (cond (is_type_in block n r) (n ∷ []) []) (types_from block (n + 1) rs) m c) [
  | inl a ↦ let h = first_in (is_type_in block n r) n m a in (0, r, refl, omega (arith, h.1), subst (λ k. is_type_in block k r ≡ true) h.1 h.0)
  | inr b ↦ let h = listed_in block (n + 1) rs m b in (suc h.0, h.1, h.2, omega (arith, h.3), h.4)
]

pub member_in : (rows : List Row) (k m : ℕ) (outer : Row) → slice_get rows k ≡ Some outer → is_union outer ≡ true → Contains (types_in rows k) m → IsMember rows k m
member_in rows k m outer at is c =
    let h = listed_in k 0 rows m c in
    let same : m ≡ h.0 = omega (arith, h.3) in
    record { outer = outer; at = at; is = is; member = h.1; member_at = ap (slice_get rows) same ∙ h.2; member_is = h.4 }

later : (m : ℕ) (ms : List ℕ) (k : ℕ) → Contains ms k → Contains (m ∷ ms) k
later m ms k (i, l, e) = (suc i, omega (arith, l), e)

no_list : (rs : List Plain) → None ≡ Some rs → ⊥
no_list rs e = cc

some_list : (rs : List Plain) → Some rs ≡ None → ⊥
some_list rs e = cc

module _ (files : Files) (truth : Truth) (choice : ModuleChoice) (spaces : Table SharedTypes) where
  -- the table has the plain types of these
  abbrev pub HasAll : List ℕ → Type 0
  HasAll ms = (m : ℕ) → Contains ms m → IsSpace files truth choice m (plains_at spaces m)

  abbrev pub AreJoined : List ℕ → List Plain → List Plain → Type 0
  AreJoined ms all rs = (qs : List Plain) × Spaces files truth choice ms qs × (rs ≡ all ++ qs)

  joined_one : (m : ℕ) (ms : List ℕ) (all rs : List Plain) (o : Option (List Plain)) → IsSpace files truth choice m o → ((ps : List Plain) → joined_from spaces (all ++ ps) ms ≡ Some rs → AreJoined ms (all ++ ps) rs) → option_and_then (λ ps. joined_from spaces (all ++ ps) ms) o ≡ Some rs → AreJoined (m ∷ ms) all rs
  joined_one m ms all rs None here rest e = absurd (no_list rs e)
  joined_one m ms all rs (Some ps) here rest e = let h = rest ps e in (ps ++ h.0, more (here.sound ps refl) h.1 refl, h.2 ∙ append_assoc all ps h.0)

  pub joined_sound : (ms : List ℕ) (all rs : List Plain) → HasAll ms → joined_from spaces all ms ≡ Some rs → AreJoined ms all rs
  joined_sound [] all rs known e = ([], none, sym (same_Some all rs e) ∙ sym (append-nil all))
  joined_sound (m ∷ ms) all rs known e = joined_one m ms all rs (plains_at spaces m) (known m (0, omega arith, refl)) (λ ps. joined_sound ms (all ++ ps) rs (λ k c. known k (later m ms k c))) e

  unjoined_one : (m : ℕ) (ms : List ℕ) (all ps : List Plain) (o : Option (List Plain)) → IsSpace files truth choice m o → Space files truth choice m ps → ((xs : List Plain) → joined_from spaces (all ++ xs) ms ≡ None → ⊥) → option_and_then (λ xs. joined_from spaces (all ++ xs) ms) o ≡ None → ⊥
  unjoined_one m ms all ps None here s rest e = here.full refl ps s
  unjoined_one m ms all ps (Some xs) here s rest e = rest xs e

  pub joined_full : (ms : List ℕ) (all qs : List Plain) → HasAll ms → Spaces files truth choice ms qs → joined_from spaces all ms ≡ None → ⊥
  joined_full [] all qs known s e = some_list all e
  joined_full (m ∷ ms) all qs known (more {ps = ps} {qs = rest} h s is) e = unjoined_one m ms all ps (plains_at spaces m) (known m (0, omega arith, refl)) h (λ xs. joined_full ms (all ++ xs) rest (λ k c. known k (later m ms k c)) s) e
