-- The types alone, in an order of all statements.
use Rattle.std.proofs.Common.{◌≡◌, ℕ, ◌+◌, ◌<◌, ◌≤◌, ◌↔◌, inl, inr, List, [], ◌∷◌, ◌++◌, length, take, get_or, refl, sym, ◌∙◌, ap, subst, arith}
use Rattle.std.specs.List.{slice_index, Contains}
use Rattle.std.proofs.lemmas.Bool.{cases_lt}
use Rattle.std.proofs.lemmas.List.{get_or-take, get_or_append_left, get_or_default, length-take-le, take-append-le, take_all, take_more}
use Rattle.std.proofs.lemmas.List.Elements.{Contains-append_cases, Contains-append_left, Contains-append_right}
use Rattle.std.proofs.lemmas.Option.{slice_get_within}
use Rattle.yv_link_scopes.specs.Files.{Briefs}
use Rattle.yv_link_scopes.specs.Rows.{Row}
use Rattle.yv_type_chains.specs.Types.{IsOrderOfTypes, IsTypeAt, RestsOn, types_in}
use Rattle.yv_type_chains.specs.InnerOrder.{IsOrderOfAll}
use Rattle.yv_type_chains.proofs.Words.{last_of, longer}
use Rattle.yv_type_chains.proofs.Blocks.{first_in, type_in}
use Rattle.yv_type_chains.proofs.TypeOrder.{inner_parts}
use Rattle.yv_type_chains.proofs.TableWalk.{next_in, one_in}

-- the types among the first n of an order
pub record AreSifted (files : Briefs) (rows : List Row) (order : List ℕ) (n : ℕ) (types : List ℕ) : Type 0 where
  pub exact : (a : ℕ) → Contains types a ↔ (Contains (take n order) a × IsTypeAt rows a)
  pub once : (i j : ℕ) → i < length types → j < length types → slice_index types i ≡ slice_index types j → i ≡ j
  pub behind : (i b : ℕ) → i < length types → RestsOn files rows (slice_index types i) b → Contains (take i types) b

nothing_in : (m : ℕ) → Contains [] m → ⊥
nothing_in m c = omega (arith, c.1)

own_in : (x : ℕ) → Contains (x ∷ []) x
own_in x = (0, omega arith, refl)

-- what a type rests on is a type
rests_type : (files : Briefs) (rows : List Row) (k b : ℕ) → RestsOn files rows k b → IsTypeAt rows b
rests_type files rows k b (inl f) =
    let p = type_in f.definition rows b (first_in f.definition (types_in rows f.definition) b f.stands) in
    (p.0, p.1, (inner_parts f.definition b p.0 p.2).0)
rests_type files rows k b (inr i) = (i.member, i.member_at, (inner_parts k b i.member i.member_is).0)

module _ (files : Briefs) (rows : List Row) (order : List ℕ) where
  pub sifted_none : (types : List ℕ) → types ≡ [] → AreSifted files rows order 0 types
  sifted_none types e = subst (AreSifted files rows order 0) (sym e) (record {
    exact = λ a. (λ c. absurd (nothing_in a c), λ p. absurd (nothing_in a p.0));
    once = λ i j h g s. absurd (omega (arith, h));
    behind = λ i b h w. absurd (omega (arith, h));
  })

  module _ (n x : ℕ) (here : n < length order) (is : x ≡ get_or order n 0) where
    later : (a : ℕ) → Contains (take n order) a → Contains (take (n + 1) order) a
    later a c = subst (λ xs. Contains xs a) (sym (take_more order n 0 here)) (Contains-append_left (take n order) (get_or order n 0 ∷ []) a c)

    last : Contains (take (n + 1) order) x
    last = subst (λ xs. Contains xs x) (sym (take_more order n 0 here)) (Contains-append_right (take n order) (get_or order n 0 ∷ []) x (subst (λ y. Contains (y ∷ []) x) is (own_in x)))

    -- one more statement, which is no type
    pub sifted_other : (types : List ℕ) → (IsTypeAt rows x → ⊥) → AreSifted files rows order n types → AreSifted files rows order (n + 1) types
    sifted_other types out s = record {
      exact = λ a. (
        λ c. let p = (s.exact a).0 c in (later a p.0, p.1),
        λ p. elim (next_in order n x a here is p.0) [
          | inl c ↦ (s.exact a).1 (c, p.1)
          | inr e ↦ absurd (out (subst (IsTypeAt rows) e p.1))
        ],
      );
      once = s.once;
      behind = s.behind;
    }

    -- one more type
    module _ (all : IsOrderOfAll files rows order) (types : List ℕ) (s : AreSifted files rows order n types) (yes_type : IsTypeAt rows x) where
      is_new : Contains types x → ⊥
      is_new c =
          let p = ((s.exact x).0 c).0 in
          let small : p.0 < n = let l = p.1 in omega (arith, l, length-take-le n order (omega (arith, here))) in
          let there : slice_index order p.0 ≡ x = get_or_default order p.0 0 x (omega (arith, small, here)) ∙ sym (get_or-take n order p.0 x small) ∙ p.2 in
          let same : p.0 ≡ n = all.once p.0 n (omega (arith, small, here)) here (there ∙ is) in
          omega (arith, same, small)

      old_at : (i : ℕ) → i < length types → slice_index (types ++ x ∷ []) i ≡ slice_index types i
      old_at i h = get_or_append_left types (x ∷ []) 0 i h

      at_in : (i : ℕ) → i < length types → slice_index types i ≡ x → Contains types x
      at_in i h e = (i, h, get_or_default types i x 0 h ∙ e)

      new_at : (i : ℕ) → length types ≤ i → i < length (types ++ x ∷ []) → slice_index (types ++ x ∷ []) i ≡ x
      new_at i up h =
          let same : i ≡ length types = omega (arith, up, h, longer types x) in
          ap (slice_index (types ++ x ∷ [])) same ∙ last_of types x 0

      more_once : (i j : ℕ) → i < length (types ++ x ∷ []) → j < length (types ++ x ∷ []) → slice_index (types ++ x ∷ []) i ≡ slice_index (types ++ x ∷ []) j → i ≡ j
      more_once i j h g e = elim (cases_lt i (length types)) [
        | inl a ↦ elim (cases_lt j (length types)) [
          | inl b ↦ s.once i j a b (sym (old_at i a) ∙ e ∙ old_at j b)
          | inr b ↦ absurd (is_new (at_in i a (sym (old_at i a) ∙ e ∙ new_at j b g)))
        ]
        | inr a ↦ elim (cases_lt j (length types)) [
          | inl b ↦ absurd (is_new (at_in j b (sym (old_at j b) ∙ sym e ∙ new_at i a h)))
          | inr b ↦ omega (arith, a, b, h, g, longer types x)
        ]
      ]

      more_behind : (i b : ℕ) → i < length (types ++ x ∷ []) → RestsOn files rows (slice_index (types ++ x ∷ []) i) b → Contains (take i (types ++ x ∷ [])) b
      more_behind i b h w = elim (cases_lt i (length types)) [
        | inl a ↦ subst (λ xs. Contains xs b) (sym (front i (omega (arith, a)))) (s.behind i b a (subst (λ y. RestsOn files rows y b) (old_at i a) w))
        | inr a ↦
            let rest : RestsOn files rows x b = subst (λ y. RestsOn files rows y b) (new_at i a h) w in
            let c : Contains types b = (s.exact b).1 (all.behind n b here (subst (λ y. RestsOn files rows y b) is rest), rests_type files rows x b rest) in
            let same : i ≡ length types = omega (arith, a, h, longer types x) in
            subst (λ xs. Contains xs b) (sym (ap (λ k. take k (types ++ x ∷ [])) same ∙ front (length types) (omega arith) ∙ take_all (length types) types (omega arith))) c
      ]
        where
          front : (k : ℕ) → k ≤ length types → take k (types ++ x ∷ []) ≡ take k types
          front k l = take-append-le k types (x ∷ []) l

      pub sifted_more : (now : List ℕ) → now ≡ types ++ x ∷ [] → AreSifted files rows order (n + 1) now
      sifted_more now e = subst (AreSifted files rows order (n + 1)) (sym e) (record {
        exact = λ a. (
          λ c. elim (Contains-append_cases types (x ∷ []) a c) [
            | inl old ↦ let p = (s.exact a).0 old in (later a p.0, p.1)
            | inr new ↦ let same : x ≡ a = one_in x a new in (subst (Contains (take (n + 1) order)) same last, subst (IsTypeAt rows) same yes_type)
          ],
          λ p. elim (next_in order n x a here is p.0) [
            | inl c ↦ Contains-append_left types (x ∷ []) a ((s.exact a).1 (c, p.1))
            | inr same ↦ Contains-append_right types (x ∷ []) a (subst (λ y. Contains (y ∷ []) a) same (own_in a))
          ],
        );
        once = more_once;
        behind = more_behind;
      })

  pub sifted_all : (n : ℕ) (types : List ℕ) → length order ≤ n → IsOrderOfAll files rows order → AreSifted files rows order n types → IsOrderOfTypes files rows types
  sifted_all n types past all s = record {
    exact = λ a. (
      λ c. ((s.exact a).0 c).1,
      λ t. (s.exact a).1 (subst (λ xs. Contains xs a) (sym (take_all n order past)) (all.stands a (slice_get_within rows a t.0 t.1)), t),
    );
    once = s.once;
    behind = s.behind;
  }
