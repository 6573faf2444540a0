-- No type leads to itself, and so types have an order.
use Rattle.std.proofs.Common.{◌≡◌, ℕ, ◌<◌, ◌⊎◌, inl, inr, not, ◌==◌, nat_lt, Bool, true, false, zero, suc, List, [], ◌∷◌, length, refl, sym, ◌∙◌, subst, arith, Option, Some, None, codes, eqb-true}
use Rattle.std.specs.List.{slice_get, slice_index, All, Contains}
use Rattle.std.specs.Str.{bytes_eq}
use Rattle.std.proofs.lemmas.Bool.{false≢true}
use Rattle.std.proofs.lemmas.List.{get_or_default, get_or-take, length-take-le}
use Rattle.std.proofs.lemmas.Option.{slice_get_within}
use Rattle.std.proofs.lemmas.Slice.Eq.{bytes_eq-Decides}
use Rattle.yv_link_scopes.specs.Files.{Briefs}
use Rattle.yv_link_scopes.specs.Names.{local_of}
use Rattle.yv_link_scopes.specs.Rows.{Row, name_in}
use Rattle.yv_link_scopes.specs.Scopes.{MeansFrom, start_of}
use Rattle.yv_link_scopes.specs.declared.kind.NameKind.TheVariants.{Typedef}
use Rattle.yv_base_graph.specs.Graph.{Graph, HasEdge, IsOrder}
use Rattle.yv_base_graph.specs.Graph as graph
use Rattle.yv_link_definitions.specs.BuiltIn.{is_built_in}
use Rattle.yv_link_definitions.specs.Duplicates.{is_of}
use Rattle.yv_link_definitions.specs.Refers.{Refers, is_type}
use Rattle.yv_link_definitions.specs.Leads.{CountsFor, directly, further, LeadsTo, by_step, by_way, IsOrderOf}
use Rattle.yv_type_chains.specs.Types.{Follows, IsMember, RestsOn, is_inner, is_type_in, is_union, types_in}
use Rattle.yv_type_chains.specs.InnerOrder.{IsOrderOfAll}
use Rattle.yv_type_chains.specs.InnerTables.{AreFollowed}
use Rattle.yv_type_chains.specs.InnerSteps.{AreSteps}
use Rattle.yv_type_chains.proofs.Words.{both_true}
use Rattle.yv_type_chains.proofs.Blocks.{first_in, in_types, type_in}
use Rattle.yv_type_chains.proofs.FollowedTypes.{names_type}
use Rattle.yv_type_chains.proofs.TypeGraph.{edge_listed, listed_edge}

-- what is meant is a typedef
meant_at : (files : Briefs) (rows : List Row) (k d : ℕ) → Refers files rows Typedef k d → (s : Row) × (slice_get rows d ≡ Some s) × (is_of Typedef s ≡ true)
meant_at files rows k d h = by (start_of files rows k (name_in h.statement)) h.means
  where
    by : (o : Option ℕ) → MeansFrom Typedef rows (local_of (name_in h.statement)) o (Some d) → (s : Row) × (slice_get rows d ≡ Some s) × (is_of Typedef s ≡ true)
    by None e = absurd (let bad : Some d ≡ None = e in cc)
    by (Some block) m = let named = m.0.2 in (named.0, named.1, (both_true (is_of Typedef named.0) _ named.2).0)

below_true : (a b : ℕ) → nat_lt a b ≡ true → a < b
below_true a b h = grind (arith, h)

pub inner_parts : (k m : ℕ) (r : Row) → is_type_in k m r ≡ true → (is_type r ≡ true) × (r.scope < m) × (r.scope ≡ k)
inner_parts k m r h =
    let p = both_true (is_inner m r) (r.scope == k) h in
    let q = both_true (is_type r) (nat_lt r.scope m) p.0 in
    (q.0, below_true r.scope m q.1, eqb-true r.scope k p.1)

-- a type that follows takes its values from a type in another typedef
followed_in : (files : Briefs) (rows : List Row) (k j : ℕ) (f : Follows files rows k j) → CountsFor rows Typedef j f.definition
followed_in files rows k j f =
    let p = type_in f.definition rows j (first_in f.definition (types_in rows f.definition) j f.stands) in
    let s = meant_at files rows k f.definition f.refers in
    directly p.1 (inner_parts f.definition j p.0 p.2).2 s.1 s.2

-- a member counts for what its union counts for, and stands behind it
member_in : (rows : List Row) (k m a : ℕ) → IsMember rows k m → CountsFor rows Typedef k a → CountsFor rows Typedef m a
member_in rows k m a i c =
    further i.member_at (inner_parts k m i.member i.member_is).2 i.at (both_true (is_type i.outer) (bytes_eq (name_in i.outer) (codes "union")) i.is).0 c

member_behind : (rows : List Row) (k m : ℕ) → IsMember rows k m → k < m
member_behind rows k m i = let p = inner_parts k m i.member i.member_is in omega (arith, p.1, p.2)

-- a union names a built-in type
pub union_built_in : (r : Row) → is_union r ≡ true → is_built_in (name_in r) ≡ true
unfolding is_built_in
union_built_in r h = rw ((bytes_eq-Decides (name_in r) (codes "union")).0 (both_true (is_type r) (bytes_eq (name_in r) (codes "union")) h).1) refl

not_both : (b : Bool) → b ≡ true → not b ≡ true → ⊥
not_both true h g = false≢true g
not_both false h g = false≢true h

-- a type that follows is no union
pub follower_plain : (files : Briefs) (rows : List Row) (k j : ℕ) (r : Row) → slice_get rows k ≡ Some r → Follows files rows k j → is_union r ≡ false
follower_plain files rows k j r at f = by (is_union r) refl
  where
    by : (b : Bool) → is_union r ≡ b → is_union r ≡ false
    by false e = e
    by true e = absurd (not_both (is_built_in (name_in r)) (union_built_in r e) (names_type files rows k f.definition r at f.refers).1)

row_at : (rs : List Row) (i : ℕ) → i < length rs → (r : Row) × (slice_get rs i ≡ Some r)
row_at rs i h = at_row rs i h
  where
    at_row : (rs : List Row) (i : ℕ) → i < length rs → (r : Row) × (slice_get rs i ≡ Some r)
    at_row [] i h = absurd (omega (arith, h))
    at_row (r ∷ rs) zero h = (r, refl)
    at_row (r ∷ rs) (suc i) h = at_row rs i (omega (arith, h))

module _ (files : Briefs) (rows : List Row) (follows : List (Option ℕ)) (g : Graph) (steps : AreSteps rows follows g) (told : AreFollowed files rows follows) where
  edge_rests : (k j : ℕ) → HasEdge g k j → RestsOn files rows k j
  edge_rests k j e = by (is_union r) refl
    where
      within : k < length rows
      within = let w = slice_get_within g k e.0 e.1 in let each = steps.each in omega (arith, w, each)

      r : Row
      r = (row_at rows k within).0

      at : slice_get rows k ≡ Some r
      at = (row_at rows k within).1

      by : (b : Bool) → is_union r ≡ b → RestsOn files rows k j
      by true is =
          let p = type_in k rows j (subst (λ xs. Contains xs j) ((steps.edges k r at).members is) (edge_listed g k j e)) in
          inr (record { outer = r; at = at; is = is; member = p.0; member_at = p.1; member_is = p.2 })
      by false is = inl ((told k j).0 (((steps.edges k r at).followed is j).0 (edge_listed g k j e)))

  pub rests_edge : (k j : ℕ) → RestsOn files rows k j → HasEdge g k j
  rests_edge k j (inl f) =
      let r = f.refers.statement in
      let at = f.refers.at in
      let w = slice_get_within rows k r at in
      let each = steps.each in
      listed_edge g k j (omega (arith, w, each)) (((steps.edges k r at).followed (follower_plain files rows k j r at f) j).1 ((told k j).1 f))
  rests_edge k j (inr i) =
      let w = slice_get_within rows k i.outer i.at in
      let each = steps.each in
      listed_edge g k j (omega (arith, w, each)) (subst (λ xs. Contains xs j) (sym ((steps.edges k i.outer i.at).members i.is)) (in_types k rows j i.member i.member_at i.member_is))

  -- along edges either only members come, each behind its union, or a typedef is left for one to
  -- which it leads
  Way : ℕ → ℕ → Type 0
  Way k m = ((k < m) × ((a : ℕ) → CountsFor rows Typedef k a → CountsFor rows Typedef m a))
      ⊎ ((d : ℕ) × CountsFor rows Typedef m d × ((a : ℕ) → CountsFor rows Typedef k a → LeadsTo files rows a d))

  one_way : (k j : ℕ) → RestsOn files rows k j → Way k j
  unfolding Way
  one_way k j (inl f) = inr (f.definition, followed_in files rows k j f, λ a c. by_step (Typedef, c, f.refers))
  one_way k j (inr i) = inl (member_behind rows k j i, λ a c. member_in rows k j a i c)

  longer_way : (k j m : ℕ) → RestsOn files rows k j → Way j m → Way k m
  unfolding Way
  longer_way k j m (inl f) (inl w) = inr (f.definition, w.1 f.definition (followed_in files rows k j f), λ a c. by_step (Typedef, c, f.refers))
  longer_way k j m (inl f) (inr w) = inr (w.0, w.1, λ a c. by_way (Typedef, c, f.refers) (w.2 f.definition (followed_in files rows k j f)))
  longer_way k j m (inr i) (inl w) = inl (let b = member_behind rows k j i in omega (arith, b, w.0), λ a c. w.1 a (member_in rows k j a i c))
  longer_way k j m (inr i) (inr w) = inr (w.0, w.1, λ a c. w.2 a (member_in rows k j a i c))

  way_of : {k m : ℕ} → graph.LeadsTo g k m → Way k m
  way_of {k} {m} (graph.by_edge e) = one_way k m (edge_rests k m e)
  way_of {k} {m} (graph.by_way {b = j} e w) = longer_way k j m (edge_rests k j e) (way_of w)

  -- what counts is for a statement
  owner_within : {k d : ℕ} → CountsFor rows Typedef k d → d < length rows
  owner_within (directly {d = d} {s = s} here e there one) = slice_get_within rows d s there
  owner_within (further here e there between rest) = owner_within rest

  module _ (order : List ℕ) (is : IsOrderOf files rows order) where
    -- no definition leads to itself
    own_cycle : (d : ℕ) → d < length rows → LeadsTo files rows d d → ⊥
    own_cycle d h w =
        let c = is.stands d h in
        let here : slice_index order c.0 ≡ d = get_or_default order c.0 0 d c.1 ∙ c.2 in
        let b = is.behind c.0 d c.1 (subst (λ x. LeadsTo files rows x d) (sym here) w) in
        let inside = c.1 in
        let less : b.0 < c.0 = let l = b.1 in omega (arith, l, inside, length-take-le c.0 order (omega (arith, inside))) in
        let there : slice_index order b.0 ≡ d = get_or_default order b.0 0 d (omega (arith, less, inside)) ∙ sym (get_or-take c.0 order b.0 d less) ∙ b.2 in
        let same : c.0 ≡ b.0 = is.once c.0 b.0 c.1 (omega (arith, less, inside)) (here ∙ sym there) in
        omega (arith, same, less)

    pub no_cycle : (k : ℕ) → graph.LeadsTo g k k → ⊥
    unfolding Way
    no_cycle k w = elim (way_of w) [
      | inl rise ↦ omega (arith, rise.0)
      | inr back ↦ own_cycle back.0 (owner_within back.1) (back.2 back.0 back.1)
    ]

  pub order_of : (order : List ℕ) → IsOrder g order → IsOrderOfAll files rows order
  order_of order o = record {
    each = o.each ∙ steps.each;
    within = subst (λ n. All (λ a. a < n) order) steps.each o.within;
    stands = λ a l. o.stands a (let each = steps.each in omega (arith, l, each));
    once = o.once;
    behind = λ i b l w. o.behind i b l (graph.by_edge (rests_edge (slice_index order i) b w));
  }
