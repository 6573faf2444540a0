-- A target takes the block of an augment where it takes each item in it.
use Rattle.std.proofs.Common.{◌⊎◌, inl, inr, ◌≡◌, ◌≢◌, ℕ, zero, suc, ◌+◌, ◌==◌, ◌&&◌, not, if◌then◌else◌, Bool, true, false, cond, List, [], ◌∷◌, refl, sym, ◌∙◌, ap, subst, arith, eq-eqb, Option, Some, None, codes}
use Rattle.std.specs.List.{Contains, filter, list_all, slice_get}
use Rattle.std.specs.Option.{option_and_then, option_map, unwrap_or}
use Rattle.std.specs.Str.{bytes_eq}
use Rattle.std.proofs.lemmas.Bool.{false≢true, ne_eqb}
use Rattle.std.proofs.lemmas.Option.{same_Some}
use Rattle.yv_link_scopes.specs.Rows.{Row}
use Rattle.yv_expand_statements.specs.Units.{nodes, operations}
use Rattle.yv_expand_statements.specs.StatementBlocks.{block_of, stands_in, is_at, is_augment, is_node_or_uses, those}
use Rattle.yv_expand_statements.specs.StatementBlocks as blocks
use Rattle.yv_expand_statements.specs.declared.statement_kind.StatementKind.{StatementKind}
use Rattle.yv_expand_statements.specs.declared.statement_kind.StatementKind.TheVariants as kind
use Rattle.yv_expand_uses.specs.Kinds.{kind_at}
use Rattle.yv_expand_statements.specs.Kinds.{kind_of_keyword, takes}
use Rattle.yv_expand_augments.specs.Placement.{augment_around, augment_at}
use Rattle.yv_expand_definition.specs.Gives.{is_taken, takes_block}
use Rattle.yv_expand_laws.specs.TakenBlocks.{IsNotTaken, TargetsTake}
use Rattle.yv_expand_laws.proofs.BlockStatements.{block_scope, filter_in, row_at}
use Rattle.yv_expand_laws.proofs.FoundItems.{not_none, there_first, there_later}
use Rattle.yv_expand_laws.proofs.FrameSequences.{nothing_stands}
use Rattle.yv_expand_laws.proofs.KeywordKinds.{among_all, either_is, item_kind}
use Rattle.yv_expand_laws.proofs.BlockNodes.{first_or}
use Rattle.yv_expand_laws.proofs.StatementMarks.{both_true}

pub item_no_augment : (r : Row) → is_node_or_uses r ≡ true → is_augment r ≡ false
unfolding is_node_or_uses
item_no_augment r h = elim (either_is _ _ h) [
  | inl a ↦ among_all (λ word. bytes_eq word (codes "augment") ≡ false) nodes r.head.keyword (refl, (refl, (refl, (refl, (refl, (refl, (refl, (refl, (refl, (refl, tt)))))))))) a
  | inr b ↦ among_all (λ word. bytes_eq word (codes "augment") ≡ false) operations r.head.keyword (refl, (refl, tt)) b
]

-- where not all pass one doesn't
one_fails : (p : ℕ → Bool) (xs : List ℕ) → list_all p xs ≡ false → (k : ℕ) × Contains xs k × (p k ≡ false)
one_fails p [] h = absurd (false≢true (sym h))
one_fails p (x ∷ xs) h = by (p x) refl h (one_fails p xs)
  where
    by : (b : Bool) → p x ≡ b → (b && list_all p xs) ≡ false → (list_all p xs ≡ false → (k : ℕ) × Contains xs k × (p k ≡ false))
        → (k : ℕ) × Contains (x ∷ xs) k × (p k ≡ false)
    by false is e later = (x, there_first x xs, is)
    by true is e later = (let l = later e in (l.0, there_later x l.0 xs l.1, l.2))

all_fail : (p : ℕ → Bool) (xs : List ℕ) (k : ℕ) → Contains xs k → p k ≡ false → list_all p xs ≡ false
all_fail p [] k there is = absurd (nothing_stands k there)
all_fail p (x ∷ xs) k there is = elim (first_or x xs k there) [
  | inl same ↦ ap (λ (b : Bool). b && list_all p xs) (ap p same ∙ is)
  | inr rest ↦ (let l = all_fail p xs k rest is in ap (λ (b : Bool). p x && b) l ∙ never (p x))
]
  where
    never : (b : Bool) → (b && false) ≡ false
    never true = refl
    never false = refl

chosen : (p : ℕ → Bool) (xs : List ℕ) (k : ℕ) → Contains xs k → p k ≡ true → Contains (filter p xs) k
chosen p [] k there is = there
chosen p (x ∷ xs) k there is = by (p x) refl (first_or x xs k there) (λ h. chosen p xs k h is)
  where
    by : (b : Bool) → p x ≡ b → (x ≡ k) ⊎ Contains xs k → (Contains xs k → Contains (filter p xs) k) → Contains (cond b (x ∷ filter p xs) (filter p xs)) k
    by true at (inl same) later = subst (λ (n : ℕ). Contains (x ∷ filter p xs) n) same (there_first x (filter p xs))
    by true at (inr h) later = there_later x k (filter p xs) (later h)
    by false at (inl same) later = absurd (false≢true (sym at ∙ (ap p same ∙ is)))
    by false at (inr h) later = later h

-- a statement that passes is among the numbers of those that do
numbered : (passes : ℕ → Row → Bool) (n : ℕ) (rs : List Row) (i j : ℕ) (r : Row) → j ≡ n + i → slice_get rs i ≡ Some r → passes j r ≡ true
    → Contains (blocks.numbers_from passes n rs) j
numbered passes n [] i j r e at is = absurd (not_none at)
numbered passes n (q ∷ rs) zero j r e at is =
    ap_in (passes n q) (ap (λ (m : ℕ). passes m q) (let f : n ≡ j = omega (arith, e) in f) ∙ (ap (passes j) (same_Some q r at) ∙ is))
  where
    ap_in : (b : Bool) → b ≡ true → Contains (if b then n ∷ blocks.numbers_from passes (n + 1) rs else blocks.numbers_from passes (n + 1) rs) j
    ap_in true h = subst (λ (m : ℕ). Contains (n ∷ blocks.numbers_from passes (n + 1) rs) m) (let f : n ≡ j = omega (arith, e) in f) (there_first n (blocks.numbers_from passes (n + 1) rs))
    ap_in false h = absurd (false≢true h)
numbered passes n (q ∷ rs) (suc i) j r e at is = in_rest (passes n q) (numbered passes (n + 1) rs i j r (omega (arith, e)) at is)
  where
    in_rest : (b : Bool) → Contains (blocks.numbers_from passes (n + 1) rs) j → Contains (if b then n ∷ blocks.numbers_from passes (n + 1) rs else blocks.numbers_from passes (n + 1) rs) j
    in_rest true h = there_later n j (blocks.numbers_from passes (n + 1) rs) h
    in_rest false h = h

module _ (rows : List Row) (a : ℕ) (q : Row) (node : StatementKind) (at_a : slice_get rows a ≡ Some q) (is_one : is_augment q ≡ true) where
  abbrev taken_at : ℕ → Bool
  taken_at k = is_taken node (option_and_then (λ r. kind_of_keyword r.head.keyword) (slice_get rows k))

  -- what is taken at a statement is taken of its item
  taken_is : (k : ℕ) (r : Row) → slice_get rows k ≡ Some r → is_node_or_uses r ≡ true → taken_at k ≡ takes node (kind_at (Some r))
  taken_is k r at item =
      let kd = item_kind r item in
      ap (λ o. is_taken node (option_and_then (λ (z : Row). kind_of_keyword z.head.keyword) o)) at
      ∙ (ap (is_taken node) kd.1 ∙ ap (λ o. takes node (unwrap_or o kind.Uses)) (sym kd.1))

  in_block : (r : Row) → r.scope ≡ a → augment_around rows (Some r) ≡ Some a
  in_block r scope =
      ap (λ (n : ℕ). augment_at n (slice_get rows n)) scope ∙ (ap (augment_at a) at_a ∙ ap (λ (b : Bool). if b then Some a else None) is_one)

  pub scope_of : (r : Row) → augment_around rows (Some r) ≡ Some a → r.scope ≡ a
  scope_of r h = by (slice_get rows r.scope) h
    where
      chosen_one : (b : Bool) → (if b then Some r.scope else None) ≡ Some a → r.scope ≡ a
      chosen_one true e = same_Some r.scope a e
      chosen_one false e = absurd (not_none e)

      by : (o : Option Row) → augment_at r.scope o ≡ Some a → r.scope ≡ a
      by None e = absurd (not_none e)
      by (Some z) e = chosen_one (is_augment z) e

  not_taken : takes_block rows a node ≡ false → IsNotTaken rows a node
  not_taken h =
      let x = one_fails taken_at (those is_node_or_uses rows (block_of rows a)) h in
      let y = filter_in (is_at is_node_or_uses rows) (block_of rows a) x.0 x.1 in
      let z = row_at is_node_or_uses rows x.0 y.1 in
      let b = block_scope rows a x.0 y.0 in
      record {
        statement = x.0;
        row = z.0;
        at = z.1;
        item = z.2;
        around = in_block z.0 (ap (λ (w : Row). w.scope) (same_Some z.0 b.0 (sym z.1 ∙ b.1)) ∙ b.2);
        taken = sym (taken_is x.0 z.0 z.1 z.2) ∙ x.2;
      }

  -- an item around which the augment is stands in its block
  pub stands_there : (j : ℕ) (r : Row) → slice_get rows j ≡ Some r → is_node_or_uses r ≡ true → augment_around rows (Some r) ≡ Some a → Contains (block_of rows a) j
  stands_there j r at item around =
      let scope : r.scope ≡ a = scope_of r around in
      let other : r.scope ≢ j =
      λ same. false≢true (sym (item_no_augment r item)
      ∙ (ap is_augment (same_Some r q (sym at ∙ (ap (slice_get rows) (let e : j ≡ a = omega (arith, same, scope) in e) ∙ at_a))) ∙ is_one)) in
      let stands : stands_in a j r ≡ true = both_true (r.scope == a) (not (r.scope == j)) (eq-eqb r.scope a scope) (ap not (ne_eqb r.scope j other)) in
      numbered (stands_in a) 0 rows j j r (omega arith) at stands

  refuses_block : IsNotTaken rows a node → takes_block rows a node ≡ false
  refuses_block n =
      all_fail taken_at (those is_node_or_uses rows (block_of rows a)) n.statement
      (chosen (is_at is_node_or_uses rows) (block_of rows a) n.statement (stands_there n.statement n.row n.at n.item n.around)
      (ap (λ o. unwrap_or (option_map is_node_or_uses o) false) n.at ∙ n.item))
      (taken_is n.statement n.row n.at n.item ∙ n.taken)

pub targets_take : (rows : List Row) → TargetsTake rows
targets_take rows a q node at is_one = ((λ h. not_taken rows a q node at is_one h), (λ n. refuses_block rows a q node at is_one n))
