-- What statements give as items, and what several lists give.
use Rattle.std.proofs.Common.{◌≡◌, ℕ, ◌<◌, inl, inr, zero, suc, Bool, true, false, cond, List, [], ◌∷◌, ◌++◌, length, refl, sym, ◌∙◌, ap, subst, arith, Option, Some, None}
use Rattle.std.specs.List.{slice_get, flat_map}
use Rattle.std.specs.Option.{option_map, unwrap_or}
use Rattle.std.proofs.lemmas.Option.{same_Some, slice_get_cases}
use Rattle.yv_link_scopes.specs.Files.{Briefs}
use Rattle.yv_link_scopes.specs.Rows.{Row}
use Rattle.yv_link_definitions.specs.Refers.{RefersTo}
use Rattle.yv_expand_statements.specs.StatementBlocks.{block_of, given_at, given_before, is_node_or_uses, is_operation, is_input, is_output, is_at, those, first_of, part, part_block, input_of, output_of}
use Rattle.yv_expand_statements.specs.declared.origin.Origin.{Origin}
use Rattle.yv_expand_statements.specs.declared.origin.Origin.TheVariants.{Statement, Input, Output}
use Rattle.yv_expand.specs.Tree.{Tree, none, item, join, all_of}
use Rattle.yv_expand.specs.Expands.{Expands, nothing, other, node, operation, uses}
use Rattle.yv_expand.specs.InnerItems.{Give, no_more, one_more, StandBelow, below_node, below_operation, below_uses, below_input, below_output, items_among, origins}
use Rattle.yv_expand.proofs.Listing.{longer, pushed_at}
use Rattle.yv_expand.proofs.Once.{both_expand}
use Rattle.yv_expand.proofs.Words.{false_true, operation_item, input_no_item, output_no_item, no_item_no_operation, input_not_named, output_not_named, named_no_operation}
use Rattle.yv_expand.proofs.StatementReferences.{refers_word}

joined_none : (t : Tree) → join t none ≡ t
joined_none none = refl
joined_none (item o below behind) = ap (item o below) (joined_none behind)

joined_assoc : (a b c : Tree) → join (join a b) c ≡ join a (join b c)
joined_assoc none b c = refl
joined_assoc (item o below behind) b c = ap (item o below) (joined_assoc behind b c)

all_pushed : (ts : List Tree) (t : Tree) → all_of (ts ++ t ∷ []) ≡ join (all_of ts) t
all_pushed [] t = joined_none t
all_pushed (u ∷ ts) t = ap (join u) (all_pushed ts t) ∙ sym (joined_assoc u (all_of ts) t)

none_there : {u : Tree} (k : ℕ) → slice_get [] k ≡ Some u → ⊥
none_there k at = cc

none_some : {i : ℕ} → None ≡ Some i → ⊥
none_some e = cc

module _ (files : Briefs) (rows : List Row) where
  -- what two lists give
  abbrev Halves : List ℕ → List ℕ → Tree → Type 0
  Halves xs ys t = (a : Tree) × (b : Tree) × Expands files rows xs a × Expands files rows ys b × (t ≡ join a b)

  pub halves : (xs ys : List ℕ) (t : Tree) → Expands files rows (xs ++ ys) t → Halves xs ys t
  halves [] ys t e = (none, t, nothing, e, refl)
  halves (k ∷ xs) ys t (other at isnt e) = let (a, b, first, last, is) = halves xs ys t e in (a, b, other at isnt first, last, is)
  halves (k ∷ xs) ys t (node {below = below} {behind = behind} at is simple without inner e) =
      let (a, b, first, last, same) = halves xs ys behind e in
      (item (Statement k) below a, b, node at is simple without inner first, last, ap (item (Statement k) below) same)
  halves (k ∷ xs) ys t (operation {input = input} {output = output} {behind = behind} at is i o e) =
      let (a, b, first, last, same) = halves xs ys behind e in
      let parts : Tree = item (part (Input k) (input_of rows k)) input (item (part (Output k) (output_of rows k)) output none) in
      (item (Statement k) parts a, b, operation at is i o first, last, ap (item (Statement k) parts) same)
  halves (k ∷ xs) ys t (uses {copies = copies} {given = given} {behind = behind} at is refers inner more e) =
      let (a, b, first, last, same) = halves xs ys behind e in
      (item (Statement k) (join copies given) a, b, uses at is refers inner more first, last, ap (item (Statement k) (join copies given)) same)

  pub give_both : (xs ys : List Origin) (a b : Tree) → Give files rows xs a → Give files rows ys b → Give files rows (xs ++ ys) (join a b)
  give_both [] ys a b no_more h = h
  give_both (k ∷ xs) ys a b (one_more {behind = behind} s inner g) h = one_more s inner (give_both xs ys behind b g h)

  -- the trees of the first files
  abbrev pub TreesBefore : List Bool → ℕ → Tree → Type 0
  TreesBefore marks n t =
      (trees : List Tree) × (length trees ≡ n) × ((k : ℕ) (u : Tree) → slice_get trees k ≡ Some u → Expands files rows (given_at files rows marks k) u) × (t ≡ all_of trees)

  pub none_whole : (t : Tree) → Expands files rows [] t → t ≡ none
  none_whole t nothing = refl

  pub trees_before : (marks : List Bool) (n : ℕ) (t : Tree) → Expands files rows (given_before files rows marks n) t → TreesBefore marks n t
  trees_before marks zero t e = ([], refl, (λ k u at. absurd (none_there k at)), none_whole t e)
  trees_before marks (suc n) t e =
      let (a, b, first, last, same) = halves (given_before files rows marks n) (given_at files rows marks n) t e in
      let (trees, each, expands, whole) = trees_before marks n a first in (
        trees ++ b ∷ [],
        longer trees b ∙ (omega (arith, each)),
        λ k u at. elim (pushed_at trees b u k at) [
          | inl old ↦ expands k u old
          | inr (here, is) ↦
              let at_n : k ≡ n = here ∙ each in
              subst (λ (m : ℕ). Expands files rows (given_at files rows marks m) u) (sym at_n) (subst (λ (x : Tree). Expands files rows (given_at files rows marks n) x) is last)
        ],
        same ∙ ap (λ (x : Tree). join x b) whole ∙ sym (all_pushed trees b),
      )

  -- the trees of what stands in several blocks
  abbrev pub TreesOf : List ℕ → Tree → Type 0
  TreesOf blocks t =
      (trees : List Tree) × (length trees ≡ length blocks)
      × ((n k : ℕ) (u : Tree) → slice_get blocks n ≡ Some k → slice_get trees n ≡ Some u → Expands files rows (block_of rows k) u) × (t ≡ all_of trees)

  pub trees_of : (blocks : List ℕ) (t : Tree) → Expands files rows (flat_map (block_of rows) blocks) t → TreesOf blocks t
  trees_of [] t e = ([], refl, (λ n k u here at. absurd (none_there n at)), none_whole t e)
  trees_of (b ∷ bs) t e =
      let (first, rest, own, later, same) = halves (block_of rows b) (flat_map (block_of rows) bs) t e in
      let (trees, each, expands, whole) = trees_of bs rest later in
      (first ∷ trees, omega (arith, each), by first trees own expands, same ∙ ap (join first) whole)
    where
      by : (first : Tree) (trees : List Tree) → Expands files rows (block_of rows b) first
          → ((n k : ℕ) (u : Tree) → slice_get bs n ≡ Some k → slice_get trees n ≡ Some u → Expands files rows (block_of rows k) u)
          → (n k : ℕ) (u : Tree) → slice_get (b ∷ bs) n ≡ Some k → slice_get (first ∷ trees) n ≡ Some u → Expands files rows (block_of rows k) u
      by first trees own later zero k u here at =
          subst (λ (m : ℕ). Expands files rows (block_of rows m) u) (same_Some b k here) (subst (λ (x : Tree). Expands files rows (block_of rows b) x) (same_Some first u at) own)
      by first trees own later (suc n) k u here at = later n k u here at

  -- trees of what several numbers stand for
  abbrev pub AreOf : (ℕ → List ℕ) → List ℕ → List Tree → Type 0
  AreOf part numbers trees =
      (length trees ≡ length numbers)
      × ((n k : ℕ) (t : Tree) → slice_get numbers n ≡ Some k → slice_get trees n ≡ Some t → Expands files rows (part k) t)

  tree_first : (part : ℕ → List ℕ) (k : ℕ) (ks : List ℕ) (t : Tree) (ts : List Tree) → Expands files rows (part k) t → AreOf part ks ts
      → AreOf part (k ∷ ks) (t ∷ ts)
  tree_first part k ks t ts first (each, later) = (omega (arith, each), by)
    where
      by : (n m : ℕ) (u : Tree) → slice_get (k ∷ ks) n ≡ Some m → slice_get (t ∷ ts) n ≡ Some u → Expands files rows (part m) u
      by zero m u here at =
          subst (λ (i : ℕ). Expands files rows (part i) u) (same_Some k m here) (subst (λ (x : Tree). Expands files rows (part k) x) (same_Some t u at) first)
      by (suc n) m u here at = later n m u here at

  -- each of several numbers has one
  pub trees_each : (part : ℕ → List ℕ) (numbers : List ℕ) → ((n k : ℕ) → slice_get numbers n ≡ Some k → (t : Tree) × Expands files rows (part k) t)
      → (trees : List Tree) × AreOf part numbers trees
  trees_each part [] expand = ([], (refl, (λ n k t here at. absurd (none_there n at))))
  trees_each part (k ∷ ks) expand =
      let (t, first) = expand 0 k refl in
      let (ts, later) = trees_each part ks (λ n m here. expand (suc n) m here) in
      (t ∷ ts, tree_first part k ks t ts first later)

  -- together they are what all these numbers stand for
  pub trees_whole : (part : ℕ → List ℕ) (numbers : List ℕ) (trees : List Tree) → AreOf part numbers trees
      → Expands files rows (flat_map part numbers) (all_of trees)
  trees_whole part [] [] are = nothing
  trees_whole part [] (t ∷ ts) (each, expands) = absurd (omega (arith, each))
  trees_whole part (k ∷ ks) [] (each, expands) = absurd (omega (arith, each))
  trees_whole part (k ∷ ks) (t ∷ ts) (each, expands) =
      both_expand (expands 0 k t refl refl) (trees_whole part ks ts (omega (arith, each), (λ n m u here at. expands (suc n) m u here at)))

  -- the tree of one of the first files
  pub tree_before : (marks : List Bool) (n : ℕ) (t : Tree) → Expands files rows (given_before files rows marks n) t → (file : ℕ) → file < n
      → (u : Tree) × Expands files rows (given_at files rows marks file) u
  tree_before marks n t e file within =
      let (trees, each, expands, whole) = trees_before marks n t e in
      elim (slice_get_cases trees file).1 [
        | inl (u, l, at, is) ↦ (u, expands file u at)
        | inr (past, free) ↦ absurd (omega (arith, past, within, each))
      ]

  -- a numbered statement that passes a test is one
  abbrev pub Passing : (Row → Bool) → ℕ → Type 0
  Passing test k = (r : Row) × (slice_get rows k ≡ Some r) × (test r ≡ true)

  pub passing : (test : Row → Bool) (k : ℕ) → is_at test rows k ≡ true → Passing test k
  passing test k h = by (slice_get rows k) refl
    where
      by : (o : Option Row) → slice_get rows k ≡ o → Passing test k
      by None at = absurd (false_true (ap (λ (p : Option Row). unwrap_or (option_map test p) false) (sym at) ∙ h))
      by (Some r) at = (r, at, ap (λ (p : Option Row). unwrap_or (option_map test p) false) (sym at) ∙ h)

  pub first_passes : (test : Row → Bool) (numbers : List ℕ) (i : ℕ) → first_of test rows numbers ≡ Some i → Passing test i
  first_passes test [] i e = absurd (none_some e)
  first_passes test (k ∷ ks) i e = by (is_at test rows k) refl e (first_passes test ks i)
    where
      by : (b : Bool) → is_at test rows k ≡ b → slice_get (cond b (k ∷ those test rows ks) (those test rows ks)) 0 ≡ Some i
          → (slice_get (those test rows ks) 0 ≡ Some i → Passing test i) → Passing test i
      by true is f later = subst (Passing test) (same_Some k i f) (passing test k is)
      by false isnt f later = later f

  at_is : (test : Row → Bool) (k : ℕ) (r : Row) (b : Bool) → slice_get rows k ≡ Some r → test r ≡ b → is_at test rows k ≡ b
  at_is test k r b at is = ap (λ (o : Option Row). unwrap_or (option_map test o) false) at ∙ is

  item_past : (k : ℕ) (r : Row) (others : List ℕ) → slice_get rows k ≡ Some r → is_node_or_uses r ≡ false → items_among rows (k ∷ others) ≡ items_among rows others
  item_past k r others at isnt =
      ap (λ (b : Bool). origins (cond b (k ∷ those is_node_or_uses rows others) (those is_node_or_uses rows others))) (at_is is_node_or_uses k r false at isnt)

  item_here : (k : ℕ) (r : Row) (others : List ℕ) → slice_get rows k ≡ Some r → is_node_or_uses r ≡ true
      → items_among rows (k ∷ others) ≡ Statement k ∷ items_among rows others
  item_here k r others at is =
      ap (λ (b : Bool). origins (cond b (k ∷ those is_node_or_uses rows others) (those is_node_or_uses rows others))) (at_is is_node_or_uses k r true at is)

  -- a part of an operation gives what stands in it
  abbrev IsPart : ℕ → Type 0
  IsPart i = (r : Row) × (slice_get rows i ≡ Some r) × (is_operation r ≡ false) × ((d : ℕ) → RefersTo files rows i d → ⊥)

  abbrev PartGives : Origin → Tree → Type 0
  PartGives origin t = (inner : List Origin) × StandBelow files rows origin inner × Give files rows inner t

  part_gives : (unwritten : Origin) (o : Option ℕ) (t : Tree) → StandBelow files rows unwritten [] → ((i : ℕ) → o ≡ Some i → IsPart i)
      → Give files rows (items_among rows (part_block rows o)) t → PartGives (part unwritten o) t
  part_gives unwritten None t empty is g = ([], empty, g)
  part_gives unwritten (Some i) t empty is g =
      let (r, at, simple, without) = is i refl in (items_among rows (block_of rows i), below_node at simple without, g)

  input_part : (k i : ℕ) → input_of rows k ≡ Some i → IsPart i
  input_part k i e =
      let (r, at, is) = first_passes is_input (block_of rows k) i e in
      (r, at, no_item_no_operation r (input_no_item r is), λ d refers. input_not_named r is (refers_word files rows i d r at refers))

  output_part : (k i : ℕ) → output_of rows k ≡ Some i → IsPart i
  output_part k i e =
      let (r, at, is) = first_passes is_output (block_of rows k) i e in
      (r, at, no_item_no_operation r (output_no_item r is), λ d refers. output_not_named r is (refers_word files rows i d r at refers))

  -- the items among statements give what these give
  pub gives : {numbers : List ℕ} {t : Tree} → Expands files rows numbers t → Give files rows (items_among rows numbers) t
  gives nothing = no_more
  gives (other {k = k} {r = r} {others = others} {t = t} at isnt e) =
      subst (λ (l : List Origin). Give files rows l t) (sym (item_past k r others at isnt)) (gives e)
  gives (node {k = k} {r = r} {others = others} {below = below} {behind = behind} at is simple without b e) =
      subst (λ (l : List Origin). Give files rows l (item (Statement k) below behind)) (sym (item_here k r others at is))
      (one_more (below_node at simple without) (gives b) (gives e))
  gives (operation {k = k} {r = r} {others = others} {input = input} {output = output} {behind = behind} at is i o e) =
      let (inner, stand, given) = part_gives (Input k) (input_of rows k) input below_input (input_part k) (gives i) in
      let (outer, stand_out, given_out) = part_gives (Output k) (output_of rows k) output below_output (output_part k) (gives o) in
      let parts : Tree = item (part (Input k) (input_of rows k)) input (item (part (Output k) (output_of rows k)) output none) in
      subst (λ (l : List Origin). Give files rows l (item (Statement k) parts behind)) (sym (item_here k r others at (operation_item r is)))
      (one_more (below_operation at is) (one_more stand given (one_more stand_out given_out no_more)) (gives e))
  gives (uses {k = k} {d = d} {r = r} {others = others} {copies = copies} {given = given} {behind = behind} at is refers b g e) =
      let simple : is_operation r ≡ false = named_no_operation r (refers_word files rows k d r at refers) in
      subst (λ (l : List Origin). Give files rows l (item (Statement k) (join copies given) behind)) (sym (item_here k r others at is))
      (one_more (below_uses at simple refers) (give_both _ _ copies given (gives b) (gives g)) (gives e))
