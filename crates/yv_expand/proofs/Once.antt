-- Statements have one expansion at most, which has no more items than units, and one where units
-- can be counted.
use Rattle.std.proofs.Common.{◌≡◌, ℕ, ◌+◌, ◌≤◌, Bool, true, false, cond, List, ◌∷◌, ◌++◌, refl, sym, ◌∙◌, ap, subst, arith, Option, Some}
use Rattle.std.specs.List.{slice_get, flat_map}
use Rattle.std.specs.Option.{option_map, unwrap_or}
use Rattle.std.proofs.lemmas.Option.{same_Some}
use Rattle.yv_link_scopes.specs.Files.{Briefs}
use Rattle.yv_link_scopes.specs.Rows.{Row}
use Rattle.yv_expand_statements.specs.Weigh as weigh
use Rattle.yv_expand_statements.specs.Weigh.{Weigh}
use Rattle.yv_expand_statements.specs.StatementBlocks.{block_of, is_node_or_uses, is_operation, is_input, is_output, is_augment, is_at, those, first_of, part, part_block, input_of, output_of}
use Rattle.yv_expand_statements.specs.declared.origin.Origin.{Origin}
use Rattle.yv_expand_statements.specs.declared.origin.Origin.TheVariants.{Statement, Input, Output}
use Rattle.yv_expand.specs.Tree.{Tree, none, item, count, join}
use Rattle.yv_expand.specs.Expands.{Expands, nothing, other, node, operation, uses, blocks_of}
use Rattle.yv_expand.proofs.Words.{no_units_no_item, no_units_no_input, no_units_no_output, no_units_no_augment, item_no_input, item_no_output, item_no_augment, input_no_output, input_no_augment, output_no_augment, input_no_item, output_no_item, augment_no_item, item_units, operation_units, operation_item, uses_item, counts_uses, named_no_operation}
use Rattle.yv_expand.proofs.StatementReferences.{MeansOne, refers_one, refers_word, operation_refers}

-- a statement passes a test or doesn't
pub not_both : (test : Row → Bool) (rows : List Row) (k : ℕ) (r s : Row) → slice_get rows k ≡ Some r → slice_get rows k ≡ Some s → test r ≡ true → test s ≡ false → ⊥
not_both test rows k r s at at' is isnt = let bad : true ≡ false = sym is ∙ ap test (same_Some r s (sym at ∙ at')) ∙ isnt in cc

same_item : (o : Origin) (a b c d : Tree) → a ≡ b → c ≡ d → item o a c ≡ item o b d
same_item o a b c d e f = ap (λ (x : Tree). item o x c) e ∙ ap (λ (y : Tree). item o b y) f

pub count_joined : (t u : Tree) → count (join t u) ≡ count t + count u
count_joined none u = omega arith
count_joined (item origin below behind) u = omega (arith, count_joined behind u)

module _ {files : Briefs} {rows : List Row} where
  pub expands_one : MeansOne → {numbers : List ℕ} {t u : Tree} → Expands files rows numbers t → Expands files rows numbers u → t ≡ u
  expands_one one nothing nothing = refl
  expands_one one (other at isnt e) (other at' isnt' f) = expands_one one e f
  expands_one one (other at isnt e) (node at' is simple without b f) = absurd (not_both is_node_or_uses rows _ _ _ at' at is isnt)
  expands_one one (other {k = k} {r = r} at isnt e) (operation {r = s} at' is i o f) =
      absurd (not_both is_node_or_uses rows k s r at' at (operation_item s is) isnt)
  expands_one one (other at isnt e) (uses at' is refers b g f) = absurd (not_both is_node_or_uses rows _ _ _ at' at is isnt)
  expands_one one (node at is simple without b e) (other at' isnt f) = absurd (not_both is_node_or_uses rows _ _ _ at at' is isnt)
  expands_one one (node {k = k} {below = x} {behind = y} at is simple without b e) (node {below = z} {behind = w} at' is' simple' without' c f) =
      same_item (Statement k) x z y w (expands_one one b c) (expands_one one e f)
  expands_one one (node at is simple without b e) (operation at' is' i o f) = absurd (not_both is_operation rows _ _ _ at' at is' simple)
  expands_one one (node at is simple without b e) (uses {d = d} at' is' refers c g f) = absurd (without d refers)
  expands_one one (operation {k = k} {r = r} at is i o e) (other {r = s} at' isnt f) =
      absurd (not_both is_node_or_uses rows k r s at at' (operation_item r is) isnt)
  expands_one one (operation at is i o e) (node at' is' simple without b f) = absurd (not_both is_operation rows _ _ _ at at' is simple)
  expands_one one (operation {k = k} {input = a} {output = b} {behind = y} at is i o e) (operation {input = c} {output = d} {behind = w} at' is' i' o' f) =
      let p : Origin = part (Input k) (input_of rows k) in
      let q : Origin = part (Output k) (output_of rows k) in
      let last : item q b none ≡ item q d none = same_item q b d none none (expands_one one o o') refl in
      let both : item p a (item q b none) ≡ item p c (item q d none) = same_item p a c (item q b none) (item q d none) (expands_one one i i') last in
      same_item (Statement k) (item p a (item q b none)) (item p c (item q d none)) y w both (expands_one one e f)
  expands_one one (operation {k = k} {r = r} at is i o e) (uses {d = d} at' is' refers c g f) =
      absurd (operation_refers files rows k d r at is refers)
  expands_one one (uses at is refers b g e) (other at' isnt f) = absurd (not_both is_node_or_uses rows _ _ _ at at' is isnt)
  expands_one one (uses {d = d} at is refers b g e) (node at' is' simple without c f) = absurd (without d refers)
  expands_one one (uses {k = k} {d = d} at is refers b g e) (operation {r = r} at' is' i o f) =
      absurd (operation_refers files rows k d r at' is' refers)
  expands_one one (uses {k = k} {d = d} {copies = x} {given = v} {behind = y} at is refers b g e) (uses {d = c} {copies = z} {given = u} {behind = w} at' is' refers' h j f) =
      let meant : d ≡ c = refers_one one files rows k d c refers refers' in
      let copied : x ≡ z = expands_one one b (subst (λ (m : ℕ). Expands files rows (block_of rows m) z) (sym meant) h) in
      let inner : join x v ≡ join z u = ap (λ (t : Tree). join t v) copied ∙ ap (join z) (expands_one one g j) in
      same_item (Statement k) (join x v) (join z u) y w inner (expands_one one e f)

  -- what two lists give
  pub both_expand : {xs ys : List ℕ} {a b : Tree} → Expands files rows xs a → Expands files rows ys b → Expands files rows (xs ++ ys) (join a b)
  both_expand nothing h = h
  both_expand (other at isnt e) h = other at isnt (both_expand e h)
  both_expand (node at is simple without b e) h = node at is simple without b (both_expand e h)
  both_expand (operation at is i o e) h = operation at is i o (both_expand e h)
  both_expand (uses at is refers b g e) h = uses at is refers b g (both_expand e h)

module _ (rows : List Row) where
  -- the statement in front passes a test or doesn't
  at_is : (test : Row → Bool) (k : ℕ) (r : Row) (b : Bool) → slice_get rows k ≡ Some r → test r ≡ b → is_at test rows k ≡ b
  at_is test k r b at is = ap (λ (o : Option Row). unwrap_or (option_map test o) false) at ∙ is

  past_first : (test : Row → Bool) (k : ℕ) (others : List ℕ) → is_at test rows k ≡ false → first_of test rows (k ∷ others) ≡ first_of test rows others
  past_first test k others isnt = ap (λ (b : Bool). slice_get (cond b (k ∷ those test rows others) (those test rows others)) 0) isnt

  here_first : (test : Row → Bool) (k : ℕ) (others : List ℕ) → is_at test rows k ≡ true → first_of test rows (k ∷ others) ≡ Some k
  here_first test k others is = ap (λ (b : Bool). slice_get (cond b (k ∷ those test rows others) (those test rows others)) 0) is

  past_given : (k : ℕ) (others : List ℕ) → is_at is_augment rows k ≡ false → blocks_of rows (k ∷ others) ≡ blocks_of rows others
  past_given k others isnt = ap (λ (b : Bool). flat_map (block_of rows) (cond b (k ∷ those is_augment rows others) (those is_augment rows others))) isnt

  here_given : (k : ℕ) (others : List ℕ) → is_at is_augment rows k ≡ true → blocks_of rows (k ∷ others) ≡ block_of rows k ++ blocks_of rows others
  here_given k others is = ap (λ (b : Bool). flat_map (block_of rows) (cond b (k ∷ those is_augment rows others) (those is_augment rows others))) is

module _ (files : Briefs) (rows : List Row) where
  -- what numbered statements give, the first input and the first output among them, and the
  -- augments among them
  pub record Expanded (numbers : List ℕ) (n : ℕ) : Type 0 where
    pub tree : Tree
    pub input : Tree
    pub output : Tree
    pub given : Tree
    pub expands : Expands files rows numbers tree
    pub input_expands : Expands files rows (part_block rows (first_of is_input rows numbers)) input
    pub output_expands : Expands files rows (part_block rows (first_of is_output rows numbers)) output
    pub given_expands : Expands files rows (blocks_of rows numbers) given
    pub within : count tree + count input + count output + count given ≤ n

  part_past : (test : Row → Bool) (k : ℕ) (r : Row) (others : List ℕ) (t : Tree) → slice_get rows k ≡ Some r → test r ≡ false
      → Expands files rows (part_block rows (first_of test rows others)) t → Expands files rows (part_block rows (first_of test rows (k ∷ others))) t
  part_past test k r others t at isnt e =
      subst (λ (o : Option ℕ). Expands files rows (part_block rows o) t) (sym (past_first rows test k others (at_is rows test k r false at isnt))) e

  part_here : (test : Row → Bool) (k : ℕ) (r : Row) (others : List ℕ) (t : Tree) → slice_get rows k ≡ Some r → test r ≡ true
      → Expands files rows (block_of rows k) t → Expands files rows (part_block rows (first_of test rows (k ∷ others))) t
  part_here test k r others t at is e =
      subst (λ (o : Option ℕ). Expands files rows (part_block rows o) t) (sym (here_first rows test k others (at_is rows test k r true at is))) e

  given_past : (k : ℕ) (r : Row) (others : List ℕ) (t : Tree) → slice_get rows k ≡ Some r → is_augment r ≡ false
      → Expands files rows (blocks_of rows others) t → Expands files rows (blocks_of rows (k ∷ others)) t
  given_past k r others t at isnt e =
      subst (λ (l : List ℕ). Expands files rows l t) (sym (past_given rows k others (at_is rows is_augment k r false at isnt))) e

  given_here : (k : ℕ) (r : Row) (others : List ℕ) (a b : Tree) → slice_get rows k ≡ Some r → is_augment r ≡ true
      → Expands files rows (block_of rows k) a → Expands files rows (blocks_of rows others) b → Expands files rows (blocks_of rows (k ∷ others)) (join a b)
  given_here k r others a b at is e f =
      subst (λ (l : List ℕ). Expands files rows l (join a b)) (sym (here_given rows k others (at_is rows is_augment k r true at is))) (both_expand e f)

  -- one more statement in front, which is no part and no augment
  with_tree : (k n m : ℕ) (r : Row) (others : List ℕ) (t : Tree) → slice_get rows k ≡ Some r → is_input r ≡ false → is_output r ≡ false → is_augment r ≡ false
      → (w : Expanded others m) → Expands files rows (k ∷ others) t → count t + m ≤ n + count w.tree → Expanded (k ∷ others) n
  with_tree k n m r others t at no_input no_output no_augment w e le = record {
    tree = t;
    input = w.input;
    output = w.output;
    given = w.given;
    expands = e;
    input_expands = part_past is_input k r others w.input at no_input w.input_expands;
    output_expands = part_past is_output k r others w.output at no_output w.output_expands;
    given_expands = given_past k r others w.given at no_augment w.given_expands;
    within = omega (arith, w.within, le);
  }

  -- a statement in front that counts but is no item: a part, an augment, or what is none of these
  with_input : (k n m : ℕ) (r : Row) (others : List ℕ) → slice_get rows k ≡ Some r → is_input r ≡ true → Expanded (block_of rows k) n → Expanded others m
      → Expanded (k ∷ others) (n + m)
  with_input k n m r others at is b w = record {
    tree = w.tree;
    input = b.tree;
    output = w.output;
    given = w.given;
    expands = other at (input_no_item r is) w.expands;
    input_expands = part_here is_input k r others b.tree at is b.expands;
    output_expands = part_past is_output k r others w.output at (input_no_output r is) w.output_expands;
    given_expands = given_past k r others w.given at (input_no_augment r is) w.given_expands;
    within = omega (arith, b.within, w.within);
  }

  with_output : (k n m : ℕ) (r : Row) (others : List ℕ) → slice_get rows k ≡ Some r → is_output r ≡ true → is_input r ≡ false → Expanded (block_of rows k) n
      → Expanded others m → Expanded (k ∷ others) (n + m)
  with_output k n m r others at is no_input b w = record {
    tree = w.tree;
    input = w.input;
    output = b.tree;
    given = w.given;
    expands = other at (output_no_item r is) w.expands;
    input_expands = part_past is_input k r others w.input at no_input w.input_expands;
    output_expands = part_here is_output k r others b.tree at is b.expands;
    given_expands = given_past k r others w.given at (output_no_augment r is) w.given_expands;
    within = omega (arith, b.within, w.within);
  }

  with_augment : (k n m : ℕ) (r : Row) (others : List ℕ) → slice_get rows k ≡ Some r → is_augment r ≡ true → is_input r ≡ false → is_output r ≡ false
      → Expanded (block_of rows k) n → Expanded others m → Expanded (k ∷ others) (n + m)
  with_augment k n m r others at is no_input no_output b w = record {
    tree = w.tree;
    input = w.input;
    output = w.output;
    given = join b.tree w.given;
    expands = other at (augment_no_item r is) w.expands;
    input_expands = part_past is_input k r others w.input at no_input w.input_expands;
    output_expands = part_past is_output k r others w.output at no_output w.output_expands;
    given_expands = given_here k r others b.tree w.given at is b.expands w.given_expands;
    within = omega (arith, b.within, w.within, count_joined b.tree w.given);
  }

  with_none : (k n m : ℕ) (r : Row) (others : List ℕ) → slice_get rows k ≡ Some r → is_node_or_uses r ≡ false → (input output augment : Bool)
      → is_input r ≡ input → is_output r ≡ output → is_augment r ≡ augment → Expanded (block_of rows k) n → Expanded others m → Expanded (k ∷ others) (n + m)
  with_none k n m r others at isnt true output augment i o a b w = with_input k n m r others at i b w
  with_none k n m r others at isnt false true augment i o a b w = with_output k n m r others at o i b w
  with_none k n m r others at isnt false false true i o a b w = with_augment k n m r others at a i o b w
  with_none k n m r others at isnt false false false i o a b w =
      with_tree k (n + m) m r others w.tree at i o a w (other at isnt w.expands) (omega arith)

  more_room : (numbers : List ℕ) (n m : ℕ) → n ≤ m → Expanded numbers n → Expanded numbers m
  more_room numbers n m le w = record {
    tree = w.tree;
    input = w.input;
    output = w.output;
    given = w.given;
    expands = w.expands;
    input_expands = w.input_expands;
    output_expands = w.output_expands;
    given_expands = w.given_expands;
    within = omega (arith, w.within, le);
  }

  pub weighed : {numbers : List ℕ} {n : ℕ} → Weigh files rows numbers n → Expanded numbers n
  weighed weigh.nothing = record {
    tree = none;
    input = none;
    output = none;
    given = none;
    expands = nothing;
    input_expands = nothing;
    output_expands = nothing;
    given_expands = nothing;
    within = omega arith;
  }
  weighed (weigh.other {k = k} {m = m} {r = r} {others = others} at u w) =
      let rest : Expanded others m = weighed w in
      with_tree k m m r others rest.tree at (no_units_no_input r u) (no_units_no_output r u) (no_units_no_augment r u) rest
      (other at (no_units_no_item r u) rest.expands) (omega arith)
  weighed (weigh.node {k = k} {own = own} {n = n} {m = m} {r = r} {others = others} at u without b w) = by (is_operation r) (is_node_or_uses r) refl refl (weighed b) (weighed w)
    where
      by : (op it : Bool) → is_operation r ≡ op → is_node_or_uses r ≡ it → Expanded (block_of rows k) n → Expanded others m → Expanded (k ∷ others) (own + n + m)
      by true it is it_is inner rest =
          let single : own ≡ 3 = same_Some own 3 (sym u ∙ operation_units r is) in
          let an_item : is_node_or_uses r ≡ true = operation_item r is in
          let p : Origin = part (Input k) (input_of rows k) in
          let q : Origin = part (Output k) (output_of rows k) in
          let t : Tree = item (Statement k) (item p inner.input (item q inner.output none)) rest.tree in
          with_tree k (own + n + m) m r others t at (item_no_input r an_item) (item_no_output r an_item) (item_no_augment r an_item) rest
          (operation at is inner.input_expands inner.output_expands rest.expands) (omega (arith, single, inner.within))
      by false true isnt is inner rest =
          let single : own ≡ 1 = same_Some own 1 (sym u ∙ item_units r is isnt) in
          with_tree k (own + n + m) m r others (item (Statement k) inner.tree rest.tree) at (item_no_input r is) (item_no_output r is) (item_no_augment r is) rest
          (node at is isnt without inner.expands rest.expands) (omega (arith, single, inner.within))
      by false false isnt not_item inner rest =
          more_room (k ∷ others) (n + m) (own + n + m) (omega arith)
          (with_none k n m r others at not_item (is_input r) (is_output r) (is_augment r) refl refl refl inner rest)
  weighed (weigh.uses {k = k} {d = d} {own = own} {g = g} {n = n} {m = m} {r = r} {others = others} at u refers c b w) =
      let is : is_node_or_uses r ≡ true = uses_item r (counts_uses r own u (refers_word files rows k d r at refers)) in
      let isnt : is_operation r ≡ false = named_no_operation r (refers_word files rows k d r at refers) in
      let single : own ≡ 1 = same_Some own 1 (sym u ∙ item_units r is isnt) in
      let copied : Expanded (block_of rows d) g = weighed c in
      let inner : Expanded (block_of rows k) n = weighed b in
      let rest : Expanded others m = weighed w in
      with_tree k (own + g + n + m) m r others (item (Statement k) (join copied.tree inner.given) rest.tree) at
      (item_no_input r is) (item_no_output r is) (item_no_augment r is) rest
      (uses at is refers copied.expands inner.given_expands rest.expands) (omega (arith, single, copied.within, inner.within, count_joined copied.tree inner.given))

module _ {files : Briefs} {rows : List Row} where
  pub weighed_expands : {numbers : List ℕ} {n : ℕ} → Weigh files rows numbers n → (t : Tree) × Expands files rows numbers t
  weighed_expands w = let e = weighed files rows w in (e.tree, e.expands)

  pub expands_within : MeansOne → {numbers : List ℕ} {t : Tree} {n : ℕ} → Expands files rows numbers t → Weigh files rows numbers n → count t ≤ n
  expands_within one {numbers = numbers} {t = t} {n = n} e w =
      let found : Expanded files rows numbers n = weighed files rows w in
      let same : count t ≡ count found.tree = ap count (expands_one one e found.expands) in
      omega (arith, same, found.within)
