-- Sets of prefixes, one prefix or more at a time.
use Rattle.std.proofs.Common.{◌≡◌, ℕ, ◌+◌, ◌<◌, ◌≤◌, ◌||◌, Bool, true, false, cond, List, [], ◌∷◌, ◌++◌, length, take, drop, get_or, filter, nat_eq, sym, ◌∙◌, ap, refl, append_assoc, subst}
use Rattle.std.specs.Ordering.{nat_cmp}
use Rattle.std.specs.Cmp.Lexicographic.{slice_cmp}
use Rattle.std.specs.Str.{bytes_eq}
use Rattle.std.specs.BTreeSet.{UpdatesBy}
use Rattle.std.proofs.lemmas.Bool.{ne_eqb}
use Rattle.std.proofs.lemmas.List.{append-nil, drop_more, take_more, take_all}
use Rattle.std.proofs.lemmas.List.Folds.{list_any-append}
use Rattle.std.proofs.lemmas.Map.Text.{is_eq-slice_cmp}
use denote.Ref.{Bor}
use Rattle.yv_text_if_feature.specs.Names.{is_identifier, is_part}
use Rattle.yv_text_statement.specs.Tree.{Head, Forest, Then, End, Tree, forest, trees}
use Rattle.yv_text_statement.specs.Words.{is_among}
use Rattle.yv_lint.specs.InnerUsed.{Adds, has_prefix}
use Rattle.yv_lint.specs.Used.{runs_after, used_in, keyword_prefix, argument_prefixes}
use Rattle.yv_link_scopes.specs.Rows.{is_extended}
use Rattle.yv_link_scopes.proofs.Listing.{forest-trees}
use Rattle.yv_lint.specs.declared.prefixes.Prefixes.{Prefixes}
use Rattle.yv_lint.proofs.Cuts.{cut, cut_more, none_of}

or_false : (b : Bool) → (b || false) ≡ b
or_false true = refl
or_false false = refl

or_assoc : (a b c : Bool) → ((a || b) || c) ≡ (a || (b || c))
or_assoc true b c = refl
or_assoc false b c = refl

one : (b old : Bool) → cond b true old ≡ (old || (b || false))
one true true = refl
one true false = refl
one false true = refl
one false false = refl

pub adds_one : (old new : Prefixes) (prefix : Bor (List ℕ)) → UpdatesBy (λ x y. slice_cmp nat_cmp x.now y.now) (λ k. slice_cmp nat_cmp prefix.now k.now) old.set new.set true → Adds old new (prefix.now ∷ [])
adds_one old new prefix u = record {
  each = λ p.
      u.0 (record { ref_ptr = (0, 0); now = p })
      ∙ ap (λ b. cond b true (has_prefix old p)) (is_eq-slice_cmp prefix.now p)
      ∙ one (bytes_eq prefix.now p) (has_prefix old p);
}

pub adds_none : (s : Prefixes) → Adds s s []
adds_none s = record { each = λ p. sym (or_false (has_prefix s p)) }

pub adds_then : (a b c : Prefixes) (xs ys : List (List ℕ)) → Adds a b xs → Adds b c ys → Adds a c (xs ++ ys)
adds_then a b c xs ys f g = record {
  each = λ p.
      g.each p
      ∙ ap (λ t. t || is_among ys p) (f.each p)
      ∙ or_assoc (has_prefix a p) (is_among xs p) (is_among ys p)
      ∙ ap (λ t. has_prefix a p || t) (sym (list_any-append (λ word. bytes_eq word p) xs ys));
}

-- a character of a run
pub part_step : (text : List ℕ) (start i : ℕ) → start ≤ i → i < length text → is_part (get_or text i 0) ≡ true → runs_after (cut start (i + 1) text) (drop (i + 1) text) ≡ runs_after (cut start i text) (drop i text)
part_step text start i le lt part =
    ap (λ run. runs_after run (drop (i + 1) text)) (cut_more text start i 0 le lt)
    ∙ sym (ap (runs_after (cut start i text)) (drop_more text i 0 lt) ∙ rw part refl)

-- a colon after a run
pub colon_step : (text : List ℕ) (start i : ℕ) → i < length text → is_part (get_or text i 0) ≡ false → get_or text i 0 ≡ 58 → cut start i text ∷ runs_after (cut (i + 1) (i + 1) text) (drop (i + 1) text) ≡ runs_after (cut start i text) (drop i text)
colon_step text start i lt part e =
    let is : nat_eq (get_or text i 0) 58 ≡ true = rw e refl in
    ap (λ run. cut start i text ∷ runs_after run (drop (i + 1) text)) (none_of text (i + 1))
    ∙ sym (ap (runs_after (cut start i text)) (drop_more text i 0 lt) ∙ rw (part, is) refl)

-- another byte after a run
pub other_step : (text : List ℕ) (start i : ℕ) → i < length text → is_part (get_or text i 0) ≡ false → (get_or text i 0 ≡ 58 → ⊥) → runs_after (cut (i + 1) (i + 1) text) (drop (i + 1) text) ≡ runs_after (cut start i text) (drop i text)
other_step text start i lt part other =
    let is : nat_eq (get_or text i 0) 58 ≡ false = ne_eqb (get_or text i 0) 58 other in
    ap (λ run. runs_after run (drop (i + 1) text)) (none_of text (i + 1))
    ∙ sym (ap (runs_after (cut start i text)) (drop_more text i 0 lt) ∙ rw (part, is) refl)

filter_then : (run : List ℕ) (runs : List (List ℕ)) → filter is_identifier (run ∷ []) ++ filter is_identifier runs ≡ filter is_identifier (run ∷ runs)
filter_then run runs = by (is_identifier run)
  where
    by : (b : Bool) → cond b (run ∷ []) [] ++ filter is_identifier runs ≡ cond b (run ∷ filter is_identifier runs) (filter is_identifier runs)
    by true = refl
    by false = refl

-- a run is added, and the others are still to come
pub run_more : (old now : Prefixes) (run piece : List ℕ) (rest whole : List (List ℕ)) (p : List ℕ) → piece ≡ run → Adds old now (filter is_identifier (piece ∷ [])) → run ∷ rest ≡ whole → (has_prefix now p || is_among (filter is_identifier rest) p) ≡ (has_prefix old p || is_among (filter is_identifier whole) p)
run_more old now run piece rest whole p same a e =
    ap (λ t. t || is_among (filter is_identifier rest) p) (a.each p)
    ∙ or_assoc (has_prefix old p) (is_among (filter is_identifier (piece ∷ [])) p) (is_among (filter is_identifier rest) p)
    ∙ ap (λ t. has_prefix old p || t)
    (sym (list_any-append (λ word. bytes_eq word p) (filter is_identifier (piece ∷ [])) (filter is_identifier rest))
    ∙ ap (λ ws. is_among ws p) (filter_then piece rest ∙ ap (λ r. filter is_identifier (r ∷ rest)) same ∙ ap (filter is_identifier) e))

-- ### blocks

used_then : (within : Bool) (h : Head) (c o : Forest) → used_in within (Then h c o) ≡ used_in within (Then h c End) ++ used_in within o
used_then within h c o =
    let below : Bool = within || is_extended h.keyword in
    let own : List (List ℕ) = keyword_prefix h.keyword ++ argument_prefixes below h in
    let inner : List (List ℕ) = used_in below c in
    ap (λ xs. own ++ (xs ++ used_in within o)) (sym (append-nil inner))
    ∙ sym (append_assoc own (inner ++ []) (used_in within o))

pub used_forest : (within : Bool) (ts us : List Tree) → used_in within (forest (ts ++ us)) ≡ used_in within (forest ts) ++ used_in within (forest us)
used_forest within [] us = refl
used_forest within (t ∷ ts) us =
    used_then within t.head t.children (forest (ts ++ us))
    ∙ ap (λ xs. used_in within (Then t.head t.children End) ++ xs) (used_forest within ts us)
    ∙ sym (append_assoc (used_in within (Then t.head t.children End)) (used_in within (forest ts)) (used_in within (forest us)))
    ∙ ap (λ xs. xs ++ used_in within (forest us)) (sym (used_then within t.head t.children (forest ts)))

-- one more statement of a block
pub child_more : (within : Bool) (ts : List Tree) (i : ℕ) (t : Tree) (a b c : Prefixes) → i < length ts → t ≡ get_or ts i t → Adds a b (used_in within (forest (take i ts))) → Adds b c (used_in within (Then t.head t.children End)) → Adds a c (used_in within (forest (take (i + 1) ts)))
child_more within ts i t a b c lt is f g =
    let more : used_in within (forest (take (i + 1) ts)) ≡ used_in within (forest (take i ts)) ++ used_in within (Then t.head t.children End) =
    ap (λ us. used_in within (forest us)) (take_more ts i t lt) ∙ used_forest within (take i ts) (get_or ts i t ∷ []) ∙ ap (λ (u : Tree). used_in within (forest (take i ts)) ++ used_in within (Then u.head u.children End)) (sym is) in
    rw more (adds_then a b c _ _ f g)

-- all statements of a block
pub block_done : (within : Bool) (c : Forest) (i : ℕ) (a b : Prefixes) → length (trees c) ≤ i → Adds a b (used_in within (forest (take i (trees c)))) → Adds a b (used_in within c)
block_done within c i a b le h = subst (λ f. Adds a b (used_in within f)) (ap forest (take_all i (trees c) le) ∙ forest-trees c) h

-- a statement, with what is below it
pub whole_statement : (within below : Bool) (h : Head) (c : Forest) (p q r s : Prefixes) → below ≡ (within || is_extended h.keyword) → Adds p q (keyword_prefix h.keyword) → Adds q r (argument_prefixes below h) → Adds r s (used_in below c) → Adds p s (used_in within (Then h c End))
whole_statement within below h c p q r s e f g k =
    let own : Bool → List (List ℕ) = λ x. keyword_prefix h.keyword ++ argument_prefixes x h in
    subst (Adds p s)
    (ap (λ xs. own below ++ xs) (sym (append-nil (used_in below c))) ∙ ap (λ x. own x ++ (used_in x c ++ [])) e)
    (adds_then p r s (own below) (used_in below c) (adds_then p q r _ _ f g) k)
