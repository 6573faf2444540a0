-- The places in a block, one statement at a time, and the findings there.
use Rattle.std.proofs.Common.{◌≡◌, ℕ, ◌+◌, ◌<◌, ◌≤◌, Bool, true, false, cond, List, [], ◌∷◌, ◌++◌, length, take, drop, get_or, sym, ◌∙◌, ap, subst, append_assoc}
use Rattle.std.proofs.lemmas.List.{append-nil, take_more, take_all}
use Rattle.std.proofs.lemmas.List.Concat.{flat_map-append}
use Rattle.yv_text_statement.specs.Tree.{Head, Forest, Then, End, Tree, count, forest, trees}
use Rattle.yv_link_scopes.specs.Rows.{is_extended}
use Rattle.yv_link_scopes.proofs.Listing.{forest-trees, next_of}
use Rattle.yv_lint.specs.RuleChoice.{asked_in}
use Rattle.yv_lint.specs.Findings.{findings_at}
use Rattle.yv_lint.specs.InnerFindings.{findings_among, findings_at_places}
use Rattle.yv_lint.specs.InnerPlaces.{IsEarlier}
use Rattle.yv_lint.specs.InnerUses.{AreUses, KnowsBlock}
use Rattle.yv_lint.specs.Places.{Place, place_at, places_in}
use Rattle.yv_lint.specs.Rules.{all_rules, stands_at}
use Rattle.yv_lint.specs.declared.file.File.{File}
use Rattle.yv_lint.specs.declared.finding.Finding.{Finding}
use Rattle.yv_lint.specs.declared.place.Earlier.{Earlier}
use Rattle.yv_lint.specs.declared.uses.Uses.{Uses}
use Rattle.yv_lint.proofs.KnownUses.{end_is, first_uses, inner_uses, other_uses}

places_forest : (p : Tree) (top : Bool) (before ts us : List Tree) → places_in p top before (forest (ts ++ us)) ≡ places_in p top before (forest ts) ++ places_in p top (before ++ ts) (forest us)
places_forest p top before [] us = ap (λ bs. places_in p top bs (forest us)) (sym (append-nil before))
places_forest p top before (t ∷ ts) us =
    let own : List Place = cond (is_extended t.head.keyword) [] (place_at p top before t ∷ places_in t false [] t.children) in
    let now : List Tree = before ++ t ∷ [] in
    ap (λ xs. own ++ xs)
    (places_forest p top now ts us
    ∙ ap (λ bs. places_in p top now (forest ts) ++ places_in p top bs (forest us)) (append_assoc before (t ∷ []) ts))
    ∙ sym (append_assoc own (places_in p top now (forest ts)) (places_in p top (before ++ t ∷ ts) (forest us)))

module _ (f : File) where
  found_append : (xs ys : List Place) → findings_at_places f (xs ++ ys) ≡ findings_at_places f xs ++ findings_at_places f ys
  found_append xs ys = flat_map-append (findings_at (asked_in f.question.now.rules.now) f.question.now.roots.now f.number f.root.now) xs ys

  -- one more statement of a block
  pub found_more : (p : Tree) (top : Bool) (ts : List Tree) (i : ℕ) (t : Tree) (old now next : List Finding) → i < length ts → t ≡ get_or ts i t → now ≡ old ++ findings_at_places f (places_in p top [] (forest (take i ts))) → next ≡ now ++ findings_at_places f (places_in p top (take i ts) (Then t.head t.children End)) → next ≡ old ++ findings_at_places f (places_in p top [] (forest (take (i + 1) ts)))
  found_more p top ts i t old now next lt is e n =
      let front : List Place = places_in p top [] (forest (take i ts)) in
      let last : List Place = places_in p top (take i ts) (Then t.head t.children End) in
      let more : places_in p top [] (forest (take (i + 1) ts)) ≡ front ++ last =
      ap (λ us. places_in p top [] (forest us)) (take_more ts i t lt)
      ∙ places_forest p top [] (take i ts) (get_or ts i t ∷ [])
      ∙ ap (λ (u : Tree). front ++ places_in p top (take i ts) (Then u.head u.children End)) (sym is)
      in
      n
      ∙ ap (λ xs. xs ++ findings_at_places f last) e
      ∙ append_assoc old (findings_at_places f front) (findings_at_places f last)
      ∙ ap (λ xs. old ++ xs) (sym (found_append front last) ∙ ap (findings_at_places f) (sym more))

  -- all statements of a block
  pub found_all : (p : Tree) (top : Bool) (c : Forest) (i : ℕ) (old now : List Finding) → length (trees c) ≤ i → now ≡ old ++ findings_at_places f (places_in p top [] (forest (take i (trees c)))) → now ≡ old ++ findings_at_places f (places_in p top [] c)
  found_all p top c i old now le e = e ∙ ap (λ g. old ++ findings_at_places f (places_in p top [] g)) (ap forest (take_all i (trees c) le) ∙ forest-trees c)

  -- a statement, and what is below it
  pub found_whole : (p t : Tree) (top : Bool) (before : List Tree) (old mid new : List Finding) → is_extended t.head.keyword ≡ false → mid ≡ old ++ findings_among f all_rules (stands_at f.question.now.roots.now f.root.now (place_at p top before t)) t.head → new ≡ mid ++ findings_at_places f (places_in t false [] t.children) → new ≡ old ++ findings_at_places f (places_in p top before (Then t.head t.children End))
  found_whole p t top before old mid new plain m n =
      let here : Place = place_at p top before t in
      let inner : List Place = places_in t false [] t.children in
      let first : List Finding = findings_among f all_rules (stands_at f.question.now.roots.now f.root.now here) t.head in
      let whole : findings_at_places f (places_in p top before (Then t.head t.children End)) ≡ first ++ findings_at_places f inner =
      ap (findings_at_places f) (append-nil (cond (is_extended t.head.keyword) [] (here ∷ inner)))
      ∙ ap (λ b. findings_at_places f (cond b [] (here ∷ inner))) plain
      in
      n ∙ ap (λ xs. xs ++ findings_at_places f inner) m ∙ append_assoc old first (findings_at_places f inner) ∙ ap (λ xs. old ++ xs) (sym whole)

  -- an extension's statement
  pub found_bare : (p t : Tree) (top : Bool) (before : List Tree) (old : List Finding) → is_extended t.head.keyword ≡ true → old ≡ old ++ findings_at_places f (places_in p top before (Then t.head t.children End))
  found_bare p t top before old bare =
      let here : Place = place_at p top before t in
      let inner : List Place = places_in t false [] t.children in
      let none : findings_at_places f (places_in p top before (Then t.head t.children End)) ≡ [] =
      ap (findings_at_places f) (append-nil (cond (is_extended t.head.keyword) [] (here ∷ inner)))
      ∙ ap (λ b. findings_at_places f (cond b [] (here ∷ inner))) bare
      in
      sym (append-nil old) ∙ ap (λ xs. old ++ xs) (sym none)

-- what is known of the statements before the next
pub earlier_more : (ts : List Tree) (i : ℕ) (t : Tree) (e : Earlier) → i < length ts → t ≡ get_or ts i t → IsEarlier (take i ts ++ t ∷ []) e → IsEarlier (take (i + 1) ts) e
earlier_more ts i t e lt is h = subst (λ us. IsEarlier us e) (ap (λ (u : Tree). take i ts ++ u ∷ []) is ∙ sym (take_more ts i t lt)) h

module _ (own : List ℕ) (u : Uses) where
  -- the next statement of a block has the number after the last one below this
  pub next_uses : (ts : List Tree) (i : ℕ) (t : Tree) (n m : ℕ) → i < length ts → t ≡ get_or ts i t → m ≡ get_or u.ends.items n 0 → AreUses own u n (forest (drop i ts)) → AreUses own u m (forest (drop (i + 1) ts))
  next_uses ts i t n m lt is e h =
      let here : AreUses own u n (Then t.head t.children (forest (drop (i + 1) ts))) = subst (AreUses own u n) (next_of ts i t lt is) h in
      subst (λ x. AreUses own u x (forest (drop (i + 1) ts))) (sym (e ∙ end_is here)) (other_uses here)

  pub child_uses : (ts : List Tree) (i : ℕ) (t : Tree) (n : ℕ) → i < length ts → t ≡ get_or ts i t → AreUses own u n (forest (drop i ts)) → AreUses own u n (Then t.head t.children End)
  child_uses ts i t n lt is h = first_uses (subst (AreUses own u n) (next_of ts i t lt is) h)

  -- the block of a statement
  pub block_uses : (n end : ℕ) (h : Head) (c : Forest) → AreUses own u n (Then h c End) → end ≡ get_or u.ends.items n 0 → KnowsBlock own u (n + 1) end c
  block_uses n end h c a e = record { types = (inner_uses a).types; groupings = (inner_uses a).groupings; end_is = e ∙ end_is a }

  pub start_uses : (n : ℕ) (h : Head) (c : Forest) → AreUses own u n (Then h c End) → AreUses own u (n + 1) (forest (trees c))
  start_uses n h c a = subst (AreUses own u (n + 1)) (sym (forest-trees c)) (inner_uses a)

  pub end_after : (n : ℕ) (h : Head) (c : Forest) → AreUses own u n (Then h c End) → get_or u.ends.items n 0 ≡ n + 1 + count c
  end_after n h c a = end_is a
