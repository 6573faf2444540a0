-- One more name that is a value.
use Rattle.std.proofs.Common.{◌≡◌, ℕ, ◌+◌, ◌<◌, Bool, true, false, ◌||◌, ◌&&◌, cond, List, [], ◌∷◌, ◌++◌, length, take, get_or, map, refl, sym, ◌∙◌, ap, arith, suc, zero}
use Rattle.std.specs.Bool.{one_answer}
use Rattle.std.specs.BTreeMap.{is_at}
use Rattle.std.specs.Cmp.Lexicographic.{slice_cmp}
use Rattle.std.specs.List.{list_any}
use Rattle.std.specs.Ordering.{is_eq, nat_cmp}
use Rattle.std.specs.Str.{bytes_eq}
use Rattle.std.proofs.lemmas.List.{take_more}
use Rattle.std.proofs.lemmas.List.Folds.{list_any-append}
use Rattle.std.proofs.lemmas.Map.Text.{is_eq-slice_cmp}
use Rattle.std.proofs.lemmas.Slice.Eq.{bytes_eq-Decides}
use denote.Ref.{Bor}
use Rattle.yv_text_statement.specs.Tree.{Tree, name_of}
use Rattle.yv_type_enums.specs.Entries.{is_on, is_on_among}
use Rattle.yv_type_enums.specs.InnerEntries.{borrow}
use Rattle.yv_values.specs.NameOrder.{is_named}

pub joined : (b old : Bool) → cond b true old ≡ (old || b)
joined true true = refl
joined true false = refl
joined false true = refl
joined false false = refl

same_way : (s k : List ℕ) → bytes_eq k s ≡ is_eq (slice_cmp nat_cmp s k)
same_way s k = one_answer (bytes_eq k s) (is_eq (slice_cmp nat_cmp s k))
    (λ h. sym ((bytes_eq-Decides k s).0 h), λ e. (bytes_eq-Decides k s).1 (sym e))
    (λ h. (bytes_eq-Decides s k).0 (sym (is_eq-slice_cmp s k) ∙ h), λ e. is_eq-slice_cmp s k ∙ (bytes_eq-Decides s k).1 e)

-- what is looked for stands among the keys as texts
pub named_keys : (s : List ℕ) (ks : List (Bor (List ℕ))) → is_named (map (λ k. k.now) ks) s ≡ list_any (is_at (λ (k : Bor (List ℕ)). slice_cmp nat_cmp s k.now)) ks
named_keys s [] = refl
named_keys s (k ∷ ks) = ap (λ b. b || is_named (map (λ x. x.now) ks) s) (same_way s k.now) ∙ ap (λ b. is_eq (slice_cmp nat_cmp s k.now) || b) (named_keys s ks)

added : (a r e o k : Bool) → (e ≡ true → k ≡ a) → (k && o) ≡ true → ((a && r) || e) ≡ (a && (r || ((e && o) || false)))
added true true e o k h f = refl
added true false true true k h f = refl
added true false true false true h f = sym f
added true false true false false h f = sym f
added true false false o k h f = refl
added false r true o true h f = h refl
added false r true o false h f = absurd (cc)
added false r false o k h f = refl

left : (a r e o k : Bool) → (e ≡ true → k ≡ a) → (k && o) ≡ false → (a && r) ≡ (a && (r || ((e && o) || false)))
left true true e o k h f = refl
left true false true o k h f = let t : k ≡ true = h refl in sym f ∙ ap (λ b. b && o) t ∙ same o
  where
    same : (b : Bool) → b ≡ (b || false)
    same true = refl
    same false = refl
left true false false o k h f = refl
left false r e o k h f = refl

-- by which names count, and which entries are on
module _ (counts : List ℕ → Bool) (truth : ℕ → List ℕ → Bool) (file : ℕ) where
  abbrev listed : List Tree → List ℕ → Bool
  listed = is_on_among truth file

  listed_more : (cs : List Tree) (i : ℕ) (c : Tree) → i < length cs → c ≡ get_or cs i c → (s : List ℕ) → listed (take (i + 1) cs) s ≡ (listed (take i cs) s || ((bytes_eq (name_of c.head) s && is_on truth file c) || false))
  listed_more cs i c h e s =
      ap (λ xs. listed xs s) (take_more cs i c h ∙ ap (λ x. take i cs ++ x ∷ []) (sym e))
      ∙ list_any-append (λ x. bytes_eq (name_of x.head) s && is_on truth file x) (take i cs) (c ∷ [])

  same_count : (s n : List ℕ) → bytes_eq n s ≡ true → counts n ≡ counts s
  same_count s n h = ap counts ((bytes_eq-Decides n s).0 h)

  pub value_more : (cs : List Tree) (i : ℕ) (c : Tree) (old new : List ℕ → Bool) → i < length cs → c ≡ get_or cs i c → (counts (name_of c.head) && is_on truth file c) ≡ true → ((s : List ℕ) → new s ≡ (old s || bytes_eq (name_of c.head) s)) → ((s : List ℕ) → old s ≡ (counts s && listed (take i cs) s)) → (s : List ℕ) → new s ≡ (counts s && listed (take (i + 1) cs) s)
  value_more cs i c old new h e one adds before s =
      adds s
      ∙ ap (λ b. b || bytes_eq (name_of c.head) s) (before s)
      ∙ added (counts s) (listed (take i cs) s) (bytes_eq (name_of c.head) s) (is_on truth file c) (counts (name_of c.head)) (same_count s (name_of c.head)) one
      ∙ ap (λ b. counts s && b) (sym (listed_more cs i c h e s))

  pub value_same : (cs : List Tree) (i : ℕ) (c : Tree) (old : List ℕ → Bool) → i < length cs → c ≡ get_or cs i c → (counts (name_of c.head) && is_on truth file c) ≡ false → ((s : List ℕ) → old s ≡ (counts s && listed (take i cs) s)) → (s : List ℕ) → old s ≡ (counts s && listed (take (i + 1) cs) s)
  value_same cs i c old h e not_one before s =
      before s
      ∙ left (counts s) (listed (take i cs) s) (bytes_eq (name_of c.head) s) (is_on truth file c) (counts (name_of c.head)) (same_count s (name_of c.head)) not_one
      ∙ ap (λ b. counts s && b) (sym (listed_more cs i c h e s))

-- a lent statement at its place
pub lent_at : (ls : List (Bor Tree)) (i : ℕ) (l : Bor Tree) → i < length ls → l ≡ get_or ls i l → (i < length (borrow ls)) × (l.now ≡ get_or (borrow ls) i l.now)
lent_at [] i l h e = absurd (omega (arith, h))
lent_at (x ∷ ls) zero l h e = (omega arith, ap (λ y. y.now) e)
lent_at (x ∷ ls) (suc i) l h e = let more = lent_at ls i l (omega (arith, h)) e in (omega (arith, more.0), more.1)
