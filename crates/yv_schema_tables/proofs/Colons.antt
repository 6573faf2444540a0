-- Where a member is cut at its first colon.
use Rattle.std.proofs.Common.{◌≡◌, ℕ, suc, ◌+◌, ◌<◌, ◌==◌, ◌||◌, Bool, true, false, not, cond, List, [], ◌∷◌, ◌++◌, length, take, get_or, refl, sym, ap, ◌∙◌, subst, arith}
use Rattle.std.specs.List.{after_first, before_first, list_any, position_or_len}
use Rattle.std.proofs.lemmas.Bool.{false≢true}
use Rattle.std.proofs.lemmas.Bool.Decides.{nat_tests}
use Rattle.std.proofs.lemmas.List.Sums.{passes_at_first, split_at_first}
use Rattle.yv_nodes.specs.declared.node.NodeId.{NodeId}
use Rattle.yv_nodes.specs.Rows.{is_root, rank, root}
use Rattle.yv_schema_tables.specs.NodeNumbers.{HasNoColon}

abbrev pub is_colon : ℕ → Bool
is_colon b = b == 58

pub rank_below : (p : NodeId) → is_root p ≡ false → rank p ≡ p.0 + 1
rank_below p inner = rw inner refl

pub root_is : (p : NodeId) → is_root p ≡ true → root ≡ p
root_is p at_root =
    let number : 4294967295 ≡ p.0 = grind (arith, nat_tests) in
    ap (λ (n : ℕ). let q : NodeId = record { 0 = n } in q) number

-- a text in which no colon is found has none
pub none_in : (text : List ℕ) → position_or_len is_colon text ≡ length text → HasNoColon text
none_in [] h = refl
none_in (x ∷ xs) h = by (is_colon x) (position_or_len is_colon xs) (none_in xs) h
  where
    by : (b : Bool) (n : ℕ) → (n ≡ length xs → HasNoColon xs) → cond (not b) (1 + n) 0 ≡ suc (length xs) → (b || list_any is_colon xs) ≡ false
    by true n later e = absurd (omega (arith, e))
    by false n later e = later (omega (arith, e))

-- what stands before the first colon has none
pub none_before : (text : List ℕ) → HasNoColon (take (position_or_len is_colon text) text)
none_before [] = refl
none_before (x ∷ xs) = by (is_colon x) (position_or_len is_colon xs) refl (none_before xs)
  where
    by : (b : Bool) (n : ℕ) → is_colon x ≡ b → HasNoColon (take n xs) → HasNoColon (take (cond (not b) (1 + n) 0) (x ∷ xs))
    by true n e h = refl
    by false n e h =
        let next : 1 + n ≡ suc n = omega arith in
        subst (λ (k : ℕ). HasNoColon (take k (x ∷ xs))) (sym next) (ap (λ (b : Bool). b || list_any is_colon (take n xs)) e ∙ h)

pub is_58 : (n : ℕ) → is_colon n ≡ true → n ≡ 58
is_58 n h = grind (arith, nat_tests)

-- the two parts of a text that has a colon
pub cut_found : (text module_file name : List ℕ) → position_or_len is_colon text < length text → module_file ≡ before_first is_colon text → name ≡ after_first is_colon text → HasNoColon module_file × (text ≡ module_file ++ 58 ∷ name)
cut_found text module_file name lt first rest =
    let colon : get_or text (position_or_len is_colon text) 0 ≡ 58 = is_58 (get_or text (position_or_len is_colon text) 0) (passes_at_first is_colon text 0 lt) in (
      subst HasNoColon (sym first) (none_before text),
      split_at_first is_colon text 0 lt ∙ ap (λ (b : ℕ). before_first is_colon text ++ b ∷ after_first is_colon text) colon
          ∙ ap (λ (xs : List ℕ). xs ++ 58 ∷ after_first is_colon text) (sym first) ∙ ap (λ (xs : List ℕ). module_file ++ 58 ∷ xs) (sym rest),
    )

-- a text without a colon ends at the first one
pub colon_cut : (xs ys cs ds : List ℕ) → HasNoColon xs → HasNoColon ys → xs ++ 58 ∷ cs ≡ ys ++ 58 ∷ ds → (xs ≡ ys) × (cs ≡ ds)
colon_cut [] [] cs ds p q e = (refl, cc)
colon_cut [] (y ∷ ys) cs ds p q e = let same : y ≡ 58 = cc in absurd (false≢true (sym q ∙ rw same refl))
colon_cut (x ∷ xs) [] cs ds p q e = let same : x ≡ 58 = cc in absurd (false≢true (sym p ∙ rw same refl))
colon_cut (x ∷ xs) (y ∷ ys) cs ds p q e =
    let head : x ≡ y = cc in
    let tail : xs ++ 58 ∷ cs ≡ ys ++ 58 ∷ ds = cc in
    let rest = colon_cut xs ys cs ds (none_behind x xs p) (none_behind y ys q) tail in
    (ap (λ (n : ℕ). n ∷ xs) head ∙ ap (λ (ns : List ℕ). y ∷ ns) rest.0, rest.1)
  where
    or_false : (a b : Bool) → (a || b) ≡ false → b ≡ false
    or_false true b h = absurd (false≢true (sym h))
    or_false false b h = h

    none_behind : (n : ℕ) (ns : List ℕ) → HasNoColon (n ∷ ns) → HasNoColon ns
    none_behind n ns h = or_false (n == 58) (list_any (λ byte. byte == 58) ns) h

colon_in : (xs ys : List ℕ) → list_any (λ byte. byte == 58) (xs ++ 58 ∷ ys) ≡ true
colon_in [] ys = refl
colon_in (x ∷ xs) ys = by (x == 58) (colon_in xs ys)
  where
    by : (b : Bool) → list_any (λ byte. byte == 58) (xs ++ 58 ∷ ys) ≡ true → (b || list_any (λ byte. byte == 58) (xs ++ 58 ∷ ys)) ≡ true
    by true h = refl
    by false h = h

-- a text with a colon differs from one without
pub colon_apart : (text xs ys : List ℕ) → HasNoColon text → text ≡ xs ++ 58 ∷ ys → ⊥
colon_apart text xs ys plain e = false≢true (sym plain ∙ ap (list_any (λ byte. byte == 58)) e ∙ colon_in xs ys)
