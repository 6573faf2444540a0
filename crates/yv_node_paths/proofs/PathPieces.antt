-- The pieces of a leafref's path.
use Rattle.std.proofs.Common.{◌≡◌, ◌≢◌, ℕ, ◌+◌, ◌-◌, Bool, true, false, cond, List, [], ◌∷◌, length, take, drop, map, Option, Some, None, refl, sym, ◌∙◌, ap, arith, length-drop}
use Rattle.std.specs.Borrow.{Bor}
use Rattle.std.specs.List.{prefix_len}
use Rattle.std.specs.Option.{MatchOption}
use Rattle.std.proofs.lemmas.Bool.{eqb-true}
use Rattle.std.proofs.lemmas.List.{drop-map, take_all}
use Rattle.yv_node_paths.specs.Referral.{is_absolute, is_up, names_behind, ups_of}
use Rattle.yv_node_paths.specs.Steps.{texts_of}

-- what begins with no '/' isn't absolute
unrooted : (text : List ℕ) → ((rest : List ℕ) → text ≢ 47 ∷ rest) → is_absolute text ≡ false
unrooted [] h = refl
unrooted (b ∷ bs) h = by (is_absolute (b ∷ bs)) refl
  where
    by : (t : Bool) → is_absolute (b ∷ bs) ≡ t → t ≡ false
    by true e = absurd (h bs (ap (λ c. c ∷ bs) (eqb-true b 47 e)))
    by false e = refl

pub rooted : (text : List ℕ) (r : Option (Bor (List ℕ))) → MatchOption r ((rest : List ℕ) → text ≢ 47 ∷ rest) (λ x. text ≡ 47 ∷ x.now) → MatchOption r (is_absolute text ≡ false) (λ names. (is_absolute text ≡ true) × (names.now ≡ drop 1 text))
rooted text None h = unrooted text h
rooted text (Some x) h = (ap is_absolute h, sym (ap (drop 1) h))

-- how many pass at the front, of what is made of a list's items
pub prefix_len-map : {A B : Type 0} (p : B → Bool) (f : A → B) (xs : List A) → prefix_len p (map f xs) ≡ prefix_len (λ x. p (f x)) xs
prefix_len-map p f [] = refl
prefix_len-map p f (x ∷ xs) = ap (λ n. cond (p (f x)) (1 + n) 0) (prefix_len-map p f xs)

-- the texts of the names
pub names_left : (text : List ℕ) (texts counted cut : List (Bor (List ℕ))) (n : ℕ) → map (λ t. t.now) texts ≡ texts_of text → counted ≡ texts → cut ≡ texts → n ≡ prefix_len is_up (map (λ t. t.now) counted) → map (λ t. t.now) (take (length cut - n) (drop n cut)) ≡ names_behind text
names_left text texts counted cut n are e f is =
    let whole : take (length cut - n) (drop n cut) ≡ drop n cut = take_all (length cut - n) (drop n cut) (omega (arith, length-drop n cut)) in
    let ups : n ≡ ups_of text = is ∙ ap (λ (ts : List (Bor (List ℕ))). prefix_len is_up (map (λ t. t.now) ts)) e ∙ ap (prefix_len is_up) are in
    ap (map (λ t. t.now)) whole
    ∙ sym (drop-map (λ (t : Bor (List ℕ)). t.now) n cut)
    ∙ ap (λ (ts : List (Bor (List ℕ))). drop n (map (λ t. t.now) ts)) f
    ∙ ap (drop n) are
    ∙ ap (λ m. drop m (texts_of text)) ups
