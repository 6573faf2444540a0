-- Values under assignments that agree where it counts.
use Rattle.std.proofs.Common.{◌≡◌, ◌↔◌, ℕ, ◌+◌, ◌<◌, Bool, true, false, not, ◌&&◌, ◌||◌, IsTrue, List, [], ◌∷◌, length, take, get_or, ◌⊎◌, inl, inr, Option, Some, None, refl, sym, ◌∙◌, ap, subst, arith}
use Rattle.std.specs.List.{Contains, list_all, slice_get}
use Rattle.std.proofs.lemmas.Bool.{false≢true}
use Rattle.std.proofs.lemmas.List.Elements.{Contains-append_left, Contains-append_right, Contains-append_cases}
use Rattle.std.proofs.lemmas.List.{take_more}
use Rattle.std.proofs.lemmas.Option.{same_Some}
use Rattle.std.specs.declared.vec.Vec.{Vec}
use Rattle.std.specs.declared.alloc.Global.{Global}
use Rattle.yv_text_if_feature.specs.Tokens.{names_among, tokens}
use Rattle.yv_text_if_feature.specs.IfFeature.{IfFeature, Spells, Name, Not, And, Or, names_in, truth}
use Rattle.yv_text_statement.specs.Selection.{ModuleChoice}
use Rattle.yv_link_scopes.specs.Files.{Briefs}
use Rattle.yv_link_scopes.specs.Rows.{Row, name_in}
use Rattle.yv_link_features.specs.Meaning.{Meaning}
use Rattle.yv_link_features.specs.Value.{Assignment, HasValue, expression, no_expression, is_known, is_on, value_of}
use Rattle.yv_link_features.specs.On.{AllHold, IsOn, has_support, is_if_feature_of}
use Rattle.yv_link_features.specs.Features.{value_of_text}
use Rattle.yv_link_features.specs.InnerGraph.{AllTrue, AreLists, IsTrueAt, numbers_at}
use Rattle.yv_link_features.proofs.Lists.{contains_one}
use Rattle.yv_link_features.specs.Depends.{DependsOn}

-- laws on texts, as they are told below
abbrev pub OneCondition : Type 0
OneCondition = (text : List ℕ) (c d : IfFeature) → Spells text c → Spells text d → c ≡ d

abbrev pub InOrder : Type 0
InOrder = (text : List ℕ) (c : IfFeature) → Spells text c → names_among (tokens text) ≡ names_in c

-- a text has one value
pub one_value : OneCondition → (means : Meaning) (on : Assignment) (file : ℕ) (text : List ℕ) (a b : Bool) → HasValue means on file text a → HasValue means on file text b → a ≡ b
one_value one means on file text a b (expression c h e) (expression d g f) = e ∙ ap (value_of means on file) (one text c d h g) ∙ sym f
one_value one means on file text a b (expression c h e) (no_expression n f) = absurd (n c h)
one_value one means on file text a b (no_expression n f) (expression c h e) = absurd (n c h)
one_value one means on file text a b (no_expression n e) (no_expression m f) = e ∙ sym f

-- the truth of a condition is by its names alone
truth_same : (p q : List ℕ → Bool) (c : IfFeature) → ((n : List ℕ) → Contains (names_in c) n → p n ≡ q n) → truth p c ≡ truth q c
truth_same p q (Name n) h = h n (0, omega arith, refl)
truth_same p q (Not c) h = ap not (truth_same p q c h)
truth_same p q (And c d) h =
    ap (λ b. b && truth p d) (truth_same p q c (λ n m. h n (Contains-append_left (names_in c) (names_in d) n m)))
    ∙ ap (λ b. truth q c && b) (truth_same p q d (λ n m. h n (Contains-append_right (names_in c) (names_in d) n m)))
truth_same p q (Or c d) h =
    ap (λ b. b || truth p d) (truth_same p q c (λ n m. h n (Contains-append_left (names_in c) (names_in d) n m)))
    ∙ ap (λ b. truth q c || b) (truth_same p q d (λ n m. h n (Contains-append_right (names_in c) (names_in d) n m)))

-- two assignments agree on what a name means
abbrev AgreeAt : Assignment → Assignment → Option ℕ → Type 0
AgreeAt on now meant = (d : ℕ) → meant ≡ Some d → on d ≡ now d

on_same : (on now : Assignment) (o : Option ℕ) → AgreeAt on now o → is_on on o ≡ is_on now o
on_same on now None h = refl
on_same on now (Some d) h = h d refl

pub value_same : InOrder → (means : Meaning) (on now : Assignment) (file : ℕ) (text : List ℕ) (b : Bool) → ((n : List ℕ) → Contains (names_among (tokens text)) n → AgreeAt on now (means file n)) → HasValue means on file text b → HasValue means now file text b
value_same order means on now file text b h (expression c g e) =
    expression c g (e ∙ ap (λ t. list_all (is_known means file) (names_in c) && t)
    (truth_same (λ name. is_on on (means file name)) (λ name. is_on now (means file name)) c
    (λ n m. on_same on now (means file n) (h n (subst (λ ns. Contains ns n) (sym (order text c g)) m)))))
value_same order means on now file text b h (no_expression n e) = no_expression n e

-- assignments that agree on what a statement depends on
abbrev pub AgreeOn : Meaning → List Row → Assignment → Assignment → ℕ → Type 0
AgreeOn means rows on now k = (d : ℕ) → DependsOn means rows k d → on d ≡ now d

pub hold_same : InOrder → (means : Meaning) (rows : List Row) (on now : Assignment) (k : ℕ) → AgreeOn means rows on now k → AllHold means rows on k → AllHold means rows now k
hold_same order means rows on now k h all i q at own =
    value_same order means on now q.file (name_in q) true
    (λ n m d e. h d (record { place = i; condition = q; at = at; own = own; name = n; named = m; meant = e }))
    (all i q at own)

pub is_on_same : InOrder → (means : Meaning) (files : Briefs) (rows : List Row) (choice : ModuleChoice) (on now : Assignment) (k : ℕ) (r : Row) → on k ≡ now k → AgreeOn means rows on now k → IsOn means files rows choice on k r → IsOn means files rows choice now k r
is_on_same order means files rows choice on now k r e h o = (
  λ t. let p = o.0 (e ∙ t) in (p.0, hold_same order means rows on now k h p.1),
  λ p. sym e ∙ o.1 (p.0, hold_same order means rows now on k (λ d s. sym (h d s)) p.1),
)

same_truth : (a b : Bool) → (a ≡ true → b ≡ true) → (b ≡ true → a ≡ true) → a ≡ b
same_truth true b f g = sym (f refl)
same_truth false true f g = g refl
same_truth false false f g = refl

-- two that are on by the same rule agree, where what they depend on does
pub on_one : InOrder → (means : Meaning) (files : Briefs) (rows : List Row) (choice : ModuleChoice) (on now : Assignment) (k : ℕ) (r : Row) → AgreeOn means rows on now k → IsOn means files rows choice on k r → IsOn means files rows choice now k r → on k ≡ now k
on_one order means files rows choice on now k r h o p =
    same_truth (on k) (now k)
    (λ t. let q = o.0 t in p.1 (q.0, hold_same order means rows on now k h q.1))
    (λ t. let q = p.0 t in o.1 (q.0, hold_same order means rows now on k (λ d s. sym (h d s)) q.1))

-- what is told of a text is its value
pub told_by : OneCondition → (means : Meaning) (on : Assignment) (file : ℕ) (text : List ℕ) (b : Bool) → HasValue means on file text b → (d : ((c : IfFeature) × Spells text c) ⊎ ((c : IfFeature) → Spells text c → ⊥)) → b ≡ value_of_text (value_of means on file) text d
told_by one means on file text b (expression c h e) (inl q) = e ∙ ap (value_of means on file) (one text c q.0 h q.1)
told_by one means on file text b (expression c h e) (inr n) = absurd (n c h)
told_by one means on file text b (no_expression n e) (inl q) = absurd (n q.0 q.1)
told_by one means on file text b (no_expression n e) (inr m) = e

pub has_told : (means : Meaning) (on : Assignment) (file : ℕ) (text : List ℕ) (d : ((c : IfFeature) × Spells text c) ⊎ ((c : IfFeature) → Spells text c → ⊥)) → HasValue means on file text (value_of_text (value_of means on file) text d)
has_told means on file text (inl q) = expression q.0 q.1 refl
has_told means on file text (inr n) = no_expression n refl

-- the value of a numbered condition tells whether it holds
pub true_at : OneCondition → (means : Meaning) (rows : List Row) (on : Assignment) (i : ℕ) (q : Row) (b : Bool) → slice_get rows i ≡ Some q → HasValue means on q.file (name_in q) b → IsTrue b ↔ IsTrueAt means rows on i
true_at one means rows on i q b at h = (
  λ e. λ r there. subst (λ (x : Row). HasValue means on x.file (name_in x) true) (same_Some q r (sym at ∙ there)) (subst (HasValue means on q.file (name_in q)) e h),
  λ t. one_value one means on q.file (name_in q) b true h (t q at),
)

-- the listed conditions of a statement are its own
pub all_own : (means : Meaning) (rows : List Row) (on : Assignment) (lists : List (Vec ℕ Global)) (k : ℕ) → AreLists rows lists → AllTrue means rows on (numbers_at lists k) ↔ AllHold means rows on k
all_own means rows on lists k a = (
  λ h. λ i q at own. h i ((a.exact k i).1 (q, at, own)) q at,
  λ h. λ i c q at. let p = (a.exact k i).0 c in h i q at (subst (λ (x : Row). is_if_feature_of k x ≡ true) (same_Some p.0 q (sym p.1 ∙ at)) p.2),
)

and_true_parts : (a b : Bool) → (a && b) ≡ true → (a ≡ true) × (b ≡ true)
and_true_parts true b e = (refl, e)
and_true_parts false b e = absurd (false≢true e)

pub on_told : (means : Meaning) (files : Briefs) (rows : List Row) (choice : ModuleChoice) (on : Assignment) (lists : List (Vec ℕ Global)) (k : ℕ) (e : Row) (supported hold result : Bool) → AreLists rows lists → slice_get rows k ≡ Some e → supported ≡ has_support files choice e → IsTrue hold ↔ AllTrue means rows on (numbers_at lists k) → result ≡ (supported && hold) → (r : Row) → slice_get rows k ≡ Some r → IsTrue result ↔ ((has_support files choice r ≡ true) × AllHold means rows on k)
on_told means files rows choice on lists k e supported hold result a at s h res r there =
    let same : has_support files choice e ≡ has_support files choice r = ap (has_support files choice) (same_Some e r (sym at ∙ there)) in
    let own = all_own means rows on lists k a in (
      λ t. let p = and_true_parts supported hold (sym res ∙ t) in (sym (s ∙ same) ∙ p.0, own.0 (h.0 p.1)),
      λ p. res ∙ ap (λ b. b && hold) (s ∙ same ∙ p.0) ∙ h.1 (own.1 p.1),
    )

-- one more number of which something holds
pub all_more : (P : ℕ → Type 0) (xs : List ℕ) (i : ℕ) → i < length xs → ((n : ℕ) → Contains (take i xs) n → P n) → P (get_or xs i 0) → (n : ℕ) → Contains (take (i + 1) xs) n → P n
all_more P xs i l h p n c = elim (Contains-append_cases (take i xs) (get_or xs i 0 ∷ []) n (subst (λ ys. Contains ys n) (take_more xs i 0 l) c)) [
  | inl a ↦ h n a
  | inr b ↦ subst P (contains_one (get_or xs i 0) n b) p
]
