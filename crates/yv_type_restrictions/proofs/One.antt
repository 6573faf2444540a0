-- A text restricts a type to one list of intervals, a pattern has one translation, and so one type
-- is left.
use Rattle.std.proofs.Common.{◌≡◌, ℕ, inl, inr, List, [], ◌∷◌, ◌++◌, map, codes, Option, Some, None, refl, sym, ◌∙◌, ap}
use Rattle.std.specs.Prelude.{option_to_list}
use Rattle.yv_text_statement.specs.Tree.{Tree, trees}
use Rattle.yv_base_numbers.specs.Intervals.{Interval}
use Rattle.yv_base_numbers.specs.Restrictions.{Restricts}
use Rattle.yv_pattern.proofs.One.{translates_one}
use Rattle.yv_values.specs.Types.{Plain, Test, wholes, decimals, strings, booleans, names, flags, octets, identities, empties}
use Rattle.yv_type_restrictions.specs.Facets.{child, Leaves, IsTest, AreTests, Narrows}

all_same : (is js : List Interval) → map (λ (i : Interval). Some i) is ≡ map (λ (i : Interval). Some i) js → is ≡ js
all_same [] [] e = refl
all_same [] (j ∷ js) e = absurd (cc)
all_same (i ∷ is) [] e = absurd (cc)
all_same (i ∷ is) (j ∷ js) e =
    let first : i ≡ j = cc in
    let others : is ≡ js = all_same is js (cc) in
    cc

restricts_one : (digits : Option ℕ) (base : List Interval) (text : List ℕ) (is js : List Interval) → Restricts digits base text is → Restricts digits base text js → is ≡ js
restricts_one digits base text is js p q = all_same is js (sym p.parts ∙ q.parts)

leaves_one : (digits : Option ℕ) (base : List Interval) (c : Option Tree) (is js : List Interval) → Leaves digits base c is → Leaves digits base c js → is ≡ js
leaves_one digits base None is js p q = p ∙ sym q
leaves_one digits base (Some c) is js (inl p) (inl q) = restricts_one digits base _ is js p q
leaves_one digits base (Some c) is js (inl p) (inr q) = absurd (q.0 is p)
leaves_one digits base (Some c) is js (inr p) (inl q) = absurd (p.0 js q)
leaves_one digits base (Some c) is js (inr p) (inr q) = p.1 ∙ sym q.1

test_one : (c : Tree) (a b : Option Test) → IsTest c a → IsTest c b → a ≡ b
test_one c None None p q = refl
test_one c None (Some t) p q = absurd (p q.0 t.source q.1)
test_one c (Some s) None p q = absurd (q p.0 s.source p.1)
test_one c (Some s) (Some t) p q =
    let sources = translates_one _ s.source t.source p.1 q.1 in
    let inverted = p.2 ∙ sym q.2 in
    λ i. Some (record { source = sources i; inverted = inverted i })

tests_one : (cs : List Tree) (ss ts : List Test) → AreTests cs ss → AreTests cs ts → ss ≡ ts
tests_one [] ss ts p q = p ∙ sym q
tests_one (c ∷ cs) ss ts p q =
    let first = test_one c p.0 q.0 p.2 q.2 in
    let others = tests_one cs p.1 q.1 p.3 q.3 in
    p.4 ∙ (λ i. option_to_list (first i) ++ others i) ∙ sym q.4

pub narrows_one : (t : Tree) (p q r : Plain) → Narrows t p q → Narrows t p r → q ≡ r
narrows_one t (wholes b is) q r m n = m.2 ∙ ap (wholes b) (leaves_one None is (child (codes "range") t) m.0 n.0 m.1 n.1) ∙ sym n.2
narrows_one t (decimals d is) q r m n = m.2 ∙ ap (decimals d) (leaves_one (Some d) is (child (codes "range") t) m.0 n.0 m.1 n.1) ∙ sym n.2
narrows_one t (strings ls tests) q r m n =
    let lengths = leaves_one None ls (child (codes "length") t) m.0 n.0 m.2 n.2 in
    let added = tests_one (trees t.children) m.1 n.1 m.3 n.3 in
    m.4 ∙ (λ i. strings (lengths i) (tests ++ added i)) ∙ sym n.4
narrows_one t booleans q r m n = m ∙ sym n
narrows_one t (names ns) q r m n = m ∙ sym n
narrows_one t (flags ns) q r m n = m ∙ sym n
narrows_one t (octets ls) q r m n = m.2 ∙ ap octets (leaves_one None ls (child (codes "length") t) m.0 n.0 m.1 n.1) ∙ sym n.2
narrows_one t (identities ids) q r m n = m ∙ sym n
narrows_one t empties q r m n = m ∙ sym n
