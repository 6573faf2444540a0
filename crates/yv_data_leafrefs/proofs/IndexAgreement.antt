-- The indexes answer what the list of what was kept does.
use Rattle.std.proofs.Common.{◌≡◌, ℕ, ◌+◌, ◌≤◌, ◌⊎◌, ◌↔◌, inl, inr, IsTrue, List, [], ◌∷◌, ◌++◌, Bool, true, false, ◌&&◌, ◌||◌, ◌==◌, nat_le, Option, Some, None, cond, refl, sym, ap, subst, ◌∙◌, append_assoc, append-nil, arith}
use Rattle.std.specs.Bool.{Decides}
use Rattle.std.proofs.lemmas.Bool.Decides.{nat_tests, Decides-eqb}
use Rattle.yv_values.specs.Count.{count_up}
use Rattle.yv_values.specs.Pairs.{IsAlone, IsWithin, Keeps}
use Rattle.yv_values.specs.Places.{HasBetween, IsPlace}
use Rattle.yv_values.specs.Values.{Val}
use Rattle.yv_nodes.specs.Rows.{Rows}
use Rattle.yv_data_leafrefs.specs.Findings.{Gains, index_of, Indexes, IsKept, IsUsed, TargetValue, LeafrefValue, places_of, Position, position_at, Spreads, TargetDefault, Uses}
use Rattle.yv_data_leafrefs.specs.InnerAnswers.{AreMarks, count_leafrefs, asked_once, climbed_to, defaults_at, is_here, is_it, is_used, is_within, judge, judge_all, location_of, Marks, objects_of, path_of, paths_of, reaches}
use Rattle.yv_data_leafrefs.specs.InnerLocations.{Location, value_path}
use Rattle.yv_nodes.specs.Link.{Link}
use Rattle.yv_data_leafrefs.specs.Place.{Place}
use Rattle.yv_data_leafrefs.specs.References.{path_unless}
use Rattle.yv_values.specs.Same.{is_among, same_value}
use Rattle.yv_values.proofs.Alone.{among_alone}
use Rattle.yv_values.proofs.SameValues.{same_value-Decides}

-- some place from the first to the last
abbrev pub HasWithin : List TargetValue → ℕ → Val → ℕ → ℕ → Type 0
HasWithin ks n v first last = (p : ℕ) × IsKept ks n v p × (first ≤ p) × (p ≤ last)

abbrev pub IsIt : ℕ → Val → ℕ → ℕ → TargetValue → Type 0
IsIt n v f l k = (k.target ≡ n) × (v ≡ k.value) × (f ≤ k.place) × (k.place ≤ l)

-- some place where the defaults are in use
abbrev pub HasUse : List TargetDefault → ℕ → ℕ → ℕ → Type 0
HasUse us n first last = (p : ℕ) × IsUsed us n p × (first ≤ p) × (p ≤ last)

abbrev pub IsHere : ℕ → ℕ → ℕ → TargetDefault → Type 0
IsHere n f l u = (u.target ≡ n) × (f ≤ u.place) × (u.place ≤ l)

three : {A B C : Type 0} (a b c : Bool) → Decides a A → Decides b B → Decides c C → Decides (a && b && c) (A × B × C)
three true true true p q r = (λ t. (p.0 refl, q.0 refl, r.0 refl), λ t. refl)
three true true false p q r = (λ t. absurd (cc), λ t. r.1 t.2)
three true false c p q r = (λ t. absurd (cc), λ t. q.1 t.1)
three false b c p q r = (λ t. absurd (cc), λ t. p.1 t.0)

four : {A B C D : Type 0} (a b c d : Bool) → Decides a A → Decides b B → Decides c C → Decides d D → Decides (a && b && c && d) (A × B × C × D)
four true true true true p q r s = (λ t. (p.0 refl, q.0 refl, r.0 refl, s.0 refl), λ t. refl)
four true true true false p q r s = (λ t. absurd (cc), λ t. s.1 t.3)
four true true false d p q r s = (λ t. absurd (cc), λ t. r.1 t.2)
four true false c d p q r s = (λ t. absurd (cc), λ t. q.1 t.1)
four false b c d p q r s = (λ t. absurd (cc), λ t. p.1 t.0)

le_decides : (a b : ℕ) → Decides (nat_le a b) (a ≤ b)
le_decides a b = (λ t. grind (arith, nat_tests, t), λ h. grind (arith, nat_tests, h))

it_decides : (n : ℕ) (v : Val) (f l : ℕ) (k : TargetValue) → Decides (is_it n v f l k) (IsIt n v f l k)
it_decides n v f l k = four (k.target == n) (same_value v k.value) (nat_le f k.place) (nat_le k.place l) (Decides-eqb k.target n) (same_value-Decides v k.value) (le_decides f k.place) (le_decides k.place l)

here_or_later : (a b : Bool) {P Q R : Type 0} → Decides a P → Decides b Q → (P → R) → (Q → R) → (R → P ⊎ Q) → Decides (a || b) R
here_or_later true b p q f g h = (λ t. f (p.0 refl), λ r. refl)
here_or_later false true p q f g h = (λ t. g (q.0 refl), λ r. refl)
here_or_later false false p q f g h = (λ t. absurd (cc), λ r. elim (h r) [ inl a ↦ p.1 a | inr b ↦ q.1 b ])

split : (n : ℕ) (v : Val) (f l : ℕ) (k : TargetValue) (ks : List TargetValue) → HasWithin (k ∷ ks) n v f l → IsIt n v f l k ⊎ HasWithin ks n v f l
split n v f l k ks (p, inl e, low, high) = inl (e.0, sym e.1, omega (arith, e.2, low), omega (arith, e.2, high))
split n v f l k ks (p, inr h, low, high) = inr (p, h, low, high)

within_decides : (n : ℕ) (v : Val) (f l : ℕ) (ks : List TargetValue) → Decides (is_within n v f l ks) (HasWithin ks n v f l)
within_decides n v f l [] = (λ t. absurd (cc), λ h. absurd h.1)
within_decides n v f l (k ∷ ks) =
    here_or_later (is_it n v f l k) (is_within n v f l ks) (it_decides n v f l k) (within_decides n v f l ks)
    (λ e. (k.place, inl (e.0, sym e.1, refl), e.2, e.3)) (λ h. (h.0, inr h.1, h.2, h.3)) (split n v f l k ks)

same_answer : (a b : Bool) {P Q : Type 0} → Decides a P → Decides b Q → (P → Q) → (Q → P) → a ≡ b
same_answer true true p q f g = refl
same_answer true false p q f g = sym (q.1 (f (p.0 refl)))
same_answer false true p q f g = p.1 (g (q.0 refl))
same_answer false false p q f g = refl

kept_of : (is : Indexes) (ks : List TargetValue) → Gains [] is ks → (n : ℕ) (v : Val) (p : ℕ) → Keeps (index_of is n) (v ∷ []) p → IsKept ks n v p
kept_of is ks g n v p h = elim ((g.each n v p).0 h) [ inl a ↦ absurd a | inr b ↦ b ]

here_decides : (n f l : ℕ) (u : TargetDefault) → Decides (is_here n f l u) (IsHere n f l u)
here_decides n f l u = three (u.target == n) (nat_le f u.place) (nat_le u.place l) (Decides-eqb u.target n) (le_decides f u.place) (le_decides u.place l)

split_use : (n f l : ℕ) (u : TargetDefault) (us : List TargetDefault) → HasUse (u ∷ us) n f l → IsHere n f l u ⊎ HasUse us n f l
split_use n f l u us (p, inl e, low, high) = inl (e.0, omega (arith, e.1, low), omega (arith, e.1, high))
split_use n f l u us (p, inr h, low, high) = inr (p, h, low, high)

used_decides : (n f l : ℕ) (us : List TargetDefault) → Decides (is_used n f l us) (HasUse us n f l)
used_decides n f l [] = (λ t. absurd (cc), λ h. absurd h.1)
used_decides n f l (u ∷ us) =
    here_or_later (is_here n f l u) (is_used n f l us) (here_decides n f l u) (used_decides n f l us)
    (λ e. (u.place, inl (e.0, refl), e.1, e.2)) (λ h. (h.0, inr h.1, h.2, h.3)) (split_use n f l u us)

use_of : (uses : Uses) (us : List TargetDefault) → Spreads [] uses us → (n p : ℕ) → IsPlace (places_of uses n) p → IsUsed us n p
use_of uses us g n p h = elim ((g.each n p).0 h) [ inl a ↦ absurd a | inr b ↦ b ]

-- what the places answer is what the list does
pub used_is : (uses : Uses) (us : List TargetDefault) (n f l : ℕ) (b : Bool) → Spreads [] uses us → (IsTrue b ↔ HasBetween (places_of uses n) f l) → b ≡ is_used n f l us
used_is uses us n f l b g h =
    same_answer b (is_used n f l us) h (used_decides n f l us)
    (λ w. (w.0, use_of uses us g n w.0 w.1, w.2, w.3)) (λ w. (w.0, (g.each n w.0).1 (inr w.1), w.2, w.3))

used_among : (u : Bool) (v : Val) (ds : List Val) → Decides (u && is_among v ds) (IsAlone (v ∷ []) (cond u ds []))
used_among true v ds = among_alone v ds
used_among false v ds = among_alone v []

either : {P Q : Type 0} (a b : Bool) → Decides a P → Decides b Q → Decides (a || b) (P ⊎ Q)
either true b d e = (λ t. inl (d.0 refl), λ h. refl)
either false b d e = (λ t. inr (e.0 t), λ h. elim h [ inl p ↦ absurd (let x = d.1 p in cc) | inr q ↦ e.1 q ])

-- what an index answers beside these defaults is what is kept of the target, and its defaults where
-- they are in use
pub reaches_is : (s : Rows) (is : Indexes) (uses : Uses) (m : Marks) (n : ℕ) (v : Val) (f l : ℕ) (ds : List Val) (b : Bool) → AreMarks is uses m
    → ds ≡ cond (is_used n f l m.used) (defaults_at s n) [] → (IsTrue b ↔ (IsWithin (index_of is n) (v ∷ []) f l ⊎ IsAlone (v ∷ []) ds)) → b ≡ reaches s m n v f l
reaches_is s is uses m n v f l ds b g e h =
    same_answer b (reaches s m n v f l) h
    (either (is_within n v f l m.kept) (is_used n f l m.used && is_among v (defaults_at s n)) (within_decides n v f l m.kept) (used_among (is_used n f l m.used) v (defaults_at s n)))
    (λ w. elim w [ inl k ↦ inl (k.0, kept_of is m.kept g.0 n v k.0 k.1, k.2, k.3) | inr a ↦ inr (subst (λ (vs : List Val). IsAlone (v ∷ []) vs) e a) ])
    (λ w. elim w [ inl k ↦ inl (k.0, (g.0.each n v k.0).1 (inr k.1), k.2, k.3) | inr a ↦ inr (subst (λ (vs : List Val). IsAlone (v ∷ []) vs) (sym e) a) ])

-- ---- one note

pub unlinked : (s : Rows) (links : ℕ → Option Link) (ks : Marks) (ps : List Position) (n : LeafrefValue) (old : List (List Place)) → links n.node ≡ None → old ≡ old ++ judge s links ks ps n
unlinked s links ks ps n old e = rw e (sym (append-nil old))

-- what is answered of a note whose path climbs to `from`, where the last object is `last`
pub judge_is : (s : Rows) (links : ℕ → Option Link) (m : Marks) (ps : List Position) (n : LeafrefValue) (link : Link) (from last : ℕ) (b : Bool)
    → links n.node ≡ Some link → from ≡ climbed_to ps link.climbs n.position → last ≡ (position_at ps from).last
    → b ≡ reaches s m link.target n.value from last → judge s links m ps n ≡ path_unless b (path_of s ps n)
judge_is s links m ps n link from last b e f h a =
    rw (e, ← f, ← h) (ap (λ c. path_unless c (path_of s ps n)) (sym a))

pub found : (s : Rows) (ps : List Position) (n : LeafrefValue) (b : Bool) (told old : List (List Place)) → told ≡ path_unless b (path_of s ps n) → b ≡ true → old ≡ old ++ told
found s ps n b told old e f = sym (ap (λ fs. old ++ fs) (e ∙ ap (λ c. path_unless c (path_of s ps n)) f) ∙ append-nil old)

map_more : (s : Rows) (ps : List Position) (vs : List Location) (v : Location) → paths_of s ps (vs ++ v ∷ []) ≡ paths_of s ps vs ++ value_path (objects_of s ps) v ∷ []
map_more s ps [] v = refl
map_more s ps (w ∷ ws) v = ap (λ qs. value_path (objects_of s ps) w ∷ qs) (map_more s ps ws v)

pub misses : (s : Rows) (ps : List Position) (n : LeafrefValue) (b : Bool) (told : List (List Place)) (old new : List Location) (v : Location)
    → told ≡ path_unless b (path_of s ps n) → b ≡ false → v ≡ location_of s n.position n.node n.item → new ≡ old ++ v ∷ [] → paths_of s ps new ≡ paths_of s ps old ++ told
misses s ps n b told old new v e f g h =
    ap (paths_of s ps) h ∙ map_more s ps old v ∙ ap (λ (w : Location). paths_of s ps old ++ value_path (objects_of s ps) w ∷ []) g
    ∙ ap (λ c. paths_of s ps old ++ path_unless c (path_of s ps n)) (sym f) ∙ ap (λ t. paths_of s ps old ++ t) (sym e)

-- ---- all notes

judged_more : (s : Rows) (links : ℕ → Option Link) (ks : Marks) (ps : List Position) (ns : List LeafrefValue) (n : LeafrefValue) → judge_all s links ks ps (ns ++ n ∷ []) ≡ judge_all s links ks ps ns ++ judge s links ks ps n
judged_more s links ks ps [] n = append-nil (judge s links ks ps n)
judged_more s links ks ps (m ∷ ns) n =
    ap (λ fs. judge s links ks ps m ++ fs) (judged_more s links ks ps ns n) ∙ sym (append_assoc (judge s links ks ps m) (judge_all s links ks ps ns) (judge s links ks ps n))

pub one_judged : (s : Rows) (links : ℕ → Option Link) (ks : Marks) (ps : List Position) (ns : List LeafrefValue) (n : LeafrefValue) (old new : List (List Place))
    → old ≡ judge_all s links ks ps ns → new ≡ old ++ judge s links ks ps n → new ≡ judge_all s links ks ps (ns ++ n ∷ [])
one_judged s links ks ps ns n old new e f = f ∙ ap (λ fs. fs ++ judge s links ks ps n) e ∙ sym (judged_more s links ks ps ns n)

asked_more : (links : ℕ → Option Link) (ns : List LeafrefValue) (n : LeafrefValue) → count_leafrefs links (ns ++ n ∷ []) ≡ count_leafrefs links ns + asked_once (links n.node)
asked_more links [] n = omega arith
asked_more links (m ∷ ns) n = omega (arith, asked_more links ns n)

pub one_asked : (links : ℕ → Option Link) (ns : List LeafrefValue) (n : LeafrefValue) (first now next : ℕ) → count_up now ≡ count_up (first + count_leafrefs links ns) → count_up next ≡ count_up (now + asked_once (links n.node))
    → count_up next ≡ count_up (first + count_leafrefs links (ns ++ n ∷ []))
one_asked links ns n first now next g h = omega (arith, g, h, asked_more links ns n)
