-- What an index answers is what is read off the list of all that is met.
use Rattle.std.proofs.Common.{◌≡◌, ℕ, zero, suc, ◌+◌, ◌-◌, ◌==◌, ◌<◌, ◌≤◌, inl, inr, List, [], ◌∷◌, ◌++◌, length, map, slice_index_or, Bool, true, false, ◌&&◌, ◌||◌, nat_le, Option, Some, None, cond, refl, sym, ap, subst, ◌∙◌, append-nil, append_assoc, arith}
use Rattle.std.proofs.lemmas.Bool.{true≢false}
use Rattle.std.proofs.lemmas.Bool.Decides.{nat_tests, Decides-eqb}
use Rattle.std.proofs.lemmas.Grind.{flat_map-append}
use Rattle.std.proofs.lemmas.List.Sums.{sum_by-cons}
use Rattle.std.specs.List.{AllByRecursion, filter, flat_map}
use Rattle.serde_json.specs.Data.{Data, null, boolean, number, string, array, object, Members}
use Rattle.yv_text_statement.specs.declared.document_kind.Kind.{Kind}
use Rattle.yv_values.specs.Same.{is_among, same_value}
use Rattle.yv_values.specs.Values.{Val}
use Rattle.yv_nodes.specs.Defaults.{defaults_of}
use Rattle.yv_nodes.specs.Link.{climb, Link}
use Rattle.yv_nodes.specs.Rows.{Rows, row_at, whole}
use Rattle.yv_nodes.specs.Tree.{Forest, Label}
use Rattle.yv_nodes.specs.declared.node.NodeId.{NodeId}
use Rattle.yv_data_leafrefs.specs.declared.scope.RuleScope.TheVariants.{Always}
use Rattle.yv_data_leafrefs.specs.InUse.{is_empty_at, some_value, uses_defaults, value_of}
use Rattle.yv_data_leafrefs.specs.InnerAnswers.{AreTargets, climbed_to, defaults_at, further_out, is_here, is_it, is_used, is_within, judge, judge_all, location_of, Marks, objects_of, path_of, place_at, reaches}
use Rattle.yv_data_leafrefs.specs.InnerLocations.{Location, location_at, path_in}
use Rattle.yv_data_leafrefs.specs.Place.{Place, step_name}
use Rattle.yv_data_leafrefs.specs.Meetings.{all_met, at, count_entered, entered_at, found_of, is_entered, Meeting, meetings, stand, at_value, at_end, at_node, Node, Spot, Stand, top, WrittenValue}
use Rattle.yv_data_leafrefs.specs.Values.{ValueAt, values_of_node, values_at, values_in}
use Rattle.yv_data_leafrefs.specs.Findings.{first_of, TargetValue, kept_at, kept_if, kept_in, LeafrefValue, notes_at, notes_in, Position, position_at, position_of, positions_at, positions_in, TargetDefault, used_at, used_if, used_in, value_notes}
use Rattle.yv_data_leafrefs.specs.References.{is_in, is_reached, number_of, path_unless, values_reached, references_at, references_of}
use Rattle.yv_data_leafrefs.proofs.ValuePlaces.{all_append, all_first, all_rest, all_weaker, End, ends_append, ends_in, IsBefore, IsNear, IsPlaced, Parts, PartsAll, placed, within}
use Rattle.yv_data_leafrefs.proofs.RowLabels.{AreRows}
use Rattle.yv_data_leafrefs.proofs.WalkInduction.{AreUnwritten, Closed, entered_stand, IsPlain, walk_holds}

-- ---- positions in a list

abbrev pub Reads : List Position → ℕ → List Position → Type 0
Reads ps next [] = Unit {0}
Reads ps next (x ∷ xs) = (position_at ps next ≡ x) × (next < length ps) × Reads ps (next + 1) xs

reads_first : (ps : List Position) (next : ℕ) (xs ys : List Position) → Reads ps next (xs ++ ys) → Reads ps next xs
reads_first ps next [] ys h = tt
reads_first ps next (x ∷ xs) ys h = (h.0, h.1, reads_first ps (next + 1) xs ys h.2)

reads_rest : (ps : List Position) (next a : ℕ) (xs ys : List Position) → length xs ≡ a → Reads ps next (xs ++ ys) → Reads ps (next + a) ys
reads_rest ps next a [] ys e h = let same : next ≡ next + a = omega (arith, e) in subst (λ k. Reads ps k ys) same h
reads_rest ps next a (x ∷ xs) ys e h =
    let same : next + 1 + length xs ≡ next + a = omega (arith, e) in
    subst (λ k. Reads ps k ys) same (reads_rest ps (next + 1) (length xs) xs ys refl h.2)

pub join_length : (xs ys : List Position) (a b : ℕ) → length xs ≡ a → length ys ≡ b → length (xs ++ ys) ≡ a + b
join_length [] ys a b e f = omega (arith, e, f)
join_length (x ∷ xs) ys a b e f = omega (arith, e, join_length xs ys (length xs) b refl f)

pub from_head : (xs ys : List Position) (y : Position) (a : ℕ) → length xs ≡ a → position_at (xs ++ y ∷ ys) a ≡ y
from_head [] ys y zero e = refl
from_head [] ys y (suc a) e = absurd (omega (arith, e))
from_head (x ∷ xs) ys y zero e = absurd (omega (arith, e))
from_head (x ∷ xs) ys y (suc a) e = from_head xs ys y a (omega (arith, e))

pub move : (xs ys : List Position) (y : Position) → (xs ++ y ∷ []) ++ ys ≡ xs ++ y ∷ ys
move [] ys y = refl
move (x ∷ xs) ys y = ap (λ zs. x ∷ zs) (move xs ys y)

reads_behind : (xs ys : List Position) (a : ℕ) → length xs ≡ a → Reads (xs ++ ys) a ys
reads_behind xs [] a e = tt
reads_behind xs (y ∷ ys) a e = (
  from_head xs ys y a e,
  (let size : length (xs ++ y ∷ ys) ≡ a + suc (length ys) = join_length xs (y ∷ ys) a (suc (length ys)) e refl in omega (arith, size)),
  subst (λ zs. Reads zs (a + 1) ys) (move xs ys y) (reads_behind (xs ++ y ∷ []) ys (a + 1) (join_length xs (y ∷ []) a 1 e (omega arith))),
)

one_length : (m : Stand) (d : Data) → length (position_of m d) ≡ is_entered d
one_length m (object ms) = refl
one_length m null = refl
one_length m (boolean x) = refl
one_length m (number x) = refl
one_length m (string x) = refl
one_length m (array x) = refl

at_length : (m : Meeting) → length (positions_at m) ≡ entered_at m
at_length (stand m) = one_length m m.found
at_length (at_value m) = refl
at_length (at_end m) = refl
at_length (at_node m) = refl

entered_cons : (m : Meeting) (ms : List Meeting) → count_entered (m ∷ ms) ≡ entered_at m + count_entered ms
entered_cons m ms = sum_by-cons entered_at m ms

pub positions_length : (ms : List Meeting) → length (positions_in ms) ≡ count_entered ms
positions_length [] = refl
positions_length (m ∷ ms) =
    join_length (positions_at m) (positions_in ms) (entered_at m) (count_entered ms) (at_length m) (positions_length ms)
    ∙ sym (entered_cons m ms)

positions_append : (xs ys : List Meeting) → positions_in (xs ++ ys) ≡ positions_in xs ++ positions_in ys
positions_append xs ys = flat_map-append positions_at xs ys

-- ---- what is asked of a value

pub record Asked : Type 0 where
  pub rows : Rows
  pub positions : List Position
  pub met : List Meeting

-- the objects around something are those that the positions tell
abbrev pub IsChain : Asked → List ℕ → Type 0
IsChain q around = (i : ℕ) → further_out q.positions i (first_of around) ≡ slice_index_or around i 0

-- the object with this number is at this path
abbrev pub IsAt : Asked → ℕ → List Place → Type 0
IsAt q here path = (most : ℕ) → here ≤ most → path_in (objects_of q.rows q.positions) most here ≡ path

-- the object with this number is around a value exactly where its interval says so
abbrev pub IsGood : Asked → ℕ → Type 0
IsGood q n = PartsAll (values_in q.met) (record { number = n; last = (position_at q.positions n).last })

pub record IsReady (q : Asked) (spot : Spot) : Type 0 where
  pub chain : IsChain q spot.around
  pub path : IsAt q (first_of spot.around) spot.path
  pub good : (i : ℕ) → IsGood q (slice_index_or spot.around i 0)

pub record IsFit (q : Asked) (m : WrittenValue) : Type 0 where
  pub label : (row_at q.rows m.node).label ≡ m.label
  pub ready : IsReady q m.spot

abbrev pub FitAt : Asked → Meeting → Type 0
FitAt q (at_value m) = IsFit q m
FitAt q _ = Unit {0}

abbrev pub AreFit : Asked → List Meeting → Type 0
AreFit q ms = AllByRecursion (FitAt q) ms

abbrev pub Fits : Asked → Spot → ℕ → List Meeting → Type 0
Fits q spot next ms =
    Reads q.positions next (positions_in ms) → AllByRecursion (PartsAll (values_in q.met)) (ends_in ms) → first_of spot.around < next → IsReady q spot → AreFit q ms

fit_append : (q : Asked) (xs ys : List Meeting) → AreFit q xs → AreFit q ys → AreFit q (xs ++ ys)
fit_append q [] ys p r = r
fit_append q (x ∷ xs) ys p r = (p.0, fit_append q xs ys p.1 r)

both_fit : (q : Asked) (spot : Spot) (next : ℕ) (xs ys : List Meeting) → Fits q spot next xs → Fits q spot (next + count_entered xs) ys → Fits q spot next (xs ++ ys)
both_fit q spot next xs ys f g reads ends lt ready =
    let rs : Reads q.positions next (positions_in xs ++ positions_in ys) = subst (λ (ps : List Position). Reads q.positions next ps) (positions_append xs ys) reads in
    let es : AllByRecursion (PartsAll (values_in q.met)) (ends_in xs ++ ends_in ys) = subst (λ (zs : List End). AllByRecursion (PartsAll (values_in q.met)) zs) (ends_append xs ys) ends in
    fit_append q xs ys (f (reads_first q.positions next (positions_in xs) (positions_in ys) rs) (all_first (PartsAll (values_in q.met)) (ends_in xs) (ends_in ys) es) lt ready)
    (g (reads_rest q.positions next (count_entered xs) (positions_in xs) (positions_in ys) (positions_length xs) rs) (all_rest (PartsAll (values_in q.met)) (ends_in xs) (ends_in ys) es)
    (omega (arith, lt)) ready)

plain_fit : (q : Asked) (spot : Spot) (next : ℕ) (m : Meeting) → IsPlain q.rows spot m → Fits q spot next (m ∷ [])
plain_fit q spot next (stand m) p reads ends lt ready = (tt, tt)
plain_fit q spot next (at_value m) p reads ends lt ready = (record { label = p.1; ready = subst (λ (at : Spot). IsReady q at) (sym p.0) ready }, tt)
plain_fit q spot next (at_end m) p reads ends lt ready = (tt, tt)
plain_fit q spot next (at_node m) p reads ends lt ready = (tt, tt)

not_zero : (here next : ℕ) → here < next → (next == 0) ≡ false
not_zero here next lt = grind (arith, nat_tests, lt)

not_over : (m n : ℕ) → n < m → nat_le m n ≡ false
not_over m n lt = grind (arith, nat_tests, lt)

inside : (a b : Bool) → a ≡ false → b ≡ false → (a || b) ≡ false
inside true b e f = e
inside false b e f = f

objects_length : (s : Rows) (ps : List Position) → length (objects_of s ps) ≡ length ps
objects_length s [] = refl
objects_length s (p ∷ ps) = ap suc (objects_length s ps)

objects_at : (s : Rows) (ps : List Position) (k : ℕ) → k < length ps
    → location_at (objects_of s ps) k ≡ location_of s (position_at ps k).parent (position_at ps k).node (position_at ps k).item
objects_at s [] k lt = absurd (omega (arith, lt))
objects_at s (p ∷ ps) zero lt = refl
objects_at s (p ∷ ps) (suc k) lt = objects_at s ps k (omega (arith, lt))

path_below : (q : Asked) (here next : ℕ) (n : NodeId) (last : ℕ) (i : Option ℕ) (l : Label) (path : List Place) (most : ℕ) → here < next → next < length q.positions
    → position_at q.positions next ≡ record { parent = here; node = n.0; item = i; last = last } → (row_at q.rows n).label ≡ l → IsAt q here path → next ≤ most
    → path_in (objects_of q.rows q.positions) most next ≡ path ++ record { member = step_name l; item = i } ∷ []
path_below q here next n last i l path zero lt within e f at le = absurd (omega (arith, lt, le))
path_below q here next n last i l path (suc most) lt within e f at le =
    let os : List Location = objects_of q.rows q.positions in
    let own : Location = location_at os next in
    ap (λ (b : Bool). cond b [] (path_in os most own.outer ++ own.place ∷ []))
    (inside (next == 0) (nat_le (length os) next) (not_zero here next lt)
    (not_over (length os) next (let same : length os ≡ length q.positions = objects_length q.rows q.positions in omega (arith, same, within))))
    ∙ ap (λ (o : Location). path_in os most o.outer ++ o.place ∷ [])
    (objects_at q.rows q.positions next within ∙ ap (λ (p : Position). location_of q.rows p.parent p.node p.item) e)
    ∙ ap (λ ps. ps ++ place_at q.rows n.0 i ∷ []) (at most (omega (arith, lt, le)))
    ∙ ap (λ (x : Label). path ++ record { member = step_name x; item = i } ∷ []) f

chain_below : (q : Asked) (next : ℕ) (outer : List ℕ) → (position_at q.positions next).parent ≡ first_of outer → IsChain q outer → IsChain q (next ∷ outer)
chain_below q next outer e h zero = refl
chain_below q next outer e h (suc i) = ap (λ n. further_out q.positions i n) e ∙ h i

good_below : (q : Asked) (next last : ℕ) (outer : List ℕ) → (position_at q.positions next).last ≡ last → PartsAll (values_in q.met) (record { number = next; last = last })
    → ((i : ℕ) → IsGood q (slice_index_or outer i 0)) → (i : ℕ) → IsGood q (slice_index_or (next ∷ outer) i 0)
good_below q next last outer e p h zero = subst (λ k. PartsAll (values_in q.met) (record { number = next; last = k })) (sym e) p
good_below q next last outer e p h (suc i) = h i

object_fit : (q : Asked) (spot : Spot) (next entry : ℕ) (n : NodeId) (l : Label) (i : Option ℕ) (kids : Forest) (ms : Members) (xs : List Meeting) → (row_at q.rows n).label ≡ l
    → Fits q (record { path = at spot l i; around = next ∷ spot.around; entry = entry }) (next + 1) xs
    → Fits q spot next (entered_stand n i kids (record { path = at spot l i; around = next ∷ spot.around; entry = entry }) next ms xs ∷ xs)
object_fit q spot next entry n l i kids ms xs is f reads ends lt ready = (
  tt,
  f reads.2 ends.1 (omega arith) (record {
    chain = chain_below q next spot.around (ap (λ (p : Position). p.parent) reads.0) ready.chain;
    path = λ most le. path_below q (first_of spot.around) next n (next + count_entered xs) i l spot.path most lt reads.1 reads.0 is ready.path le;
    good = good_below q next (next + count_entered xs) spot.around (ap (λ (p : Position). p.last) reads.0) ends.0 ready.good;
  }),
)

unwritten_fit : (q : Asked) (ms : List Meeting) → AreUnwritten ms → AreFit q ms
unwritten_fit q [] h = tt
unwritten_fit q (stand m ∷ ms) h = (tt, unwritten_fit q ms h.1)
unwritten_fit q (at_value m ∷ ms) h = absurd h.0
unwritten_fit q (at_end m ∷ ms) h = (tt, unwritten_fit q ms h.1)
unwritten_fit q (at_node m ∷ ms) h = (tt, unwritten_fit q ms h.1)

fits : (q : Asked) → Closed q.rows (Fits q)
fits q = record {
  none = λ spot next reads ends lt ready. tt;
  both = both_fit q;
  plain = plain_fit q;
  object = object_fit q;
  absent = λ spot next l xs h p reads ends lt ready. unwritten_fit q xs h;
}

-- ---- the labels of nodes

-- a node is of the row of its number
abbrev pub LabelAt : Rows → Meeting → Type 0
LabelAt s (at_node m) = (row_at s m.node).label ≡ m.label
LabelAt s _ = Unit {0}

abbrev pub AreLabelled : Rows → Spot → ℕ → List Meeting → Type 0
AreLabelled s spot next ms = AllByRecursion (LabelAt s) ms

plain_labelled : (s : Rows) (spot : Spot) (next : ℕ) (m : Meeting) → IsPlain s spot m → AreLabelled s spot next (m ∷ [])
plain_labelled s spot next (stand m) p = (tt, tt)
plain_labelled s spot next (at_value m) p = (tt, tt)
plain_labelled s spot next (at_end m) p = (tt, tt)
plain_labelled s spot next (at_node m) p = (p.1, tt)

labelled : (s : Rows) → Closed s (AreLabelled s)
labelled s = record {
  none = λ spot next. tt;
  both = λ spot next xs ys p q. all_append (LabelAt s) xs ys p q;
  plain = plain_labelled s;
  object = λ spot next entry n l i kids ms xs is p. (tt, p);
  absent = λ spot next l xs none p. p;
}

-- ---- one answer

sort : (a s c d rest : Bool) → ((a && s && c && d) || rest) ≡ cond (a && (c && d)) (s || rest) rest
sort true true true true rest = refl
sort true true true false rest = refl
sort true true false d rest = refl
sort true false true true rest = refl
sort true false true false rest = refl
sort true false false d rest = refl
sort false s c d rest = refl

sorted : (a s c d b rest : Bool) → b ≡ (c && d) → ((a && s && c && d) || rest) ≡ cond (a && b) (s || rest) rest
sorted a s c d b rest e = rw e (sort a s c d rest)

different_by : (is_target : ℕ → Bool) (n t : ℕ) (b : Bool) → (n == t) ≡ b → is_target n ≡ false → is_target t ≡ true → (n == t) ≡ false
different_by is_target n t true e off on = let same : n ≡ t = (Decides-eqb n t).0 e in let both : is_target n ≡ is_target t = ap is_target same in absurd (cc)
different_by is_target n t false e off on = e

off_left : (a b : Bool) → a ≡ false → (a && b) ≡ false
off_left true b e = absurd (cc)
off_left false b e = refl

or_nothing : (a : Bool) → (a || false) ≡ a
or_nothing true = refl
or_nothing false = refl

off_right : (a : Bool) → (a && false) ≡ false
off_right true = refl
off_right false = refl

or_move : (a b c : Bool) → (a || (b || c)) ≡ ((a || b) || c)
or_move true b c = refl
or_move false b c = refl

among_if : (r : Bool) (v : Val) (w : ValueAt) (ws : List ValueAt)
    → is_among v (map (λ x. x.value) (cond r (w ∷ ws) ws)) ≡ cond r (same_value v w.value || is_among v (map (λ x. x.value) ws)) (is_among v (map (λ x. x.value) ws))
among_if true v w ws = refl
among_if false v w ws = refl

-- `kept` says whether the value is kept
one_answer : (kept : Bool) (a s c d b rest : Bool) → b ≡ (c && d) → (kept ≡ false → a ≡ false)
    → cond kept ((a && s && c && d) || rest) rest ≡ cond (a && b) (s || rest) rest
one_answer true a s c d b rest e off = sorted a s c d b rest e
one_answer false a s c d b rest e off = sym (ap (λ (x : Bool). cond x (s || rest) rest) (off_left a b (off refl)))

-- the values of these that a path to this target from this object reaches
abbrev pub of_target : ℕ → ℕ → List ValueAt → List Val
of_target t f vs = map (λ w. w.value) (filter (is_reached t f) vs)

-- ---- a value that was read

within_if : (b : Bool) (n here : ℕ) (w : Val) (t : ℕ) (v : Val) (f l : ℕ)
    → is_within t v f l (kept_if b n here (Some w)) ≡ cond b (is_it t v f l (record { target = n; value = w; place = here }) || false) false
within_if true n here w t v f l = refl
within_if false n here w t v f l = refl

read_reached : (is_target : ℕ → Bool) (t : ℕ) (v : Val) (f l : ℕ) (n : NodeId) (lb : Label) (spot : Spot) (o : Option Val) → is_target t ≡ true
    → AllByRecursion (Parts (record { number = f; last = l })) (values_of_node n lb spot (some_value o))
    → is_within t v f l (kept_if (is_target n.0) n.0 (first_of spot.around) o) ≡ is_among v (of_target t f (values_of_node n lb spot (some_value o)))
read_reached is_target t v f l n lb spot None on p = refl
read_reached is_target t v f l n lb spot (Some w) on p =
    let here : ℕ = first_of spot.around in
    let own : ValueAt = record { node = n.0; kind = lb.defined.kind; value = w; spot = spot } in
    within_if (is_target n.0) n.0 here w t v f l
    ∙ one_answer (is_target n.0) (n.0 == t) (same_value v w) (nat_le f here) (nat_le here l) (is_in spot.around f) false p.0
    (λ off. different_by is_target n.0 t (n.0 == t) refl off on)
    ∙ sym (among_if (is_reached t f own) v own [])

-- ---- defaults in use

used_one : (b : Bool) (n here : ℕ) (w : Val) (ws : List Val) (t f l : ℕ)
    → is_used t f l (used_if b n here (w ∷ ws)) ≡ cond b (is_here t f l (record { target = n; place = here }) || false) false
used_one true n here w ws t f l = refl
used_one false n here w ws t f l = refl

and_first : (r a c : Bool) → cond r (a || (r && c)) (r && c) ≡ (r && (a || c))
and_first true a c = refl
and_first false a c = refl

all_alike : (t : ℕ) (v : Val) (f : ℕ) (n : NodeId) (lb : Label) (spot : Spot) (vs : List Val)
    → is_among v (of_target t f (values_of_node n lb spot vs)) ≡ (((n.0 == t) && is_in spot.around f) && is_among v vs)
all_alike t v f n lb spot [] = sym (off_right ((n.0 == t) && is_in spot.around f))
all_alike t v f n lb spot (w ∷ ws) =
    let own : ValueAt = record { node = n.0; kind = lb.defined.kind; value = w; spot = spot } in
    among_if (is_reached t f own) v own (filter (is_reached t f) (values_of_node n lb spot ws))
    ∙ ap (λ (rest : Bool). cond ((n.0 == t) && is_in spot.around f) (same_value v w || rest) rest) (all_alike t v f n lb spot ws)
    ∙ and_first ((n.0 == t) && is_in spot.around f) (same_value v w) (is_among v ws)

and_alone : (z y : Bool) → ((z || false) && y) ≡ (z && y)
and_alone true y = refl
and_alone false y = refl

-- `kept` says whether the place is kept
use_answer : (kept : Bool) (a b c d x y : Bool) → b ≡ (c && d) → (kept ≡ false → a ≡ false) → (a ≡ true → x ≡ y)
    → (cond kept ((a && c && d) || false) false && y) ≡ ((a && b) && x)
use_answer true true b c d x y e off same = and_alone (c && d) y ∙ ap (λ (z : Bool). z && y) (sym e) ∙ ap (λ (z : Bool). b && z) (sym (same refl))
use_answer true false b c d x y e off same = refl
use_answer false true b c d x y e off same = absurd (true≢false (off refl))
use_answer false false b c d x y e off same = refl

default_reached : (is_target : ℕ → Bool) (t : ℕ) (v : Val) (f l : ℕ) (n : NodeId) (lb : Label) (spot : Spot) (ds all : List Val) → is_target t ≡ true
    → ((n.0 == t) ≡ true → ds ≡ all) → AllByRecursion (Parts (record { number = f; last = l })) (values_of_node n lb spot ds)
    → (is_used t f l (used_if (is_target n.0) n.0 (first_of spot.around) ds) && is_among v all) ≡ is_among v (of_target t f (values_of_node n lb spot ds))
default_reached is_target t v f l n lb spot [] all on same p = refl
default_reached is_target t v f l n lb spot (w ∷ ws) all on same p =
    let here : ℕ = first_of spot.around in
    ap (λ (b : Bool). b && is_among v all) (used_one (is_target n.0) n.0 here w ws t f l)
    ∙ use_answer (is_target n.0) (n.0 == t) (is_in spot.around f) (nat_le f here) (nat_le here l) (is_among v (w ∷ ws)) (is_among v all) p.0
    (λ off. different_by is_target n.0 t (n.0 == t) refl off on) (λ e. ap (λ (vs : List Val). is_among v vs) (same e))
    ∙ sym (all_alike t v f n lb spot (w ∷ ws))

where_used : (is_target : ℕ → Bool) (t : ℕ) (v : Val) (f l : ℕ) (n : NodeId) (lb : Label) (spot : Spot) (c : Bool) (ds all : List Val) → is_target t ≡ true
    → ((n.0 == t) ≡ true → ds ≡ all) → AllByRecursion (Parts (record { number = f; last = l })) (values_of_node n lb spot (cond c ds []))
    → (is_used t f l (used_if (is_target n.0) n.0 (first_of spot.around) (cond c ds [])) && is_among v all) ≡ is_among v (of_target t f (values_of_node n lb spot (cond c ds [])))
where_used is_target t v f l n lb spot true ds all on same p = default_reached is_target t v f l n lb spot ds all on same p
where_used is_target t v f l n lb spot false ds all on same p = refl

-- ---- all that is met

abbrev pub marks_in : (ℕ → Bool) → List Meeting → Marks
marks_in is_target ms = record { kept = kept_in is_target ms; used = used_in is_target ms }

defaults_same : (s : Rows) (t : ℕ) (m : Node) → (row_at s m.node).label ≡ m.label → (m.node.0 == t) ≡ true → defaults_of m.label ≡ defaults_at s t
defaults_same s t m is e =
    ap defaults_of (sym is) ∙ ap (λ (n : ℕ). defaults_at s n) ((Decides-eqb m.node.0 t).0 e)

meeting_reached : (s : Rows) (is_target : ℕ → Bool) (t : ℕ) (v : Val) (f l : ℕ) (m : Meeting) → is_target t ≡ true → LabelAt s m
    → AllByRecursion (Parts (record { number = f; last = l })) (values_at m)
    → (is_within t v f l (kept_at is_target m) || (is_used t f l (used_at is_target m) && is_among v (defaults_at s t))) ≡ is_among v (of_target t f (values_at m))
meeting_reached s is_target t v f l (stand m) on is p = refl
meeting_reached s is_target t v f l (at_value m) on is p =
    or_nothing (is_within t v f l (kept_at is_target (at_value m))) ∙ read_reached is_target t v f l m.node m.label m.spot (value_of m.label m.found) on p
meeting_reached s is_target t v f l (at_end m) on is p = refl
meeting_reached s is_target t v f l (at_node m) on is p =
    where_used is_target t v f l m.node m.label m.spot (uses_defaults m.scope && is_empty_at m.label.defined.kind (found_of m)) (defaults_of m.label) (defaults_at s t) on
    (defaults_same s t m is) p

within_append : (t : ℕ) (v : Val) (f l : ℕ) (xs ys : List TargetValue) → is_within t v f l (xs ++ ys) ≡ (is_within t v f l xs || is_within t v f l ys)
within_append t v f l [] ys = refl
within_append t v f l (x ∷ xs) ys =
    ap (λ (b : Bool). is_it t v f l x || b) (within_append t v f l xs ys) ∙ or_move (is_it t v f l x) (is_within t v f l xs) (is_within t v f l ys)

used_append : (t f l : ℕ) (xs ys : List TargetDefault) → is_used t f l (xs ++ ys) ≡ (is_used t f l xs || is_used t f l ys)
used_append t f l [] ys = refl
used_append t f l (x ∷ xs) ys =
    ap (λ (b : Bool). is_here t f l x || b) (used_append t f l xs ys) ∙ or_move (is_here t f l x) (is_used t f l xs) (is_used t f l ys)

push : (r a b c : Bool) → cond r (a || (b || c)) (b || c) ≡ (cond r (a || b) b || c)
push true a b c = or_move a b c
push false a b c = refl

among_append : (t f : ℕ) (v : Val) (xs ys : List ValueAt) → is_among v (of_target t f (xs ++ ys)) ≡ (is_among v (of_target t f xs) || is_among v (of_target t f ys))
among_append t f v [] ys = refl
among_append t f v (x ∷ xs) ys =
    among_if (is_reached t f x) v x (filter (is_reached t f) (xs ++ ys))
    ∙ ap (λ (rest : Bool). cond (is_reached t f x) (same_value v x.value || rest) rest) (among_append t f v xs ys)
    ∙ push (is_reached t f x) (same_value v x.value) (is_among v (of_target t f xs)) (is_among v (of_target t f ys))
    ∙ ap (λ (b : Bool). b || is_among v (of_target t f ys)) (sym (among_if (is_reached t f x) v x (filter (is_reached t f) xs)))

mix : (a b u w d : Bool) → ((a || b) || ((u || w) && d)) ≡ ((a || (u && d)) || (b || (w && d)))
mix true b u w d = refl
mix false true true w true = refl
mix false true true w false = refl
mix false true false w d = refl
mix false false true w true = refl
mix false false true true false = refl
mix false false true false false = refl
mix false false false w d = refl

all_reached : (s : Rows) (is_target : ℕ → Bool) (t : ℕ) (v : Val) (f l : ℕ) (ms : List Meeting) → is_target t ≡ true → AllByRecursion (LabelAt s) ms
    → PartsAll (values_in ms) (record { number = f; last = l }) → reaches s (marks_in is_target ms) t v f l ≡ is_among v (of_target t f (values_in ms))
all_reached s is_target t v f l [] on is p = refl
all_reached s is_target t v f l (m ∷ ms) on is p =
    let e : End = record { number = f; last = l } in
    let among : Bool = is_among v (defaults_at s t) in
    let within_here : Bool = is_within t v f l (kept_at is_target m) in
    let within_rest : Bool = is_within t v f l (kept_in is_target ms) in
    let used_here : Bool = is_used t f l (used_at is_target m) in
    let used_rest : Bool = is_used t f l (used_in is_target ms) in
    ap (λ (b : Bool). b || (is_used t f l (used_at is_target m ++ used_in is_target ms) && among)) (within_append t v f l (kept_at is_target m) (kept_in is_target ms))
    ∙ ap (λ (b : Bool). (within_here || within_rest) || (b && among)) (used_append t f l (used_at is_target m) (used_in is_target ms))
    ∙ mix within_here within_rest used_here used_rest among
    ∙ ap (λ (b : Bool). b || (within_rest || (used_rest && among))) (meeting_reached s is_target t v f l m on is.0 (all_first (Parts e) (values_at m) (values_in ms) p))
    ∙ ap (λ (b : Bool). is_among v (of_target t f (values_at m)) || b) (all_reached s is_target t v f l ms on is.1 (all_rest (Parts e) (values_at m) (values_in ms) p))
    ∙ sym (among_append t f v (values_at m) (values_in ms))

climbed_same : (q : Asked) (around : List ℕ) (climbs : Option ℕ) → IsChain q around → climbed_to q.positions climbs (first_of around) ≡ climb 0 climbs around
climbed_same q around None h = refl
climbed_same q around (Some k) h = h (k - 1)

climbed_good : (q : Asked) (around : List ℕ) (climbs : Option ℕ) → IsGood q 0 → ((i : ℕ) → IsGood q (slice_index_or around i 0)) → IsGood q (climb 0 climbs around)
climbed_good q around None g h = g
climbed_good q around (Some k) g h = h (k - 1)

path_same : (q : Asked) (m : WrittenValue) (v : Val) → IsFit q m
    → path_of q.rows q.positions (record { position = first_of m.spot.around; node = m.node.0; item = number_of m.before; value = v }) ≡ at m.spot m.label (number_of m.before)
path_same q m v h =
    ap (λ ps. ps ++ place_at q.rows m.node.0 (number_of m.before) ∷ []) (h.ready.path (first_of m.spot.around) (omega arith))
    ∙ ap (λ (x : Label). m.spot.path ++ record { member = step_name x; item = number_of m.before } ∷ []) h.label

record IsAsked (q : Asked) (links : ℕ → Option Link) (is_target : ℕ → Bool) : Type 0 where
  pub targets : AreTargets links is_target
  pub labels : AllByRecursion (LabelAt q.rows) q.met
  pub top : IsGood q 0

value_answer : (q : Asked) (links : ℕ → Option Link) (is_target : ℕ → Bool) (m : WrittenValue) (link : Option Link) (v : Option Val) → IsAsked q links is_target → IsFit q m
    → links m.node.0 ≡ link
    → judge_all q.rows links (marks_in is_target q.met) q.positions (value_notes link (first_of m.spot.around) m.node.0 (number_of m.before) v)
    ≡ references_of (values_in q.met) link m v
value_answer q links is_target m None None a h e = refl
value_answer q links is_target m None (Some v) a h e = refl
value_answer q links is_target m (Some link) None a h e = refl
value_answer q links is_target m (Some link) (Some v) a h e =
    let marks : Marks = marks_in is_target q.met in
    let n : LeafrefValue = record { position = first_of m.spot.around; node = m.node.0; item = number_of m.before; value = v } in
    let f : ℕ = climb 0 link.climbs m.spot.around in
    append-nil (judge q.rows links marks q.positions n)
    ∙ rw e (
    ap (λ (from : ℕ). path_unless (reaches q.rows marks link.target v from (position_at q.positions from).last) (path_of q.rows q.positions n))
    (climbed_same q m.spot.around link.climbs h.ready.chain)
    ∙ ap (λ (b : Bool). path_unless b (path_of q.rows q.positions n))
    (all_reached q.rows is_target link.target v f (position_at q.positions f).last q.met (a.targets m.node.0 link e) a.labels
    (climbed_good q m.spot.around link.climbs a.top h.ready.good))
    ∙ ap (λ (ps : List Place). path_unless (is_among v (values_reached (values_in q.met) link m.spot)) ps) (path_same q m v h))

-- ---- all answers

judged_append : (s : Rows) (links : ℕ → Option Link) (ks : Marks) (ps : List Position) (xs ys : List LeafrefValue) → judge_all s links ks ps (xs ++ ys) ≡ judge_all s links ks ps xs ++ judge_all s links ks ps ys
judged_append s links ks ps [] ys = refl
judged_append s links ks ps (x ∷ xs) ys =
    ap (λ fs. judge s links ks ps x ++ fs) (judged_append s links ks ps xs ys) ∙ sym (append_assoc (judge s links ks ps x) (judge_all s links ks ps xs) (judge_all s links ks ps ys))

meeting_answer : (q : Asked) (links : ℕ → Option Link) (is_target : ℕ → Bool) (m : Meeting) → IsAsked q links is_target → FitAt q m
    → judge_all q.rows links (marks_in is_target q.met) q.positions (notes_at links m) ≡ references_at links (values_in q.met) m
meeting_answer q links is_target (stand m) a h = refl
meeting_answer q links is_target (at_value m) a h = value_answer q links is_target m (links m.node.0) (value_of m.label m.found) a h refl
meeting_answer q links is_target (at_end m) a h = refl
meeting_answer q links is_target (at_node m) a h = refl

answers : (q : Asked) (links : ℕ → Option Link) (is_target : ℕ → Bool) (ms : List Meeting) → IsAsked q links is_target → AreFit q ms
    → judge_all q.rows links (marks_in is_target q.met) q.positions (notes_in links ms) ≡ flat_map (references_at links (values_in q.met)) ms
answers q links is_target [] a h = refl
answers q links is_target (m ∷ ms) a h =
    let marks : Marks = marks_in is_target q.met in
    judged_append q.rows links marks q.positions (notes_at links m) (notes_in links ms)
    ∙ ap (λ fs. fs ++ judge_all q.rows links marks q.positions (notes_in links ms)) (meeting_answer q links is_target m a h.0)
    ∙ ap (λ fs. references_at links (values_in q.met) m ++ fs) (answers q links is_target ms a h.1)

outermost : (ps : List Position) (i : ℕ) → (position_at ps 0).parent ≡ 0 → further_out ps i 0 ≡ 0
outermost ps zero e = refl
outermost ps (suc i) e = ap (λ n. further_out ps i n) e ∙ outermost ps i e

zero_other : (n : ℕ) → 0 < n → (0 == n) ≡ false
zero_other n lt = grind (arith, nat_tests)

beside : (n : ℕ) → 0 < n → (0 == n || false) ≡ false
beside n lt = ap (λ (b : Bool). b || false) (zero_other n lt)

in_document : (size : ℕ) (v : ValueAt) → IsNear top 1 size v.spot.around → Parts (record { number = 0; last = 0 + size }) v
in_document size v h =
    h.outer 0 (omega arith)
    ∙ elim h.place [
      | inl e ↦ within 0 (0 + size) (first_of v.spot.around) (omega arith) (omega (arith, e))
      | inr p ↦ within 0 (0 + size) (first_of v.spot.around) (omega arith) (omega (arith, p.1))
    ]

chain_top : (q : Asked) → (position_at q.positions 0).parent ≡ 0 → (i : ℕ) → further_out q.positions i 0 ≡ slice_index_or (0 ∷ []) i 0
chain_top q e zero = refl
chain_top q e (suc i) = ap (λ n. further_out q.positions i n) e ∙ outermost q.positions i e

path_top : (q : Asked) (most : ℕ) → path_in (objects_of q.rows q.positions) most 0 ≡ []
path_top q zero = refl
path_top q (suc most) = refl

good_top : (q : Asked) → IsGood q 0 → (i : ℕ) → IsGood q (slice_index_or (0 ∷ []) i 0)
good_top q g zero = g
good_top q g (suc i) = g

-- what an index answers of all that is met in a document
pub all_answered : (k : Kind) (s : Rows) (links : ℕ → Option Link) (is_target : ℕ → Bool) (ms : Members) → AreRows s 0 (whole s) → AreTargets links is_target
    → judge_all s links (marks_in is_target (all_met k s (object ms))) (positions_in (all_met k s (object ms))) (notes_in links (all_met k s (object ms))) ≡ flat_map (references_at links (values_in (all_met k s (object ms)))) (all_met k s (object ms))
all_answered k s links is_target ms rows targets =
    let inside : List Meeting = meetings k s (λ m t. Always) top 1 0 (whole s) ms in
    let all : List Meeting = all_met k s (object ms) in
    let ps : List Position = positions_in all in
    let q : Asked = record { rows = s; positions = ps; met = all } in
    let before : IsBefore top 1 = record { first = omega arith; beyond = λ n le. beside n (omega (arith, le)) } in
    let p : IsPlaced top 1 inside = walk_holds k s _ (placed s) (λ m t. Always) top 1 0 (whole s) ms rows before in
    let reads : Reads ps 0 ps = reads_behind [] ps 0 refl in
    let good : IsGood q 0 = all_weaker (λ (v : ValueAt). IsNear top 1 (count_entered inside) v.spot.around) (Parts (record { number = 0; last = 0 + count_entered inside })) (values_in all) (λ v h. in_document (count_entered inside) v h) p.near in
    let ready : IsReady q top = record {
      chain = λ i. chain_top q refl i;
      path = λ most le. path_top q most;
      good = λ i. good_top q good i;
    } in
    answers q links is_target all
    (record { targets = targets; labels = (tt, walk_holds k s _ (labelled s) (λ m t. Always) top 1 0 (whole s) ms rows); top = good })
    (tt, walk_holds k s (Fits q) (fits q) (λ m t. Always) top 1 0 (whole s) ms rows reads.2 p.parted (omega arith) ready)
