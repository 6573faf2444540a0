-- Each small step of the search keeps what the search knows.
use Rattle.std.proofs.Common.{◌≡◌, ℕ, ◌+◌, ◌-◌, ◌<◌, ◌≤◌, ◌⊎◌, inl, inr, cond, List, [], ◌∷◌, ◌++◌, length, get_or, set, take, drop, min, refl, sym, ◌∙◌, ap, subst, arith, zero, suc, Some, length-set, length-append, get_or-set_same, get_or-set_other}
use Rattle.std.proofs.lemmas.Bool.{cases_eq, cases_lt}
use Rattle.std.proofs.lemmas.Grind.{common_steps, get_or_default_zero}
use Rattle.std.proofs.lemmas.List.{get_or_append_left, get_or_past, get_or-take, length-take-le}
use Rattle.std.proofs.lemmas.List.Sums.{sum_by-set, sum_by-cons}
use Rattle.std.proofs.lemmas.Option.{same_Some, get_or_from_slice_get}
use Rattle.std.specs.List.{All, count_by, slice_get}
use Rattle.std.specs.declared.vec.Vec.{Vec}
use Rattle.std.specs.declared.alloc.Global.{Global}
use Rattle.yv_base_graph.specs.declared.search.State.{State}
use Rattle.yv_base_graph.specs.declared.search.State.TheVariants.{New, Pending, Done}
use Rattle.yv_base_graph.specs.Graph.{Graph, HasEdge, LeadsTo, by_edge, by_way}
use Rattle.yv_base_graph.specs.InnerSearch.{Progress, Among, IsSorted, Merges, Closes, state_of, Enters, Skips, Retreats, Leaves, Reaches, IsFollowed, IsSearch, edges_left, is_new, Steps, IsTop}
use Rattle.yv_base_graph.proofs.Reachability.{LeadsTo-more}
use Rattle.yv_base_graph.proofs.Among.{among_left, among_last, among_split, sorted_push, sorted_init, sorted_last, split_last, among_at, among_drop, drop_among}

pub leads_trans : (g : Graph) (a b c : ℕ) → LeadsTo g a b → LeadsTo g b c → LeadsTo g a c
leads_trans g a b c (by_edge e) m = by_way e m
leads_trans g a b c (by_way e l) m = by_way e (leads_trans g _ b c l m)

pub reaches_then : (g : Graph) (a v w : ℕ) → Reaches g a v → HasEdge g v w → LeadsTo g a w
reaches_then g a v w (inl e) f = by_edge (subst (λ (n : ℕ). HasEdge g n w) (sym e) f)
reaches_then g a v w (inr l) f = LeadsTo-more g a v w l f

pub then_reaches : (g : Graph) (a b c : ℕ) → LeadsTo g a b → Reaches g b c → LeadsTo g a c
then_reaches g a b c l (inl e) = subst (λ (n : ℕ). LeadsTo g a n) e l
then_reaches g a b c l (inr m) = leads_trans g a b c l m

pub reaches_trans : (g : Graph) (a b c : ℕ) → Reaches g a b → Reaches g b c → Reaches g a c
reaches_trans g a b c (inl e) r = subst (λ (n : ℕ). Reaches g n c) (sym e) r
reaches_trans g a b c (inr l) r = inr (then_reaches g a b c l r)

pub clash_new_pending : (p : ℕ) → New ≡ Pending p → ⊥
clash_new_pending p e = cc

clash_new_done : (p : ℕ) → New ≡ Done p → ⊥
clash_new_done p e = cc

clash_pending_done : (p r : ℕ) → Pending p ≡ Done r → ⊥
clash_pending_done p r e = cc

same_pending : (p q : ℕ) → Pending p ≡ Pending q → p ≡ q
same_pending p q e = cc

pub same_done : (p q : ℕ) → Done p ≡ Done q → p ≡ q
same_done p q e = cc

pub state_within : (states : List State) (x p : ℕ) → state_of states x ≡ Pending p → x < length states
state_within states x p h = elim (cases_lt x (length states)) [
  | inl l ↦ l
  | inr m ↦ let e : get_or states x New ≡ New = get_or_past states x New m in absurd (clash_new_pending p (sym e ∙ h))
]

-- a changed state
set_cases : (states : List State) (y x : ℕ) (v w : State) → y < length states → state_of (set states y v) x ≡ w → ((x ≡ y) × (v ≡ w)) ⊎ ((x ≡ y → ⊥) × (state_of states x ≡ w))
set_cases states y x v w h e = elim (cases_eq x y) [
  | inl same ↦ inl (same, sym (get_or-set_same states y v New h) ∙ sym (ap (λ z. get_or (set states y v) z New) same) ∙ e)
  | inr ne ↦ inr (ne, rw get_or-set_other at e)
]

set_kept : (states : List State) (y x : ℕ) (v : State) → (x ≡ y → ⊥) → state_of (set states y v) x ≡ state_of states x
set_kept states y x v ne = rw get_or-set_other refl

pub greatest_last : (xs : List ℕ) → IsSorted xs → 0 < length xs → (y : ℕ) → Among y xs → y ≤ get_or xs (length xs - 1) 0
greatest_last xs s h y a =
    let cut : xs ≡ take (length xs - 1) xs ++ get_or xs (length xs - 1) 0 ∷ [] = split_last xs h in
    let b : Among y (take (length xs - 1) xs ++ get_or xs (length xs - 1) 0 ∷ []) = subst (λ (l : List ℕ). Among y l) cut a in
    let t : IsSorted (take (length xs - 1) xs ++ get_or xs (length xs - 1) 0 ∷ []) = subst (λ (l : List ℕ). IsSorted l) cut s in
    elim (among_split y (get_or xs (length xs - 1) 0) (take (length xs - 1) xs) b) [
      | inl c ↦ let d : y < get_or xs (length xs - 1) 0 = sorted_last (take (length xs - 1) xs) (get_or xs (length xs - 1) 0) t y c in omega (arith, d)
      | inr e ↦ omega (arith, e)
    ]

pub top_of : (g : Graph) (s : Progress) (p x : ℕ) → IsSearch g s → 0 < length s.path → p ≡ get_or s.path (length s.path - 1) 0 → x ≡ get_or s.pending p 0 → IsTop g s p x
top_of g s p x r h e f =
    let cut : s.path ≡ take (length s.path - 1) s.path ++ p ∷ [] = rw e (split_last s.path h) in
    let on : Among p s.path = subst (λ (l : List ℕ). Among p l) (sym cut) (among_last p (take (length s.path - 1) s.path)) in
    let within : p < length s.pending = r.path_within p on in
    record {
      on_path = on;
      greatest = λ y a. rw e (greatest_last s.path r.path_sorted h y a);
      state = rw f (r.waits p within);
      within = within;
      node = sym f;
      path = cut;
    }

-- every pending node leads to the last one on the path
pub climbs : (g : Graph) (s : Progress) (p x : ℕ) → IsSearch g s → IsTop g s p x → (q : ℕ) → q < length s.pending → Reaches g (get_or s.pending q 0) x
climbs g s p x r t q h = subst (λ (n : ℕ). Reaches g (get_or s.pending q 0) n) t.node (elim (cases_lt q p) [
  | inl l ↦ r.onward q p (omega arith) t.within
  | inr m ↦ r.back q p m h (λ k a below above. let b : k ≤ p = t.greatest k (r.heads_on_path k a) in omega (arith, b))
])

-- the last of a list that was added to
pushed_last : (xs : List ℕ) (y : ℕ) → get_or (xs ++ y ∷ []) (length xs) 0 ≡ y
pushed_last [] y = refl
pushed_last (x ∷ xs) y = pushed_last xs y

-- how many are new
news_set : (states : List State) (y p : ℕ) → y < length states → state_of states y ≡ New → count_by is_new (set states y (Pending p)) + 1 ≡ count_by is_new states
news_set states y p h e =
    let s = sum_by-set (λ v. cond (is_new v) 1 0) states y (Pending p) New h in
    let t = rw e at s in
    omega (arith, t)

abbrev pub entered : ℕ → Progress → Progress
entered y s = record { states = set s.states y (Pending (length s.pending)); cursors = s.cursors; pending = s.pending ++ y ∷ []; heads = s.heads ++ length s.pending ∷ []; path = s.path ++ length s.pending ∷ []; order = s.order; least = s.least }

pub enter_searching : (g : Graph) (s : Progress) (y : ℕ) → IsSearch g s → state_of s.states y ≡ New → y < length s.states → ((q : ℕ) → q < length s.pending → LeadsTo g (get_or s.pending q 0) y) → IsSearch g (entered y s)
enter_searching g s y r new within reach =
    let n : ℕ = length s.pending in
    let old_at : (p : ℕ) → p < length s.pending → get_or (s.pending ++ y ∷ []) p 0 ≡ get_or s.pending p 0 = λ p h. get_or_append_left s.pending (y ∷ []) 0 p h in
    let last_at : (p : ℕ) → p ≡ length s.pending → get_or (s.pending ++ y ∷ []) p 0 ≡ y = λ p e. ap (λ z. get_or (s.pending ++ y ∷ []) z 0) e ∙ pushed_last s.pending y in
    let longer : length (s.pending ++ y ∷ []) ≡ length s.pending + 1 = simp length-append (omega arith) in
    let keeps : (x : ℕ) (v : State) → state_of s.states x ≡ v → (New ≡ v → ⊥) → state_of (set s.states y (Pending n)) x ≡ v = λ x v h ne. set_kept s.states y x (Pending n) (λ e. ne (sym new ∙ sym (ap (λ z. get_or s.states z New) e) ∙ h)) ∙ h in
    let split : (x : ℕ) (w : State) → state_of (set s.states y (Pending n)) x ≡ w → ((x ≡ y) × (Pending n ≡ w)) ⊎ ((x ≡ y → ⊥) × (state_of s.states x ≡ w)) = λ x w h. set_cases s.states y x (Pending n) w within h in
    record {
      each = rw length-set r.each;
      each_cursor = r.each_cursor;
      placed = λ x p h. elim (split x (Pending p) h) [
        | inl (same, e) ↦ let f : n ≡ p = same_pending n p e in (omega (arith, f, longer), last_at p (sym f) ∙ sym same)
        | inr (ne, was) ↦ let o = r.placed x p was in (omega (arith, o.0, longer), old_at p o.0 ∙ o.1)
      ];
      waits = λ p h. elim (cases_lt p (length s.pending)) [
        | inl l ↦ rw old_at (keeps (get_or s.pending p 0) (Pending p) (r.waits p l) (clash_new_pending p))
        | inr m ↦ let e : p ≡ length s.pending = omega (arith, h, longer) in rw (last_at p e) (get_or-set_same s.states y (Pending n) New within ∙ ap Pending (sym e))
      ];
      path_sorted = sorted_push s.path n r.path_sorted r.path_within;
      path_within = λ p a. elim (among_split p n s.path a) [ inl b ↦ omega (arith, r.path_within p b, longer) | inr e ↦ omega (arith, e, longer) ];
      heads_sorted = sorted_push s.heads n r.heads_sorted (λ h a. r.path_within h (r.heads_on_path h a));
      heads_on_path = λ h a. elim (among_split h n s.heads a) [ inl b ↦ among_left h s.path (n ∷ []) (r.heads_on_path h b) | inr e ↦ subst (λ (z : ℕ). Among z (s.path ++ n ∷ [])) (sym e) (among_last n s.path) ];
      first_head = λ _. elim (cases_lt 0 (length s.pending)) [ inl l ↦ among_left 0 s.heads (n ∷ []) (r.first_head l) | inr m ↦ let e : length s.pending ≡ 0 = omega arith in subst (λ (z : ℕ). Among z (s.heads ++ n ∷ [])) e (among_last n s.heads) ];
      onward = λ p q le lt. elim (cases_lt q (length s.pending)) [
        | inl l ↦ let pl : p < length s.pending = omega arith in rw (old_at p pl, old_at q l) (r.onward p q le l)
        | inr m ↦ let e : q ≡ length s.pending = omega (arith, lt, longer) in rw (last_at q e) (elim (cases_lt p (length s.pending)) [
          | inl pl ↦ rw (old_at p pl) (inr (reach p pl))
          | inr pm ↦ inl (last_at p (omega (arith, e)))
        ])
      ];
      back = λ p q le lt no_head. elim (cases_lt p (length s.pending)) [
        | inl l ↦ let ql : q < length s.pending = omega arith in rw (old_at p l, old_at q ql) (r.back p q le l (λ h a. no_head h (among_left h s.heads (n ∷ []) a)))
        | inr m ↦ elim (cases_lt q (length s.pending)) [
          | inl ql ↦ absurd (no_head n (among_last n s.heads) ql m)
          | inr qm ↦ inl (ap (λ z. get_or (s.pending ++ y ∷ []) z 0) (omega (arith, lt, longer)))
        ]
      ];
      followed = λ x p h row at e below inside. elim (split x (Pending p) h) [
        | inl (same, f) ↦ let z : get_or s.cursors x 0 ≡ 0 = ap (λ k. get_or s.cursors k 0) same ∙ r.fresh y new in absurd (omega (arith, below, z))
        | inr (ne, was) ↦ elim (r.followed x p was row at e below inside) [
          | inl (t, d) ↦ inl (t, keeps (get_or row.items e 0) (Done t) d (clash_new_done t))
          | inr (q, d, no_head, le) ↦ inr (q, keeps (get_or row.items e 0) (Pending q) d (clash_new_pending q), (λ k a l m. elim (among_split k n s.heads a) [ inl b ↦ no_head k b l m | inr f ↦ let o = r.placed x p was in omega (arith, f, o.0) ]), le)
        ]
      ];
      finished = λ p lt. elim (cases_lt p (length s.pending)) [
        | inl l ↦ elim (r.finished p l) [ inl a ↦ inl (among_left p s.path (n ∷ []) a) | inr f ↦ inr (rw (old_at p l) f) ]
        | inr m ↦ inl (let e : p ≡ length s.pending = omega (arith, lt, longer) in subst (λ (z : ℕ). Among z (s.path ++ n ∷ [])) (sym e) (among_last n s.path))
      ];
      counted = omega (arith, r.counted, longer, news_set s.states y n within new);
      fresh = λ x h. elim (split x New h) [ inl (same, e) ↦ absurd (clash_new_pending n (sym e)) | inr (ne, was) ↦ r.fresh x was ];
      ranked = λ x t h. elim (split x (Done t) h) [ inl (same, e) ↦ absurd (clash_pending_done n t e) | inr (ne, was) ↦ r.ranked x t was ];
      falls = λ x t z h edge. elim (split x (Done t) h) [
        | inl (same, e) ↦ absurd (clash_pending_done n t e)
        | inr (ne, was) ↦ let o = r.falls x t z was edge in (o.0, keeps z (Done o.0) o.1 (clash_new_done o.0), o.2, o.3)
      ];
      same = λ x z t h k. elim (split x (Done t) h) [
        | inl (same, e) ↦ absurd (clash_pending_done n t e)
        | inr (ne, was) ↦ elim (split z (Done t) k) [ inl (same, e) ↦ absurd (clash_pending_done n t e) | inr (ne', was') ↦ r.same x z t was was' ]
      ];
      bound = r.bound;
      cycle = r.cycle;
      alone = λ e p lt. elim (cases_lt p (length s.pending)) [
        | inl l ↦ among_left p s.heads (n ∷ []) (r.alone e p l)
        | inr m ↦ let f : p ≡ length s.pending = omega (arith, lt, longer) in subst (λ (z : ℕ). Among z (s.heads ++ n ∷ [])) (sym f) (among_last n s.heads)
      ];
      found = λ e x t h. elim (split x (Done t) h) [ inl (same, f) ↦ absurd (clash_pending_done n t f) | inr (ne, was) ↦ r.found e x t was ];
      numbered = λ e i lt. keeps (get_or s.order i 0) (Done i) (r.numbered e i lt) (clash_new_done i);
    }

pub remade : (s t : Progress) (states : List State) (cursors pending heads path order : List ℕ) (least : ℕ) → s.states ≡ states → s.cursors ≡ cursors → s.pending ≡ pending → s.heads ≡ heads → s.path ≡ path → s.order ≡ order → s.least ≡ least → t ≡ record { states = states; cursors = cursors; pending = pending; heads = heads; path = path; order = order; least = least } → s ≡ t
remade s t states cursors pending heads path order least a b c d e f g h = rw (h, ← a, ← b, ← c, ← d, ← e, ← f, ← g) refl

pub enter_steps : (g : Graph) (s t : Progress) (y : ℕ) → IsSearch g s → state_of s.states y ≡ New → y < length s.states → ((q : ℕ) → q < length s.pending → LeadsTo g (get_or s.pending q 0) y) → Enters y s t → Steps g s t
enter_steps g s t y r new within reach e =
    let same : t ≡ entered y s = remade t (entered y s) _ _ _ _ _ _ _ e.states e.cursors e.pending e.heads e.path e.order e.least refl in
    rw same (record {
      searching = enter_searching g s y r new within reach;
      kept = λ x old h. elim (set_cases s.states y x (Pending (length s.pending)) New within h) [ inl (f, d) ↦ clash_new_pending (length s.pending) (sym d) | inr (ne, was) ↦ old was ];
      smaller = simp length-append (omega (arith, news_set s.states y (length s.pending) within new));
    })

-- one edge less is left
edges_set : (g : Graph) (cursors : List ℕ) (x : ℕ) (row : Vec ℕ Global) → length cursors ≡ length g → slice_get g x ≡ Some row → get_or cursors x 0 < length row.items → edges_left g (set cursors x (get_or cursors x 0 + 1)) + 1 ≡ edges_left g cursors
edges_set [] cursors x row e at h = cc
edges_set (r ∷ g) [] x row e at h = absurd (omega arith)
edges_set (r ∷ g) (c ∷ cursors) zero row e at h = let f : r ≡ row = same_Some r row at in let l : length r.items ≡ length row.items = ap (λ v. length v.items) f in omega (arith, l, h)
edges_set (r ∷ g) (c ∷ cursors) (suc x) row e at h = let i : edges_left g (set cursors x (get_or cursors x 0 + 1)) + 1 ≡ edges_left g cursors = edges_set g cursors x row (omega arith) at h in omega (arith, i)

abbrev pub skipped : ℕ → ℕ → Progress → Progress
skipped x next s = record { states = s.states; cursors = set s.cursors x next; pending = s.pending; heads = s.heads; path = s.path; order = s.order; least = s.least }

pub skip_searching : (g : Graph) (s : Progress) (p x : ℕ) (row : Vec ℕ Global) → IsSearch g s → IsTop g s p x → slice_get g x ≡ Some row → get_or s.cursors x 0 < length row.items → IsFollowed s x p (get_or row.items (get_or s.cursors x 0) 0) → IsSearch g (skipped x (get_or s.cursors x 0 + 1) s)
skip_searching g s p x row r t at inside now =
    let c : ℕ = get_or s.cursors x 0 in
    let x_within : x < length s.cursors = omega (arith, state_within s.states x p t.state, r.each, r.each_cursor) in
    let same_at : (z : ℕ) → z ≡ x → get_or (set s.cursors x (c + 1)) z 0 ≡ c + 1 = λ z e. ap (λ k. get_or (set s.cursors x (c + 1)) k 0) e ∙ get_or-set_same s.cursors x (c + 1) 0 x_within in
    let other_at : (z : ℕ) → (z ≡ x → ⊥) → get_or (set s.cursors x (c + 1)) z 0 ≡ get_or s.cursors z 0 = λ z ne. rw get_or-set_other refl in
    record {
      each = r.each;
      each_cursor = rw length-set r.each_cursor;
      placed = r.placed;
      waits = r.waits;
      path_sorted = r.path_sorted;
      path_within = r.path_within;
      heads_sorted = r.heads_sorted;
      heads_on_path = r.heads_on_path;
      first_head = r.first_head;
      onward = r.onward;
      back = r.back;
      followed = λ z q h row' at' e below in_row. elim (cases_eq z x) [
        | inl same ↦
            let q_is : q ≡ p = same_pending q p (sym h ∙ ap (λ k. get_or s.states k New) same ∙ t.state) in
            let row_is : row' ≡ row = same_Some row' row (sym at' ∙ ap (slice_get g) same ∙ at) in
            elim (cases_lt e c) [
              | inl l ↦ r.followed z q h row' at' e (omega (arith, l, ap (λ k. get_or s.cursors k 0) same)) in_row
              | inr m ↦
                  let e_is : e ≡ c = omega (arith, m, below, same_at z same) in
                  rw (same, q_is, row_is, e_is) now
            ]
        | inr ne ↦ r.followed z q h row' at' e (omega (arith, below, other_at z ne)) in_row
      ];
      finished = λ q lt. elim (cases_eq (get_or s.pending q 0) x) [
        | inl same ↦
            let q_is : q ≡ p = same_pending q p (sym (r.waits q lt) ∙ ap (λ k. get_or s.states k New) same ∙ t.state) in
            inl (subst (λ (k : ℕ). Among k s.path) (sym q_is) t.on_path)
        | inr ne ↦ elim (r.finished q lt) [ inl a ↦ inl a | inr f ↦ inr (λ row' at'. let h : length row'.items ≤ get_or s.cursors (get_or s.pending q 0) 0 = f row' at' in omega (arith, h, other_at (get_or s.pending q 0) ne)) ]
      ];
      counted = r.counted;
      fresh = λ z h. elim (cases_eq z x) [
        | inl same ↦ absurd (clash_new_pending p (sym h ∙ ap (λ k. get_or s.states k New) same ∙ t.state))
        | inr ne ↦ other_at z ne ∙ r.fresh z h
      ];
      ranked = r.ranked;
      falls = r.falls;
      same = r.same;
      bound = r.bound;
      cycle = r.cycle;
      alone = r.alone;
      found = r.found;
      numbered = r.numbered;
    }

pub skip_steps : (g : Graph) (s t : Progress) (p x next : ℕ) (row : Vec ℕ Global) → IsSearch g s → IsTop g s p x → slice_get g x ≡ Some row → get_or s.cursors x 0 < length row.items → IsFollowed s x p (get_or row.items (get_or s.cursors x 0) 0) → next ≡ get_or s.cursors x 0 + 1 → Skips x next s t → Steps g s t
skip_steps g s t p x next row r top at inside now n e =
    let same : t ≡ skipped x (get_or s.cursors x 0 + 1) s = remade t (skipped x (get_or s.cursors x 0 + 1) s) _ _ _ _ _ _ _ e.states (e.cursors ∙ ap (set s.cursors x) n) e.pending e.heads e.path e.order e.least refl in
    rw same (record {
      searching = skip_searching g s p x row r top at inside now;
      kept = λ z old h. old h;
      smaller = omega (arith, edges_set g s.cursors x row (omega (arith, r.each_cursor)) at inside);
    })

-- the groups after a place are joined to the one that it is in
pub join_searching : (g : Graph) (s : Progress) (p x place w : ℕ) → IsSearch g s → IsTop g s p x → HasEdge g x w → state_of s.states w ≡ Pending place → (heads : List ℕ) → Merges place s.heads heads → IsSearch g (record { states = s.states; cursors = s.cursors; pending = s.pending; heads = heads; path = s.path; order = s.order; least = min s.least x })
join_searching g s p x place w r t edge state heads m =
    let there : (place < length s.pending) × (get_or s.pending place 0 ≡ w) = r.placed w place state in
    let to_w : (q : ℕ) → q < length s.pending → LeadsTo g (get_or s.pending q 0) w = λ q l. reaches_then g (get_or s.pending q 0) x w (climbs g s p x r t q l) edge in
    let to_place : (q : ℕ) → q < length s.pending → LeadsTo g (get_or s.pending q 0) (get_or s.pending place 0) = λ q l. subst (λ (n : ℕ). LeadsTo g (get_or s.pending q 0) n) (sym there.1) (to_w q l) in
    let x_within : x < length g = omega (arith, state_within s.states x p t.state, r.each) in
    let around : LeadsTo g x x = then_reaches g x w x (by_edge edge) (subst (λ (n : ℕ). Reaches g n x) there.1 (climbs g s p x r t place there.0)) in
    let lower : min s.least x ≤ s.least = omega arith in
    let to_x : min s.least x ≤ x = omega arith in
    record {
      each = r.each;
      each_cursor = r.each_cursor;
      placed = r.placed;
      waits = r.waits;
      path_sorted = r.path_sorted;
      path_within = r.path_within;
      heads_sorted = m.sorted;
      heads_on_path = λ h a. r.heads_on_path h (m.below h a).0;
      first_head = λ l. m.kept 0 (r.first_head l) (omega arith);
      onward = r.onward;
      back = λ q d le lt no_head. elim (cases_lt place q) [
        | inr before ↦ r.back q d le lt (λ h a l n. no_head h (m.kept h a (omega (arith, n, before))) l n)
        | inl after ↦ elim (cases_lt place d) [
          | inl far ↦ inr (then_reaches g (get_or s.pending q 0) (get_or s.pending place 0) (get_or s.pending d 0) (to_place q lt) (r.onward place d (omega (arith, far)) (omega (arith, le, lt))))
          | inr near ↦ inr (then_reaches g (get_or s.pending q 0) (get_or s.pending place 0) (get_or s.pending d 0) (to_place q lt) (r.back place d near there.0 (λ h a l n. no_head h (m.kept h a n) l (omega (arith, n, after)))))
        ]
      ];
      followed = λ z q h row at e below inside. elim (r.followed z q h row at e below inside) [
        | inl d ↦ inl d
        | inr (d, st, no_head, le) ↦ inr (d, st, (λ k a l n. no_head k (m.below k a).0 l n), omega (arith, le, lower))
      ];
      finished = r.finished;
      counted = r.counted;
      fresh = r.fresh;
      ranked = r.ranked;
      falls = λ z k y h f. let o = r.falls z k y h f in (o.0, o.1, o.2, λ l. o.3 (omega (arith, l, lower)));
      same = r.same;
      bound = omega (arith, r.bound, lower);
      cycle = λ l. elim (cases_lt x s.least) [
        | inl less ↦ let e : min s.least x ≡ x = omega arith in rw e around
        | inr more ↦ let e : min s.least x ≡ s.least = omega arith in rw e (r.cycle (omega (arith, more, x_within)))
      ];
      alone = λ e. absurd (omega (arith, e, to_x, x_within));
      found = λ e. absurd (omega (arith, e, to_x, x_within));
      numbered = λ e. absurd (omega (arith, e, to_x, x_within));
    }

-- the next node that the path goes back to; the last one isn't a head, and its edges were followed
pub retreat_steps : (g : Graph) (s t : Progress) (p x : ℕ) → IsSearch g s → 0 < length s.path → IsTop g s p x → (Among p s.heads → ⊥) → ((row : Vec ℕ Global) → slice_get g x ≡ Some row → length row.items ≤ get_or s.cursors x 0) → Retreats s t → Steps g s t
retreat_steps g s t p x r busy top no_head ended e =
    let front : List ℕ = take (length s.path - 1) s.path in
    let cut : s.path ≡ front ++ p ∷ [] = top.path in
    let split : (q : ℕ) → Among q s.path → Among q front ⊎ (q ≡ p) = λ q a. among_split q p front (subst (λ (l : List ℕ). Among q l) cut a) in
    let same : t ≡ record { states = s.states; cursors = s.cursors; pending = s.pending; heads = s.heads; path = front; order = s.order; least = s.least } = remade t (record { states = s.states; cursors = s.cursors; pending = s.pending; heads = s.heads; path = front; order = s.order; least = s.least }) _ _ _ _ _ _ _ e.states e.cursors e.pending e.heads e.path e.order e.least refl in
    rw same (record {
      searching = record {
        each = r.each;
        each_cursor = r.each_cursor;
        placed = r.placed;
        waits = r.waits;
        path_sorted = sorted_init front p (subst (λ (l : List ℕ). IsSorted l) cut r.path_sorted);
        path_within = λ q a. r.path_within q (subst (λ (l : List ℕ). Among q l) (sym cut) (among_left q front (p ∷ []) a));
        heads_sorted = r.heads_sorted;
        heads_on_path = λ h a. elim (split h (r.heads_on_path h a)) [ inl b ↦ b | inr f ↦ absurd (no_head (subst (λ (k : ℕ). Among k s.heads) f a)) ];
        first_head = r.first_head;
        onward = r.onward;
        back = r.back;
        followed = r.followed;
        finished = λ q l. elim (r.finished q l) [
          | inl a ↦ elim (split q a) [ inl b ↦ inl b | inr f ↦ inr (rw (f, top.node) ended) ]
          | inr f ↦ inr f
        ];
        counted = r.counted;
        fresh = r.fresh;
        ranked = r.ranked;
        falls = r.falls;
        same = r.same;
        bound = r.bound;
        cycle = r.cycle;
        alone = r.alone;
        found = r.found;
        numbered = r.numbered;
      };
      kept = λ z old h. old h;
      smaller = let l : length front ≡ length s.path - 1 = length-take-le (length s.path - 1) s.path (omega arith) in omega (arith, l, busy);
    })

-- the states after a group is closed
state_split : {g : Graph} (s : Progress) (p k : ℕ) (new : List State) → IsSearch g s → Closes k (drop p s.pending) s.states new → (x : ℕ) (v : State) → state_of s.states x ≡ v → ((q : ℕ) × (state_of s.states x ≡ Pending q) × (p ≤ q) × (state_of new x ≡ Done k)) ⊎ ((state_of new x ≡ state_of s.states x) × ((q : ℕ) → state_of s.states x ≡ Pending q → q < p))
state_split s p k new r c x New e = inr (c.kept x (λ a. let d = among_drop x s.pending p a in clash_new_pending d.0 (sym e ∙ sym (ap (λ z. get_or s.states z New) d.3) ∙ r.waits d.0 d.2)), λ q f. absurd (clash_new_pending q (sym e ∙ f)))
state_split s p k new r c x (Done t) e = inr (c.kept x (λ a. let d = among_drop x s.pending p a in clash_pending_done d.0 t (sym (r.waits d.0 d.2) ∙ ap (λ z. get_or s.states z New) d.3 ∙ e)), λ q f. absurd (clash_pending_done q t (sym f ∙ e)))
state_split s p k new r c x (Pending q) e =
    let at : (q < length s.pending) × (get_or s.pending q 0 ≡ x) = r.placed x q e in
    elim (cases_lt q p) [
      | inl l ↦ inr (c.kept x (λ a. let d = among_drop x s.pending p a in let f : d.0 ≡ q = same_pending d.0 q (sym (r.waits d.0 d.2) ∙ ap (λ z. get_or s.states z New) d.3 ∙ e) in absurd (omega (arith, d.1, f, l))), λ q' f. let h : q ≡ q' = same_pending q q' (sym e ∙ f) in omega (arith, h, l))
      | inr m ↦ inl (q, e, m, c.closed x (subst (λ (z : ℕ). Among z (drop p s.pending)) at.1 (drop_among s.pending p q m at.0)))
    ]

closed_cases : (g : Graph) (s : Progress) (p k : ℕ) (new : List State) → IsSearch g s → Closes k (drop p s.pending) s.states new → (x : ℕ) → ((q : ℕ) × (state_of s.states x ≡ Pending q) × (p ≤ q) × (state_of new x ≡ Done k)) ⊎ ((state_of new x ≡ state_of s.states x) × ((q : ℕ) → state_of s.states x ≡ Pending q → q < p))
closed_cases g s p k new r c x = state_split s p k new r c x (get_or s.states x New) refl

news_le : (xs ys : List State) → length xs ≡ length ys → ((x : ℕ) → state_of xs x ≡ New → state_of ys x ≡ New) → count_by is_new xs ≤ count_by is_new ys
news_le [] ys e h = omega arith
news_le (x ∷ xs) [] e h = absurd (omega arith)
news_le (New ∷ xs) (New ∷ ys) e h = omega (arith, news_le xs ys (omega arith) (λ k m. h (suc k) m), sum_by-cons (λ v. cond (is_new v) 1 0) New xs, sum_by-cons (λ v. cond (is_new v) 1 0) New ys)
news_le (New ∷ xs) (Pending q ∷ ys) e h = absurd (clash_new_pending q (sym (h 0 refl)))
news_le (New ∷ xs) (Done q ∷ ys) e h = absurd (clash_new_done q (sym (h 0 refl)))
news_le (Pending q ∷ xs) (y ∷ ys) e h = omega (arith, news_le xs ys (omega arith) (λ k m. h (suc k) m), sum_by-cons (λ v. cond (is_new v) 1 0) (Pending q) xs, sum_by-cons (λ v. cond (is_new v) 1 0) y ys)
news_le (Done q ∷ xs) (y ∷ ys) e h = omega (arith, news_le xs ys (omega arith) (λ k m. h (suc k) m), sum_by-cons (λ v. cond (is_new v) 1 0) (Done q) xs, sum_by-cons (λ v. cond (is_new v) 1 0) y ys)

-- the first of what is left after a place
after_place : (xs ys : List ℕ) (p : ℕ) → p < length ys → get_or (xs ++ drop p ys) (length xs) 0 ≡ get_or ys p 0
after_place [] [] p h = elim h [ ]
after_place [] (y ∷ ys) zero h = refl
after_place [] (y ∷ ys) (suc p) h = after_place [] ys p (omega arith)
after_place (x ∷ xs) ys p h = after_place xs ys p h

pub leave_searching : (g : Graph) (s : Progress) (p x : ℕ) (states : List State) (front heads : List ℕ) → IsSearch g s → IsTop g s p x → s.path ≡ front ++ p ∷ [] → s.heads ≡ heads ++ p ∷ [] → ((row : Vec ℕ Global) → slice_get g x ≡ Some row → length row.items ≤ get_or s.cursors x 0) → Closes (length s.order) (drop p s.pending) s.states states → IsSearch g (record { states = states; cursors = s.cursors; pending = take p s.pending; heads = heads; path = front; order = s.order ++ drop p s.pending; least = s.least })
leave_searching g s p x states front heads r top cut cut_heads ended c =
    let k : ℕ = length s.order in
    let cases : (z : ℕ) → ((q : ℕ) × (state_of s.states z ≡ Pending q) × (p ≤ q) × (state_of states z ≡ Done k)) ⊎ ((state_of states z ≡ state_of s.states z) × ((q : ℕ) → state_of s.states z ≡ Pending q → q < p)) = closed_cases g s p k states r c in
    let split : (q : ℕ) → Among q s.path → Among q front ⊎ (q ≡ p) = λ q a. among_split q p front (subst (λ (l : List ℕ). Among q l) cut a) in
    let split_heads : (q : ℕ) → Among q s.heads → Among q heads ⊎ (q ≡ p) = λ q a. among_split q p heads (subst (λ (l : List ℕ). Among q l) cut_heads a) in
    let was_head : (q : ℕ) → Among q heads → Among q s.heads = λ q a. subst (λ (l : List ℕ). Among q l) (sym cut_heads) (among_left q heads (p ∷ []) a) in
    let is_head : Among p s.heads = subst (λ (l : List ℕ). Among p l) (sym cut_heads) (among_last p heads) in
    let was_path : (q : ℕ) → Among q front → Among q s.path = λ q a. subst (λ (l : List ℕ). Among q l) (sym cut) (among_left q front (p ∷ []) a) in
    let p_len : length (take p s.pending) ≡ p = length-take-le p s.pending (omega (arith, top.within)) in
    let old_at : (q : ℕ) → q < p → get_or (take p s.pending) q 0 ≡ get_or s.pending q 0 = λ q l. get_or-take p s.pending q 0 l in
    let top_head : (q : ℕ) → Among q s.heads → q ≤ p = λ q a. top.greatest q (r.heads_on_path q a) in
    let was_pending : (z q : ℕ) → state_of states z ≡ Pending q → (state_of s.states z ≡ Pending q) × (q < p) = λ z q h. elim (cases z) [ inl (d, st, ge, now) ↦ absurd (clash_pending_done q k (sym h ∙ now)) | inr (same, below) ↦ (sym same ∙ h, below q (sym same ∙ h)) ] in
    let still_done : (z t : ℕ) → state_of s.states z ≡ Done t → state_of states z ≡ Done t = λ z t h. elim (cases z) [ inl (d, st, ge, now) ↦ absurd (clash_pending_done d t (sym st ∙ h)) | inr (same, below) ↦ same ∙ h ] in
    let longer : length (s.order ++ drop p s.pending) ≡ length s.order + (length s.pending - p) = grind (arith, common_steps) in
    -- all nodes from the group's head on lead to one another, since no group begins behind it
    let together : (z y d q : ℕ) → state_of s.states z ≡ Pending d → state_of s.states y ≡ Pending q → p ≤ d → p ≤ q → Reaches g z y = λ z y d q st st' ge ge'.
    let at_z : (d < length s.pending) × (get_or s.pending d 0 ≡ z) = r.placed z d st in
    let at_y : (q < length s.pending) × (get_or s.pending q 0 ≡ y) = r.placed y q st' in
    let way : Reaches g (get_or s.pending d 0) (get_or s.pending q 0) = elim (cases_lt d q) [
      | inl l ↦ r.onward d q (omega (arith, l)) at_y.0
      | inr m ↦ r.back d q m at_z.0 (λ h a above n. omega (arith, top_head h a, above, ge'))
    ] in
    subst (λ (n : ℕ). Reaches g z n) at_y.1 (subst (λ (n : ℕ). Reaches g n (get_or s.pending q 0)) at_z.1 way)
    in
    -- a group that was whole before has another rank
    let apart : (z y t : ℕ) → state_of states z ≡ Done k → state_of states z ≡ Done t → state_of states y ≡ state_of s.states y → state_of states y ≡ Done t → ⊥ = λ z y t now h same i.
    let f : k ≡ t = same_done k t (sym now ∙ h) in
    let o : t < length s.order = r.ranked y t (sym same ∙ i) in
    omega (arith, f, o)
    in
    record {
      each = c.each ∙ r.each;
      each_cursor = r.each_cursor;
      placed = λ z q h. let w = was_pending z q h in (omega (arith, w.1, p_len), old_at q w.1 ∙ (r.placed z q w.0).1);
      waits = λ q l. let lp : q < p = omega (arith, l, p_len) in rw (old_at q lp) (elim (cases (get_or s.pending q 0)) [
        | inl (d, st, ge, now) ↦ let f : q ≡ d = same_pending q d (sym (r.waits q (omega (arith, lp, top.within))) ∙ st) in absurd (omega (arith, f, ge, lp))
        | inr (same, below) ↦ same ∙ r.waits q (omega (arith, lp, top.within))
      ]);
      path_sorted = sorted_init front p (subst (λ (l : List ℕ). IsSorted l) cut r.path_sorted);
      path_within = λ q a. let l : q < p = sorted_last front p (subst (λ (l : List ℕ). IsSorted l) cut r.path_sorted) q a in omega (arith, l, p_len);
      heads_sorted = sorted_init heads p (subst (λ (l : List ℕ). IsSorted l) cut_heads r.heads_sorted);
      heads_on_path = λ h a. elim (split h (r.heads_on_path h (was_head h a))) [ inl b ↦ b | inr f ↦ let l : h < p = sorted_last heads p (subst (λ (l : List ℕ). IsSorted l) cut_heads r.heads_sorted) h a in absurd (omega (arith, f, l)) ];
      first_head = λ l. elim (split_heads 0 (r.first_head (omega (arith, l, p_len, top.within)))) [ inl b ↦ b | inr f ↦ absurd (omega (arith, f, l, p_len)) ];
      onward = λ q d le l. let dp : d < p = omega (arith, l, p_len) in let qp : q < p = omega (arith, le, dp) in rw (old_at q qp, old_at d dp) (r.onward q d le (omega (arith, dp, top.within)));
      back = λ q d le l no_head. let qp : q < p = omega (arith, l, p_len) in let dp : d < p = omega (arith, le, qp) in rw (old_at q qp, old_at d dp) (r.back q d le (omega (arith, qp, top.within)) (λ h a m n. elim (split_heads h a) [ inl b ↦ no_head h b m n | inr f ↦ omega (arith, f, n, qp) ]));
      followed = λ z q h row at e below inside. let w = was_pending z q h in elim (r.followed z q w.0 row at e below inside) [
        | inl (t, d) ↦ inl (t, still_done (get_or row.items e 0) t d)
        | inr (d, st, no_head, le) ↦ elim (cases (get_or row.items e 0)) [
          | inl (d', st', ge, now) ↦ inl (k, now)
          | inr (same, below') ↦ inr (d, same ∙ st, (λ h a m n. no_head h (was_head h a) m n), le)
        ]
      ];
      finished = λ q l. let lp : q < p = omega (arith, l, p_len) in elim (r.finished q (omega (arith, lp, top.within))) [
        | inl a ↦ elim (split q a) [ inl b ↦ inl b | inr f ↦ absurd (omega (arith, f, lp)) ]
        | inr f ↦ inr (rw (old_at q lp) f)
      ];
      counted =
          let less : count_by is_new states ≤ count_by is_new s.states = news_le states s.states c.each (λ z h. elim (cases z) [ inl (d, st, ge, now) ↦ absurd (clash_new_done k (sym h ∙ now)) | inr (same, below) ↦ sym same ∙ h ]) in
          let more : count_by is_new s.states ≤ count_by is_new states = news_le s.states states (sym c.each) (λ z h. elim (cases z) [ inl (d, st, ge, now) ↦ absurd (clash_new_pending d (sym h ∙ st)) | inr (same, below) ↦ same ∙ h ]) in
          omega (arith, r.counted, less, more, longer, p_len, top.within);
      fresh = λ z h. elim (cases z) [ inl (d, st, ge, now) ↦ absurd (clash_new_done k (sym h ∙ now)) | inr (same, below) ↦ r.fresh z (sym same ∙ h) ];
      ranked = λ z t h. elim (cases z) [
        | inl (d, st, ge, now) ↦ let f : k ≡ t = same_done k t (sym now ∙ h) in omega (arith, f, longer, top.within)
        | inr (same, below) ↦ let o : t < length s.order = r.ranked z t (sym same ∙ h) in omega (arith, o, longer)
      ];
      falls = λ z t y h edge. elim (cases z) [
        | inr (same, below) ↦ let o = r.falls z t y (sym same ∙ h) edge in (o.0, still_done y o.0 o.1, o.2, o.3)
        | inl (d, st, ge, now) ↦
            let f : k ≡ t = same_done k t (sym now ∙ h) in
            let at_z : (d < length s.pending) × (get_or s.pending d 0 ≡ z) = r.placed z d st in
            let all : length edge.0.items ≤ get_or s.cursors z 0 = elim (r.finished d at_z.0) [
              | inl a ↦ let e : d ≡ p = omega (arith, ge, top.greatest d a) in let zx : z ≡ x = sym at_z.1 ∙ ap (λ n. get_or s.pending n 0) e ∙ top.node in rw zx (ended edge.0 (sym (ap (slice_get g) zx) ∙ edge.1))
              | inr done ↦ let q : slice_get g (get_or s.pending d 0) ≡ Some edge.0 = ap (slice_get g) at_z.1 ∙ edge.1 in subst (λ (n : ℕ). length edge.0.items ≤ get_or s.cursors n 0) at_z.1 (done edge.0 q)
            ] in
            let inside : edge.2.0 < length edge.0.items = edge.2.1 in
            let y_is : get_or edge.0.items edge.2.0 0 ≡ y = sym (get_or_default_zero edge.0.items edge.2.0 y inside) ∙ edge.2.2 in
            elim (r.followed z d st edge.0 edge.1 edge.2.0 (omega (arith, inside, all)) inside) [
              | inl (u, done) ↦ let done_y : state_of s.states y ≡ Done u = sym (ap (λ n. get_or s.states n New) y_is) ∙ done in let l : u < k = r.ranked y u done_y in (u, still_done y u done_y, omega (arith, l, f), λ _. omega (arith, l, f))
              | inr (q, pend, no_head, le) ↦
                  let pend_y : state_of s.states y ≡ Pending q = sym (ap (λ n. get_or s.states n New) y_is) ∙ pend in
                  elim (cases y) [
                    | inl (q', st', ge', now') ↦ (k, now', omega (arith, f), λ l. absurd (omega (arith, l, le)))
                    | inr (same, below) ↦ absurd (no_head p is_head (below q pend_y) ge)
                  ]
            ]
      ];
      same = λ z y t h i. elim (cases z) [
        | inl (d, st, ge, now) ↦ elim (cases y) [
          | inl (q, st', ge', now') ↦ together z y d q st st' ge ge'
          | inr (same, below) ↦ absurd (apart z y t now h same i)
        ]
        | inr (same, below) ↦ elim (cases y) [
          | inl (q, st', ge', now') ↦ absurd (apart y z t now' i same h)
          | inr (same', below') ↦ r.same z y t (sym same ∙ h) (sym same' ∙ i)
        ]
      ];
      bound = r.bound;
      cycle = r.cycle;
      alone = λ e q l. elim (split_heads q (r.alone e q (omega (arith, l, p_len, top.within)))) [ inl b ↦ b | inr f ↦ absurd (omega (arith, f, l, p_len)) ];
      found = λ e z t h. elim (cases z) [
        | inl (d, st, ge, now) ↦
            let f : k ≡ t = same_done k t (sym now ∙ h) in
            let at_z : (d < length s.pending) × (get_or s.pending d 0 ≡ z) = r.placed z d st in
            let d_is : p ≡ d = omega (arith, ge, top_head d (r.alone e d at_z.0)) in
            rw (← f) (after_place s.order s.pending p top.within ∙ ap (λ n. get_or s.pending n 0) d_is ∙ at_z.1)
        | inr (same, below) ↦ let o : t < length s.order = r.ranked z t (sym same ∙ h) in get_or_append_left s.order (drop p s.pending) 0 t o ∙ r.found e z t (sym same ∙ h)
      ];
      numbered = λ e i l. elim (cases_lt i (length s.order)) [
        | inl old ↦ rw (get_or_append_left s.order (drop p s.pending) 0 i old) (still_done (get_or s.order i 0) i (r.numbered e i old))
        | inr m ↦
            let one : length s.pending ≤ p + 1 = elim (cases_lt (p + 1) (length s.pending)) [ inl more ↦ let b : p + 1 ≤ p = top_head (p + 1) (r.alone e (p + 1) more) in absurd (omega (arith, b)) | inr less ↦ less ] in
            let i_is : i ≡ length s.order = omega (arith, m, l, longer, one) in
            rw i_is (rw (after_place s.order s.pending p top.within) (c.closed (get_or s.pending p 0) (drop_among s.pending p p (omega arith) top.within)))
      ];
    }

pub leave_steps : (g : Graph) (s t : Progress) (p x : ℕ) → IsSearch g s → 0 < length s.path → IsTop g s p x → 0 < length s.heads → p ≡ get_or s.heads (length s.heads - 1) 0 → ((row : Vec ℕ Global) → slice_get g x ≡ Some row → length row.items ≤ get_or s.cursors x 0) → Leaves p s t → Steps g s t
leave_steps g s t p x r busy top headed last ended e =
    let front : List ℕ = take (length s.path - 1) s.path in
    let heads : List ℕ = take (length s.heads - 1) s.heads in
    let cut_heads : s.heads ≡ heads ++ p ∷ [] = rw last (split_last s.heads headed) in
    let same : t ≡ record { states = t.states; cursors = s.cursors; pending = take p s.pending; heads = heads; path = front; order = s.order ++ drop p s.pending; least = s.least } = remade t (record { states = t.states; cursors = s.cursors; pending = take p s.pending; heads = heads; path = front; order = s.order ++ drop p s.pending; least = s.least }) _ _ _ _ _ _ _ refl e.cursors e.pending e.heads e.path e.order e.least refl in
    let new_was : (z : ℕ) → state_of t.states z ≡ New → state_of s.states z ≡ New = λ z h. elim (closed_cases g s p (length s.order) t.states r e.states z) [ inl (d, st, ge, now) ↦ absurd (clash_new_done (length s.order) (sym h ∙ now)) | inr (kept, below) ↦ sym kept ∙ h ] in
    record {
      searching = subst (λ (u : Progress). IsSearch g u) (sym same) (leave_searching g s p x t.states front heads r top top.path cut_heads ended e.states);
      kept = λ z old h. old (new_was z h);
      smaller =
          let l : length front ≡ length s.path - 1 = length-take-le (length s.path - 1) s.path (omega arith) in
          let n : count_by is_new t.states ≤ count_by is_new s.states = news_le t.states s.states e.states.each new_was in
          let c : edges_left g t.cursors ≡ edges_left g s.cursors = ap (edges_left g) e.cursors in
          omega (arith, l, busy, n, c, ap length e.path);
    }

some_among : (x : ℕ) (xs : List ℕ) → Among x xs → 0 < length xs
some_among x [] a = absurd a
some_among x (y ∷ xs) a = omega arith

pub has_head : (g : Graph) (s : Progress) → IsSearch g s → 0 < length s.path → 0 < length s.heads
has_head g s r h = some_among 0 s.heads (r.first_head (let p : get_or s.path 0 0 < length s.pending = r.path_within (get_or s.path 0 0) (among_at s.path 0 h) in omega (arith, p)))

pub not_head : (g : Graph) (s : Progress) (p x h : ℕ) → IsSearch g s → IsTop g s p x → 0 < length s.heads → h ≡ get_or s.heads (length s.heads - 1) 0 → (h ≡ p → ⊥) → Among p s.heads → ⊥
not_head g s p x h r top headed e ne a =
    let below : get_or s.heads (length s.heads - 1) 0 ≤ p = top.greatest (get_or s.heads (length s.heads - 1) 0) (r.heads_on_path (get_or s.heads (length s.heads - 1) 0) (among_at s.heads (length s.heads - 1) (omega arith))) in
    let above : p ≤ get_or s.heads (length s.heads - 1) 0 = greatest_last s.heads r.heads_sorted headed p a in
    ne (omega (arith, below, above, e))

pub all_within : (g : Graph) (s : Progress) → IsSearch g s → All (λ n. n < length s.states) s.pending
all_within g s r k d h = rw get_or_default_zero (state_within s.states (get_or s.pending k 0) k (r.waits k h))

pub ended_row : (g : Graph) (x : ℕ) (row : Vec ℕ Global) (c n : ℕ) → x < length g → row ≡ get_or g x row → n ≤ c → n ≡ length row.items → (row' : Vec ℕ Global) → slice_get g x ≡ Some row' → length row'.items ≤ c
ended_row g x row c n h e le f row' at = let same : row ≡ row' = e ∙ get_or_from_slice_get g x row' row at in rw (← same, ← f) le

pub done_within : (states : List State) (x t : ℕ) → state_of states x ≡ Done t → x < length states
done_within states x t h = elim (cases_lt x (length states)) [
  | inl l ↦ l
  | inr m ↦ let e : get_or states x New ≡ New = get_or_past states x New m in absurd (clash_new_done t (sym e ∙ h))
]
