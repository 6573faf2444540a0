-- Items of the final tree from the last to the first, and the tree itself.
use Rattle.std.proofs.Common.{◌≡◌, ℕ, ◌+◌, ◌<◌, ◌==◌, ◌&&◌, ◌||◌, ◌⊎◌, inl, inr, Bool, true, false, if◌then◌else◌, List, [], ◌∷◌, ◌++◌, length, drop, refl, sym, ◌∙◌, ap, subst, arith, Option, Some, None, append_assoc}
use Rattle.std.specs.List.{slice_get}
use Rattle.std.proofs.lemmas.Bool.{eq-eqb, eqb-false, ne_eqb}
use Rattle.std.proofs.lemmas.List.{append-nil, drop_more}
use Rattle.yv_text_statement.specs.Order.{IsLeast, IsLesser}
use Rattle.yv_text_statement.specs.declared.refusal.Refusal.{Refusal}
use Rattle.yv_text_statement.proofs.Least.{least_lesser, least_same}
use Rattle.yv_link_scopes.specs.Rows.{Row}
use Rattle.yv_expand_rounds.specs.Tree.{Tree, none, item, tree_list}
use Rattle.yv_expand_rounds.specs.declared.row.ItemRow.{ItemRow}
use Rattle.yv_expand_augments.specs.MandatoryNodes.{Around, ImposesMandatory, IsMandatoryAdded, MarksView, has_mandatory, inside, is_configuration, is_mandatory, nothing_around}
use Rattle.yv_expand_augments.specs.InnerMandatoryNodes.{ImposesMandatoryIn, counts, found_in, meet}
use Rattle.yv_base_graph.specs.Marks.{is_marked}
use Rattle.yv_expand_uses.specs.declared.spot.Spot.{Spot}
use Rattle.yv_expand_augments.proofs.ItemConfiguration.{marks_of}
use Rattle.yv_expand_uses.proofs.StatementLists.{rest_of}

-- what is met depends on what was found alone
pub met_same : (depth : ℕ) (b : Bool) (old found : ℕ → Bool) (d : ℕ) → ((e : ℕ) → old e ≡ found e) → meet depth b old d ≡ meet depth b found d
met_same depth b old found d h =
    ap (λ (a : Bool). if d == depth then b || a else (if d == depth + 1 then false else old d)) (h depth)
    ∙ ap (λ (a : Bool). if d == depth then b || found depth else (if d == depth + 1 then false else a)) (h d)

met_here : (depth : ℕ) (b : Bool) (found : ℕ → Bool) → meet depth b found depth ≡ (b || found depth)
met_here depth b found = ap (λ (t : Bool). if t then b || found depth else (if depth == depth + 1 then false else found depth)) (eq-eqb depth depth refl)

-- deeper there is nothing more, if there was nothing past the next depth
met_deeper : (depth : ℕ) (b : Bool) (found : ℕ → Bool) (d : ℕ) → depth < d → (depth + 1 < d → found d ≡ false) → meet depth b found d ≡ false
met_deeper depth b found d lt h =
    ap (λ (t : Bool). if t then b || found depth else (if d == depth + 1 then false else found d)) (ne_eqb d depth (λ e. omega (arith, e, lt))) ∙ by (d == depth + 1) refl
  where
    by : (t : Bool) → d == depth + 1 ≡ t → (if t then false else found d) ≡ false
    by true is = refl
    by false is = (let apart = eqb-false d (depth + 1) is in h (omega (arith, lt, apart)))

met_higher : (depth : ℕ) (b : Bool) (found : ℕ → Bool) (d : ℕ) → d < depth → meet depth b found d ≡ found d
met_higher depth b found d lt =
    ap (λ (t : Bool). if t then b || found depth else (if d == depth + 1 then false else found d)) (ne_eqb d depth (λ e. omega (arith, e, lt)))
    ∙ ap (λ (t : Bool). if t then false else found d) (ne_eqb d (depth + 1) (λ e. omega (arith, e, lt)))

or_false : (b : Bool) → (b || false) ≡ b
or_false true = refl
or_false false = refl

or_assoc : (a b c : Bool) → (a || (b || c)) ≡ ((a || b) || c)
or_assoc true b c = refl
or_assoc false b c = refl

module _ (spots : List Spot) (augments : List ℕ) (told : MarksView) where
  abbrev pub found : List ItemRow → ℕ → Bool
  found xs d = found_in spots augments told xs d

  abbrev pub has : Tree → Bool
  has t = has_mandatory spots augments told t

  -- nothing is found past this depth
  abbrev pub NoneDeeper : ℕ → List ItemRow → Type 0
  NoneDeeper depth xs = (d : ℕ) → depth < d → found xs d ≡ false

  -- what a tree before other items adds to what is found
  pub record FoundBefore (depth : ℕ) (t : Tree) (rest all : List ItemRow) : Type 0 where
    pub here : found all depth ≡ (has t || found rest depth)
    pub deeper : NoneDeeper depth all
    pub higher : (d : ℕ) → d < depth → found all d ≡ found rest d

  found_below : (i : ℕ) (below : Tree) (depth : ℕ) (inner rest : List ItemRow) → NoneDeeper depth rest → FoundBefore (depth + 1) below rest inner
      → found inner (depth + 1) ≡ has below
  found_below i below depth inner rest deeper b = b.here ∙ ap (λ (c : Bool). has below || c) (deeper (depth + 1) (omega arith)) ∙ or_false (has below)

  found_item : (i : ℕ) (below behind : Tree) (x : ItemRow) (inner outer rest : List ItemRow) → x.number ≡ i → FoundBefore x.depth behind rest outer
      → FoundBefore (x.depth + 1) below outer inner → FoundBefore x.depth (item i below behind) rest (x ∷ inner)
  found_item i below behind x inner outer rest is o b =
      let n : ℕ = x.depth in
      let c : Bool → Bool = λ h. counts spots augments told x.number h in
      let under : found inner (n + 1) ≡ has below = found_below i below n inner outer o.deeper b in
      let same : found inner n ≡ found outer n = b.higher n (omega arith) in
      record {
        here = met_here n (c (found inner (n + 1))) (found inner)
            ∙ ap (λ (h : Bool). c h || found inner n) under
            ∙ ap (λ (k : ℕ). counts spots augments told k (has below) || found inner n) is
            ∙ ap (λ (a : Bool). counts spots augments told i (has below) || a) (same ∙ o.here)
            ∙ or_assoc (counts spots augments told i (has below)) (has behind) (found rest n);
        deeper = λ d lt. met_deeper n (c (found inner (n + 1))) (found inner) d lt (λ past. b.deeper d past);
        higher = λ d lt. met_higher n (c (found inner (n + 1))) (found inner) d lt ∙ b.higher d (omega (arith, lt)) ∙ o.higher d lt;
      }

  found_tree : (t : Tree) (depth : ℕ) (parent : Option ℕ) (rest : List ItemRow) → NoneDeeper depth rest → FoundBefore depth t rest (tree_list parent depth t ++ rest)
  found_tree none depth parent rest h = record { here = refl; deeper = h; higher = λ d lt. refl }
  found_tree (item i below behind) depth parent rest h =
      let x : ItemRow = record { number = i; parent = parent; depth = depth } in
      let after : List ItemRow = tree_list parent depth behind in
      let inside : List ItemRow = tree_list (Some i) (depth + 1) below in
      let o = found_tree behind depth parent rest h in
      let b = found_tree below (depth + 1) (Some i) (after ++ rest) (λ d lt. o.deeper d (omega (arith, lt))) in
      subst (λ (l : List ItemRow). FoundBefore depth (item i below behind) rest (x ∷ l)) (sym (append_assoc inside after rest))
      (found_item i below behind x (inside ++ (after ++ rest)) (after ++ rest) rest refl o b)

  module _ (rows : List Row) where
    abbrev pub In : List Bool → List ItemRow → Refusal → Type 0
    In marks xs f = ImposesMandatoryIn rows spots augments told marks xs f

    abbrev pub Of : Option ℕ → Around → Tree → Refusal → Type 0
    Of parent a t f = ImposesMandatory rows spots augments told parent a t f

    abbrev pub At : Option ℕ → ℕ → Bool → Bool → Refusal → Type 0
    At parent i h c f = IsMandatoryAdded rows spots augments parent i (is_mandatory spots told i h && c) f

    to_tree : (t : Tree) (depth : ℕ) (parent : Option ℕ) (a : Around) (rest : List ItemRow) (marks : List Bool) (f : Refusal) → NoneDeeper depth rest
        → In (marks_of spots told a t ++ marks) (tree_list parent depth t ++ rest) f → Of parent a t f ⊎ In marks rest f
    to_tree none depth parent a rest marks f deeper h = inr h
    to_tree (item i below behind) depth parent a rest marks f deeper h =
        let x : ItemRow = record { number = i; parent = parent; depth = depth } in
        let after : List ItemRow = tree_list parent depth behind in
        let inner : List ItemRow = tree_list (Some i) (depth + 1) below in
        let here : Around = inside spots told i a in
        let c : Bool = is_configuration here in
        let mine : List Bool = marks_of spots told here below in
        let later : List Bool = marks_of spots told a behind in
        let o = found_tree behind depth parent rest deeper in
        let past : NoneDeeper (depth + 1) (after ++ rest) = λ d lt. o.deeper d (omega (arith, lt)) in
        let b = found_tree below (depth + 1) (Some i) (after ++ rest) past in
        let under : found (inner ++ (after ++ rest)) (depth + 1) ≡ has below = found_below i below depth (inner ++ (after ++ rest)) (after ++ rest) o.deeper b in
        let given : In (c ∷ (mine ++ (later ++ marks))) (x ∷ (inner ++ (after ++ rest))) f =
        subst (λ (m : List Bool). In (c ∷ m) (x ∷ (inner ++ (after ++ rest))) f) (append_assoc mine later marks)
        (subst (λ (l : List ItemRow). In (c ∷ ((mine ++ later) ++ marks)) (x ∷ l) f) (append_assoc inner after rest) h) in
        elim given [
          | inr at ↦ inl (inl (subst (λ (m : Bool). At parent i m c f) under at))
          | inl next ↦ elim (to_tree below (depth + 1) (Some i) here (after ++ rest) (later ++ marks) f past next) [
            | inl within ↦ inl (inr (inl within))
            | inr more ↦ elim (to_tree behind depth parent a rest marks f deeper more) [ inl outer ↦ inl (inr (inr outer)) | inr other ↦ inr other ]
          ]
        ]

    of_tree : (t : Tree) (depth : ℕ) (parent : Option ℕ) (a : Around) (rest : List ItemRow) (marks : List Bool) (f : Refusal) → NoneDeeper depth rest
        → Of parent a t f ⊎ In marks rest f → In (marks_of spots told a t ++ marks) (tree_list parent depth t ++ rest) f
    of_tree none depth parent a rest marks f deeper (inl h) = absurd h
    of_tree none depth parent a rest marks f deeper (inr h) = h
    of_tree (item i below behind) depth parent a rest marks f deeper h =
        let x : ItemRow = record { number = i; parent = parent; depth = depth } in
        let after : List ItemRow = tree_list parent depth behind in
        let under_it : List ItemRow = tree_list (Some i) (depth + 1) below in
        let here : Around = inside spots told i a in
        let c : Bool = is_configuration here in
        let mine : List Bool = marks_of spots told here below in
        let later : List Bool = marks_of spots told a behind in
        let o = found_tree behind depth parent rest deeper in
        let past : NoneDeeper (depth + 1) (after ++ rest) = λ d lt. o.deeper d (omega (arith, lt)) in
        let b = found_tree below (depth + 1) (Some i) (after ++ rest) past in
        let under : found (under_it ++ (after ++ rest)) (depth + 1) ≡ has below = found_below i below depth (under_it ++ (after ++ rest)) (after ++ rest) o.deeper b in
        let inner : Of (Some i) here below f ⊎ In (later ++ marks) (after ++ rest) f → In (mine ++ (later ++ marks)) (under_it ++ (after ++ rest)) f =
        of_tree below (depth + 1) (Some i) here (after ++ rest) (later ++ marks) f past in
        let outer : Of parent a behind f ⊎ In marks rest f → In (later ++ marks) (after ++ rest) f = of_tree behind depth parent a rest marks f deeper in
        let given : In (c ∷ (mine ++ (later ++ marks))) (x ∷ (under_it ++ (after ++ rest))) f = elim h [
          | inl at ↦ elim at [
            | inl this ↦ inr (subst (λ (m : Bool). At parent i m c f) (sym under) this)
            | inr further ↦ elim further [ inl p ↦ inl (inner (inl p)) | inr q ↦ inl (inner (inr (outer (inl q)))) ]
          ]
          | inr other ↦ inl (inner (inr (outer (inr other))))
        ] in
        subst (λ (l : List ItemRow). In (c ∷ ((mine ++ later) ++ marks)) (x ∷ l) f) (sym (append_assoc under_it after rest))
        (subst (λ (m : List Bool). In (c ∷ m) (x ∷ (under_it ++ (after ++ rest))) f) (sym (append_assoc mine later marks)) given)

    -- the least of the list is that of the tree
    pub imposed_all : (t : Tree) (tree : List ItemRow) (marks : List Bool) (least : Option Refusal) → tree ≡ tree_list None 1 t
        → marks ≡ marks_of spots told nothing_around t → IsLeast (In marks tree) least → IsLeast (Of None nothing_around t) least
    imposed_all t tree marks least is told_are h =
        let all : tree ≡ tree_list None 1 t ++ [] = is ∙ sym (append-nil (tree_list None 1 t)) in
        let each : marks ≡ marks_of spots told nothing_around t ++ [] = told_are ∙ sym (append-nil (marks_of spots told nothing_around t)) in
        let there : (f : Refusal) → In marks tree f → In (marks_of spots told nothing_around t ++ []) (tree_list None 1 t ++ []) f =
        λ f p. subst (λ (m : List Bool). In m (tree_list None 1 t ++ []) f) each (subst (λ (l : List ItemRow). In marks l f) all p) in
        let back : (f : Refusal) → In (marks_of spots told nothing_around t ++ []) (tree_list None 1 t ++ []) f → In marks tree f =
        λ f p. subst (λ (l : List ItemRow). In marks l f) (sym all) (subst (λ (m : List Bool). In m (tree_list None 1 t ++ []) f) (sym each) p) in
        least_same (In marks tree) (Of None nothing_around t) least
        (λ f p. elim (to_tree t 1 None nothing_around [] [] f (λ d lt. refl) (there f p)) [ inl q ↦ q | inr q ↦ absurd q ])
        (λ f p. back f (of_tree t 1 None nothing_around [] [] f (λ d lt. refl) (inl p)))
        h

    -- one more item of the list
    pub imposed_more : (tree : List ItemRow) (marks : List Bool) (n left : ℕ) (x : ItemRow) (best one next : Option Refusal) (old : ℕ → Bool) (h c required : Bool)
        → left ≡ n + 1 → slice_get tree n ≡ Some x → ((d : ℕ) → old d ≡ found (drop left tree) d) → h ≡ old (x.depth + 1) → n < length marks → c ≡ is_marked marks n
        → required ≡ (is_mandatory spots told x.number h && c) → IsLeast (IsMandatoryAdded rows spots augments x.parent x.number required) one → IsLesser best one next
        → IsLeast (In (drop left marks) (drop left tree)) best → IsLeast (In (drop n marks) (drop n tree)) next
    imposed_more tree marks n left x best one next old h c required later at was is within mark asked this lesser before =
        let xs : List ItemRow = drop left tree in
        let ms : List Bool = drop left marks in
        let m : Bool = is_marked marks n in
        let now : h ≡ found xs (x.depth + 1) = is ∙ was (x.depth + 1) in
        let here : IsLeast (At x.parent x.number (found xs (x.depth + 1)) m) one =
        subst (λ (b : Bool). IsLeast (IsMandatoryAdded rows spots augments x.parent x.number b) one)
        (asked ∙ ap (λ (b : Bool). is_mandatory spots told x.number h && b) mark ∙ ap (λ (b : Bool). is_mandatory spots told x.number b && m) now) this in
        let all : drop n tree ≡ x ∷ xs = rest_of tree n x at ∙ ap (λ (k : ℕ). x ∷ drop k tree) (sym later) in
        let each : drop n marks ≡ m ∷ ms = drop_more marks n false within ∙ ap (λ (k : ℕ). m ∷ drop k marks) (sym later) in
        subst (λ (l : List Bool). IsLeast (In l (drop n tree)) next) (sym each)
        (subst (λ (l : List ItemRow). IsLeast (In (m ∷ ms) l) next) (sym all)
        (least_lesser (In ms xs) (At x.parent x.number (found xs (x.depth + 1)) m) best one next lesser before here))

  pub found_more : (tree : List ItemRow) (n left : ℕ) (x : ItemRow) (old new : ℕ → Bool) (h counted : Bool) → left ≡ n + 1
      → slice_get tree n ≡ Some x → ((d : ℕ) → old d ≡ found (drop left tree) d) → h ≡ old (x.depth + 1) → counted ≡ counts spots augments told x.number h
      → ((d : ℕ) → new d ≡ meet x.depth counted old d) → (d : ℕ) → new d ≡ found (drop n tree) d
  found_more tree n left x old new h counted later at was is asked now d =
      let xs : List ItemRow = drop left tree in
      let all : drop n tree ≡ x ∷ xs = rest_of tree n x at ∙ ap (λ (m : ℕ). x ∷ drop m tree) (sym later) in
      now d ∙ met_same x.depth counted old (found xs) d was
      ∙ ap (λ (b : Bool). meet x.depth b (found xs) d) (asked ∙ ap (counts spots augments told x.number) (is ∙ was (x.depth + 1)))
      ∙ ap (λ (l : List ItemRow). found l d) (sym all)
