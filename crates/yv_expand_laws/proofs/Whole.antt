-- When the rounds of the augments of modules are over, the items of files show what the files
-- expand to.
use Rattle.std.proofs.Common.{◌⊎◌, inl, inr, ◌≡◌, ◌≢◌, ℕ, zero, suc, ◌+◌, ◌<◌, ◌≤◌, ◌==◌, if◌then◌else◌, Bool, true, false, List, [], ◌∷◌, ◌++◌, length, map, get_or, refl, sym, ◌∙◌, ap, subst, arith, Option, Some, None, codes}
use Rattle.std.specs.List.{Contains, slice_get}
use Rattle.std.specs.Option.{option_map}
use Rattle.std.proofs.lemmas.Bool.{cases_lt, false≢true}
use Rattle.std.proofs.lemmas.List.{length-map}
use Rattle.std.proofs.lemmas.List.Elements.{Contains-append_cases, Contains-append_left, Contains-append_right, Contains-push, Contains-push_cases}
use Rattle.std.proofs.lemmas.List.Splits.{length-slice_split}
use Rattle.std.proofs.lemmas.Option.{same_Some, slice_get-map, slice_get_within}
use Rattle.yv_text_statement.specs.declared.refusal.Code.TheVariants as code
use Rattle.yv_link_scopes.specs.Files.{Briefs, Files, brief_of, has_word, module_file_at}
use Rattle.yv_link_scopes.specs.RowList.{rows_of}
use Rattle.yv_link_scopes.specs.Rows.{Row, name_in}
use Rattle.yv_expand_statements.specs.Paths.{behind_root, steps_of}
use Rattle.yv_expand_paths.specs.InnerSteps.{has_path, path_at, step_of}
use Rattle.yv_expand_statements.specs.StatementBlocks.{block_of, augments_of}
use Rattle.yv_expand.specs.Tree.{Item, all_of, count}
use Rattle.yv_expand.specs.Expansion.{IsWhole}
use Rattle.yv_expand_rounds.specs.declared.label.Label.{Label}
use Rattle.yv_expand_rounds.specs.Groups.{group_of_augment, members_of}
use Rattle.yv_expand_rounds.specs.Placements.{nothing}
use Rattle.yv_expand_rounds.specs.Rounds.{AreApplied}
use Rattle.yv_expand_rounds.specs.Turns.{State, is_applied}
use Rattle.yv_expand_rounds.specs.Turns as turns
use Rattle.yv_expand_augments.specs.Augmentation.{AreAugmented}
use Rattle.yv_expand_uses.specs.Paths.{module_paths, path_in, step_name}
use Rattle.yv_expand_uses.specs.Spots.{Whole, own_module_file}
use Rattle.yv_expand_definition.specs.Expansion.{Expand, Tops}
use Rattle.yv_expand_definition.specs.Gives.{Gives, Product, Wrong, judge, takes_block}
use Rattle.yv_expand_definition.specs.Nodes.{Forest, Node, nodes_given, insert}
use Rattle.yv_expand_definition.specs.Paths.{Leads, Step, at as end_at, path_of}
use Rattle.yv_expand_definition.specs.Rounds.{IsModuleFile, Round, Rounds}
use Rattle.yv_expand_definition.specs.Rounds.Round.{none_left as round_over, adds as round_adds, without_target as round_misses, waits as round_waits}
use Rattle.yv_expand_definition.specs.Rounds.Rounds.{last as last_round, one_more as one_more_round}
use Rattle.yv_expand_definition.proofs.GivenNodeUniqueness.{RefersToOne, gives_one}
use Rattle.yv_expand_laws.specs.Blocks.{run_all}
use Rattle.yv_expand_laws.specs.Files.{AreGiven, FilesShow, ShowFiles, begins_at, expansion_of, giver_of, labels_in}
use Rattle.yv_expand_laws.specs.Frames.{Frame, MayEnter}
use Rattle.yv_expand_laws.specs.Marks.{mark_of}
use Rattle.yv_expand_laws.specs.Rounds.{AreSources}
use Rattle.yv_expand_laws.specs.Shows.{Agree, Items, Shows}
use Rattle.yv_expand_laws.specs.WholeRounds.{AreBetween, ArePlaces, AreWaiting, RoundOn, RoundsOn}
use Rattle.yv_expand_laws.specs.WholeRounds.AreWaiting.{no_places, waits as waiting_here}
use Rattle.yv_expand_laws.specs.WholeRounds.RoundOn.{none_left, adds, without_target, waits}
use Rattle.yv_expand_laws.specs.WholeRounds.RoundsOn.{no_more, one_more}
use Rattle.yv_expand_laws.proofs.InitialNodes.{blocks_enter, own_enters}
use Rattle.yv_expand_laws.proofs.FileBlocks.{Begins}
use Rattle.yv_expand_laws.proofs.FoundItems.{not_none, there_first, there_later}
use Rattle.yv_expand_laws.proofs.FrameSequences.{nothing_stands}
use Rattle.yv_expand_laws.proofs.Givers.{begins_apart, begins_up, given_is, giver_low, giver_place, giver_spans}
use Rattle.yv_expand_laws.proofs.BlockFrame.{AllKept, MayAll, all_go_up, all_keep, block_keeps, goes_up}
use Rattle.yv_expand_laws.proofs.KeywordKinds.{right_is}
use Rattle.yv_expand_laws.proofs.LaterItems.{are, low}
use Rattle.yv_expand_laws.proofs.Modules.{MadeAt, all_items, at_first, begins, begins_most, block_shows, facts, have, stand_givers, start_is, top_shows, ungiven, within}
use Rattle.yv_expand_laws.proofs.Orders.{augment_in, augments_rise, at_there, rises_back, rises_one}
use Rattle.yv_expand_laws.proofs.BlockRefusals.{IsAsked, judged_alike, not_module, target_alike}
use Rattle.yv_expand_laws.proofs.BlockNodes.{first_or}
use Rattle.yv_expand_laws.proofs.ExpansionStart.{none_applied, none_there}
use Rattle.yv_expand_laws.proofs.LabelsAndPaths.{labels_tell, paths_agree, there_is}
use Rattle.yv_expand_laws.proofs.WholeRounds.{AddsTo, AllAddTo, added_of, all_added, all_added_give, all_added_to, all_missed, missed_of, rounds_by, rounds_sort, targets_of}

-- a place for each of a list
abbrev places_from : {A : Type 0} → ℕ → List A → List ℕ
places_from k [] = []
places_from k (x ∷ xs) = k ∷ places_from (k + 1) xs

all_wait : (st : State) (k : ℕ) (paths : List (List ℕ)) → ((j : ℕ) → k ≤ j → j < k + length paths → is_applied st j ≡ false)
    → AreWaiting st k paths (places_from k paths)
all_wait st k [] none = no_places
all_wait st k (names ∷ others) none = waiting_here (none k (omega arith) (omega arith)) (all_wait st (k + 1) others (λ j l h. none j (omega (arith, l)) (omega (arith, h))))

place_from : {A : Type 0} (n : ℕ) (xs : List A) (k : ℕ) → k < length xs → Contains (places_from n xs) (n + k)
place_from n [] k l = absurd (omega (arith, l))
place_from n (x ∷ xs) zero l = subst (Contains (n ∷ places_from (n + 1) xs)) (let e : n ≡ n + 0 = omega arith in e) (there_first n (places_from (n + 1) xs))
place_from n (x ∷ xs) (suc k) l =
    there_later n (n + suc k) (places_from (n + 1) xs)
    (subst (Contains (places_from (n + 1) xs)) (let e : n + 1 + k ≡ n + suc k = omega arith in e) (place_from (n + 1) xs k (omega (arith, l))))

place_in : {A : Type 0} (xs : List A) (k : ℕ) → k < length xs → Contains (places_from 0 xs) k
place_in xs k l = subst (Contains (places_from 0 xs)) (let e : 0 + k ≡ k = omega arith in e) (place_from 0 xs k l)

got : (xs : List ℕ) (k a : ℕ) → slice_get xs k ≡ Some a → get_or xs k 0 ≡ a
got [] k a at = absurd (not_none at)
got (x ∷ xs) zero a at = same_Some x a at
got (x ∷ xs) (suc k) a at = got xs k a at

some_first : {A B : Type 0} (f : A → B) (xs : List A) → 1 ≤ length xs → (y : B) × (ys : List B) × (map f xs ≡ y ∷ ys)
some_first f [] l = absurd (omega (arith, l))
some_first f (x ∷ xs) l = (f x, map f xs, refl)

module _ (files : Files) (marks : List Bool) (order : List ℕ) (own : ℕ) (items : List Item) (its : Items) (given : AreGiven files marks order) (expanded : IsWhole files marks order own items)
    (tells : ShowFiles files marks items its) (one_meant : RefersToOne files) where
  abbrev briefs : Briefs
  briefs = map brief_of files

  abbrev rows : List Row
  rows = rows_of files

  abbrev augments : List ℕ
  augments = augments_of briefs rows marks

  abbrev w : Whole
  w = expansion_of files marks items

  abbrev labels : List Label
  labels = labels_in files marks items

  abbrev number : ℕ → ℕ
  number k = get_or augments k 0

  abbrev path_row : Option Row → List Step
  path_row None = []
  path_row (Some r) = path_of files (module_file_at briefs r.file) r

  abbrev path_by : Option ℕ → List Step
  path_by None = []
  path_by (Some a) = path_row (slice_get rows a)

  abbrev path : ℕ → List Step
  path k = path_by (slice_get augments k)

  abbrev block : ℕ → Forest → Type 0
  block k f = (a : ℕ) × (module_file : ℕ) × (m : Product) × (slice_get augments k ≡ Some a) × IsModuleFile files a module_file × Gives files module_file (a ∷ []) (block_of rows a) m × (f ≡ nodes_given a m.nodes)

  abbrev top : ℕ
  top = count (all_of expanded.trees)

  abbrev first : ℕ → ℕ
  first k = begins_at top expanded.added k

  abbrev last : ℕ → ℕ
  last k = begins_at top expanded.added (suc k)

  abbrev paths : List (List ℕ)
  paths = module_paths w

  many_paths : length paths ≡ length augments
  many_paths = length-map augments (λ a. path_in w (own_module_file w.files (slice_get w.rows a)) a)

  path_is : (k a : ℕ) (q : Row) → slice_get augments k ≡ Some a → slice_get rows a ≡ Some q
      → path k ≡ path_of files (module_file_at briefs q.file) q
  path_is k a q at row = ap path_by at ∙ ap path_row row

  -- the rounds of files are those by places
  abbrev AreAt : List ℕ → List ℕ → Type 0
  AreAt [] [] = Unit {0}
  AreAt [] (a ∷ numbers) = ⊥
  AreAt (k ∷ ks) [] = ⊥
  AreAt (k ∷ ks) (a ∷ numbers) = (slice_get augments k ≡ Some a) × AreAt ks numbers

  at_places : {B : Type 0} (f : ℕ → B) (k : ℕ) (numbers : List ℕ) → ((j : ℕ) → slice_get numbers j ≡ slice_get augments (k + j))
      → AreAt (places_from k (map f numbers)) numbers
  at_places f k [] are_at = tt
  at_places f k (a ∷ numbers) are_at = (
    ap (slice_get augments) (let e : k ≡ k + 0 = omega arith in e) ∙ sym (are_at 0),
    at_places f (k + 1) numbers (λ j. are_at (suc j) ∙ ap (slice_get augments) (let e : k + suc j ≡ k + 1 + j = omega arith in e)),
  )

  at_long : (ks numbers : List ℕ) → AreAt ks numbers → length ks ≡ length numbers
  at_long [] [] at = refl
  at_long [] (a ∷ numbers) at = absurd at
  at_long (k ∷ ks) [] at = absurd at
  at_long (k ∷ ks) (a ∷ numbers) at = (let e = at_long ks numbers at.1 in omega (arith, e))

  at_one : (ks js numbers : List ℕ) → AreAt ks numbers → AreAt js numbers → js ≡ ks
  at_one [] [] numbers p q = refl
  at_one [] (j ∷ js) [] p q = absurd q
  at_one [] (j ∷ js) (a ∷ numbers) p q = absurd p
  at_one (k ∷ ks) js [] p q = absurd p
  at_one (k ∷ ks) [] (a ∷ numbers) p q = absurd q
  at_one (k ∷ ks) (j ∷ js) (a ∷ numbers) p q =
      ap (λ (n : ℕ). n ∷ js) (rises_one augments (augments_rise files marks) j k a q.0 p.0) ∙ ap (λ z. k ∷ z) (at_one ks js numbers p.1 q.1)

  -- where the path of an augment leads
  leads_so : (k a module_file : ℕ) (r : Row) → slice_get augments k ≡ Some a → IsModuleFile files a module_file → slice_get rows a ≡ Some r
      → path_of files module_file r ≡ path k
  leads_so k a module_file r at (q, row, module_file_is) row' =
      let same : q ≡ r = same_Some q r (sym row ∙ row') in
      ap (λ (h : ℕ). path_of files h r) (module_file_is ∙ ap (λ (z : Row). module_file_at briefs z.file) same) ∙ sym (path_is k a r at row')

  -- what goes on from an augment goes on from it where it is refused too
  judged_on : (b : Bool) (a : ℕ) (there : Forest) (wrong : List Wrong) {ks js : List ℕ} {after : Forest}
      → RoundOn number path block ks (judge b a (record { nodes = there; wrong = wrong })).nodes js after
      → RoundOn number path block ks there js after
  judged_on true a there wrong R = R
  judged_on false a there wrong R = R

  judged_missed : (b : Bool) (a : ℕ) (there : Forest) (wrong : List Wrong) {ks js : List ℕ} {after : Forest}
      → (R : RoundOn number path block ks (judge b a (record { nodes = there; wrong = wrong })).nodes js after)
      → missed_of (judged_on b a there wrong R) ≡ missed_of R
  unfolding judged_on
  judged_missed true a there wrong R = refl
  judged_missed false a there wrong R = refl

  judged_added : (b : Bool) (a : ℕ) (there : Forest) (wrong : List Wrong) {ks js : List ℕ} {after : Forest}
      → (R : RoundOn number path block ks (judge b a (record { nodes = there; wrong = wrong })).nodes js after)
      → added_of (judged_on b a there wrong R) ≡ added_of R
  unfolding judged_on
  judged_added true a there wrong R = refl
  judged_added false a there wrong R = refl

  round_on : {waiting still : List ℕ} {m end : Product} → Round files waiting m still end → (ks : List ℕ) → AreAt ks waiting
      → (js : List ℕ) × AreAt js still × RoundOn number path block ks m.nodes js end.nodes
  round_on round_over [] at = ([], tt, none_left)
  round_on round_over (k ∷ ks) at = absurd at
  round_on (round_adds module_file G reach more) [] at = absurd at
  round_on (round_adds {module_file = module_file} {a = a} {m = m} {block = given_block} {last = end} {there = there} {target = target} module_file_is G reach more) (k ∷ ks) (at, others) =
      let r = round_on more ks others in
      let same = leads_so k a module_file reach.leads.0 at module_file_is reach.leads.1 in
      let number_is : a ≡ number k = sym (got augments k a at) in
      let leads : Leads false (path k) m.nodes (end_at target reach.below target (insert (number k) (nodes_given a given_block.nodes) reach.below)) there =
      subst (λ ss. Leads false ss m.nodes (end_at target reach.below target (insert (number k) (nodes_given a given_block.nodes) reach.below)) there) same
      (subst (λ (n : ℕ). Leads false (path_of files module_file reach.leads.0) m.nodes (end_at target reach.below target (insert n (nodes_given a given_block.nodes) reach.below)) there) number_is reach.leads.2) in (
        r.0,
        r.1,
        adds (a, module_file, given_block, at, module_file_is, G, refl) (leads, reach.may_be)
            (judged_on (takes_block rows a target.kind) a there (m.wrong ++ given_block.wrong) r.2),
      )
  round_on (round_misses module_file_is leads missed more) [] at = absurd at
  round_on (round_misses {module_file = module_file} {a = a} {m = m} {e = e} {there = there} module_file_is (row, row_at, leads) missed more) (k ∷ ks) (at, others) =
      let r = round_on more ks others in
      let same = leads_so k a module_file row at module_file_is row_at in (
        r.0,
        r.1,
        without_target (subst (λ ss. Leads false ss m.nodes e there) same leads)
            (λ target below there hit. missed target there (record { below = below; leads = (row, row_at, subst (λ ss. Leads false ss m.nodes (end_at target below target below) there) (sym same) hit.0); may_be = hit.1 })) r.2,
      )
  round_on (round_waits module_file_is nowhere more) [] at = absurd at
  round_on (round_waits {module_file = module_file} {a = a} {m = m} module_file_is (row, row_at, nowhere) more) (k ∷ ks) (at, others) =
      let r = round_on more ks others in
      let same = leads_so k a module_file row at module_file_is row_at in
      (k ∷ r.0, (at, r.1), waits (λ e there leads. nowhere e there (subst (λ ss. Leads false ss m.nodes e there) (sym same) leads)) r.2)

  rounds_on : {waiting : List ℕ} {m end : Product} → Rounds files waiting m end → (ks : List ℕ) → AreAt ks waiting
      → RoundsOn number path block ks m.nodes end.nodes
  rounds_on {waiting = waiting} {m = m} (last_round R) ks at =
      let r = round_on R ks at in no_more (subst (λ js. RoundOn number path block ks m.nodes js m.nodes) (at_one ks r.0 waiting at r.1) r.2)
  rounds_on {waiting = waiting} (one_more_round {still = still} R less more) ks at =
      let r = round_on R ks at in
      let a = at_long ks waiting at in let b = at_long r.0 still r.1 in
      one_more r.2 (omega (arith, a, b, less)) (rounds_on more r.0 r.1)

  abbrev B : Begins files augments (length items) items (ungiven its) (facts files marks order own items its given expanded tells) refl
      (MadeAt files marks order own items its given expanded tells) order expanded.added top
  B = begins files marks order own items its given expanded tells one_meant

  abbrev st : State
  st = at_first files marks order own items its given expanded tells one_meant

  in_order : length items ≤ length labels
  in_order = within files marks order own items its given expanded tells one_meant

  whole_many : top + count (all_of expanded.added) ≡ length items
  whole_many = all_items files marks order own items its given expanded tells one_meant

  spans_of : (i a : ℕ) → giver_of w items i ≡ Some a → (p : ℕ) × (slice_get augments p ≡ Some a) × (first p ≤ i) × (i < last p)
  spans_of i a gives = giver_spans w items refl top (length items) B.last_own B.last B.front B.augs in_order B.new B.more B.spots_are B.long B.lie B.all_lie expanded.added B.spans i a gives

  givers : AreSources its (giver_of w items)
  givers = record {
    marks = λ i. tells.told.given i ∙ given_is w items refl i;
    shown = λ i is. tells.giver i;
    apart = λ i j p q gi gj less.
        (let x = spans_of i p gi in
        let y = spans_of j q gj in
        let l = rises_back augments (augments_rise files marks) x.0 y.0 p q x.1 y.1 less in
        let z = begins_apart top expanded.added x.0 y.0 l in
        let a = x.3 in let b = y.2 in omega (arith, z, a, b));
  }

  -- the path of the augment at a place
  record PathAt (k : ℕ) (names : List ℕ) : Type 0 where
    augment : ℕ
    row : Row
    there : slice_get augments k ≡ Some augment
    at : slice_get rows augment ≡ Some row
    has : has_path row ≡ true
    names_are : names ≡ path_in w (module_file_at briefs row.file) augment

  path_there : (k : ℕ) (names : List ℕ) → slice_get paths k ≡ Some names → PathAt k names
  path_there k names at = by (slice_get augments k) refl
    where
      by : (o : Option ℕ) → slice_get augments k ≡ o → PathAt k names
      by None is = absurd (not_none (sym (slice_get-map (λ a. path_in w (own_module_file briefs (slice_get rows a)) a) augments k ∙ ap (option_map (λ a. path_in w (own_module_file briefs (slice_get rows a)) a)) is) ∙ at))
      by (Some a) is =
          let q = augment_in files marks a (at_there augments k a is) in
          let same : path_in w (own_module_file briefs (slice_get rows a)) a ≡ names =
          same_Some (path_in w (own_module_file briefs (slice_get rows a)) a) names
          (sym (slice_get-map (λ a. path_in w (own_module_file briefs (slice_get rows a)) a) augments k ∙ ap (option_map (λ a. path_in w (own_module_file briefs (slice_get rows a)) a)) is) ∙ at) in
          record {
            augment = a;
            row = q.row;
            there = is;
            at = q.at;
            has = right_is (has_word (codes "refine") q.row.head) (has_word (codes "augment") q.row.head) q.is;
            names_are = sym same ∙ ap (λ o. path_in w (own_module_file briefs o) a) q.at;
          }

  places : ArePlaces labels its number path first last paths
  places = record {
    agree = λ k names at.
        (let x = path_there k names at in
        subst (λ z. Agree labels its z (path k)) (sym x.names_are) (subst (λ z. Agree labels its (path_in w (module_file_at briefs x.row.file) x.augment) z) (sym (path_is k x.augment x.row x.there x.at))
        (paths_agree files augments (length items) items its (module_file_at briefs x.row.file) x.augment x.row given.sound.few (have files marks order own items its given expanded tells) tells.told x.at x.has)));
    steps = λ k names at.
        (let x = path_there k names at in
        let module_file : ℕ = module_file_at briefs x.row.file in
        let many = length-slice_split (λ (b : ℕ). b == 47) (behind_root (name_in x.row)) in
        let r = some_first (step_of briefs rows x.row.file) (steps_of (name_in x.row)) (omega (arith, many)) in (
          step_name module_file r.0,
          map (step_name module_file) r.1,
          x.names_are ∙ (ap (λ o. map (step_name module_file) (path_at briefs rows o)) x.at
              ∙ (ap (λ (b : Bool). map (step_name module_file) (if b then map (step_of briefs rows x.row.file) (steps_of (name_in x.row)) else [])) x.has ∙ ap (map (step_name module_file)) r.2)),
        ));
    items = λ k l. (let a = begins_most top expanded.added (suc k) in let b = whole_many in let c = in_order in omega (arith, a, b, c));
    apart = λ j k x other from to. elim (cases_lt j k) [
      | inl l ↦ (let a = begins_apart top expanded.added j k l in inl (omega (arith, a, to)))
      | inr l ↦ (let a = begins_apart top expanded.added k j (less j k other l) in inr (omega (arith, a, from)))
    ];
    numbers = λ j k lj lk other same.
        (let a = there_is augments j (let e = many_paths in omega (arith, lj, e)) in
        let b = there_is augments k (let e = many_paths in omega (arith, lk, e)) in
        let e = got augments j a.0 a.1 in let f = got augments k b.0 b.1 in
        let one : b.0 ≡ a.0 = omega (arith, same, e, f) in
        other (rises_one augments (augments_rise files marks) j k a.0 a.1 (b.1 ∙ ap (λ (n : ℕ). Some n) one)));
  }
    where
      less : (j k : ℕ) → j ≢ k → k ≤ j → k < j
      less j k other l = elim (cases_lt k j) [ inl h ↦ h | inr h ↦ absurd (other (omega (arith, l, h))) ]

  abbrev before : State
  before = run_all labels B.augs (nothing (length labels) B.last)

  abbrev bare : Items
  bare = ungiven its

  entering : MayEnter labels 0 0 top (length augments) B.last_own before
  entering =
      own_enters labels bare (mark_of w) (are files augments (length items) items bare (facts files marks order own items its given expanded tells) refl)
      (low files augments (length items) items bare (facts files marks order own items its given expanded tells) refl) top (length items) B.last_own B.last (length augments) B.front B.augs in_order

  blocks_entering : MayAll labels top (length items) B.last_own B.last 0 (length augments) (nothing (length labels) B.last)
  blocks_entering =
      blocks_enter labels bare (mark_of w) (are files augments (length items) items bare (facts files marks order own items its given expanded tells) refl)
      (low files augments (length items) items bare (facts files marks order own items its given expanded tells) refl) top (length items) B.last_own B.last (length augments) B.front B.augs in_order

  kept : AllKept labels 0 top (length items) B.last_own B.last 0 (length augments) (nothing (length labels) B.last) before
  kept = all_keep labels 0 B.augs (nothing (length labels) B.last) (inl (omega arith), inl (omega arith)) blocks_entering

  framed : Frame labels 0 0 top (length augments) B.last_own before st
  framed = (block_keeps labels 0 B.front before entering).0

  up : (0 ≤ top) × (length augments ≤ B.last_own)
  up = goes_up B.front

  up' : (top ≤ length items) × (B.last_own ≤ B.last) × (0 ≤ length augments)
  up' = all_go_up B.augs

  top_empty : members_of before.groups 0 ≡ []
  top_empty =
      let far : ℕ = length labels + 1 + B.last in
      let l = in_order in
      (all_keep labels far B.augs (nothing (length labels) B.last) (inr (omega (arith, l)), inr (omega arith)) blocks_entering).frame.outside 0 (λ e. omega (arith, e)) (inl (omega arith), inl (omega arith))
      ∙ none_there (length labels) B.last 0

  in_own : (i : ℕ) → Contains (members_of st.groups 0) i → i < top
  in_own i h = (framed.theirs i (subst (λ ms. Contains ms i) (framed.behind ∙ ap (λ z. z ++ framed.entered) top_empty) h)).1

  none_yet : (j : ℕ) → j < length augments → is_applied st j ≡ false
  none_yet j l =
      let a = up.1 in let b = up'.1 in
      ap turns.is_some (framed.ends j (inl l) ∙ (kept.gap_ends j (omega (arith, l, a)) ∙ none_applied (length labels) B.last j (omega (arith, l, a, b))))

  between : (m : Product) → Tops files order m → AreBetween labels its (giver_of w items) number block first last (length paths) st m.nodes
  between m T =
      let s = top_shows files marks order own items its given expanded tells one_meant m T in
      let high : top ≤ length labels = (let a = whole_many in let b = in_order in omega (arith, a, b)) in
      record {
        room = (let a = framed.groups in let b = framed.augments in let c = entering.room in omega (arith, a, b, c));
        copies = (let a = framed.augments in let b = entering.copies in let c = up.1 in let d = many_paths in omega (arith, a, b, c, d));
        whole = record {
          items = s.items;
          owns = s.owns;
          bounds = λ i o. (let h = (s.bounds i o).1 in (omega arith, omega (arith, h, high)));
          orders = record {
            ascend = s.orders.ascend;
            all = λ i h. s.orders.all i (h.0, (h.1.0, in_own i h.0));
            only = λ i h. (let x = s.orders.only i h in let l = x.1.1 in (x.0, (x.1.0, omega (arith, l, high))));
          };
          stand = s.stand;
        };
        within = λ i h. (let l = in_own i h in omega (arith, l, high));
        blocks = λ k f l waits gives. shown_at k f gives;
        own = λ k i l waits h. own_at k i l h;
        not_theirs = λ k x i l waits le h e. not_none (sym (stand_givers files marks order own items its given expanded tells one_meant x i h ∙ giver_low w items refl x le) ∙ e);
        away = λ k x l waits o. (let h = (s.bounds x o).1 in let a = (begins_up top expanded.added k).0 in inl (omega (arith, h, a)));
      }
    where
      shown_at : (k : ℕ) (f : Forest) → block k f → Shows its st.groups (group_of_augment labels k) (first k) (last k) f
      shown_at k f (a, module_file, m, at, module_file_is, G, is) =
          subst (λ z. Shows its st.groups (group_of_augment labels k) (first k) (last k) z) (sym is) (block_shows files marks order own items its given expanded tells one_meant k a module_file m at module_file_is G)

      own_at : (k i : ℕ) → k < length paths → Contains (members_of st.groups (group_of_augment labels k)) i
          → ((first k ≤ i) × (i < last k)) × (giver_of w items i ≡ Some (number k))
      own_at k i l h =
          let a = there_is augments k (let e = many_paths in omega (arith, l, e)) in
          let g : giver_of w items i ≡ Some a.0 =
          stand_givers files marks order own items its given expanded tells one_meant (group_of_augment labels k) i h ∙ giver_place w items refl k a.0 a.1 in
          let x = spans_of i a.0 g in
          let same : x.0 ≡ k = rises_one augments (augments_rise files marks) x.0 k a.0 x.1 a.1 in
          let e = ap first same in let f = ap last same in let y = x.2 in let z = x.3 in
          ((omega (arith, e, y), omega (arith, f, z)), g ∙ ap (λ (n : ℕ). Some n) (sym (got augments k a.0 a.1)))

  whole_shows : (m : Product) (new : State) → Expand files marks order m → AreAugmented w items new
      → Shows its new.groups 0 0 (length labels) m.nodes
  whole_shows m new E grafted =
      rounds_by labels its (giver_of w items) (labels_tell w items its tells.told) number path block first last paths st new (places_from 0 paths) E.own.nodes m.nodes givers places
      (between E.own E.tops) (all_wait st 0 paths (λ j l h. none_yet j (let e = many_paths in omega (arith, h, e))))
      (rounds_on E.rounds (places_from 0 paths) (at_places (λ a. path_in w (own_module_file w.files (slice_get w.rows a)) a) 0 augments (λ j. ap (slice_get augments) (let e : j ≡ 0 + j = omega arith in e))))
      (subst (λ s. AreApplied labels 0 paths s new) (start_is files marks order own items its given expanded tells one_meant) grafted.applied)

  -- an augment has no target
  abbrev pub untargeted_at : ℕ → Wrong
  untargeted_at a = record { code = code.AugmentTarget; statement = a }

  -- what is refused in what the block of the augment at a place gives
  abbrev pub BlockWrong : ℕ → Wrong → Type 0
  BlockWrong k e =
      (a : ℕ) × (module_file : ℕ) × (made : Product) × (slice_get augments k ≡ Some a) × IsModuleFile files a module_file × Gives files module_file (a ∷ []) (block_of rows a) made × Contains made.wrong e

  -- of refines and of augments of uses that is refused which was, and what is refused in the blocks
  -- of augments that add
  record RefusesIn (old new : List Wrong) (added : List ℕ) : Type 0 where
    to : (e : Wrong) → IsAsked augments e → Contains new e → Contains old e ⊎ ((k : ℕ) × Contains added k × BlockWrong k e)
    from : (e : Wrong) → IsAsked augments e → Contains old e ⊎ ((k : ℕ) × Contains added k × BlockWrong k e) → Contains new e

  -- the block of an augment gives one thing
  block_one : (k a module_file : ℕ) (made : Product) (e : Wrong) → slice_get augments k ≡ Some a → IsModuleFile files a module_file → Gives files module_file (a ∷ []) (block_of rows a) made
      → BlockWrong k e → Contains made.wrong e
  block_one k a module_file made e at (r, row, module_file_is) G (b, other, other_made, to, (q, row', other_is), H, there) =
      let same : b ≡ a = same_Some b a (sym to ∙ at) in
      let same_row : q ≡ r = same_Some q r (sym row' ∙ (ap (slice_get rows) same ∙ row)) in
      let same_module_file : other ≡ module_file = other_is ∙ (ap (λ (z : Row). module_file_at briefs z.file) same_row ∙ sym module_file_is) in
      let H' : Gives files module_file (a ∷ []) (block_of rows a) other_made =
      subst (λ (h : ℕ). Gives files h (a ∷ []) (block_of rows a) other_made) same_module_file (subst (λ (n : ℕ). Gives files other (n ∷ []) (block_of rows n) other_made) same H) in
      subst (λ (z : Product). Contains z.wrong e) (gives_one files module_file one_meant H' G) there

  round_refuses : {waiting still : List ℕ} {m end : Product} → (R : Round files waiting m still end) → (ks : List ℕ) → (at : AreAt ks waiting)
      → RefusesIn m.wrong end.wrong (added_of (round_on R ks at).2)
  unfolding round_on
  round_refuses round_over [] at = record { to = λ e of h. inl h; from = λ e of h. elim h [ inl x ↦ x | inr (k, y, z) ↦ absurd (nothing_stands k y) ] }
  round_refuses round_over (k ∷ ks) at = absurd at
  round_refuses (round_adds module_file G reach more) [] at = absurd at
  round_refuses (round_adds {module_file = module_file} {a = a} {m = m} {block = given_block} {last = end} {there = there} {target = target} module_file_is G reach more) (k ∷ ks) (at, others) =
      let r = round_refuses more ks others in
      let b : Bool = takes_block rows a target.kind in
      let wrong : List Wrong = m.wrong ++ given_block.wrong in
      let rest : List ℕ = added_of (round_on more ks others).2 in
      subst (λ z. RefusesIn m.wrong end.wrong (k ∷ z)) (sym (judged_added b a there wrong (round_on more ks others).2)) (record {
        to = λ e of h. elim (r.to e of h) [
          | inl x ↦ elim (Contains-append_cases m.wrong given_block.wrong e ((judged_alike augments b a there wrong (at_there augments k a at) e of).0 x)) [
            | inl y ↦ inl y
            | inr y ↦ inr (k, there_first k rest, (a, module_file, given_block, at, module_file_is, G, y))
          ]
          | inr (j, x, y) ↦ inr (j, there_later k j rest x, y)
        ];
        from = λ e of h. elim h [
          | inl x ↦ r.from e of (inl ((judged_alike augments b a there wrong (at_there augments k a at) e of).1 (Contains-append_left m.wrong given_block.wrong e x)))
          | inr (j, x, y) ↦ elim (first_or k rest j x) [
            | inl same ↦ r.from e of (inl ((judged_alike augments b a there wrong (at_there augments k a at) e of).1 (Contains-append_right m.wrong given_block.wrong e
                (block_one k a module_file given_block e at module_file_is G (subst (λ (n : ℕ). BlockWrong n e) (sym same) y)))))
            | inr later ↦ r.from e of (inr (j, later, y))
          ]
        ];
      })
  round_refuses (round_misses module_file_is leads missed more) [] at = absurd at
  round_refuses (round_misses {module_file = module_file} {a = a} {m = m} {e = e} {there = there} module_file_is (row, row_at, leads) missed more) (k ∷ ks) (at, others) =
      let r = round_refuses more ks others in
      record {
        to = λ e of h. elim (r.to e of h) [ inl x ↦ inl ((target_alike augments a m.wrong (at_there augments k a at) e of).0 x) | inr y ↦ inr y ];
        from = λ e of h. r.from e of (elim h [ inl x ↦ inl ((target_alike augments a m.wrong (at_there augments k a at) e of).1 x) | inr y ↦ inr y ]);
      }
  round_refuses (round_waits module_file_is nowhere more) [] at = absurd at
  round_refuses (round_waits {module_file = module_file} {a = a} {m = m} module_file_is (row, row_at, nowhere) more) (k ∷ ks) (at, others) = round_refuses more ks others

  none_waiting : (ks numbers : List ℕ) → AreAt ks numbers → (e : Wrong) → IsAsked augments e → Contains (map (λ n. untargeted_at n) numbers) e → ⊥
  none_waiting ks [] at e asked (i, l, is) = omega (arith, l)
  none_waiting [] (n ∷ numbers) at e asked h = absurd at
  none_waiting (k ∷ ks) (n ∷ numbers) (at, others) e asked h = elim (Contains-append_cases (untargeted_at n ∷ []) (map (λ n. untargeted_at n) numbers) e h) [
    | inl x ↦ elim (Contains-push_cases [] (untargeted_at n) e x) [ inl (i, l, is) ↦ omega (arith, l) | inr same ↦ not_module augments e code.AugmentTarget n asked (inl refl) (at_there augments k n at) same ]
    | inr x ↦ none_waiting ks numbers others e asked x
  ]

  rounds_refuse : {waiting : List ℕ} {m end : Product} → (R : Rounds files waiting m end) → (ks : List ℕ) → (at : AreAt ks waiting)
      → RefusesIn m.wrong end.wrong (all_added (rounds_on R ks at))
  unfolding rounds_on
  rounds_refuse {waiting = waiting} {m = m} (last_round R) ks at = record {
    to = λ e of h. elim (Contains-append_cases m.wrong (map (λ n. untargeted_at n) waiting) e h) [
      | inl x ↦ inl x
      | inr x ↦ absurd (none_waiting ks waiting at e of x)
    ];
    from = λ e of h. elim h [
      | inl x ↦ Contains-append_left m.wrong (map (λ n. untargeted_at n) waiting) e x
      | inr (k, x, y) ↦ absurd (nothing_stands k x)
    ];
  }
  rounds_refuse (one_more_round R less more) ks at =
      let r = round_on R ks at in
      let x = round_refuses R ks at in
      let y = rounds_refuse more r.0 r.1 in
      let later : List ℕ = all_added (rounds_on more r.0 r.1) in
      record {
        to = λ e of h. elim (y.to e of h) [
          | inl z ↦ elim (x.to e of z) [ inl u ↦ inl u | inr (k, u, v) ↦ inr (k, Contains-append_left (added_of r.2) later k u, v) ]
          | inr (k, u, v) ↦ inr (k, Contains-append_right (added_of r.2) later k u, v)
        ];
        from = λ e of h. y.from e of (elim h [
          | inl z ↦ inl (x.from e of (inl z))
          | inr (k, u, v) ↦ elim (Contains-append_cases (added_of r.2) later k u) [
            | inl a ↦ inl (x.from e of (inr (k, a, v)))
            | inr c ↦ inr (k, c, v)
          ]
        ]);
      }

  -- an augment of a module that adds to an item, in the end
  abbrev pub IsApplied : State → ℕ → Type 0
  IsApplied new k = (k < length augments) × ((i : ℕ) × (turns.target_of labels new.ends k ≡ Some i))

  -- of refines and of augments of uses that is refused in the end which is refused of the modules,
  -- and in the blocks of augments that add
  pub asked_refused : (m : Product) (new : State) → (E : Expand files marks order m) → AreAugmented w items new → (e : Wrong) → IsAsked augments e
      → (Contains m.wrong e → Contains E.own.wrong e ⊎ ((k : ℕ) × IsApplied new k × BlockWrong k e))
      × (Contains E.own.wrong e ⊎ ((k : ℕ) × IsApplied new k × BlockWrong k e) → Contains m.wrong e)
  asked_refused m new E grafted e of =
      let at = at_places (λ b. path_in w (own_module_file w.files (slice_get w.rows b)) b) 0 augments (λ j. ap (slice_get augments) (let e : j ≡ 0 + j = omega arith in e)) in
      let R = rounds_on E.rounds (places_from 0 paths) at in
      let ts = targets_of labels its (labels_tell w items its tells.told) (giver_of w items) givers number path block first last paths places st new (between E.own E.tops)
      (all_wait st 0 paths (λ j l h. none_yet j (let e = many_paths in omega (arith, h, e)))) R
      (subst (λ s. AreApplied labels 0 paths s new) (start_is files marks order own items its given expanded tells one_meant) grafted.applied) in
      let wrongs = rounds_refuse E.rounds (places_from 0 paths) at in (
        (λ h. elim (wrongs.to e of h) [ inl x ↦ inl x | inr (k, x, y) ↦ inr (k, (slice_get_within augments k y.0 y.3, (let to = all_added_to R k x in let r = ts.2 k to.0 to.1 in (r.0, r.1))), y) ]),
        (λ h. wrongs.from e of (elim h [
          | inl x ↦ inl x
          | inr (k, (less, (i, refine_targets)), y) ↦ elim (rounds_sort R k (place_in paths k (let e = many_paths in omega (arith, less, e)))) [
            | inl missed ↦ absurd (not_none (sym (ts.0 k missed) ∙ refine_targets))
            | inr added ↦ inr (k, added, y)
          ]
        ])),
      )

  -- the block of an augment that adds to an item gives something
  pub applied_gives : (m : Product) (new : State) → Expand files marks order m → AreAugmented w items new → (k : ℕ) → IsApplied new k → (f : Forest) × block k f
  applied_gives m new E grafted k (less, (i, refine_targets)) =
      let at = at_places (λ b. path_in w (own_module_file w.files (slice_get w.rows b)) b) 0 augments (λ j. ap (slice_get augments) (let e : j ≡ 0 + j = omega arith in e)) in
      let R = rounds_on E.rounds (places_from 0 paths) at in
      let ts = targets_of labels its (labels_tell w items its tells.told) (giver_of w items) givers number path block first last paths places st new (between E.own E.tops)
      (all_wait st 0 paths (λ j l h. none_yet j (let e = many_paths in omega (arith, h, e)))) R
      (subst (λ s. AreApplied labels 0 paths s new) (start_is files marks order own items its given expanded tells one_meant) grafted.applied) in
      elim (rounds_sort R k (place_in paths k (let e = many_paths in omega (arith, less, e)))) [
        | inl missed ↦ absurd (not_none (sym (ts.0 k missed) ∙ refine_targets))
        | inr added ↦ all_added_give R k added
      ]

  module _ (far : ℕ → Type 0) (near : (k a : ℕ) → slice_get augments k ≡ Some a → far a → ⊥)
      (given_far : (a module_file : ℕ) (m : Product) → Gives files module_file (a ∷ []) (block_of rows a) m → (b : ℕ) → Contains m.wrong (untargeted_at b) → far b) where
    -- what is refused for its target before, or is missed, is refused for its target then
    record Refuses (old new : List Wrong) (missed : List ℕ) : Type 0 where
      to : (k a : ℕ) → slice_get augments k ≡ Some a → Contains new (untargeted_at a) → Contains old (untargeted_at a) ⊎ Contains missed k
      from : (k a : ℕ) → slice_get augments k ≡ Some a → Contains old (untargeted_at a) ⊎ Contains missed k → Contains new (untargeted_at a)

    not_misplaced : (a b : ℕ) → record { code = code.BadAugment; statement = a } ≡ untargeted_at b → ⊥
    not_misplaced a b e = (let bad : code.BadAugment ≡ code.AugmentTarget = ap (λ (x : Wrong). x.code) e in cc)

    judged_wrong : (b : Bool) (a : ℕ) (there : Forest) (m block : Product)
        → (n : ℕ) → Contains (judge b a (record { nodes = there; wrong = m.wrong ++ block.wrong })).wrong (untargeted_at n)
        → Contains m.wrong (untargeted_at n) ⊎ Contains block.wrong (untargeted_at n)
    judged_wrong true a there m block n h = Contains-append_cases m.wrong block.wrong (untargeted_at n) h
    judged_wrong false a there m block n h = elim (Contains-push_cases (m.wrong ++ block.wrong) _ (untargeted_at n) h) [
      | inl x ↦ Contains-append_cases m.wrong block.wrong (untargeted_at n) x
      | inr bad ↦ absurd (not_misplaced a n bad)
    ]

    judged_old : (b : Bool) (a : ℕ) (there : Forest) (m block : Product) (x : Wrong) → Contains m.wrong x
        → Contains (judge b a (record { nodes = there; wrong = m.wrong ++ block.wrong })).wrong x
    judged_old true a there m block x h = Contains-append_left m.wrong block.wrong x h
    judged_old false a there m block x h = Contains-append_left (m.wrong ++ block.wrong) _ x (Contains-append_left m.wrong block.wrong x h)

    round_wrong : {waiting still : List ℕ} {m end : Product} → (R : Round files waiting m still end) → (ks : List ℕ) → (at : AreAt ks waiting)
        → Refuses m.wrong end.wrong (missed_of (round_on R ks at).2)
    unfolding round_on
    round_wrong round_over [] at = record { to = λ k a is h. inl h; from = λ k a is h. elim h [ inl x ↦ x | inr y ↦ absurd (nothing_stands k y) ] }
    round_wrong round_over (k ∷ ks) at = absurd at
    round_wrong (round_adds module_file G reach more) [] at = absurd at
    round_wrong (round_adds {module_file = module_file} {a = a} {m = m} {block = given_block} {last = end} {there = there} {target = target} module_file_is G reach more) (k ∷ ks) (at, others) =
        let r = round_wrong more ks others in
        let b : Bool = takes_block rows a target.kind in
        let missed = judged_missed b a there (m.wrong ++ given_block.wrong) (round_on more ks others).2 in
        subst (Refuses m.wrong end.wrong) (sym missed) (record {
          to = λ j n is h. elim (r.to j n is h) [
            | inl x ↦ elim (judged_wrong b a there m given_block n x) [
              | inl y ↦ inl y
              | inr y ↦ absurd (near j n is (given_far a module_file given_block G n y))
            ]
            | inr x ↦ inr x
          ];
          from = λ j n is h. r.from j n is (elim h [ inl x ↦ inl (judged_old b a there m given_block (untargeted_at n) x) | inr x ↦ inr x ]);
        })
    round_wrong (round_misses module_file_is leads missed more) [] at = absurd at
    round_wrong (round_misses {module_file = module_file} {a = a} {m = m} {e = e} {there = there} module_file_is (row, row_at, leads) missed more) (k ∷ ks) (at, others) =
        let r = round_wrong more ks others in
        let rest : List ℕ = missed_of (round_on more ks others).2 in
        record {
          to = λ j n is h. elim (r.to j n is h) [
            | inl x ↦ elim (Contains-push_cases m.wrong _ (untargeted_at n) x) [
              | inl y ↦ inl y
              | inr same ↦ inr (subst (Contains (k ∷ rest)) (place k j a n at is (ap (λ (z : Wrong). z.statement) same)) (there_first k rest))
            ]
            | inr x ↦ inr (there_later k j rest x)
          ];
          from = λ j n is h. elim h [
            | inl x ↦ r.from j n is (inl (Contains-append_left m.wrong (untargeted_at a ∷ []) (untargeted_at n) x))
            | inr x ↦ elim (first_or k rest j x) [
              | inl same ↦
                  let one : a ≡ n = same_Some a n (sym at ∙ (ap (slice_get augments) same ∙ is)) in
                  r.from j n is (inl (subst (λ (z : ℕ). Contains (m.wrong ++ untargeted_at a ∷ []) (untargeted_at z)) one (Contains-push m.wrong (untargeted_at a))))
              | inr y ↦ r.from j n is (inr y)
            ]
          ];
        }
      where
        place : (k j a n : ℕ) → slice_get augments k ≡ Some a → slice_get augments j ≡ Some n → a ≡ n → k ≡ j
        place k j a n at is same = rises_one augments (augments_rise files marks) k j n (at ∙ ap (λ (z : ℕ). Some z) same) is
    round_wrong (round_waits module_file_is nowhere more) [] at = absurd at
    round_wrong (round_waits {module_file = module_file} {a = a} {m = m} module_file_is (row, row_at, nowhere) more) (k ∷ ks) (at, others) = round_wrong more ks others

    waiting_wrong : (ks numbers : List ℕ) → AreAt ks numbers → (k a : ℕ) → slice_get augments k ≡ Some a
        → (Contains (map (λ n. untargeted_at n) numbers) (untargeted_at a) → Contains ks k) × (Contains ks k → Contains (map (λ n. untargeted_at n) numbers) (untargeted_at a))
    waiting_wrong [] [] at k a is = (λ h. absurd (no_wrong h), λ h. absurd (nothing_stands k h))
      where
        no_wrong : Contains (let none : List Wrong = [] in none) (untargeted_at a) → ⊥
        no_wrong (i, l, e) = omega (arith, l)
    waiting_wrong [] (b ∷ numbers) at k a is = absurd at
    waiting_wrong (j ∷ ks) [] at k a is = absurd at
    waiting_wrong (j ∷ ks) (b ∷ numbers) (at, others) k a is =
        let r = waiting_wrong ks numbers others k a is in
        let rest : List Wrong = map (λ n. untargeted_at n) numbers in (
          (λ h. elim (Contains-append_cases (untargeted_at b ∷ []) rest (untargeted_at a) h) [
            | inl x ↦ elim (Contains-push_cases [] (untargeted_at b) (untargeted_at a) x) [
              | inl (i, l, e) ↦ absurd (omega (arith, l))
              | inr same ↦
                  let one : b ≡ a = ap (λ (z : Wrong). z.statement) same in
                  subst (Contains (j ∷ ks)) (rises_one augments (augments_rise files marks) j k a (at ∙ ap (λ (z : ℕ). Some z) one) is) (there_first j ks)
            ]
            | inr x ↦ there_later j k ks (r.0 x)
          ]),
          (λ h. elim (first_or j ks k h) [
            | inl same ↦
                let one : b ≡ a = same_Some b a (sym at ∙ (ap (slice_get augments) same ∙ is)) in
                Contains-append_left (untargeted_at b ∷ []) rest (untargeted_at a) (subst (λ (z : ℕ). Contains (untargeted_at b ∷ []) (untargeted_at z)) one (Contains-push [] (untargeted_at b)))
            | inr x ↦ Contains-append_right (untargeted_at b ∷ []) rest (untargeted_at a) (r.1 x)
          ]),
        )

    rounds_wrong : {waiting : List ℕ} {m end : Product} → (R : Rounds files waiting m end) → (ks : List ℕ) → (at : AreAt ks waiting)
        → Refuses m.wrong end.wrong (all_missed (rounds_on R ks at))
    unfolding rounds_on
    rounds_wrong {waiting = waiting} {m = m} (last_round R) ks at = record {
      to = λ k a is h. elim (Contains-append_cases m.wrong (map (λ n. untargeted_at n) waiting) (untargeted_at a) h) [
        | inl x ↦ inl x
        | inr x ↦ inr ((waiting_wrong ks waiting at k a is).0 x)
      ];
      from = λ k a is h. elim h [
        | inl x ↦ Contains-append_left m.wrong (map (λ n. untargeted_at n) waiting) (untargeted_at a) x
        | inr x ↦ Contains-append_right m.wrong (map (λ n. untargeted_at n) waiting) (untargeted_at a) ((waiting_wrong ks waiting at k a is).1 x)
      ];
    }
    rounds_wrong (one_more_round R less more) ks at =
        let r = round_on R ks at in
        let x = round_wrong R ks at in
        let y = rounds_wrong more r.0 r.1 in
        let later : List ℕ = all_missed (rounds_on more r.0 r.1) in
        record {
          to = λ k a is h. elim (y.to k a is h) [
            | inl z ↦ elim (x.to k a is z) [ inl u ↦ inl u | inr u ↦ inr (Contains-append_left (missed_of r.2) later k u) ]
            | inr z ↦ inr (Contains-append_right (missed_of r.2) later k z)
          ];
          from = λ k a is h. y.from k a is (elim h [
            | inl z ↦ inl (x.from k a is (inl z))
            | inr z ↦ elim (Contains-append_cases (missed_of r.2) later k z) [ inl u ↦ inl (x.from k a is (inr u)) | inr u ↦ inr u ]
          ]);
        }

    -- an augment of a module is refused for its block
    abbrev pub untaken_at : ℕ → Wrong
    untaken_at a = record { code = code.BadAugment; statement = a }

    record RefusesBlock (old new : List Wrong) (adding : ℕ → Node → Type 0) : Type 0 where
      to : (k a : ℕ) → slice_get augments k ≡ Some a → Contains new (untaken_at a) → Contains old (untaken_at a) ⊎ ((g : Node) × adding k g × (takes_block rows a g.kind ≡ false))
      from : (k a : ℕ) → slice_get augments k ≡ Some a → Contains old (untaken_at a) ⊎ ((g : Node) × adding k g × (takes_block rows a g.kind ≡ false)) → Contains new (untaken_at a)

    judged_bad : (b : Bool) (a n : ℕ) (there : Forest) (wrong : List Wrong) → Contains (judge b a (record { nodes = there; wrong = wrong })).wrong (untaken_at n)
        → Contains wrong (untaken_at n) ⊎ ((b ≡ false) × (a ≡ n))
    judged_bad true a n there wrong h = inl h
    judged_bad false a n there wrong h = elim (Contains-push_cases wrong _ (untaken_at n) h) [ inl x ↦ inl x | inr same ↦ inr (refl, ap (λ (z : Wrong). z.statement) same) ]

    judged_kept : (b : Bool) (a : ℕ) (there : Forest) (wrong : List Wrong) (x : Wrong) → Contains wrong x → Contains (judge b a (record { nodes = there; wrong = wrong })).wrong x
    judged_kept true a there wrong x h = h
    judged_kept false a there wrong x h = Contains-append_left wrong _ x h

    judged_new : (b : Bool) (a : ℕ) (there : Forest) (wrong : List Wrong) → b ≡ false → Contains (judge b a (record { nodes = there; wrong = wrong })).wrong (untaken_at a)
    judged_new true a there wrong is = absurd (false≢true (sym is))
    judged_new false a there wrong is = Contains-push wrong (untaken_at a)

    judged_to : (b : Bool) (a : ℕ) (there : Forest) (wrong : List Wrong) {ks js : List ℕ} {after : Forest}
        → (R : RoundOn number path block ks (judge b a (record { nodes = there; wrong = wrong })).nodes js after) (j : ℕ) (g : Node)
        → (AddsTo (judged_on b a there wrong R) j g → AddsTo R j g) × (AddsTo R j g → AddsTo (judged_on b a there wrong R) j g)
    unfolding judged_on
    judged_to true a there wrong R j g = (λ h. h, λ h. h)
    judged_to false a there wrong R j g = (λ h. h, λ h. h)

    not_untargeted : (a n : ℕ) → untargeted_at a ≡ untaken_at n → ⊥
    not_untargeted a n e = (let bad : code.AugmentTarget ≡ code.BadAugment = ap (λ (x : Wrong). x.code) e in cc)

    module _ (blocks_far : (a module_file : ℕ) (m : Product) → Gives files module_file (a ∷ []) (block_of rows a) m → (b : ℕ) → Contains m.wrong (untaken_at b) → far b) where
      round_blocks : {waiting still : List ℕ} {m end : Product} → (R : Round files waiting m still end) → (ks : List ℕ) → (at : AreAt ks waiting)
          → RefusesBlock m.wrong end.wrong (λ j g. AddsTo (round_on R ks at).2 j g)
      unfolding round_on
      round_blocks round_over [] at = record { to = λ k a is h. inl h; from = λ k a is h. elim h [ inl x ↦ x | inr (g, y, z) ↦ absurd y ] }
      round_blocks round_over (k ∷ ks) at = absurd at
      round_blocks (round_adds module_file G reach more) [] at = absurd at
      round_blocks (round_adds {module_file = module_file} {a = a} {m = m} {block = given_block} {last = end} {there = there} {target = target} module_file_is G reach more) (k ∷ ks) (at, others) =
          let r = round_blocks more ks others in
          let b : Bool = takes_block rows a target.kind in
          let wrong : List Wrong = m.wrong ++ given_block.wrong in
          let on = judged_to b a there wrong (round_on more ks others).2 in
          record {
            to = λ j n is h. elim (r.to j n is h) [
              | inl x ↦ elim (judged_bad b a n there wrong x) [
                | inl y ↦ elim (Contains-append_cases m.wrong given_block.wrong (untaken_at n) y) [
                  | inl z ↦ inl z
                  | inr z ↦ absurd (near j n is (blocks_far a module_file given_block G n z))
                ]
                | inr (untaken, same) ↦
                    inr (target, inl (rises_one augments (augments_rise files marks) k j n (at ∙ ap (λ (z : ℕ). Some z) same) is, refl), subst (λ (z : ℕ). takes_block rows z target.kind ≡ false) same untaken)
              ]
              | inr (g, x, y) ↦ inr (g, inr ((on j g).1 x), y)
            ];
            from = λ j n is h. elim h [
              | inl x ↦ r.from j n is (inl (judged_kept b a there wrong (untaken_at n) (Contains-append_left m.wrong given_block.wrong (untaken_at n) x)))
              | inr (g, inl (same, node), y) ↦
                  let one : a ≡ n = same_Some a n (sym at ∙ (ap (slice_get augments) same ∙ is)) in
                  let untaken : b ≡ false = ap (λ (z : Node). takes_block rows a z.kind) node ∙ (ap (λ (z : ℕ). takes_block rows z g.kind) one ∙ y) in
                  r.from j n is (inl (subst (λ (z : ℕ). Contains (judge b a (record { nodes = there; wrong = wrong })).wrong (untaken_at z)) one (judged_new b a there wrong untaken)))
              | inr (g, inr x, y) ↦ r.from j n is (inr (g, (on j g).0 x, y))
            ];
          }
      round_blocks (round_misses module_file_is leads missed more) [] at = absurd at
      round_blocks (round_misses {module_file = module_file} {a = a} {m = m} {e = e} {there = there} module_file_is (row, row_at, leads) missed more) (k ∷ ks) (at, others) =
          let r = round_blocks more ks others in
          record {
            to = λ j n is h. elim (r.to j n is h) [
              | inl x ↦ elim (Contains-push_cases m.wrong _ (untaken_at n) x) [ inl y ↦ inl y | inr same ↦ absurd (not_untargeted a n same) ]
              | inr y ↦ inr y
            ];
            from = λ j n is h. r.from j n is (elim h [ inl x ↦ inl (Contains-append_left m.wrong (untargeted_at a ∷ []) (untaken_at n) x) | inr y ↦ inr y ]);
          }
      round_blocks (round_waits module_file_is nowhere more) [] at = absurd at
      round_blocks (round_waits {module_file = module_file} {a = a} {m = m} module_file_is (row, row_at, nowhere) more) (k ∷ ks) (at, others) = round_blocks more ks others

      never_waiting : (numbers : List ℕ) (n : ℕ) → Contains (map (λ z. untargeted_at z) numbers) (untaken_at n) → ⊥
      never_waiting [] n (i, l, is) = omega (arith, l)
      never_waiting (z ∷ numbers) n h = elim (Contains-append_cases (untargeted_at z ∷ []) (map (λ z. untargeted_at z) numbers) (untaken_at n) h) [
        | inl x ↦ elim (Contains-push_cases [] (untargeted_at z) (untaken_at n) x) [ inl (i, l, is) ↦ omega (arith, l) | inr same ↦ not_untargeted z n same ]
        | inr x ↦ never_waiting numbers n x
      ]

      rounds_blocks : {waiting : List ℕ} {m end : Product} → (R : Rounds files waiting m end) → (ks : List ℕ) → (at : AreAt ks waiting)
          → RefusesBlock m.wrong end.wrong (λ j g. AllAddTo (rounds_on R ks at) j g)
      unfolding rounds_on
      rounds_blocks {waiting = waiting} {m = m} (last_round R) ks at = record {
        to = λ k a is h. elim (Contains-append_cases m.wrong (map (λ n. untargeted_at n) waiting) (untaken_at a) h) [ inl x ↦ inl x | inr x ↦ absurd (never_waiting waiting a x) ];
        from = λ k a is h. elim h [ inl x ↦ Contains-append_left m.wrong (map (λ n. untargeted_at n) waiting) (untaken_at a) x | inr (g, y, z) ↦ absurd y ];
      }
      rounds_blocks (one_more_round R less more) ks at =
          let r = round_on R ks at in
          let x = round_blocks R ks at in
          let y = rounds_blocks more r.0 r.1 in
          record {
            to = λ k a is h. elim (y.to k a is h) [
              | inl z ↦ elim (x.to k a is z) [ inl u ↦ inl u | inr (g, u, v) ↦ inr (g, inl u, v) ]
              | inr (g, u, v) ↦ inr (g, inr u, v)
            ];
            from = λ k a is h. y.from k a is (elim h [
              | inl z ↦ inl (x.from k a is (inl z))
              | inr (g, inl u, v) ↦ inl (x.from k a is (inr (g, u, v)))
              | inr (g, inr u, v) ↦ inr (g, u, v)
            ]);
          }

      -- it is refused so exactly where it adds to an item that doesn't take its block
      pub block_refused : (m : Product) (new : State) → (E : Expand files marks order m) → AreAugmented w items new
          → ((b : ℕ) → Contains E.own.wrong (untaken_at b) → far b)
          → (k a : ℕ) → slice_get augments k ≡ Some a
          → (Contains m.wrong (untaken_at a) → (i : ℕ) × (turns.target_of labels new.ends k ≡ Some i) × (takes_block rows a (its.node_of i).kind ≡ false))
          × ((i : ℕ) → turns.target_of labels new.ends k ≡ Some i → takes_block rows a (its.node_of i).kind ≡ false → Contains m.wrong (untaken_at a))
      block_refused m new E grafted own_far k a is =
          let at = at_places (λ b. path_in w (own_module_file w.files (slice_get w.rows b)) b) 0 augments (λ j. ap (slice_get augments) (let e : j ≡ 0 + j = omega arith in e)) in
          let R = rounds_on E.rounds (places_from 0 paths) at in
          let ts = targets_of labels its (labels_tell w items its tells.told) (giver_of w items) givers number path block first last paths places st new (between E.own E.tops)
          (all_wait st 0 paths (λ j l h. none_yet j (let e = many_paths in omega (arith, h, e)))) R
          (subst (λ s. AreApplied labels 0 paths s new) (start_is files marks order own items its given expanded tells one_meant) grafted.applied) in
          let wrongs = rounds_blocks E.rounds (places_from 0 paths) at in (
            (λ h. elim (wrongs.to k a is h) [
              | inl x ↦ absurd (near k a is (own_far a x))
              | inr (g, x, y) ↦ (let r = ts.2 k g x in (r.0, r.1, ap (λ (z : Node). takes_block rows a z.kind) (sym r.2) ∙ y))
            ]),
            (λ i refine_targets untaken. elim (rounds_sort R k (place_in paths k (let less = slice_get_within augments k a is in let e = many_paths in omega (arith, less, e)))) [
              | inl missed ↦ absurd (not_none (sym (ts.0 k missed) ∙ refine_targets))
              | inr added ↦
                  let to = all_added_to R k added in
                  let r = ts.2 k to.0 to.1 in
                  let same : r.0 ≡ i = same_Some r.0 i (sym r.1 ∙ refine_targets) in
                  wrongs.from k a is (inr (to.0, to.1, ap (λ (z : Node). takes_block rows a z.kind) r.2 ∙ (ap (λ (n : ℕ). takes_block rows a (its.node_of n).kind) same ∙ untaken)))
            ]),
          )

    -- an augment of a module has no target exactly where it is refused so
    pub target_refused : (m : Product) (new : State) → (E : Expand files marks order m) → AreAugmented w items new
        → ((b : ℕ) → Contains E.own.wrong (untargeted_at b) → far b)
        → (k a : ℕ) → slice_get augments k ≡ Some a
        → (turns.target_of labels new.ends k ≡ None → Contains m.wrong (untargeted_at a)) × (Contains m.wrong (untargeted_at a) → turns.target_of labels new.ends k ≡ None)
    target_refused m new E grafted own_far k a is =
        let at = at_places (λ b. path_in w (own_module_file w.files (slice_get w.rows b)) b) 0 augments (λ j. ap (slice_get augments) (let e : j ≡ 0 + j = omega arith in e)) in
        let R = rounds_on E.rounds (places_from 0 paths) at in
        let ts = targets_of labels its (labels_tell w items its tells.told) (giver_of w items) givers number path block first last paths places st new (between E.own E.tops)
        (all_wait st 0 paths (λ j l h. none_yet j (let e = many_paths in omega (arith, h, e)))) R
        (subst (λ s. AreApplied labels 0 paths s new) (start_is files marks order own items its given expanded tells one_meant) grafted.applied) in
        let wrongs = rounds_wrong E.rounds (places_from 0 paths) at in (
          (λ none. elim (ts.1 k (place_in paths k (let less = slice_get_within augments k a is in let e = many_paths in omega (arith, less, e)))) [
            | inl x ↦ wrongs.from k a is (inr x)
            | inr x ↦ absurd (not_none (sym none ∙ x.1))
          ]),
          (λ h. elim (wrongs.to k a is h) [ inl x ↦ absurd (near k a is (own_far a x)) | inr x ↦ ts.0 k x ]),
        )

pub files_show : (files : Files) → RefersToOne files → FilesShow files
files_show files one_meant marks order own items its m st given expanded tells E grafted = whole_shows files marks order own items its given expanded tells one_meant m st E grafted
