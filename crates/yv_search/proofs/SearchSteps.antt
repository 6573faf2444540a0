-- The search of the code, as it passes wants and takes files.
use Rattle.std.proofs.Common.{◌≡◌, ◌<◌, ◌≤◌, ◌+◌, ◌||◌, ◌&&◌, ◌∙◌, ℕ, zero, suc, List, [], ◌∷◌, ◌++◌, Bool, true, false, cond, not, refl, sym, ap, subst, map, take, length, append_assoc, arith, Option, Some, None}
use Rattle.std.specs.List.{slice_get, cons_option, find, list_all}
use Rattle.std.specs.Option.{option_map}
use Rattle.std.specs.Str.{bytes_eq}
use Rattle.std.specs.BTreeSet.{contains_text}
use Rattle.std.proofs.lemmas.List.{append-nil, take_all, take-append-le, length-append, length-map}
use Rattle.std.proofs.lemmas.List.Folds.{list_all-append, list_any-append}
use Rattle.std.proofs.lemmas.Option.{same_Some, slice_get_within}
use Rattle.std.proofs.lemmas.Slice.Eq.{bytes_eq-Decides}
use Rattle.std.proofs.lemmas.Bool.{false≢true}
use Rattle.yv_text_statement.specs.Words.{is_among}
use Rattle.yv_search.specs.Listing.{ListedFile}
use Rattle.yv_search.specs.Wants.{Want}
use Rattle.yv_search.specs.Choice.{Candidate, choice_of}
use Rattle.yv_search.specs.Search.{RootedFile, State, next, seek, with_file, wants_of, all_wants, root_name, root_names, is_settled}
use Rattle.yv_search.specs.InnerWants.{want}
use Rattle.yv_search.specs.InnerIndex.{group_of}
use Rattle.yv_search.specs.InnerSearch.{IsAt, TriesWant, Tries, Comes, Finds, was_settled, no_file, a_file, past, next_file}
use Rattle.yv_search.specs.declared.search.Search.{Search}
use Rattle.yv_search.proofs.ListSteps.{take_next}

-- tests of lists

and_first : (a b : Bool) → (a && b) ≡ true → a ≡ true
and_first true b e = refl
and_first false b e = e

and_second : (a b : Bool) → (a && b) ≡ true → b ≡ true
and_second true b e = e
and_second false b e = absurd (false≢true e)

and_both : (a b : Bool) → a ≡ true → b ≡ true → (a && b) ≡ true
and_both a b e h = ap (λ v. v && b) e ∙ h

or_second : (a b : Bool) → b ≡ true → (a || b) ≡ true
or_second true b e = refl
or_second false b e = e

module _ {X : Type 0} (q : X → Bool) where
  pub find_first : (xs : List X) (k : ℕ) (x : X) → list_all q (take k xs) ≡ true → slice_get xs k ≡ Some x → q x ≡ false → find (λ y. not (q y)) xs ≡ Some x
  find_first [] k x a at e = cc
  find_first (y ∷ ys) zero x a at e =
      let same : y ≡ x = same_Some y x at in
      ap (λ (z : X). cond (not (q z)) (Some z) (find (λ w. not (q w)) ys)) same ∙ ap (λ b. cond (not b) (Some x) (find (λ w. not (q w)) ys)) e
  find_first (y ∷ ys) (suc k) x a at e =
      ap (λ b. cond (not b) (Some y) (find (λ w. not (q w)) ys)) (and_first (q y) (list_all q (take k ys)) a)
      ∙ find_first ys k x (and_second (q y) (list_all q (take k ys)) a) at e

  pub find_none : (xs : List X) → list_all q xs ≡ true → find (λ y. not (q y)) xs ≡ None
  find_none [] a = refl
  find_none (y ∷ ys) a = ap (λ b. cond (not b) (Some y) (find (λ w. not (q w)) ys)) (and_first (q y) (list_all q ys) a) ∙ find_none ys (and_second (q y) (list_all q ys) a)

  pub all_more : (xs : List X) (k : ℕ) (x : X) → list_all q (take k xs) ≡ true → slice_get xs k ≡ Some x → q x ≡ true → list_all q (take (k + 1) xs) ≡ true
  all_more xs k x a at e =
      ap (list_all q) (take_next xs k x at) ∙ list_all-append q (take k xs) (x ∷ [])
      ∙ and_both (list_all q (take k xs)) (list_all q (x ∷ [])) a (and_both (q x) true e refl)

pub all_weaker : {X : Type 0} (p q : X → Bool) (xs : List X) → ((x : X) → p x ≡ true → q x ≡ true) → list_all p xs ≡ true → list_all q xs ≡ true
all_weaker p q [] h a = refl
all_weaker p q (x ∷ xs) h a = and_both (q x) (list_all q xs) (h x (and_first (p x) (list_all p xs) a)) (all_weaker p q xs h (and_second (p x) (list_all p xs) a))

-- names that are settled

swap : (r s b : Bool) → (r || (s || (b || false))) ≡ (b || (r || s))
swap true true true = refl
swap true true false = refl
swap true false true = refl
swap true false false = refl
swap false true true = refl
swap false true false = refl
swap false false true = refl
swap false false false = refl

swap_front : (r m s : Bool) → ((r || m) || s) ≡ (m || (r || s))
swap_front true true s = refl
swap_front true false s = refl
swap_front false true s = refl
swap_front false false s = refl

pub settled_seek : (s : State) (m q : List ℕ) → is_settled (seek s m) q ≡ (bytes_eq m q || is_settled s q)
settled_seek s m q =
    ap (λ v. is_among (root_names s.files) q || v) (list_any-append (λ word. bytes_eq word q) s.sought (m ∷ []))
    ∙ swap (is_among (root_names s.files) q) (is_among s.sought q) (bytes_eq m q)

root_names-append : (fs : List RootedFile) (f : RootedFile) → root_names (fs ++ f ∷ []) ≡ root_names fs ++ cons_option (root_name f.root) []
root_names-append [] f = refl
root_names-append (g ∷ gs) f = ap (cons_option (root_name g.root)) (root_names-append gs f) ∙ push (root_name g.root) (root_names gs) (cons_option (root_name f.root) [])
  where
    push : (o : Option (List ℕ)) (xs ys : List (List ℕ)) → cons_option o (xs ++ ys) ≡ cons_option o xs ++ ys
    push None xs ys = refl
    push (Some x) xs ys = refl

pub settled_file : (s : State) (f : RootedFile) (q : List ℕ) → is_settled (with_file s f) q ≡ (is_among (cons_option (root_name f.root) []) q || is_settled s q)
settled_file s f q =
    ap (λ names. is_among names q || is_among s.sought q) (root_names-append s.files f)
    ∙ ap (λ v. v || is_among s.sought q) (list_any-append (λ word. bytes_eq word q) (root_names s.files) (cons_option (root_name f.root) []))
    ∙ swap_front (is_among (root_names s.files) q) (is_among (cons_option (root_name f.root) []) q) (is_among s.sought q)

all_wants-append : (fs : List RootedFile) (f : RootedFile) → all_wants (fs ++ f ∷ []) ≡ all_wants fs ++ wants_of f.root
all_wants-append [] f = append-nil (wants_of f.root)
all_wants-append (g ∷ gs) f = ap (λ l. wants_of g.root ++ l) (all_wants-append gs f) ∙ sym (append_assoc (wants_of g.root) (all_wants gs) (wants_of f.root))

-- a search takes one more file
pub file_taken : (listing : List ListedFile) (old new : Search) (s : State) (f : RootedFile) → IsAt listing old s
    → new.index ≡ old.index → new.cursor ≡ old.cursor → map want new.wants.items ≡ map want old.wants.items ++ wants_of f.root
    → ((q : List ℕ) → contains_text new.settled q ≡ (is_among (cons_option (root_name f.root) []) q || contains_text old.settled q))
    → IsAt listing new (with_file s f)
file_taken listing old new s f at index cursor more settles =
    let wants : all_wants (with_file s f).files ≡ all_wants s.files ++ wants_of f.root = all_wants-append s.files f in
    let settled : (q : List ℕ) → is_settled s q ≡ true → is_settled (with_file s f) q ≡ true = λ q h. settled_file s f q ∙ or_second (is_among (cons_option (root_name f.root) []) q) (is_settled s q) h in
    record {
      index = λ q. ap (λ i. group_of i q) index ∙ at.index q;
      wants = more ∙ ap (λ l. l ++ wants_of f.root) at.wants ∙ sym wants;
      settled = λ q. settles q ∙ ap (λ v. is_among (cons_option (root_name f.root) []) q || v) (at.settled q) ∙ sym (settled_file s f q);
      within = omega (arith, cursor, at.within, ap length wants, length-append (all_wants s.files) (wants_of f.root));
      passed =
          ap (λ k. list_all (λ (w : Want). is_settled (with_file s f) w.name) (take k (all_wants (with_file s f).files))) cursor
          ∙ ap (λ l. list_all (λ (w : Want). is_settled (with_file s f) w.name) (take old.cursor l)) wants
          ∙ ap (list_all (λ (w : Want). is_settled (with_file s f) w.name)) (take-append-le old.cursor (all_wants s.files) (wants_of f.root) at.within)
          ∙ all_weaker (λ (w : Want). is_settled s w.name) (λ (w : Want). is_settled (with_file s f) w.name) (take old.cursor (all_wants s.files)) (λ w h. settled w.name h) at.passed;
    }

-- the next want is passed
pub want_tried : (listing : List ListedFile) (old new : Search) (s : State) (w : Want) (found : Option ListedFile) → IsAt listing old s
    → new.index ≡ old.index → new.wants ≡ old.wants → new.cursor ≡ old.cursor + 1 → slice_get (map want old.wants.items) old.cursor ≡ Some w
    → TriesWant listing w (contains_text old.settled) (contains_text new.settled) found → Tries listing s new found
want_tried listing old new s w found at index wants cursor item tried = by (is_settled s w.name) refl
  where
    here : slice_get (all_wants s.files) old.cursor ≡ Some w
    here = ap (λ l. slice_get l old.cursor) (sym at.wants) ∙ item

    inside : old.cursor < length (all_wants s.files)
    inside = slice_get_within (all_wants s.files) old.cursor w here

    after : (t : State) → t.files ≡ s.files → ((q : List ℕ) → contains_text new.settled q ≡ is_settled t q) → ((q : List ℕ) → is_settled s q ≡ true → is_settled t q ≡ true) → is_settled t w.name ≡ true → IsAt listing new t
    after t files settled more this = record {
      index = λ q. ap (λ i. group_of i q) index ∙ at.index q;
      wants = ap (λ l. map want l.items) wants ∙ at.wants ∙ ap all_wants (sym files);
      settled = settled;
      within = omega (arith, cursor, inside, ap (λ l. length (all_wants l)) files);
      passed =
          ap (λ k. list_all (λ (v : Want). is_settled t v.name) (take k (all_wants t.files))) cursor
          ∙ ap (λ l. list_all (λ (v : Want). is_settled t v.name) (take (old.cursor + 1) (all_wants l))) files
          ∙ all_more (λ (v : Want). is_settled t v.name) (all_wants s.files) old.cursor w (all_weaker (λ (v : Want). is_settled s v.name) (λ (v : Want). is_settled t v.name) (take old.cursor (all_wants s.files)) (λ v h. more v.name h) at.passed) here this;
    }

    stays : is_settled s w.name ≡ true → (q : List ℕ) → (bytes_eq w.name q || is_settled s q) ≡ is_settled s q
    stays e q = same (bytes_eq w.name q) refl
      where
        same : (b : Bool) → bytes_eq w.name q ≡ b → (b || is_settled s q) ≡ is_settled s q
        same true h = sym (subst (λ (n : List ℕ). is_settled s n ≡ true) ((bytes_eq-Decides w.name q).0 h) e)
        same false h = refl

    settles : (q : List ℕ) → contains_text new.settled q ≡ (bytes_eq w.name q || is_settled s q)
    settles q = tried.settles q ∙ ap (λ v. bytes_eq w.name q || v) (at.settled q)

    sought : IsAt listing new (seek s w.name)
    sought = after (seek s w.name) refl (λ q. settles q ∙ sym (settled_seek s w.name q)) (λ q h. settled_seek s w.name q ∙ or_second (bytes_eq w.name q) (is_settled s q) h)
        (settled_seek s w.name w.name ∙ ap (λ v. v || is_settled s w.name) ((bytes_eq-Decides w.name w.name).1 refl))

    first : is_settled s w.name ≡ false → next s ≡ Some w
    first e = find_first (λ (v : Want). is_settled s v.name) (all_wants s.files) old.cursor w at.passed here e

    open_file : is_settled s w.name ≡ false → (o : Option Candidate) → choice_of w listing ≡ o → Tries listing s new (option_map (λ (c : Candidate). c.file) o)
    open_file e None is = no_file w (first e) is sought
    open_file e (Some c) is = a_file w c (record { next = first e; chosen = is }) sought

    by : (b : Bool) → is_settled s w.name ≡ b → Tries listing s new found
    by true e = subst (λ (o : Option ListedFile). Tries listing s new o) (sym (tried.known (at.settled w.name ∙ e))) (was_settled (after s refl (λ q. settles q ∙ stays e q) (λ q h. h) e))
    by false e = subst (λ (o : Option ListedFile). Tries listing s new o) (sym (tried.chosen (at.settled w.name ∙ e))) (open_file e (choice_of w listing) refl)

-- no want is left
pub none_left : (listing : List ListedFile) (search : Search) (s : State) → IsAt listing search s → length search.wants.items ≤ search.cursor → next s ≡ None
none_left listing search s at all =
    find_none (λ (w : Want). is_settled s w.name) (all_wants s.files)
    (ap (list_all (λ (w : Want). is_settled s w.name)) (sym whole) ∙ at.passed)
  where
    size : length (all_wants s.files) ≤ search.cursor
    size = omega (arith, all, ap length at.wants, length-map search.wants.items want)

    whole : take search.cursor (all_wants s.files) ≡ all_wants s.files
    whole = take_all search.cursor (all_wants s.files) size

-- a want without a file was passed, or one that is settled
pub comes_on : (listing : List ListedFile) (start : State) (old new : Search) (found : Option ListedFile) → Comes listing start old
    → ((s : State) → IsAt listing old s → Tries listing s new found) → found ≡ None → Comes listing start new
comes_on listing start old new found comes tries none = by found (tries comes.state comes.at) none
  where
    by : (o : Option ListedFile) → Tries listing comes.state new o → o ≡ None → Comes listing start new
    by _ (was_settled at) e = record { state = comes.state; passes = comes.passes; at = at }
    by _ (no_file w n c at) e = record { state = seek comes.state w.name; passes = past comes.state w comes.passes n c; at = at }
    by _ (a_file w c asks at) e = absurd (cc)

-- a file was found
pub finds_file : (listing : List ListedFile) (start : State) (old new : Search) (found : Option ListedFile) (f : ListedFile) → Comes listing start old
    → ((s : State) → IsAt listing old s → Tries listing s new found) → found ≡ Some f → Finds listing start new (Some f)
finds_file listing start old new found f comes tries some = by found (tries comes.state comes.at) some
  where
    by : (o : Option ListedFile) → Tries listing comes.state new o → o ≡ Some f → Finds listing start new (Some f)
    by _ (was_settled at) e = absurd (cc)
    by _ (no_file w n c at) e = absurd (cc)
    by _ (a_file w c asks at) e = subst (λ (o : Option ListedFile). Finds listing start new o) e (next_file comes.state w c comes.passes asks at)
