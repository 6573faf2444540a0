-- Which files are given, and in which order.
use Rattle.std.proofs.Common.{inl, inr, ◌⊎◌, ◌≡◌, ℕ, zero, suc, ◌+◌, ◌<◌, ◌≤◌, ◌==◌, ◌&&◌, Bool, true, false, if◌then◌else◌, List, [], ◌∷◌, ◌++◌, map, take, drop, length, get_or, Option, Some, None, refl, sym, ap, ◌∙◌, arith, append-nil, append_assoc}
use Rattle.std.specs.List.{slice_get}
use Rattle.std.specs.Option.{option_map, unwrap_or}
use Rattle.std.proofs.lemmas.List.{drop_all, take-append-drop, drop_more}
use Rattle.std.proofs.lemmas.Option.{same_Some, slice_get_within, slice_get-map, slice_get-get_or, slice_get_read, get_or_from_slice_get}
use Rattle.std.proofs.lemmas.Bool.{eq-eqb, eqb-true, false≢true}
use Rattle.yv_text_statement.specs.Tree.{Tree}
use Rattle.yv_text_statement.specs.Selection.{ModuleChoice, is_implemented}
use Rattle.yv_base_tables.specs.Families.{by_place, is_place, numbers_at, numbers_from}
use Rattle.yv_link_scopes.specs.Files.{Brief, Briefs, Files, brief, brief_of, module_file_at, module_file_in, is_module, file_named, tree_name}
use Rattle.yv_link_scopes.specs.declared.files.File.{File}
use Rattle.yv_expand_statements.specs.FileOrder.{is_given, marks_of, order_from, order_of, part_places, places_from}

pub take_whole : {X : Type 0} (xs : List X) (i : ℕ) → length xs ≤ i → take i xs ≡ xs
take_whole {X} xs i h = sym (append-nil (take i xs)) ∙ ap (λ (ys : List X). take i xs ++ ys) (sym (drop_all i xs h)) ∙ take-append-drop i xs

module _ (choice : ModuleChoice) where
  of_files : (files : List File) → map (λ (b : Brief). is_implemented choice b.module_name) (map brief files) ≡ map (λ (f : File). is_implemented choice f.module_name.now) files
  of_files [] = refl
  of_files (f ∷ files) = ap (λ (bs : List Bool). is_implemented choice f.module_name.now ∷ bs) (of_files files)

  of_roots : (lent : Files) → map (λ (b : Brief). is_implemented choice b.module_name) (map brief_of lent) ≡ marks_of choice lent
  of_roots [] = refl
  of_roots (t ∷ lent) = ap (λ (bs : List Bool). is_implemented choice (brief_of t).module_name ∷ bs) (of_roots lent)

  -- the files tell which modules are implemented
  pub files_given : (files : List File) (lent : Files) → map brief files ≡ map brief_of lent
      → map (λ (f : File). is_implemented choice f.module_name.now) files ≡ marks_of choice lent
  files_given files lent same = sym (of_files files) ∙ ap (map (λ (b : Brief). is_implemented choice b.module_name)) same ∙ of_roots lent

module _ (briefs : Briefs) where
  -- the place of one file more
  places_more : (ts : Files) (m n : ℕ) → m < length ts
      → places_from briefs n (drop m ts) ≡ (if module_file_at briefs n == n then None else Some (module_file_at briefs n)) ∷ places_from briefs (n + 1) (drop (suc m) ts)
  places_more [] m n lt = absurd (omega (arith, lt))
  places_more (t ∷ ts) zero n lt = refl
  places_more (t ∷ ts) (suc m) n lt = places_more ts m n (omega (arith, lt))

  abbrev place_of : (n : ℕ) → Option ℕ
  place_of n = if module_file_at briefs n == n then None else Some (module_file_at briefs n)

  pub places_step : (files : Files) (n : ℕ) (place : Option ℕ) (old new whole : List (Option ℕ)) → n < length files
      → place ≡ (if module_file_at briefs n == n then None else Some (module_file_at briefs n))
      → new ≡ old ++ place ∷ [] → old ++ places_from briefs n (drop n files) ≡ whole → new ++ places_from briefs (n + 1) (drop (n + 1) files) ≡ whole
  places_step files n place old new whole lt is now before =
      let rest : List (Option ℕ) = places_from briefs (n + 1) (drop (n + 1) files) in
      let next : n + 1 ≡ suc n = omega arith in
      ap (λ (l : List (Option ℕ)). l ++ rest) now
      ∙ append_assoc old (place ∷ []) rest
      ∙ ap (λ (o : Option ℕ). old ++ o ∷ rest) is
      ∙ ap (λ (k : ℕ). old ++ place_of n ∷ places_from briefs (n + 1) (drop k files)) next
      ∙ ap (λ (l : List (Option ℕ)). old ++ l) (sym (places_more files n n lt))
      ∙ before

  pub places_all : (files : Files) (n : ℕ) (all whole : List (Option ℕ)) → length files ≤ n → all ++ places_from briefs n (drop n files) ≡ whole → all ≡ whole
  places_all files n all whole past h =
      sym (append-nil all) ∙ ap (λ (ts : Files). all ++ places_from briefs n ts) (sym (drop_all n files past)) ∙ h

-- what stands from a place on
pub rest_of : {A : Type 0} (xs : List A) (i : ℕ) (x : A) → slice_get xs i ≡ Some x → drop i xs ≡ x ∷ drop (i + 1) xs
rest_of xs i x at = drop_more xs i x (slice_get_within xs i x at) ∙ ap (λ z. z ∷ drop (i + 1) xs) (get_or_from_slice_get xs i x x at)

pub and_first : (a b : Bool) → (a && b) ≡ true → a ≡ true
and_first true b e = refl
and_first false b e = e

-- no number stands twice in a list
abbrev pub StandOnce : List ℕ → Type 0
StandOnce xs = (i k n : ℕ) → slice_get xs i ≡ Some n → slice_get xs k ≡ Some n → i ≡ k

abbrev pub Each : (ℕ → Type 0) → List ℕ → Type 0
Each P xs = (i n : ℕ) → slice_get xs i ≡ Some n → P n

once_none : StandOnce []
once_none i k n p q = absurd (let bad : None ≡ Some n = p in cc)

once_more : (x : ℕ) (xs : List ℕ) → ((i : ℕ) → slice_get xs i ≡ Some x → ⊥) → StandOnce xs → StandOnce (x ∷ xs)
once_more x xs apart once zero zero n p q = refl
once_more x xs apart once zero (suc k) n p q = absurd (apart k (q ∙ sym p))
once_more x xs apart once (suc i) zero n p q = absurd (apart i (p ∙ sym q))
once_more x xs apart once (suc i) (suc k) n p q = ap suc (once i k n p q)

-- one of the elements of two lists is one of either
in_either : (xs ys : List ℕ) (i n : ℕ) → slice_get (xs ++ ys) i ≡ Some n → ((j : ℕ) × (slice_get xs j ≡ Some n)) ⊎ ((j : ℕ) × (slice_get ys j ≡ Some n))
in_either [] ys i n at = inr (i, at)
in_either (x ∷ xs) ys zero n at = inl (0, at)
in_either (x ∷ xs) ys (suc i) n at = elim (in_either xs ys i n at) [ inl h ↦ inl (suc h.0, h.1) | inr h ↦ inr h ]

once_both : (xs ys : List ℕ) → ((i k n : ℕ) → slice_get xs i ≡ Some n → slice_get ys k ≡ Some n → ⊥) → StandOnce xs → StandOnce ys → StandOnce (xs ++ ys)
once_both [] ys apart p q = q
once_both (x ∷ xs) ys apart p q =
    once_more x (xs ++ ys)
    (λ i at. elim (in_either xs ys i x at) [
      | inl h ↦ (let bad : 0 ≡ suc h.0 = p 0 (suc h.0) x refl h.1 in omega (arith, bad))
      | inr h ↦ apart 0 h.0 x refl h.1
    ])
    (once_both xs ys (λ i k n at there. apart (suc i) k n at there) (λ i k n at there. (let e : suc i ≡ suc k = p (suc i) (suc k) n at there in omega (arith, e))) q)

pub each_both : (P : ℕ → Type 0) (xs ys : List ℕ) → Each P xs → Each P ys → Each P (xs ++ ys)
each_both P xs ys p q i n at = elim (in_either xs ys i n at) [ inl h ↦ p h.0 n h.1 | inr h ↦ q h.0 n h.1 ]

-- the numbers of a place come one after the other, and each has that place
module _ (place : ℕ) where
  abbrev HasPlace : (from : ℕ) (ps : List (Option ℕ)) → ℕ → Type 0
  HasPlace from ps n = (k : ℕ) × (n ≡ from + k) × (slice_get ps k ≡ Some (Some place))

  own_place : (o : Option ℕ) → is_place place o ≡ true → o ≡ Some place
  own_place None e = absurd (false≢true e)
  own_place (Some q) e = ap (λ (m : ℕ). Some m) (eqb-true q place e)

  placed_more : (from : ℕ) (p : Option ℕ) (ps : List (Option ℕ)) (b : Bool) → is_place place p ≡ b → Each (HasPlace (from + 1) ps) (numbers_from place (from + 1) ps)
      → Each (HasPlace from (p ∷ ps)) (if b then from ∷ numbers_from place (from + 1) ps else numbers_from place (from + 1) ps)
  placed_more from p ps true e rest zero n at = (0, (let same : from ≡ n = same_Some from n at in omega (arith, same)), ap (λ (o : Option ℕ). Some o) (own_place p e))
  placed_more from p ps true e rest (suc i) n at = (let h = rest i n at in (suc h.0, omega (arith, h.1), h.2))
  placed_more from p ps false e rest i n at = (let h = rest i n at in (suc h.0, omega (arith, h.1), h.2))

  placed : (from : ℕ) (ps : List (Option ℕ)) → Each (HasPlace from ps) (numbers_from place from ps)
  placed from [] = λ i n at. absurd (let bad : None ≡ Some n = at in cc)
  placed from (p ∷ ps) = placed_more from p ps (is_place place p) refl (placed (from + 1) ps)

  once_placed : (from : ℕ) (ps : List (Option ℕ)) → StandOnce (numbers_from place from ps)
  once_placed from [] = once_none
  once_placed from (p ∷ ps) = by (is_place place p) (once_placed (from + 1) ps)
    where
      by : (b : Bool) → StandOnce (numbers_from place (from + 1) ps)
          → StandOnce (if b then from ∷ numbers_from place (from + 1) ps else numbers_from place (from + 1) ps)
      by true h = once_more from (numbers_from place (from + 1) ps) (λ i at. (let p = placed (from + 1) ps i from at in omega (arith, p.1))) h
      by false h = h

-- a file of the order is a module's own, from this one on, or belongs to one of these
module _ (places : List (Option ℕ)) where
  abbrev IsOrdered : (first : ℕ) → ℕ → Type 0
  IsOrdered m n = ((m ≤ n) × (slice_get places n ≡ Some None)) ⊎ ((p : ℕ) × (m ≤ p) × (slice_get places n ≡ Some (Some p)))

  later : (m n : ℕ) → IsOrdered (m + 1) n → IsOrdered m n
  later m n (inl h) = inl (omega (arith, h.0), h.1)
  later m n (inr h) = inr (h.0, omega (arith, h.1), h.2)

  at_place : (m : ℕ) → Each (λ n. slice_get places n ≡ Some (Some m)) (numbers_at places m)
  at_place m i n at = (let h = placed m 0 places i n at in ap (slice_get places) (let e : n ≡ h.0 = omega (arith, h.1) in e) ∙ h.2)

  -- a module's own file and those that belong to it
  abbrev family : ℕ → List ℕ
  family m = m ∷ numbers_at places m

  family_once : (m : ℕ) → slice_get places m ≡ Some None → StandOnce (family m)
  family_once m own =
      once_more m (numbers_at places m)
      (λ i at. (let bad : Some None ≡ Some (Some m) = sym own ∙ at_place m i m at in cc))
      (once_placed m 0 places)

  family_ordered : (m : ℕ) → slice_get places m ≡ Some None → Each (IsOrdered m) (family m)
  family_ordered m own zero n at = inl (let same : m ≡ n = same_Some m n at in (omega (arith, same), ap (slice_get places) (sym same) ∙ own))
  family_ordered m own (suc i) n at = inr (m, omega arith, at_place m i n at)

  -- nothing of it is of a later one
  family_apart : (m n : ℕ) → slice_get places m ≡ Some None → (i : ℕ) → slice_get (family m) i ≡ Some n → IsOrdered (m + 1) n → ⊥
  family_apart m n own zero at (inl h) = (let same : m ≡ n = same_Some m n at in omega (arith, h.0, same))
  family_apart m n own zero at (inr h) =
      (let same : m ≡ n = same_Some m n at in let bad : Some None ≡ Some (Some h.0) = sym own ∙ ap (slice_get places) same ∙ h.2 in cc)
  family_apart m n own (suc i) at (inl h) = (let bad : Some (Some m) ≡ Some None = sym (at_place m i n at) ∙ h.1 in cc)
  family_apart m n own (suc i) at (inr h) =
      (let bad : m ≡ h.0 = same_Some m h.0 (same_Some (Some m) (Some h.0) (sym (at_place m i n at) ∙ h.2)) in omega (arith, h.1, bad))

  module _ (choice : ModuleChoice) where
    abbrev OwnAt : ℕ → Files → Type 0
    OwnAt m ts = (k : ℕ) (t : Tree) → slice_get ts k ≡ Some t → is_given choice t ≡ true → slice_get places (m + k) ≡ Some None

    own_later : (m : ℕ) (t : Tree) (ts : Files) → OwnAt m (t ∷ ts) → OwnAt (m + 1) ts
    own_later m t ts own k u at is = ap (slice_get places) (let e : m + 1 + k ≡ m + suc k = omega arith in e) ∙ own (suc k) u at is

    own_first : (m : ℕ) (t : Tree) (ts : Files) → OwnAt m (t ∷ ts) → is_given choice t ≡ true → slice_get places m ≡ Some None
    own_first m t ts own is = ap (slice_get places) (let e : m ≡ m + 0 = omega arith in e) ∙ own 0 t refl is

    ordered_from : (m : ℕ) (ts : Files) → OwnAt m ts → Each (IsOrdered m) (order_from choice places m ts)
    ordered_from m [] own = λ i n at. absurd (let bad : None ≡ Some n = at in cc)
    ordered_from m (t ∷ ts) own = by (is_given choice t) refl (ordered_from (m + 1) ts (own_later m t ts own))
      where
        by : (b : Bool) → is_given choice t ≡ b → Each (IsOrdered (m + 1)) (order_from choice places (m + 1) ts)
            → Each (IsOrdered m) ((if b then family m else []) ++ order_from choice places (m + 1) ts)
        by true is h =
            each_both (IsOrdered m) (family m) (order_from choice places (m + 1) ts) (family_ordered m (own_first m t ts own is)) (λ i n at. later m n (h i n at))
        by false is h = λ i n at. later m n (h i n at)

    once_from : (m : ℕ) (ts : Files) → OwnAt m ts → StandOnce (order_from choice places m ts)
    once_from m [] own = once_none
    once_from m (t ∷ ts) own = by (is_given choice t) refl (once_from (m + 1) ts (own_later m t ts own))
      where
        by : (b : Bool) → is_given choice t ≡ b → StandOnce (order_from choice places (m + 1) ts)
            → StandOnce ((if b then family m else []) ++ order_from choice places (m + 1) ts)
        by true is h =
            let mine : slice_get places m ≡ Some None = own_first m t ts own is in
            once_both (family m) (order_from choice places (m + 1) ts)
            (λ i k n at there. family_apart m n mine i at (ordered_from (m + 1) ts (own_later m t ts own) k n there)) (family_once m mine) h
        by false is h = h

length_places : (briefs : Briefs) (n : ℕ) (ts : Files) → length (places_from briefs n ts) ≡ length ts
length_places briefs n [] = refl
length_places briefs n (t ∷ ts) = ap suc (length_places briefs (n + 1) ts)

place_at : (briefs : Briefs) (n k : ℕ) (t : Tree) (ts : Files) → slice_get ts k ≡ Some t
    → slice_get (places_from briefs n ts) k ≡ Some (if module_file_at briefs (n + k) == n + k then None else Some (module_file_at briefs (n + k)))
place_at briefs n k t [] at = absurd (let bad : None ≡ Some t = at in cc)
place_at briefs n zero t (u ∷ ts) at =
    ap (λ (m : ℕ). Some (if module_file_at briefs m == m then None else Some (module_file_at briefs m))) (omega arith)
place_at briefs n (suc k) t (u ∷ ts) at =
    place_at briefs (n + 1) k t ts at ∙ ap (λ (m : ℕ). Some (if module_file_at briefs m == m then None else Some (module_file_at briefs m))) (omega arith)

module _ (choice : ModuleChoice) (files : Files) where
  -- a module's file is its own
  own_module_file : (k : ℕ) (t : Tree) → slice_get files k ≡ Some t → is_given choice t ≡ true → module_file_at (map brief_of files) k ≡ k
  own_module_file k t at is =
      ap (module_file_in (map brief_of files) k) (slice_get-map brief_of files k ∙ ap (option_map brief_of) at)
      ∙ ap (λ (b : Bool). if b then k else unwrap_or (file_named (map brief_of files) (brief_of t).module_name) k) (and_first (is_module t) (is_implemented choice (tree_name t)) is)

  own_at : OwnAt (part_places files) choice 0 files
  own_at k t at is =
      let h : module_file_at (map brief_of files) (0 + k) ≡ 0 + k = ap (module_file_at (map brief_of files)) (omega arith) ∙ own_module_file k t at is ∙ omega arith in
      ap (slice_get (part_places files)) (omega arith)
      ∙ place_at (map brief_of files) 0 k t files at
      ∙ ap (λ (b : Bool). Some (if b then None else Some (module_file_at (map brief_of files) (0 + k)))) (eq-eqb (module_file_at (map brief_of files) (0 + k)) (0 + k) h)

  pub order_once : StandOnce (order_of choice files)
  order_once = once_from (part_places files) choice 0 files own_at

  -- the order lists files
  pub order_within : (i n : ℕ) → slice_get (order_of choice files) i ≡ Some n → n < length files
  order_within i n at = elim (ordered_from (part_places files) choice 0 files own_at i n at) [
    | inl h ↦ (let l = slice_get_within (part_places files) n None h.1 in omega (arith, l, length_places (map brief_of files) 0 files))
    | inr h ↦ (let l = slice_get_within (part_places files) n (Some h.0) h.2 in omega (arith, l, length_places (map brief_of files) 0 files))
  ]

-- what an order of files gives, file by file
module _ (choice : ModuleChoice) (places : List (Option ℕ)) where
  pub order_step : (files : Files) (m : ℕ) (t : Tree) (given : Bool) (parts old new whole : List ℕ) → slice_get files m ≡ Some t → given ≡ is_given choice t
      → parts ≡ numbers_at places m → new ≡ old ++ (if given then m ∷ parts else []) → old ++ order_from choice places m (drop m files) ≡ whole
      → new ++ order_from choice places (m + 1) (drop (m + 1) files) ≡ whole
  order_step files m t given parts old new whole at is are now before =
      let rest : List ℕ = order_from choice places (m + 1) (drop (m + 1) files) in
      ap (λ (l : List ℕ). l ++ rest) now
      ∙ append_assoc old (if given then m ∷ parts else []) rest
      ∙ ap (λ (b : Bool). old ++ ((if b then m ∷ parts else []) ++ rest)) is
      ∙ ap (λ (l : List ℕ). old ++ ((if is_given choice t then m ∷ l else []) ++ rest)) are
      ∙ ap (λ (ts : Files). old ++ order_from choice places m ts) (sym (rest_of files m t at))
      ∙ before

  pub order_all : (files : Files) (m : ℕ) (all whole : List ℕ) → length files ≤ m → all ++ order_from choice places m (drop m files) ≡ whole → all ≡ whole
  order_all files m all whole past h =
      sym (append-nil all) ∙ ap (λ (ts : Files). all ++ order_from choice places m ts) (sym (drop_all m files past)) ∙ h

pub read_at : {A : Type 0} (xs ys : List A) (i : ℕ) (x : A) → xs ≡ ys → i < length xs → x ≡ get_or xs i x → slice_get ys i ≡ Some x
read_at xs ys i x same lt is = ap (λ l. slice_get l i) (sym same) ∙ slice_get_read xs (length xs) i x refl lt is

pub all_within : (choice : ModuleChoice) (files : Files) (xs : List ℕ) → xs ≡ order_of choice files → (k d : ℕ) → k < length xs → get_or xs k d < length files
all_within choice files xs same k d lt =
    order_within choice files k (get_or xs k d) (ap (λ l. slice_get l k) (sym same) ∙ slice_get-get_or xs k d lt)

-- the parts of a file, as families tell them
pub parts_at : ((places : List (Option ℕ)) (count place : ℕ) → place < count → get_or (by_place places count) place [] ≡ numbers_at places place)
    → (files : Files) (read places : List (Option ℕ)) (count m : ℕ) (view : List (List ℕ)) (parts : List ℕ) → read ≡ places → places ≡ part_places files
    → count ≡ length places → m < length files → parts ≡ get_or view m [] → view ≡ by_place read count → parts ≡ numbers_at (part_places files) m
parts_at law files read places count m view parts is_read are size lt is told =
    let all : length (part_places files) ≡ length files = length_places (map brief_of files) 0 files in
    let long : length places ≡ length (part_places files) = ap length are in
    let same : read ≡ part_places files = is_read ∙ are in
    is ∙ ap (λ (v : List (List ℕ)). get_or v m []) (told ∙ ap (λ (ps : List (Option ℕ)). by_place ps count) same)
    ∙ law (part_places files) count m (omega (arith, lt, all, long, size))
