-- The directories by which children are found.
use Rattle.std.proofs.Common.{◌≡◌, ℕ, zero, suc, ◌+◌, ◌<◌, ◌≤◌, ◌==◌, ◌&&◌, length, List, [], ◌∷◌, ◌++◌, length-append, get_or, map, take, drop, refl, sym, ap, ◌∙◌, subst, arith, add-one, ◌⊎◌, Bool, true, false, cond, Option, Some, None, is_some, inl, inr}
use Rattle.std.specs.Cmp.Lexicographic.{pointwise}
use Rattle.std.specs.List.{slice_get, slice_index_or}
use Rattle.std.specs.Str.{bytes_eq}
use Rattle.std.proofs.lemmas.Bool.{cases_lt, false≢true}
use Rattle.std.proofs.lemmas.Bool.Decides.{nat_tests}
use Rattle.std.proofs.lemmas.Option.{get_or_from_slice_get, same_Some, slice_get-get_or, slice_get_within}
use Rattle.std.proofs.Math.ListN.{get_or-append}
use Rattle.std.proofs.Math.Seq.{get_or-append_seam}
use Rattle.std.proofs.lemmas.List.{take_all}
use Rattle.std.proofs.lemmas.Slice.Eq.{bytes_eq-Decides}
use Rattle.yv_text_statement.specs.declared.refusal.Refusal.{Refusal}
use Rattle.yv_text_statement.specs.Order.{Among, IsLeast, IsLesser, Stands}
use Rattle.yv_text_statement.proofs.Least.{least_more, least_refused}
use Rattle.yv_nodes.specs.declared.node.NodeId.{NodeId}
use Rattle.yv_nodes.specs.Member.{is_module_file}
use Rattle.yv_nodes.specs.Tree.{Label}
use Rattle.yv_nodes.specs.Rows.{Row, blank_row}
use Rattle.yv_schema_tables.specs.declared.directory.Directory.{Directory}
use Rattle.yv_schema_tables.specs.declared.directory.HeldNode.{HeldNode}
use Rattle.yv_schema_tables.specs.declared.member.Member.{Member}
use Rattle.yv_schema_tables.specs.DuplicateNodes.{duplicate_at}
use Rattle.yv_schema_tables.specs.InnerNames.{names_of, number_in}
use Rattle.yv_schema_tables.specs.InnerTables.{IsDirectory, IsNamesake, IsOfRow, Namesakes, at_number, first_held, member_called, front_of, held_at, is_called, is_front, kept_first, labels_at, same_member}
use Rattle.yv_schema_tables.proofs.NameNumbers.{same_number, some_none}

pub equal : (n k : ℕ) → n ≡ k → (n == k) ≡ true
equal n k e = grind (arith, nat_tests, e)

pub equal_is : (n k : ℕ) → (n == k) ≡ true → n ≡ k
equal_is n k e = grind (arith, nat_tests, e)

both_parts : (b c : Bool) → (b && c) ≡ true → (b ≡ true) × (c ≡ true)
both_parts true c h = (refl, h)
both_parts false c h = absurd (false≢true h)

-- equal numbers of nodes are the same numbers
pub same_nodes : (cs ds : List NodeId) → pointwise (λ (c d : NodeId). c.0 == d.0) cs ds ≡ true → cs ≡ ds
same_nodes [] [] h = refl
same_nodes [] (d ∷ ds) h = absurd (false≢true h)
same_nodes (c ∷ cs) [] h = absurd (false≢true h)
same_nodes (c ∷ cs) (d ∷ ds) h =
    let parts = both_parts (c.0 == d.0) (pointwise (λ (c d : NodeId). c.0 == d.0) cs ds) h in
    let first : c ≡ d = ap (λ (n : ℕ). record { 0 = n }) (equal_is c.0 d.0 parts.0) in
    ap (λ (e : NodeId). e ∷ cs) first ∙ ap (λ (es : List NodeId). d ∷ es) (same_nodes cs ds parts.1)

front_is : (a b : Option ℕ) → is_front a b ≡ true → a ≡ b
front_is None None h = refl
front_is None (Some b) h = absurd (false≢true h)
front_is (Some a) None h = absurd (false≢true h)
front_is (Some a) (Some b) h = ap Some (equal_is a b h)

-- members with one front and one name are one
member_is : (a b : Member) → same_member a b ≡ true → a ≡ b
member_is a b h =
    let parts = both_parts (is_front a.module_file b.module_file) (a.name == b.name) h in
    ap (λ (o : Option ℕ). record { module_file = o; name = a.name }) (front_is a.module_file b.module_file parts.0) ∙ ap (λ (n : ℕ). record { module_file = b.module_file; name = n }) (equal_is a.name b.name parts.1)

-- where nothing stood at a member, a child that is put there is the first one
pub kept_new : (old : Member → Option NodeId) (member other : Member) (child : NodeId) → is_some (old member) ≡ false
    → cond (same_member member other) (Some child) (old other) ≡ kept_first (same_member member other) child (old other)
kept_new old member other child absent = by (old other) refl (same_member member other) refl
  where
    by : (o : Option NodeId) → old other ≡ o → (b : Bool) → same_member member other ≡ b → cond b (Some child) o ≡ kept_first b child o
    by None e b same = refl
    by (Some first) e false same = refl
    by (Some first) e true same = absurd (false≢true (sym absent ∙ ap (λ (m : Member). is_some (old m)) (member_is member other same) ∙ ap is_some e))

-- where something stood at the member, it stays
pub kept_same : (old : Member → Option NodeId) (member other : Member) (child : NodeId) → is_some (old member) ≡ true → old other ≡ kept_first (same_member member other) child (old other)
kept_same old member other child present = by (old other) refl (same_member member other) refl
  where
    by : (o : Option NodeId) → old other ≡ o → (b : Bool) → same_member member other ≡ b → o ≡ kept_first b child o
    by (Some first) e b same = refl
    by None e false same = refl
    by None e true same = absurd (false≢true (sym (ap is_some e) ∙ sym (ap (λ (m : Member). is_some (old m)) (member_is member other same)) ∙ present))

-- one more among few
pub held_more : (nodes : List HeldNode) (held : HeldNode) (other : Member)
    → first_held (nodes ++ held ∷ []) other ≡ kept_first (same_member held.member other) held.node (first_held nodes other)
held_more [] held other = refl
held_more (first ∷ nodes) held other = by (same_member first.member other) (held_more nodes held other)
  where
    by : (b : Bool) → first_held (nodes ++ held ∷ []) other ≡ kept_first (same_member held.member other) held.node (first_held nodes other)
        → cond b (Some first.node) (first_held (nodes ++ held ∷ []) other) ≡ kept_first (same_member held.member other) held.node (cond b (Some first.node) (first_held nodes other))
    by true e = refl
    by false e = e

none_kept : (b c : Bool) (child : NodeId) → c ≡ false → kept_first (b && c) child None ≡ None
none_kept true c child e = rw e refl
none_kept false c child e = refl

-- a child that is kept at the number of its name is kept at its name
pub number_kept : (names : List (List ℕ)) (old new : Member → Option NodeId) (front : Option ℕ) (name : List ℕ) (number : ℕ) (child : NodeId) → number_in names name ≡ Some number
    → ((other : Member) → new other ≡ kept_first (same_member (record { module_file = front; name = number }) other) child (old other)) → (other : Option ℕ) (text : List ℕ)
    → at_number new other (number_in names text) ≡ kept_first (is_front front other && bytes_eq name text) child (at_number old other (number_in names text))
number_kept names old new front name number child known kept other text = by (number_in names text) refl
  where
    by : (o : Option ℕ) → number_in names text ≡ o → at_number new other o ≡ kept_first (is_front front other && bytes_eq name text) child (at_number old other o)
    by None e = sym (none_kept (is_front front other) (bytes_eq name text) child (differ (bytes_eq name text) refl))
      where
        differ : (b : Bool) → bytes_eq name text ≡ b → b ≡ false
        differ false same = refl
        differ true same = absurd (some_none number (sym known ∙ ap (number_in names) ((bytes_eq-Decides name text).0 same) ∙ e))
    by (Some m) e = kept (record { module_file = other; name = m }) ∙ ap (λ (b : Bool). kept_first (is_front front other && b) child (old (record { module_file = other; name = m }))) (same_number names name text number m known e)

-- what is found is found by names, too
pub at_same : (found other : Member → Option NodeId) (front number : Option ℕ) → ((member : Member) → found member ≡ other member) → at_number found front number ≡ at_number other front number
at_same found other front None same = refl
at_same found other front (Some n) same = same (record { module_file = front; name = n })

pub map_got : {X Y : Type 0} (f : X → Y) (xs : List X) (k : ℕ) (y : Y) → slice_get (map f xs) k ≡ Some y → (x : X) × (slice_get xs k ≡ Some x) × (f x ≡ y)
map_got f [] k y at = cc
map_got f (x ∷ xs) zero y at = (x, refl, cc)
map_got f (x ∷ xs) (suc k) y at = map_got f xs k y at

pub map_get : {X Y : Type 0} (f : X → Y) (xs : List X) (n : ℕ) (x : X) → slice_get xs n ≡ Some x → slice_get (map f xs) n ≡ Some (f x)
map_get f [] n x at = cc
map_get f (y ∷ ys) zero x at = let same : y ≡ x = cc in ap (λ z. Some (f z)) same
map_get f (y ∷ ys) (suc n) x at = map_get f ys n x at

drop_suc : {X : Type 0} (xs : List X) (n : ℕ) (x : X) → slice_get xs n ≡ Some x → drop n xs ≡ x ∷ drop (suc n) xs
drop_suc [] n x at = cc
drop_suc (y ∷ ys) zero x at = let same : y ≡ x = cc in ap (λ z. z ∷ ys) same
drop_suc (y ∷ ys) (suc n) x at = drop_suc ys n x at

pub drop_next : {X : Type 0} (xs : List X) (n : ℕ) (x : X) → slice_get xs n ≡ Some x → drop n xs ≡ x ∷ drop (n + 1) xs
drop_next xs n x at = drop_suc xs n x at ∙ ap (λ (k : ℕ). x ∷ drop k xs) (sym (add-one n))

module _ (rows : List Row) (around : Option ℕ) where
  abbrev label_at : NodeId → Label
  label_at c = (slice_index_or rows c.0 blank_row).label

  abbrev has : Option ℕ → List ℕ → NodeId → Bool
  has front name c = is_called around front name (label_at c)

  kept_behind : (b e : Bool) (d c : NodeId) (rest : Option NodeId) → cond b (Some d) (kept_first e c rest) ≡ kept_first e c (cond b (Some d) rest)
  kept_behind true e d c rest = refl
  kept_behind false e d c rest = refl

  called_next : (cs : List NodeId) (n : ℕ) (c : NodeId) (front : Option ℕ) (text : List ℕ) → slice_get cs n ≡ Some c
      → member_called rows around (take (suc n) cs) front text ≡ kept_first (has front text c) c (member_called rows around (take n cs) front text)
  called_next [] n c front text at = cc
  called_next (d ∷ ds) zero c front text at = let same : d ≡ c = cc in ap (λ (x : NodeId). cond (has front text x) (Some x) None) same
  called_next (d ∷ ds) (suc n) c front text at =
      rw (called_next ds n c front text at) (kept_behind (has front text d) (has front text c) d c (member_called rows around (take n ds) front text))

  -- one more child
  pub called_more : (cs : List NodeId) (n : ℕ) (c : NodeId) (front : Option ℕ) (text : List ℕ) → slice_get cs n ≡ Some c
      → member_called rows around (take (n + 1) cs) front text ≡ kept_first (has front text c) c (member_called rows around (take n cs) front text)
  called_more cs n c front text at = ap (λ (k : ℕ). member_called rows around (take k cs) front text) (add-one n) ∙ called_next cs n c front text at

  fronts_same : (module_file a b : ℕ) (c d : Bool) → (module_file == a) ≡ c → (module_file == b) ≡ d → is_front (cond c None (Some a)) (cond d None (Some b)) ≡ true → a ≡ b
  fronts_same module_file a b true true e f h = sym (equal_is module_file a e) ∙ equal_is module_file b f
  fronts_same module_file a b true false e f h = absurd (false≢true h)
  fronts_same module_file a b false true e f h = absurd (false≢true h)
  fronts_same module_file a b false false e f h = equal_is a b h

  -- nodes of one front are of one module
  front_same : (a b : Label) → is_front (front_of around a) (front_of around b) ≡ true → a.module_file ≡ b.module_file
  front_same a b h = by around h
    where
      by : (o : Option ℕ) → is_front (cond (is_module_file a.module_file o) None (Some a.module_file)) (cond (is_module_file b.module_file o) None (Some b.module_file)) ≡ true → a.module_file ≡ b.module_file
      by None h = equal_is a.module_file b.module_file h
      by (Some module_file) h = fronts_same module_file a.module_file b.module_file (module_file == a.module_file) (module_file == b.module_file) refl refl h

  front_itself : (o : Option ℕ) → is_front o o ≡ true
  front_itself None = refl
  front_itself (Some n) = equal n n refl

  -- a node has the front and the name of another exactly where it has its module and its name
  called_as : (a b : Label) → is_called around (front_of around b) b.defined.name a ≡ true → (a.module_file ≡ b.module_file) × (a.defined.name ≡ b.defined.name)
  called_as a b h =
      let parts = both_parts (is_front (front_of around a) (front_of around b)) (bytes_eq a.defined.name b.defined.name) h in
      (front_same a b parts.0, (bytes_eq-Decides a.defined.name b.defined.name).0 parts.1)

  as_called : (a b : Label) → a.module_file ≡ b.module_file → a.defined.name ≡ b.defined.name → is_called around (front_of around b) b.defined.name a ≡ true
  as_called a b module_file name =
      let front : is_front (front_of around a) (front_of around b) ≡ true = ap (λ (n : ℕ). is_front (cond (is_module_file n around) None (Some n)) (front_of around b)) module_file ∙ front_itself (front_of around b) in
      rw (front, (bytes_eq-Decides a.defined.name b.defined.name).1 name) refl

  some_cases : (b : Bool) (d : NodeId) (rest : Option NodeId) → is_some (cond b (Some d) rest) ≡ true → (b ≡ true) ⊎ (is_some rest ≡ true)
  some_cases true d rest h = inl refl
  some_cases false d rest h = inr h

  some_first : (b : Bool) (d : NodeId) (rest : Option NodeId) → b ≡ true → is_some (cond b (Some d) rest) ≡ true
  some_first b d rest h = rw h refl

  some_second : (b : Bool) (d : NodeId) (rest : Option NodeId) → is_some rest ≡ true → is_some (cond b (Some d) rest) ≡ true
  some_second true d rest h = refl
  some_second false d rest h = h

  -- one of the first n children has the front and the name of this node
  abbrev is_met : List NodeId → ℕ → Label → Bool
  is_met cs n l = is_some (member_called rows around (take n cs) (front_of around l) l.defined.name)

  -- the front has a child of this module and this name exactly where one stands there
  called_namesake : (cs : List NodeId) (n : ℕ) (l : Label) → is_met cs n l ≡ true → IsNamesake (labels_at rows cs) n l
  called_namesake cs zero l h = absurd (false≢true h)
  called_namesake [] (suc n) l h = absurd (false≢true h)
  called_namesake (d ∷ ds) (suc n) l h = elim (some_cases (has (front_of around l) l.defined.name d) d (member_called rows around (take n ds) (front_of around l) l.defined.name) h) [
    | inl here ↦
        let same = called_as (label_at d) l here in
        record { place = 0; first = label_at d; before = omega arith; at = refl; same_module = same.0; same_name = same.1 }
    | inr later ↦
        let r : IsNamesake (labels_at rows ds) n l = called_namesake ds n l later in
        record { place = suc r.place; first = r.first; before = omega (arith, r.before); at = r.at; same_module = r.same_module; same_name = r.same_name }
  ]

  namesake_at : (cs : List NodeId) (n place : ℕ) (first l : Label) → place < n → slice_get (labels_at rows cs) place ≡ Some first → first.module_file ≡ l.module_file → first.defined.name ≡ l.defined.name → is_met cs n l ≡ true
  namesake_at cs zero place first l lt at module_file name = absurd (omega arith)
  namesake_at [] (suc n) place first l lt at module_file name = cc
  namesake_at (d ∷ ds) (suc n) zero first l lt at module_file name =
      let is : label_at d ≡ first = cc in
      some_first (has (front_of around l) l.defined.name d) d (member_called rows around (take n ds) (front_of around l) l.defined.name)
      (as_called (label_at d) l (ap (λ (x : Label). x.module_file) is ∙ module_file) (ap (λ (x : Label). x.defined.name) is ∙ name))
  namesake_at (d ∷ ds) (suc n) (suc place) first l lt at module_file name =
      some_second (has (front_of around l) l.defined.name d) d (member_called rows around (take n ds) (front_of around l) l.defined.name) (namesake_at ds n place first l (omega arith) at module_file name)

  -- what is found of nodes by their names
  abbrev by_name : (Member → Option NodeId) → Option ℕ → List ℕ → Option NodeId
  by_name found front text = at_number found front (number_in (names_of rows) text)

  -- what is found of the first children, and the least of what is refused at them
  pub record Keeps (cs : List NodeId) (found : Member → Option NodeId) (duplicate : Option Refusal) (n : ℕ) : Type 0 where
    pub met : (front : Option ℕ) (text : List ℕ) → at_number found front (number_in (names_of rows) text) ≡ member_called rows around (take n cs) front text
    pub least : IsLeast (Among (labels_at rows cs) (λ k l. Stands (IsNamesake (labels_at rows cs) k l) (duplicate_at l)) n) duplicate

  pub keeps_more : (cs : List NodeId) (old new : Member → Option NodeId) (duplicate here more : Option Refusal) (n : ℕ) (c : NodeId) (l : Label) (front : Option ℕ) (number : ℕ) (repeated : Bool) → Keeps cs old duplicate n → slice_get cs n ≡ Some c
      → l ≡ label_at c → front ≡ front_of around l → number_in (names_of rows) l.defined.name ≡ Some number → repeated ≡ is_some (old (record { module_file = front; name = number }))
      → ((other : Member) → new other ≡ kept_first (same_member (record { module_file = front; name = number }) other) c (old other))
      → here ≡ cond repeated (Some (duplicate_at l)) None → IsLesser duplicate here more → Keeps cs new more (n + 1)
  keeps_more cs old new duplicate here more n c l front number repeated h at is fronted known seen kept made lesser =
      let ls : List Label = labels_at rows cs in
      let P : Type 0 = IsNamesake ls n l in
      let own_name : is_some (by_name old front l.defined.name) ≡ is_some (old (record { module_file = front; name = number })) = ap (λ (o : Option ℕ). is_some (at_number old front o)) known in
      let found : repeated ≡ is_met cs n l =
      seen ∙ sym own_name ∙ ap is_some (h.met front l.defined.name) ∙ ap (λ (o : Option ℕ). is_some (member_called rows around (take n cs) o l.defined.name)) fronted in
      let from : P → repeated ≡ true = λ p. found ∙ namesake_at cs n p.place p.first l p.before p.at p.same_module p.same_name in
      let own : IsLeast (Stands P (duplicate_at l)) here = rw made (least_refused P repeated (duplicate_at l) (λ e. called_namesake cs n l (sym found ∙ e)) from) in
      record {
        met = λ other text. number_kept (names_of rows) old new front l.defined.name number c known kept other text
            ∙ ap (λ (o : Option NodeId). kept_first (is_front front other && bytes_eq l.defined.name text) c o) (h.met other text)
            ∙ ap (λ (o : Option ℕ). kept_first (is_front o other && bytes_eq l.defined.name text) c (member_called rows around (take n cs) other text)) fronted
            ∙ ap (λ (x : Label). kept_first (is_called around other text x) c (member_called rows around (take n cs) other text)) is ∙ sym (called_more cs n c other text at);
        least = least_more ls (λ k x. Stands (IsNamesake ls k x) (duplicate_at x)) n l duplicate here more (map_get label_at cs n c at ∙ ap Some (sym is)) lesser h.least own;
      }

  pub keeps_end : (cs : List NodeId) (found : Member → Option NodeId) (directory : Directory) (duplicate : Option Refusal) (n : ℕ) → length cs ≡ n → ((member : Member) → held_at directory member ≡ found member) → Keeps cs found duplicate n
      → IsDirectory rows around cs directory × IsLeast (Namesakes (labels_at rows cs)) duplicate
  keeps_end cs found directory duplicate n all same h = (
    record { gives = λ front name. at_same (held_at directory) found front (number_in (names_of rows) name) same ∙ h.met front name ∙ ap (λ (ds : List NodeId). member_called rows around ds front name) (take_all n cs (omega (arith, all))) },
    subst (λ (k : ℕ). IsLeast (Among (labels_at rows cs) (λ i l. Stands (IsNamesake (labels_at rows cs) i l) (duplicate_at l)) k) duplicate) (sym all ∙ sym (labels_length cs)) h.least,
  )
    where
      labels_length : (ds : List NodeId) → length (labels_at rows ds) ≡ length ds
      labels_length [] = refl
      labels_length (d ∷ ds) = ap suc (labels_length ds)

module _ (rows : List Row) where
  -- a directory for each of the first n nodes
  pub record AreDirectoriesUpTo (directories : List Directory) (n : ℕ) : Type 0 where
    pub each : length directories ≡ n
    pub gives : (i : ℕ) (directory : Directory) → slice_get directories i ≡ Some directory → IsOfRow rows (slice_index_or rows i blank_row) directory

  -- one more directory
  pub directories_more : (directories new : List Directory) (n : ℕ) (directory : Directory) (row : Row) → AreDirectoriesUpTo directories n → slice_get rows n ≡ Some row → IsOfRow rows row directory → new ≡ directories ++ directory ∷ [] → AreDirectoriesUpTo new (n + 1)
  directories_more directories new n directory row h at is pushed = record {
    each = omega (arith, ap length pushed, length-append directories (directory ∷ []), h.each);
    gives = λ i found at_i. by i found at_i (cases_lt i n);
  }
    where
      by : (i : ℕ) (found : Directory) → slice_get new i ≡ Some found → (i < n) ⊎ (n ≤ i) → IsOfRow rows (slice_index_or rows i blank_row) found
      by i found at_i (inl less) =
          let inner : i < length directories = omega (arith, less, h.each) in
          h.gives i found (slice_get-get_or directories i found inner ∙ ap Some (sym (get_or-append directories (directory ∷ []) found i inner))
          ∙ sym (slice_get-get_or (directories ++ directory ∷ []) i found (omega (arith, inner, length-append directories (directory ∷ [])))) ∙ ap (λ (ts : List Directory). slice_get ts i) (sym pushed) ∙ at_i)
      by i found at_i (inr not_less) =
          let within : i < length new = slice_get_within new i found at_i in
          let last : i ≡ length directories = omega (arith, not_less, within, ap length pushed, length-append directories (directory ∷ []), h.each) in
          let same : directory ≡ found = same_Some directory found (ap Some (sym (get_or-append_seam directories directory [] found)) ∙ ap (λ (k : ℕ). Some (get_or (directories ++ directory ∷ []) k found)) (sym last)
          ∙ sym (slice_get-get_or (directories ++ directory ∷ []) i found (omega (arith, within, ap length pushed))) ∙ ap (λ (ts : List Directory). slice_get ts i) (sym pushed) ∙ at_i) in
          let here : row ≡ slice_index_or rows i blank_row = sym (get_or_from_slice_get rows n row blank_row at) ∙ ap (λ (k : ℕ). slice_index_or rows k blank_row) (sym h.each ∙ sym last) in
          subst (λ (x : Directory). IsOfRow rows (slice_index_or rows i blank_row) x) same (subst (λ (r : Row). IsOfRow rows r directory) here is)
