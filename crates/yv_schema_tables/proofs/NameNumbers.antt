-- Numbers of names, in order of first use.
use Rattle.std.proofs.Common.{◌≡◌, ℕ, zero, suc, ◌+◌, ◌≤◌, ◌==◌, List, [], ◌∷◌, ◌++◌, length, length-append, take, refl, sym, ap, ◌∙◌, add-one, arith, Bool, true, false, cond, ◌⊎◌, inl, inr, Option, Some, None, is_some}
use Rattle.std.specs.List.{slice_get}
use Rattle.std.specs.Option.{option_map}
use Rattle.std.specs.Str.{bytes_eq}
use Rattle.std.proofs.lemmas.Bool.{false≢true}
use Rattle.std.proofs.lemmas.Bool.Decides.{nat_tests}
use Rattle.std.proofs.lemmas.Cmp.{nat_list_eq_equiv}
use Rattle.std.proofs.lemmas.Slice.Eq.{bytes_eq-Decides}
use Rattle.yv_nodes.specs.Rows.{Row}
use Rattle.yv_schema_tables.specs.declared.names.NameTable.{NameTable}
use Rattle.yv_schema_tables.specs.InnerNames.{HaveNumbers, get_by_name, names_of, number_in, with_name, with_names}

pub some_none : {X : Type 0} (x : X) → Some x ≡ None → ⊥
some_none x h = absurd (false≢true (sym (ap is_some h)))

some_is : (a b : ℕ) → Some a ≡ Some b → a ≡ b
some_is a b h = cc

none_up : (o : Option ℕ) → is_some (option_map (λ n. n + 1) o) ≡ is_some o
none_up None = refl
none_up (Some n) = refl

absent_next : (b : Bool) (o : Option ℕ) → is_some (cond b (Some 0) (option_map (λ n. n + 1) o)) ≡ false → (b ≡ false) × (is_some o ≡ false)
absent_next true o h = cc
absent_next false o h = (refl, sym (none_up o) ∙ h)

-- a name that isn't there goes behind the others
pub with_new : (names : List (List ℕ)) (text : List ℕ) → is_some (number_in names text) ≡ false → with_name names text ≡ names ++ text ∷ []
with_new [] text h = refl
with_new (name ∷ names) text h =
    let p = absent_next (bytes_eq name text) (number_in names text) h in
    rw p.0 (ap (λ l. name ∷ l) (with_new names text p.1))

old_by : (b : Bool) (name : List ℕ) (names rest : List (List ℕ)) (o : Option ℕ) → is_some (cond b (Some 0) (option_map (λ n. n + 1) o)) ≡ true → (is_some o ≡ true → rest ≡ names) → cond b (name ∷ names) (name ∷ rest) ≡ name ∷ names
old_by true name names rest o h k = refl
old_by false name names rest o h k = ap (λ l. name ∷ l) (k (sym (none_up o) ∙ h))

-- with one that is there the names stay
pub with_old : (names : List (List ℕ)) (text : List ℕ) → is_some (number_in names text) ≡ true → with_name names text ≡ names
with_old [] text h = cc
with_old (name ∷ names) text h = old_by (bytes_eq name text) name names (with_name names text) (number_in names text) h (with_old names text)

step : (b e : Bool) (o : Option ℕ) (n : ℕ) → (b ≡ true → e ≡ false) → cond b (Some 0) (option_map (λ n. n + 1) (cond e (Some n) o)) ≡ cond e (Some (suc n)) (cond b (Some 0) (option_map (λ n. n + 1) o))
step true e o n h = rw (h refl) refl
step false true o n h = ap Some (omega arith)
step false false o n h = refl

-- the numbers where a name is put behind the others
pub number_more : (names : List (List ℕ)) (text q : List ℕ) → is_some (number_in names text) ≡ false → number_in (names ++ text ∷ []) q ≡ cond (bytes_eq text q) (Some (length names)) (number_in names q)
number_more [] text q h = refl
number_more (name ∷ names) text q h =
    let p = absent_next (bytes_eq name text) (number_in names text) h in
    let other : bytes_eq name q ≡ true → bytes_eq text q ≡ false = λ e.
    nat_list_eq_equiv.symm text q ∙ sym (nat_list_eq_equiv.congr name q text e) ∙ p.0 in
    ap (λ o. cond (bytes_eq name q) (Some 0) (option_map (λ n. n + 1) o)) (number_more names text q p.1)
    ∙ step (bytes_eq name q) (bytes_eq text q) (number_in names q) (length names) other

number_own : (b : Bool) (n : ℕ) (o : Option ℕ) → b ≡ true → cond b (Some n) o ≡ Some n
number_own b n o h = rw h refl

-- the number of a name that was put behind the others
pub number_new : (names : List (List ℕ)) (text : List ℕ) → is_some (number_in names text) ≡ false → number_in (names ++ text ∷ []) text ≡ Some (length names)
number_new names text h = number_more names text text h ∙ number_own (bytes_eq text text) (length names) (number_in names text) ((bytes_eq-Decides text text).1 refl)

stays_by : (b : Bool) (o p : Option ℕ) (n : ℕ) → cond b (Some 0) (option_map (λ n. n + 1) o) ≡ Some n → ((m : ℕ) → o ≡ Some m → p ≡ Some m) → cond b (Some 0) (option_map (λ n. n + 1) p) ≡ Some n
stays_by true o p n h k = h
stays_by false None p n h k = cc
stays_by false (Some m) p n h k = ap (option_map (λ n. n + 1)) (k m refl) ∙ h

-- numbers stay where a name is added
pub number_stays : (names : List (List ℕ)) (text q : List ℕ) (n : ℕ) → number_in names q ≡ Some n → number_in (with_name names text) q ≡ Some n
number_stays [] text q n h = cc
number_stays (name ∷ names) text q n h = by (bytes_eq name text) (number_stays names text q)
  where
    by : (c : Bool) → ((m : ℕ) → number_in names q ≡ Some m → number_in (with_name names text) q ≡ Some m) → number_in (cond c (name ∷ names) (name ∷ with_name names text)) q ≡ Some n
    by true k = h
    by false k = stays_by (bytes_eq name q) (number_in names q) (number_in (with_name names text) q) n h k

one_by : (b c : Bool) (o p : Option ℕ) (n : ℕ) → cond b (Some 0) (option_map (λ n. n + 1) o) ≡ Some n → cond c (Some 0) (option_map (λ n. n + 1) p) ≡ Some n → ((b ≡ true) × (c ≡ true)) ⊎ ((m : ℕ) × (o ≡ Some m) × (p ≡ Some m))
one_by true true o p n h k = inl (refl, refl)
one_by true false o None n h k = cc
one_by true false o (Some m) n h k = absurd (omega (arith, some_is 0 n h, some_is (m + 1) n k))
one_by false true None p n h k = cc
one_by false true (Some m) p n h k = absurd (omega (arith, some_is 0 n k, some_is (m + 1) n h))
one_by false false None p n h k = cc
one_by false false (Some m) None n h k = cc
one_by false false (Some m) (Some l) n h k = inr (m, refl, ap Some (omega (arith, some_is (m + 1) n h, some_is (l + 1) n k)))

-- names with one number are one
pub number_one : (names : List (List ℕ)) (a b : List ℕ) (n : ℕ) → number_in names a ≡ Some n → number_in names b ≡ Some n → a ≡ b
number_one [] a b n h k = cc
number_one (name ∷ names) a b n h k = elim (one_by (bytes_eq name a) (bytes_eq name b) (number_in names a) (number_in names b) n h k) [
  | inl both ↦ sym ((bytes_eq-Decides name a).0 both.0) ∙ (bytes_eq-Decides name b).0 both.1
  | inr rest ↦ number_one names a b rest.0 rest.1 rest.2
]

-- numbers are equal exactly where names are
pub same_number : (names : List (List ℕ)) (a b : List ℕ) (n m : ℕ) → number_in names a ≡ Some n → number_in names b ≡ Some m → (n == m) ≡ bytes_eq a b
same_number names a b n m h k = by (n == m) refl (bytes_eq a b) refl
  where
    by : (c : Bool) → (n == m) ≡ c → (d : Bool) → bytes_eq a b ≡ d → c ≡ d
    by true e true f = refl
    by false e false f = refl
    by true e false f = sym ((bytes_eq-Decides a b).1 (number_one names a b n h (k ∙ ap Some (sym (grind (arith, nat_tests, e)))))) ∙ f
    by false e true f = absurd (grind (arith, nat_tests, e, some_is n m (sym h ∙ ap (number_in names) ((bytes_eq-Decides a b).0 f) ∙ k)))

-- as many names as nodes at the most
with_length : (names : List (List ℕ)) (text : List ℕ) → length (with_name names text) ≤ length names + 1
with_length [] text = omega arith
with_length (name ∷ names) text = by (bytes_eq name text) (with_length names text)
  where
    by : (b : Bool) → length (with_name names text) ≤ length names + 1 → length (cond b (name ∷ names) (name ∷ with_name names text)) ≤ length (name ∷ names) + 1
    by true h = omega arith
    by false h = omega (arith, h)

names_length : (names : List (List ℕ)) (rows : List Row) → length (with_names names rows) ≤ length names + length rows
names_length names [] = omega arith
names_length names (row ∷ rows) = omega (arith, names_length (with_name names row.label.defined.name) rows, with_length names row.label.defined.name)

pub names_count : (rows : List Row) → length (names_of rows) ≤ length rows
names_count rows = omega (arith, names_length [] rows)

names_next : (names : List (List ℕ)) (rows : List Row) (n : ℕ) (row : Row) → slice_get rows n ≡ Some row → with_names names (take (suc n) rows) ≡ with_name (with_names names (take n rows)) row.label.defined.name
names_next names [] n row at = cc
names_next names (r ∷ rows) zero row at = let same : r ≡ row = cc in ap (λ (x : Row). with_name names x.label.defined.name) same
names_next names (r ∷ rows) (suc n) row at = names_next (with_name names r.label.defined.name) rows n row at

-- the names of one more node
pub names_more : (rows : List Row) (n : ℕ) (row : Row) → slice_get rows n ≡ Some row → names_of (take (n + 1) rows) ≡ with_name (names_of (take n rows)) row.label.defined.name
names_more rows n row at = ap (λ (k : ℕ). names_of (take k rows)) (add-one n) ∙ names_next [] rows n row at

-- the map keeps the numbers where a name was put in
pub numbered_more : (names : List (List ℕ)) (old new : NameTable) (text : List ℕ) → HaveNumbers names old → is_some (number_in names text) ≡ false
    → new.count ≡ old.count + 1 → ((q : List ℕ) → get_by_name new.numbers q ≡ cond (bytes_eq text q) (Some old.count) (get_by_name old.numbers q))
    → HaveNumbers (with_name names text) new
numbered_more names old new text h absent one put = rw (with_new names text absent) (record {
  each = λ q. put q ∙ ap (λ (o : Option ℕ). cond (bytes_eq text q) (Some old.count) o) (h.each q) ∙ ap (λ (n : ℕ). cond (bytes_eq text q) (Some n) (number_in names q)) h.counted ∙ sym (number_more names text q absent);
  counted = omega (arith, one, h.counted, length-append names (text ∷ []));
})
