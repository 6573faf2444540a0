-- Statements and their places among the identities.
use Rattle.std.proofs.Common.{◌≡◌, ℕ, ◌+◌, ◌<◌, inl, inr, Bool, true, false, cond, List, [], ◌∷◌, ◌++◌, length, map, get_or, refl, sym, ◌∙◌, ap, arith, Option, Some, None}
use Rattle.std.proofs.lemmas.Bool.{cases_lt, false≢true}
use Rattle.std.proofs.lemmas.List.{map-append, length-map, get_or_append_left}
use Rattle.std.proofs.lemmas.Option.{same_Some, slice_get_within, slice_get_past, slice_get_read, slice_get-map, slice_get-get_or}
use Rattle.std.specs.List.{slice_get}
use Rattle.std.specs.Option.{option_map, option_and_then, unwrap_or}
use Rattle.yv_link_scopes.specs.Rows.{Row}
use Rattle.yv_link_identities.specs.Names.{is_identity}
use Rattle.yv_link_identities.specs.References.{ref_of, refs_of}
use Rattle.yv_link_identities.specs.InnerIdentityNumbers.{is_identity_at, identities_before, number_at, count_of, node_of}
use Rattle.yv_link_identities.specs.InnerNumbers.{AreNumbers}
use Rattle.yv_link_identities.specs.declared.references.IdentityRef.{IdentityRef}
use Rattle.yv_link_identities.specs.declared.numbers.Numbers.{Numbers}
use Rattle.yv_link_identities.proofs.PassingNumbers.{chosen_at, chosen_is, chosen_more, chosen_same, longer, last_of}

test_by : (o : Option Row) → unwrap_or (option_map is_identity o) false ≡ true → (r : Row) × (o ≡ Some r) × (is_identity r ≡ true)
test_by None h = absurd (false≢true h)
test_by (Some r) h = (r, refl, h)

pub identity_row : (rows : List Row) (k : ℕ) → is_identity_at rows k ≡ true → (r : Row) × (slice_get rows k ≡ Some r) × (is_identity r ≡ true)
identity_row rows k h = test_by (slice_get rows k) h

pub identity_at : (rows : List Row) (k : ℕ) (r : Row) → slice_get rows k ≡ Some r → is_identity_at rows k ≡ is_identity r
identity_at rows k r at = ap (λ o. unwrap_or (option_map is_identity o) false) at

pub identity_within : (rows : List Row) (k : ℕ) → is_identity_at rows k ≡ true → k < length rows
identity_within rows k h = let r = identity_row rows k h in slice_get_within rows k r.0 r.1

node_by : (b : Bool) (n a : ℕ) → cond b (Some n) None ≡ Some a → (b ≡ true) × (n ≡ a)
node_by true n a h = (refl, same_Some n a h)
node_by false n a h = cc

-- the statement of a number among the identities
pub node_some : (rows : List Row) (k a : ℕ) → node_of rows k ≡ Some a → (is_identity_at rows k ≡ true) × (a < count_of rows) × (number_at rows a ≡ k)
node_some rows k a h =
    let n = node_by (is_identity_at rows k) (length (identities_before rows k)) a h in
    let s = chosen_at (is_identity_at rows) (length rows) k (identity_within rows k n.0) n.0 in
    (n.0, omega (arith, s.0, n.1), ap (λ i. number_at rows i) (sym n.1) ∙ s.1)

-- the number of an identity
pub node_at : (rows : List Row) (k : ℕ) → is_identity_at rows k ≡ true → node_of rows k ≡ Some (length (identities_before rows k))
node_at rows k h = ap (λ b. cond b (Some (length (identities_before rows k))) None) h

pub node_none : (rows : List Row) (k : ℕ) → is_identity_at rows k ≡ false → node_of rows k ≡ None
node_none rows k h = ap (λ b. cond b (Some (length (identities_before rows k))) None) h

pub node_back : (rows : List Row) (a : ℕ) → a < count_of rows → node_of rows (number_at rows a) ≡ Some a
node_back rows a h = let s = chosen_is (is_identity_at rows) (length rows) a h in node_at rows (number_at rows a) s.1 ∙ ap Some s.2

pub number_within : (rows : List Row) (a : ℕ) → a < count_of rows → number_at rows a < length rows
number_within rows a h = (chosen_is (is_identity_at rows) (length rows) a h).0

pub number_identity : (rows : List Row) (a : ℕ) → a < count_of rows → is_identity_at rows (number_at rows a) ≡ true
number_identity rows a h = (chosen_is (is_identity_at rows) (length rows) a h).1

-- two identities of one number are one
pub number_same : (rows : List Row) (a b : ℕ) → a < count_of rows → b < count_of rows → number_at rows a ≡ number_at rows b → a ≡ b
number_same rows a b h i e = same_Some a b (sym (node_back rows a h) ∙ ap (node_of rows) e ∙ node_back rows b i)

-- an identity has a number among them
pub number_of_row : (rows : List Row) (k : ℕ) → is_identity_at rows k ≡ true → (a : ℕ) × (a < count_of rows) × (number_at rows a ≡ k)
number_of_row rows k h = let s = node_some rows k (length (identities_before rows k)) (node_at rows k h) in (length (identities_before rows k), s.1, s.2)

-- so many statements were read
pub record Numbered (rows : List Row) (i : ℕ) (found : List IdentityRef) (places : List (Option ℕ)) : Type 0 where
  pub refs : map Some found ≡ refs_of rows (identities_before rows i)
  pub each : length places ≡ i
  pub nodes : (k : ℕ) → k < i → slice_get places k ≡ Some (node_of rows k)

count_refs : (rows : List Row) (i : ℕ) (refs : List IdentityRef) → map Some refs ≡ refs_of rows (identities_before rows i) → length refs ≡ length (identities_before rows i)
count_refs rows i refs e = sym (length-map refs Some) ∙ ap length e ∙ length-map (identities_before rows i) (λ k. option_map ref_of (slice_get rows k))

nodes_more : (rows : List Row) (i : ℕ) (nodes : List (Option ℕ)) (o : Option ℕ) → length nodes ≡ i → o ≡ node_of rows i → ((k : ℕ) → k < i → slice_get nodes k ≡ Some (node_of rows k)) → (k : ℕ) → k < i + 1 → slice_get (nodes ++ o ∷ []) k ≡ Some (node_of rows k)
nodes_more rows i nodes o len is old k h = elim (cases_lt k i) [
  | inl l ↦
      let here : k < length nodes = omega (arith, l, len) in
      let within : k < length (nodes ++ o ∷ []) = omega (arith, here, longer nodes o) in
      slice_get-get_or (nodes ++ o ∷ []) k o within ∙ ap Some (get_or_append_left nodes (o ∷ []) o k here) ∙ sym (slice_get-get_or nodes k o here) ∙ old k l
  | inr m ↦
      let same : k ≡ length nodes = omega (arith, h, m, len) in
      let within : k < length (nodes ++ o ∷ []) = omega (arith, same, longer nodes o) in
      slice_get-get_or (nodes ++ o ∷ []) k o within ∙ ap Some (ap (λ n. get_or (nodes ++ o ∷ []) n o) same ∙ last_of nodes o o ∙ is) ∙ ap (λ n. Some (node_of rows n)) (sym len ∙ sym same)
]

pub numbered_none : (rows : List Row) → Numbered rows 0 [] []
numbered_none rows = record { refs = refl; each = refl; nodes = λ k h. absurd (omega (arith, h)) }

pub numbered_identity : (rows : List Row) (i n : ℕ) (r : Row) (x : IdentityRef) (refs refs' : List IdentityRef) (nodes nodes' : List (Option ℕ)) → Numbered rows i refs nodes → slice_get rows i ≡ Some r → is_identity r ≡ true → n ≡ length refs → x ≡ ref_of r → nodes' ≡ nodes ++ Some n ∷ [] → refs' ≡ refs ++ x ∷ [] → Numbered rows (i + 1) refs' nodes'
numbered_identity rows i n r x refs refs' nodes nodes' m at one count is e f =
    let here : is_identity_at rows i ≡ true = identity_at rows i r at ∙ one in
    let number : Some n ≡ node_of rows i = ap Some (count ∙ count_refs rows i refs m.refs) ∙ sym (node_at rows i here) in
    rw (e, f) (record {
      refs =
          let more : identities_before rows (i + 1) ≡ identities_before rows i ++ i ∷ [] = chosen_more (is_identity_at rows) i here in
          let last : option_map ref_of (slice_get rows i) ≡ Some x = ap (option_map ref_of) at ∙ ap Some (sym is) in
          map-append Some refs (x ∷ [])
          ∙ ap (λ xs. xs ++ Some x ∷ []) m.refs
          ∙ ap (λ o. refs_of rows (identities_before rows i) ++ o ∷ []) (sym last)
          ∙ sym (map-append (λ k. option_map ref_of (slice_get rows k)) (identities_before rows i) (i ∷ []))
          ∙ ap (refs_of rows) (sym more);
      each = longer nodes (Some n) ∙ omega (arith, m.each);
      nodes = nodes_more rows i nodes (Some n) m.each number m.nodes;
    })

pub numbered_other : (rows : List Row) (i : ℕ) (r : Row) (refs : List IdentityRef) (nodes nodes' : List (Option ℕ)) → Numbered rows i refs nodes → slice_get rows i ≡ Some r → is_identity r ≡ false → nodes' ≡ nodes ++ None ∷ [] → Numbered rows (i + 1) refs nodes'
numbered_other rows i r refs nodes nodes' m at none e =
    let here : is_identity_at rows i ≡ false = identity_at rows i r at ∙ none in
    rw e (record {
      refs = m.refs ∙ ap (refs_of rows) (sym (chosen_same (is_identity_at rows) i here));
      each = longer nodes None ∙ omega (arith, m.each);
      nodes = nodes_more rows i nodes None m.each (sym (node_none rows i here)) m.nodes;
    })

read_nodes : (rows : List Row) (nodes : List (Option ℕ)) → length nodes ≡ length rows → ((k : ℕ) → k < length rows → slice_get nodes k ≡ Some (node_of rows k)) → (k : ℕ) → option_and_then (λ node. node) (slice_get nodes k) ≡ node_of rows k
read_nodes rows nodes len each k = elim (cases_lt k (length rows)) [
  | inl l ↦ ap (λ o. option_and_then (λ node. node) o) (each k l)
  | inr m ↦
      let none : is_identity_at rows k ≡ false = ap (λ o. unwrap_or (option_map is_identity o) false) (slice_get_past rows k m) in
      ap (λ o. option_and_then (λ node. node) o) (slice_get_past nodes k (omega (arith, len, m))) ∙ sym (node_none rows k none)
]

pub numbered_all : (rows : List Row) (i : ℕ) (n : Numbers) → i ≡ length rows → Numbered rows i n.identities.items n.nodes.items → AreNumbers rows n
numbered_all rows i n all m = record {
  refs = m.refs ∙ ap (λ k. refs_of rows (identities_before rows k)) all;
  nodes = read_nodes rows n.nodes.items (m.each ∙ all) (λ k h. m.nodes k (omega (arith, h, all)));
}

-- what a loop reads at a place
pub row_read : {A B : Type 0} (f : A → B) (xs : List A) (ys : List B) (i : ℕ) (x : A) → map f xs ≡ ys → i < length xs → x ≡ get_or xs i x → slice_get ys i ≡ Some (f x)
row_read f xs ys i x same h is = ap (λ zs. slice_get zs i) (sym same) ∙ slice_get-map f xs i ∙ ap (option_map f) (slice_get_read xs (length xs) i x refl h is)

pub rows_count : {A B : Type 0} (f : A → B) (xs : List A) (ys : List B) → map f xs ≡ ys → length xs ≡ length ys
rows_count f xs ys same = sym (length-map xs f) ∙ ap length same

pub numbers_count : (rows : List Row) (n : Numbers) → AreNumbers rows n → length n.identities.items ≡ count_of rows
numbers_count rows n m = count_refs rows (length rows) n.identities.items m.refs
