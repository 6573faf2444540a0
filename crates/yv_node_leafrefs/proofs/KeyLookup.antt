-- Data nodes found by their keys.
use Rattle.std.proofs.Common.{◌≡◌, ◌↔◌, inl, inr, ℕ, zero, suc, ◌+◌, ◌<◌, ◌≤◌, ◌^◌, Bool, true, false, cond, List, [], ◌∷◌, ◌++◌, map, length, get_or, refl, sym, ◌∙◌, ap, subst, arith, Option, Some, None}
use Rattle.std.proofs.lemmas.Bool.{cases_lt}
use Rattle.std.proofs.lemmas.Option.{same_Some, slice_get_within, slice_get-get_or, slice_get-map, none-some}
use Rattle.std.proofs.lemmas.List.{length-map, get_or_default}
use Rattle.std.specs.List.{slice_get, slice_index_or}
use Rattle.std.specs.Option.{unwrap_or, option_map}
use Rattle.yv_node_content.specs.Kinds.{is_data}
use Rattle.yv_node_content.specs.Steps.{Step}
use Rattle.yv_nodes.specs.Rows.{Row, blank_row}
use Rattle.yv_node_leafrefs.specs.Above.{parent_of, Closest, IsAbove, IsDataChild, IsFirst}
use Rattle.yv_node_leafrefs.specs.Ways.{Means}
use Rattle.yv_node_leafrefs.specs.InnerNames.{NameNumbers, told_of, AreOfNodes, AreNumbers, stride_of, stride_with}
use Rattle.yv_node_leafrefs.specs.InnerOutline.{rows_in, leafrefs_in, AreAbove, AreInside}
use Rattle.yv_node_leafrefs.specs.InnerIndex.{Key, Table, rank_of, data_key, AreKeys, HasKey, IsFirstOf, IsDraft, Finds, target_of_stride, table_of}
use Rattle.yv_node_leafrefs.specs.declared.outline.Outline.{Outline}
use Rattle.yv_node_leafrefs.specs.declared.draft.Draft.{Draft}
use Rattle.yv_node_leafrefs.proofs.ClimbUniqueness.{closest_one, closest_within}
use Rattle.yv_node_leafrefs.proofs.AncestorPlaces.{longer}

rank_one : (a b : Option ℕ) → rank_of a ≡ rank_of b → a ≡ b
rank_one None None h = refl
rank_one None (Some q) h = absurd (omega (arith, h))
rank_one (Some p) None h = absurd (omega (arith, h))
rank_one (Some p) (Some q) h = ap Some (omega (arith, h))

key_parts : (a b d x y z : ℕ) → ◌≡◌ {A = Key} (a, b, d) (x, y, z) → (a ≡ x) × (b ≡ y) × (d ≡ z)
key_parts a b d x y z h = (ap (λ (k : Key). k.0) h, ap (λ (k : Key). k.1) h, ap (λ (k : Key). k.2) h)

three : {x y z u v w : ℕ} → x ≡ u → y ≡ v → z ≡ w → ◌≡◌ {A = Key} (x, y, z) (u, v, w)
three p q r = cc

key_of : (a : Option ℕ) (r : Row) (m : ℕ) (k : Key) → data_key a r m ≡ Some k → (is_data r.label.defined.kind ≡ true) × (◌≡◌ {A = Key} (rank_of a, r.label.module_file, m) k)
key_of a r m k h = by (is_data r.label.defined.kind) refl
  where
    by : (b : Bool) → is_data r.label.defined.kind ≡ b → (is_data r.label.defined.kind ≡ true) × (◌≡◌ {A = Key} (rank_of a, r.label.module_file, m) k)
    by true e = (e, same_Some (rank_of a, r.label.module_file, m) k (sym (ap (λ t. cond t (Some (rank_of a, r.label.module_file, m)) None) e) ∙ h))
    by false e = absurd (none-some k (sym (ap (λ t. cond t (Some (rank_of a, r.label.module_file, m)) None) e) ∙ h))

key_here : (a : Option ℕ) (r : Row) (m : ℕ) → is_data r.label.defined.kind ≡ true → data_key a r m ≡ Some (rank_of a, r.label.module_file, m)
key_here a r m e = ap (λ t. cond t (Some (rank_of a, r.label.module_file, m)) None) e

first_of_key_at : (keys : List (Option Key)) (k : Key) (P : ℕ → Type 0) → ((c : ℕ) → HasKey keys k c → P c) → ((c : ℕ) → P c → HasKey keys k c) → (found : Option ℕ) → IsFirstOf keys (length keys) k found
    → (c : ℕ) → (found ≡ Some c) ↔ IsFirst P c
first_of_key_at keys k P to from None none c =
    ((λ h. absurd (none-some c h)), (λ f. absurd (none c (slice_get_within keys c (Some k) (from c f.0)) (from c f.0))))
first_of_key_at keys k P to from (Some d) is c = (
  (λ h. let same : d ≡ c = same_Some d c h in subst (IsFirst P) same (to d is.1, λ e p. is.2 e (from e p))),
  (λ f. ap Some (let down : d ≤ c = is.2 c (from c f.0) in let up : c ≤ d = f.1 d (to d is.1) in omega (arith, down, up))),
)

-- a number is that of one name
told_one : (rows : List Row) (n : ℕ) (told : NameNumbers) → AreOfNodes rows n told → (x y : List ℕ) (m : ℕ) → told x ≡ Some m → told y ≡ Some m → x ≡ y
told_one rows n told are x y m p q =
    let one = are x m p in
    let two = are y m q in
    let row_is : one.1 ≡ two.1 = same_Some one.1 two.1 (sym one.2 ∙ two.2) in
    sym one.3 ∙ ap (λ (r : Row). r.label.defined.name) row_is ∙ two.3

module _ (rows : List Row) (above : List (Option ℕ)) (known : AreAbove rows (length rows) above) (told : NameNumbers) (numbers : List ℕ) (names : AreOfNodes rows (length rows) told)
    (numbered : AreNumbers rows (length rows) told numbers) (keys : List (Option Key)) (are : AreKeys rows above numbers (length rows) keys) where
  child_of : (a : Option ℕ) (h m : ℕ) (name : List ℕ) (c : ℕ) → told name ≡ Some m → HasKey keys (rank_of a, h, m) c → IsDataChild rows a h name c
  child_of a h m name c is has =
      let within : c < length rows = subst (λ n. c < n) are.0 (slice_get_within keys c (Some (rank_of a, h, m)) has) in
      let r : Row = get_or rows c blank_row in
      let at : slice_get rows c ≡ Some r = slice_get-get_or rows c blank_row within in
      let place : Option ℕ = slice_index_or above c None in
      let number : ℕ = slice_index_or numbers c 0 in
      let key = key_of place r number (rank_of a, h, m) (same_Some (data_key place r number) (Some (rank_of a, h, m)) (sym (are.1 c r within at) ∙ has)) in
      let parts = key_parts (rank_of place) r.label.module_file number (rank_of a) h m key.1 in
      record {
        row = r;
        at = at;
        is_data_node = key.0;
        above = subst (λ (x : Option ℕ). Closest rows (parent_of r) x) (rank_one place a parts.0) (known c r within at);
        same_module = parts.1;
        same_name = told_one rows (length rows) told names r.label.defined.name name m (numbered c r within at ∙ ap Some parts.2) is;
      }

  has_of : (a : Option ℕ) (h m : ℕ) (name : List ℕ) (c : ℕ) → told name ≡ Some m → IsDataChild rows a h name c → HasKey keys (rank_of a, h, m) c
  has_of a h m name c is child =
      let r : Row = child.row in
      let within : c < length rows = slice_get_within rows c r child.at in
      let place : Option ℕ = slice_index_or above c None in
      let number : ℕ = slice_index_or numbers c 0 in
      let same : place ≡ a = closest_one rows (parent_of r) place a (known c r within child.at) child.above in
      let number_is : number ≡ m = same_Some number m (sym (numbered c r within child.at) ∙ ap told child.same_name ∙ is) in
      are.1 c r within child.at ∙ ap Some (key_here place r number child.is_data_node ∙ ap Some (three (ap rank_of same) child.same_module number_is))

  module _ (table : Table) (firsts : (k : Key) → IsFirstOf keys (length keys) k (table k)) where
    by_number : (own : ℕ) (a : Option ℕ) (s : Step) (number : Option ℕ) (c : ℕ) → told s.name ≡ number → (target_of_stride table own a (stride_with s.module_file number) ≡ Some c) ↔ Means rows own a (Some s) c
    by_number own a s None c e = (
      (λ h. absurd (none-some c h)),
      (λ (child, least). absurd (none-some _ (sym e ∙ ap told (sym child.same_name) ∙ numbered c child.row (slice_get_within rows c child.row child.at) child.at))),
    )
    by_number own a s (Some m) c e =
        let h : ℕ = unwrap_or s.module_file own in
        first_of_key_at keys (rank_of a, h, m) (IsDataChild rows a h s.name) (λ d. child_of a h m s.name d e) (λ d. has_of a h m s.name d e) (table (rank_of a, h, m)) (firsts (rank_of a, h, m)) c

    pub finds : Finds rows told table
    finds own a None c = ((λ h. absurd (none-some c h)), (λ h. absurd h))
    finds own a (Some s) c = by_number own a s (told s.name) c refl

-- one more key
pub keys_more : (rows : List Row) (above : List (Option ℕ)) (names : List ℕ) (n : ℕ) (keys new : List (Option Key)) (r : Row) (key : Option Key) → AreKeys rows above names n keys → slice_get rows n ≡ Some r
    → key ≡ data_key (slice_index_or above n None) r (slice_index_or names n 0) → new ≡ keys ++ key ∷ [] → AreKeys rows above names (n + 1) new
keys_more rows above names n keys new r key are at is more = (
  ap length more ∙ longer keys key ∙ ap (λ k. k + 1) are.0,
  λ c q l there. elim (cases_lt c n) [
    | inl less ↦ ap (λ xs. slice_get xs c) more ∙ before keys c (rw are.0 less) ∙ are.1 c q less there
    | inr up ↦
        let last : c ≡ n = omega (arith, up, l) in
        let same : q ≡ r = same_Some q r (sym there ∙ ap (slice_get rows) last ∙ at) in
        ap (λ xs. slice_get xs c) more ∙ ap (slice_get (keys ++ key ∷ [])) (last ∙ sym are.0) ∙ last_got keys
        ∙ ap Some (is ∙ ap (λ k. data_key (slice_index_or above k None) r (slice_index_or names k 0)) (sym last) ∙ ap (λ (x : Row). data_key (slice_index_or above c None) x (slice_index_or names c 0)) (sym same))
  ],
)
  where
    before : (xs : List (Option Key)) (c : ℕ) → c < length xs → slice_get (xs ++ key ∷ []) c ≡ slice_get xs c
    before [] c l = absurd (omega (arith, l))
    before (x ∷ xs) zero l = refl
    before (x ∷ xs) (suc c) l = before xs c (omega (arith, l))

    last_got : (xs : List (Option Key)) → slice_get (xs ++ key ∷ []) (length xs) ≡ Some key
    last_got [] = refl
    last_got (x ∷ xs) = last_got xs

-- the place above a node
pub above_of : (o : Outline) (d : Draft) → IsDraft o d → (c : ℕ) (a : Option ℕ) → c < length (rows_in o) → a ≡ slice_index_or d.above.items c a → IsAbove (rows_in o) a c
above_of o d draft c a within from =
    let rows : List Row = rows_in o in
    let is : a ≡ slice_index_or d.above.items c None = from ∙ get_or_default d.above.items c a None (omega (arith, within, draft.each_above)) in
    let r : Row = get_or rows c blank_row in
    let at : slice_get rows c ≡ Some r = slice_get-get_or rows c blank_row within in
    (r, at, subst (λ (x : Option ℕ). Closest rows (parent_of r) x) (sym is) (draft.above c r within at))

-- and it is one of the nodes
pub up_within : (rows : List Row) (c p : ℕ) (a : Option ℕ) → IsAbove rows a c → a ≡ Some p → p < length rows
up_within rows c p a (r, at, closest) e = closest_within rows (parent_of r) a p closest e

-- what stands at one place of two lists that say the same
pub both_at : {A B C : Type 0} (f : A → C) (g : B → C) (xs : List A) (ys : List B) (k : ℕ) (x : A) (y : B) → map f xs ≡ map g ys → slice_get xs k ≡ Some x → slice_get ys k ≡ Some y → f x ≡ g y
both_at f g xs ys k x y same at there =
    same_Some (f x) (g y) (sym (slice_get-map f xs k ∙ ap (option_map f) at) ∙ ap (λ zs. slice_get zs k) same ∙ slice_get-map g ys k ∙ ap (option_map g) there)

pub as_many : {A B C : Type 0} (f : A → C) (g : B → C) (xs : List A) (ys : List B) → map f xs ≡ map g ys → length xs ≡ length ys
as_many f g xs ys same = sym (length-map xs f) ∙ ap length same ∙ length-map ys g

-- what was read of nodes and leafrefs, one slice being read where another was lent
pub draft_of : (o : Outline) (d : Draft) (aboves : List (Option ℕ)) (numbers names : List ℕ) (keys lent : List (Option Key)) → length (rows_in o) < 2 ^ 32 → aboves ≡ d.above.items → names ≡ numbers → lent ≡ keys
    → length d.above.items ≡ length (rows_in o) → AreAbove (rows_in o) (length (rows_in o)) d.above.items → length d.inside.items ≡ length (rows_in o) → AreInside (rows_in o) (length (rows_in o)) d.inside.items
    → AreOfNodes (rows_in o) (length (rows_in o)) (told_of d.names) → AreNumbers (rows_in o) (length (rows_in o)) (told_of d.names) numbers
    → AreKeys (rows_in o) aboves names (length (rows_in o)) keys → ((k : Key) → IsFirstOf lent (length lent) k (table_of d.index k))
    → map (λ strides. strides.items) d.strides.items ≡ map (λ ref. map (stride_of (told_of d.names)) ref.steps) (leafrefs_in o) → IsDraft o d
draft_of o d aboves numbers names keys lent few e f g each above inner inside told numbered are firsts strides = record {
  few = few;
  each_above = each;
  above = above;
  each_inside = inner;
  inside = inside;
  strides = strides;
  found = finds (rows_in o) d.above.items above (told_of d.names) numbers told numbered keys
      (subst (λ (ns : List ℕ). AreKeys (rows_in o) d.above.items ns (length (rows_in o)) keys) f (subst (λ (xs : List (Option ℕ)). AreKeys (rows_in o) xs names (length (rows_in o)) keys) e are))
      (table_of d.index) (λ k. subst (λ (ks : List (Option Key)). IsFirstOf ks (length ks) k (table_of d.index k)) g (firsts k));
}
