-- The first nodes of which the same is said, where nodes are added or get other types.
use Rattle.std.proofs.Common.{◌≡◌, ℕ, ◌+◌, ◌<◌, ◌≤◌, List, [], ◌∷◌, ◌++◌, length, length-append, Option, Some, None, option_map, get_or, slice_get, refl, sym, ap, ◌∙◌, subst, arith, below_more}
use Rattle.std.proofs.lemmas.List.{get_or_append_left, get_or_at}
use Rattle.std.proofs.lemmas.Option.{get_or_from_slice_get, slice_get-get_or, slice_get_within}
use Rattle.yv_values.specs.Types.{Plain}
use Rattle.yv_node_content.specs.Definition.{Definition, with_types}
use Rattle.yv_nodes.specs.Rows.{Row, StandBehind, blank_row, rank}
use Rattle.yv_nodes.specs.Alike.{without_types, untyped_at}
use Rattle.yv_nodes.specs.InnerAlike.{AreFirsts, IsFirst}
use Rattle.yv_nodes.specs.InnerTypes.{with_own_types}
use Rattle.yv_nodes.specs.NodeTypes.{typed_row}

-- rows behind leave what is said before
untyped_left : (rows more : List Row) (n : ℕ) → n < length rows → untyped_at (rows ++ more) n ≡ untyped_at rows n
untyped_left rows more n lt = ap without_types (get_or_append_left rows more blank_row n lt)

wider : (rows more : List Row) (n first : ℕ) → n < length rows → IsFirst rows n first → IsFirst (rows ++ more) n first
wider rows more n first lt is = record {
  before = is.before;
  alike = untyped_left rows more first (omega (arith, is.before, lt)) ∙ is.alike ∙ sym (untyped_left rows more n lt);
}

-- a node is added
pub firsts_more : (rows : List Row) (firsts : List ℕ) (row : Row) (first : ℕ) → AreFirsts rows firsts → IsFirst (rows ++ row ∷ []) (length rows) first
    → AreFirsts (rows ++ row ∷ []) (firsts ++ first ∷ [])
firsts_more rows firsts row first are is =
    let more : List Row = rows ++ row ∷ [] in
    let now : List ℕ = firsts ++ first ∷ [] in
    let long : length more ≡ length rows + 1 = length-append rows (row ∷ []) in
    let P : ℕ → Type 0 = λ k. IsFirst more k (get_or now k 0) in
    let last : P (length rows) = subst (λ (f : ℕ). IsFirst more (length rows) f) (sym (get_or_at firsts first [] 0 (length rows) are.each)) is in
    let each : (k : ℕ) → k < length rows → P k = λ k lt. subst (λ (f : ℕ). IsFirst more k f) (sym (get_or_append_left firsts (first ∷ []) 0 k (omega (arith, lt, are.each))))
    (wider rows (row ∷ []) k (get_or firsts k 0) lt (are.are k lt)) in
    record {
      each = length-append firsts (first ∷ []) ∙ ap (λ (n : ℕ). n + 1) are.each ∙ sym long;
      are = λ k lt. below_more P (length rows) each last k (omega (arith, lt, long));
    }

-- the first of an earlier node is that of one of which the same is said
pub first_through : (rows : List Row) (firsts : List ℕ) (row : Row) (earlier first : ℕ) → AreFirsts rows firsts → earlier < length rows → first ≡ get_or firsts earlier 0
    → row.label.defined ≡ (get_or rows earlier blank_row).label.defined → IsFirst (rows ++ row ∷ []) (length rows) first
first_through rows firsts row earlier first are lt at said =
    let is : IsFirst rows earlier first = subst (λ (f : ℕ). IsFirst rows earlier f) (sym at) (are.are earlier lt) in
    record {
      before = omega (arith, is.before, lt);
      alike = untyped_left rows (row ∷ []) first (omega (arith, is.before, lt)) ∙ is.alike ∙ sym (ap (with_types []) said)
          ∙ sym (ap without_types (get_or_at rows row [] blank_row (length rows) refl));
    }

-- other types leave what is said but for types
typed_untyped : (lists : List (List Plain)) (k : ℕ) (row : Row) → without_types (with_own_types lists k row) ≡ without_types row
typed_untyped lists k row = by (slice_get lists k)
  where
    by : (types : Option (List Plain)) → (let now : Row = elim types [ None ↦ row | Some some ↦ typed_row some row ] in without_types now ≡ without_types row)
    by None = refl
    by (Some types) = refl

stays : (lists : List (List Plain)) (rows new : List Row) → ((n : ℕ) → slice_get new n ≡ option_map (with_own_types lists n) (slice_get rows n)) → (n : ℕ) → n < length rows
    → untyped_at new n ≡ untyped_at rows n
stays lists rows new each n lt =
    let was : Row = get_or rows n blank_row in
    let is : slice_get new n ≡ Some (with_own_types lists n was) = each n ∙ ap (option_map (with_own_types lists n)) (slice_get-get_or rows n blank_row lt) in
    ap without_types (get_or_from_slice_get new n (with_own_types lists n was) blank_row is) ∙ typed_untyped lists n was

pub retyped_firsts : (lists : List (List Plain)) (rows new : List Row) (firsts : List ℕ) → length new ≡ length rows
    → ((n : ℕ) → slice_get new n ≡ option_map (with_own_types lists n) (slice_get rows n)) → AreFirsts rows firsts → AreFirsts new firsts
retyped_firsts lists rows new firsts long each are = record {
  each = are.each ∙ sym long;
  are = λ n lt.
      let within : n < length rows = omega (arith, lt, long) in
      let is : IsFirst rows n (get_or firsts n 0) = are.are n within in
      record {
        before = is.before;
        alike = stays lists rows new each (get_or firsts n 0) (omega (arith, is.before, within)) ∙ is.alike ∙ sym (stays lists rows new each n within);
      };
}

-- a node that is added stands behind the one above it
pub behind_more : (rows : List Row) (row : Row) → StandBehind rows → rank row.parent ≤ length rows → StandBehind (rows ++ row ∷ [])
behind_more rows row behind within = λ n r at.
    let long : length (rows ++ row ∷ []) ≡ length rows + 1 = length-append rows (row ∷ []) in
    let P : ℕ → Type 0 = λ k. rank (get_or (rows ++ row ∷ []) k blank_row).parent ≤ k in
    let last : P (length rows) = subst (λ (x : Row). rank x.parent ≤ length rows) (sym (get_or_at rows row [] blank_row (length rows) refl)) within in
    let each : (k : ℕ) → k < length rows → P k = λ k lt. subst (λ (x : Row). rank x.parent ≤ k) (sym (get_or_append_left rows (row ∷ []) blank_row k lt))
    (behind k (get_or rows k blank_row) (slice_get-get_or rows k blank_row lt)) in
    subst (λ (x : Row). rank x.parent ≤ n) (get_or_from_slice_get (rows ++ row ∷ []) n r blank_row at)
    (below_more P (length rows) each last n (omega (arith, slice_get_within (rows ++ row ∷ []) n r at, long)))
