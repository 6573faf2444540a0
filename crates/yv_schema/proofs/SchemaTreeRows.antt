-- The rows of the nodes that are left are those of the schema tree.
use Rattle.std.proofs.Common.{◌≡◌, ℕ, zero, suc, ◌+◌, ◌<◌, ◌≤◌, Bool, ◌&&◌, below_more, List, [], ◌∷◌, ◌++◌, length, get_or, drop, drop-cons, add-one, map, refl, sym, ap, ◌∙◌, subst, arith, append_assoc, append-nil, length-append, Option, Some, None}
use Rattle.std.specs.Option.{IfSome}
use Rattle.std.proofs.Math.Seq.{get_or-append_seam}
use Rattle.std.proofs.lemmas.List.{get_or_append_left, get_or_at}
use Rattle.yv_expand.specs.Tree as items
use Rattle.yv_expand.specs.Tree.{Node}
use Rattle.yv_schema.specs.Families as families
use Rattle.yv_nodes.specs.declared.node.NodeId.{NodeId}
use Rattle.yv_nodes.specs.declared.node.NodePlace.{NodePlace}
use Rattle.yv_nodes.specs.Tree.{count, Forest, Label}
use Rattle.yv_nodes.specs.Rows.{Row, blank_row}
use Rattle.yv_node_content.specs.Kinds.{is_leaf}
use Rattle.yv_nodes.specs.Member.{row_with}
use Rattle.yv_node_content.specs.Definition.{Definition}
use Rattle.yv_nodes.specs.Above.{View, seen_of}
use Rattle.yv_nodes.specs.Labels.{has_key_called, label_of}
use Rattle.yv_schema.specs.InnerBasis.{NumberedBasis, label_at, module_file_of, with_labels, stated_of}
use Rattle.yv_nodes.specs.Numbers.{numbers_from, rows_below, rows_from}
use Rattle.yv_schema.specs.InnerRows.{AreOfItems, AreSeen, IsWithin, is_key_above, is_key_at, line_at, line_of, no_node, number_at, numbers_at, parent_of, row_of, rows_of_items, said_at}

length_below : (first : ℕ) (t : items.Nodes) → length (families.below_from first t) ≡ items.count t
length_below first items.none = refl
length_below first (items.item origin below behind) =
    omega (arith, length-append (families.below_from (first + 1) below) (families.below_from (first + 1 + items.count below) behind), length_below (first + 1) below, length_below (first + 1 + items.count below) behind)

pub within_more : (parent : Option ℕ) (m n : ℕ) → m ≤ n → IsWithin parent m → IsWithin parent n
within_more None m n le h = tt
within_more (Some place) m n le h = omega (arith, h)

-- what stands before stays where more is added behind
left_stays : (lines more : List (List Label)) (place : ℕ) → place < length lines → get_or (lines ++ more) place [] ≡ get_or lines place []
left_stays [] more place lt = absurd (omega arith)
left_stays (x ∷ lines) more zero lt = refl
left_stays (x ∷ lines) more (suc place) lt = left_stays lines more place (omega arith)

line_stays : (lines more : List (List Label)) (parent : Option ℕ) → IsWithin parent (length lines) → line_at (lines ++ more) parent ≡ line_at lines parent
line_stays lines more None h = refl
line_stays lines more (Some place) h = left_stays lines more place h

module _ (b : NumberedBasis) where
  pub count_labelled : (above : List Label) (t : items.Nodes) → count (with_labels b above t) ≡ items.count t
  count_labelled above items.none = refl
  count_labelled above (items.item number below behind) = omega (arith, count_labelled (label_at b above number ∷ above) below, count_labelled above behind)

  -- the line of each item: its node and those above it
  abbrev lines_from : List Label → items.Nodes → List (List Label)
  lines_from above items.none = []
  lines_from above (items.item number below behind) =
      (label_at b above number ∷ above) ∷ lines_from (label_at b above number ∷ above) below ++ lines_from above behind

  length_lines : (above : List Label) (t : items.Nodes) → length (lines_from above t) ≡ items.count t
  length_lines above items.none = refl
  length_lines above (items.item number below behind) =
      let line : List Label = label_at b above number ∷ above in
      omega (arith, length-append (lines_from line below) (lines_from above behind), length_lines line below, length_lines above behind)

  pub numbers_labelled : (above : List Label) (first : ℕ) (t : items.Nodes) → numbers_at (families.numbers_from first t) ≡ numbers_from first (with_labels b above t)
  numbers_labelled above first items.none = refl
  numbers_labelled above first (items.item number below behind) =
      let line : List Label = label_at b above number ∷ above in
      let place : (first + 1 + items.count below) ≡ first + 1 + count (with_labels b line below) = omega (arith, count_labelled line below) in
      ap (λ (cs : List NodeId). number_at first ∷ cs)
      (numbers_labelled above (first + 1 + items.count below) behind ∙ ap (λ (n : ℕ). numbers_from n (with_labels b above behind)) place)

  -- the row of one item, and those of the items behind
  pub row_next : (below : List (List ℕ)) (lines : List (List Label)) (xs : List Node) (i : ℕ) (x : Node) → i < length xs
      → rows_of_items b below lines i (drop i xs)
      ≡ row_of b (line_at lines (get_or xs i x).parent) (get_or xs i x) (parent_of (get_or xs i x).parent) (numbers_at (get_or below i []))
      ∷ rows_of_items b below (lines ++ line_of b lines (get_or xs i x) ∷ []) (i + 1) (drop (i + 1) xs)
  row_next below lines xs i x lt = ap (rows_of_items b below lines i) (drop-cons xs i x lt ∙ ap (λ (n : ℕ). get_or xs i x ∷ drop n xs) (sym (add-one i)))

  pub rows_labelled : (parent : Option ℕ) (above : List Label) (first : ℕ) (t : items.Nodes) (front back : List (List ℕ)) (lines : List (List Label)) (rest : List Node)
      → length front ≡ first → length lines ≡ first → IsWithin parent first → line_at lines parent ≡ above
      → rows_of_items b (front ++ families.below_from first t ++ back) lines first (items.item_list parent first t ++ rest)
      ≡ rows_below (parent_of parent) first (with_labels b above t)
      ++ rows_of_items b (front ++ families.below_from first t ++ back) (lines ++ lines_from above t) (first + items.count t) rest
  rows_labelled parent above first items.none front back lines rest many long within e =
      let all : List (List ℕ) = front ++ [] ++ back in
      ap (λ (ls : List (List Label)). rows_of_items b all ls first rest) (sym (append-nil lines))
      ∙ ap (λ (n : ℕ). rows_of_items b all (lines ++ []) n rest) (omega arith)
  rows_labelled parent above first (items.item number below behind) front back lines rest many long within e =
      let own : List ℕ = families.numbers_from (first + 1) below in
      let kids : List (List ℕ) = families.below_from (first + 1) below in
      let others : List (List ℕ) = families.below_from (first + 1 + items.count below) behind in
      let all : List (List ℕ) = front ++ (own ∷ kids ++ others) ++ back in
      let seam : all ≡ front ++ own ∷ (kids ++ others ++ back) = simp append_assoc in
      let first_split : (front ++ own ∷ []) ++ kids ++ (others ++ back) ≡ all = simp append_assoc in
      let second_split : (front ++ own ∷ kids) ++ others ++ back ≡ all = simp append_assoc in
      let here : get_or all first [] ≡ own =
      ap (λ (xs : List (List ℕ)). get_or xs first []) seam ∙ ap (λ (n : ℕ). get_or (front ++ own ∷ (kids ++ others ++ back)) n []) (sym many)
      ∙ get_or-append_seam front own (kids ++ others ++ back) [] in
      let own_id : NodeId = record { 0 = first } in
      let above_id : NodeId = parent_of parent in
      let x : Node = record { origin = number; parent = parent } in
      let mine : Label = label_at b above number in
      let line : List Label = mine ∷ above in
      let second : ℕ = first + 1 + items.count below in
      let inside : Forest = with_labels b line below in
      let after : Forest = with_labels b above behind in
      let first_items : List Node = items.item_list (Some first) (first + 1) below in
      let second_items : List Node = items.item_list parent second behind in
      let first_lines : List (List Label) = lines ++ line ∷ [] in
      let second_lines : List (List Label) = first_lines ++ lines_from line below in
      let end : List Row = rows_of_items b all (lines ++ lines_from above (items.item number below behind)) (first + items.count (items.item number below behind)) rest in
      let same : line_of b lines x ≡ line = ap (λ (ls : List Label). label_at b ls number ∷ ls) e in
      let long_first : length first_lines ≡ first + 1 = omega (arith, long, length-append lines (line ∷ [])) in
      let long_second : length second_lines ≡ second = omega (arith, long_first, length-append first_lines (lines_from line below), length_lines line below) in
      let found : line_at first_lines (Some first) ≡ line =
      ap (λ (n : ℕ). get_or first_lines n []) (sym long) ∙ get_or-append_seam lines line [] [] in
      let stays : line_at second_lines parent ≡ above =
      line_stays first_lines (lines_from line below) parent (within_more parent first (length first_lines) (omega (arith, long_first)) within)
      ∙ line_stays lines (line ∷ []) parent (within_more parent first (length lines) (omega (arith, long)) within) ∙ e in
      let inner : rows_of_items b all first_lines (first + 1) (first_items ++ (second_items ++ rest)) ≡ rows_below own_id (first + 1) inside ++ rows_of_items b all second_lines second (second_items ++ rest) =
      subst (λ (bs : List (List ℕ)). rows_of_items b bs first_lines (first + 1) (first_items ++ (second_items ++ rest)) ≡ rows_below own_id (first + 1) inside ++ rows_of_items b bs second_lines second (second_items ++ rest)) first_split
      (rows_labelled (Some first) line (first + 1) below (front ++ own ∷ []) (others ++ back) first_lines (second_items ++ rest) (omega (arith, many, length-append front (own ∷ []))) long_first (omega arith) found) in
      let outer : rows_of_items b all second_lines second (second_items ++ rest) ≡ rows_below above_id second after ++ rows_of_items b all (second_lines ++ lines_from above behind) (second + items.count behind) rest =
      subst (λ (bs : List (List ℕ)). rows_of_items b bs second_lines second (second_items ++ rest) ≡ rows_below above_id second after ++ rows_of_items b bs (second_lines ++ lines_from above behind) (second + items.count behind) rest) second_split
      (rows_labelled parent above second behind (front ++ own ∷ kids) back second_lines rest (omega (arith, many, length-append front (own ∷ kids), length_below (first + 1) below)) long_second (within_more parent first second (omega arith) within) stays) in
      let all_lines : second_lines ++ lines_from above behind ≡ lines ++ lines_from above (items.item number below behind) = simp append_assoc in
      let ended : rows_of_items b all (second_lines ++ lines_from above behind) (second + items.count behind) rest ≡ end =
      ap (λ (ls : List (List Label)). rows_of_items b all ls (second + items.count behind) rest) all_lines
      ∙ ap (λ (n : ℕ). rows_of_items b all (lines ++ lines_from above (items.item number below behind)) n rest) (omega arith) in
      let a_rows : List Row = rows_below own_id (first + 1) inside in
      let b_rows : List Row = rows_below above_id (first + 1 + count inside) after in
      let b_same : rows_below above_id second after ≡ b_rows = ap (λ (n : ℕ). rows_below above_id n after) (omega (arith, count_labelled line below)) in
      let tail : rows_of_items b all (lines ++ line_of b lines x ∷ []) (first + 1) ((first_items ++ second_items) ++ rest) ≡ (a_rows ++ b_rows) ++ end =
      ap (λ (l : List Label). rows_of_items b all (lines ++ l ∷ []) (first + 1) ((first_items ++ second_items) ++ rest)) same
      ∙ ap (rows_of_items b all first_lines (first + 1)) (append_assoc first_items second_items rest)
      ∙ inner
      ∙ ap (λ (rs : List Row). a_rows ++ rs) (outer ∙ ap (λ (rs : List Row). rs ++ rows_of_items b all (second_lines ++ lines_from above behind) (second + items.count behind) rest) b_same ∙ ap (λ (rs : List Row). b_rows ++ rs) ended)
      ∙ sym (append_assoc a_rows b_rows end) in
      let children : numbers_at (get_or all first []) ≡ numbers_from (first + 1) inside =
      ap numbers_at here ∙ numbers_labelled line (first + 1) below in
      let head : row_of b (line_at lines parent) x above_id (numbers_at (get_or all first [])) ≡ row_of b above x above_id (numbers_from (first + 1) inside) =
      ap (λ (ls : List Label). row_of b ls x above_id (numbers_at (get_or all first []))) e ∙ ap (row_of b above x above_id) children in
      ap (λ (r : Row). r ∷ rows_of_items b all (lines ++ line_of b lines x ∷ []) (first + 1) ((first_items ++ second_items) ++ rest)) head
      ∙ ap (λ (rs : List Row). row_of b above x above_id (numbers_from (first + 1) inside) ∷ rs) tail

  -- the rows of all items are those of the schema tree
  pub rows_whole : (xs : List Node) (below : List (List ℕ)) → xs ≡ items.item_list None 0 b.nodes → below ≡ families.below_from 0 b.nodes → rows_of_items b below [] 0 xs ≡ rows_from 0 (stated_of b)
  rows_whole xs below are hung =
      let flat : below ≡ [] ++ families.below_from 0 b.nodes ++ [] = hung ∙ sym (append-nil (families.below_from 0 b.nodes)) in
      ap (λ (bs : List (List ℕ)). rows_of_items b bs [] 0 xs) flat
      ∙ ap (rows_of_items b ([] ++ families.below_from 0 b.nodes ++ []) [] 0) (are ∙ sym (append-nil (items.item_list None 0 b.nodes)))
      ∙ rows_labelled None [] 0 b.nodes [] [] [] [] refl refl tt refl ∙ append-nil _

  -- the numbers of those at the top are those of its nodes at the top
  pub top_whole : (top : List ℕ) → top ≡ families.numbers_from 0 b.nodes → numbers_at top ≡ numbers_from 0 (stated_of b)
  top_whole top are = ap numbers_at are ∙ numbers_labelled [] 0 b.nodes

map_one : (lines : List (List Label)) (line : List Label) → map seen_of (lines ++ line ∷ []) ≡ map seen_of lines ++ seen_of line ∷ []
map_one [] line = refl
map_one (l ∷ lines) line = ap (λ (ss : List View). seen_of l ∷ ss) (map_one lines line)

-- the line of one more item is seen
pub seen_more : (lines : List (List Label)) (line : List Label) (old new : List View) (one : View) → AreSeen lines old → one ≡ seen_of line → new ≡ old ++ one ∷ [] → AreSeen (lines ++ line ∷ []) new
seen_more lines line old new one h is grew =
    record { are = grew ∙ ap (λ (ss : List View). ss ++ one ∷ []) h.are ∙ ap (λ (s : View). map seen_of lines ++ s ∷ []) is ∙ sym (map_one lines line) }

-- the rows and lines of the items so far
pub record Kept (b : NumberedBasis) (below : List (List ℕ)) (seen : List View) (i : ℕ) (xs : List Node) (now old : List Row) : Type 0 where
  pub lines : List (List Label)
  pub are : AreSeen lines seen
  pub rows : now ++ rows_of_items b below lines i (drop i xs) ≡ old ++ rows_of_items b below [] 0 xs
  pub many : length lines ≡ i
  pub heads : (k : ℕ) → k < i → (module_file : ℕ) (name : List ℕ) → has_key_called (get_or lines k []) module_file name ≡ is_key_above b xs (Some k) module_file name
  pub noted : AreOfItems b xs now

-- what the node above an item names in its key
pub key_above : (b : NumberedBasis) (xs : List Node) (lines : List (List Label)) (i : ℕ)
    → ((k : ℕ) → k < i → (module_file : ℕ) (name : List ℕ) → has_key_called (get_or lines k []) module_file name ≡ is_key_above b xs (Some k) module_file name)
    → (parent : Option ℕ) → IsWithin parent i → (module_file : ℕ) (name : List ℕ) → has_key_called (line_at lines parent) module_file name ≡ is_key_above b xs parent module_file name
key_above b xs lines i heads None within module_file name = refl
key_above b xs lines i heads (Some place) within module_file name = heads place within module_file name

-- whether it is a key
pub key_is : (b : NumberedBasis) (below : List (List ℕ)) (seen : List View) (i : ℕ) (xs : List Node) (now old : List Row) (k : Kept b below seen i xs now old) (x : Node)
    → IsWithin x.parent i → (label_at b (line_at k.lines x.parent) x.origin).is_key ≡ is_key_at b xs x
key_is b below seen i xs now old k x within =
    ap (λ (named : Bool). is_leaf (said_at b x.origin).kind && named) (key_above b xs k.lines i k.heads x.parent within (module_file_of b x.origin) (said_at b x.origin).name)

-- an earlier row of which the same is said has what the row that is made has
pub shared : (b : NumberedBasis) (xs : List Node) (rows : List Row) (place : ℕ) (row : Row) (earlier : Option ℕ) → AreOfItems b xs rows → length rows ≡ place
    → IfSome earlier (λ (e : ℕ). e < place) → IfSome earlier (λ (e : ℕ). said_at b (get_or xs place no_node).origin ≡ said_at b (get_or xs e no_node).origin)
    → row.label.defined ≡ said_at b (get_or xs place no_node).origin → IfSome earlier (λ (e : ℕ). (get_or rows e blank_row).label.defined ≡ row.label.defined)
shared b xs rows place row None are many before same is = tt
shared b xs rows place row (Some e) are many before same is = are.said e (omega (arith, before, many)) ∙ sym same ∙ sym is

-- nothing yet
pub kept_none : (b : NumberedBasis) (below : List (List ℕ)) (seen : List View) (xs : List Node) (old : List Row) → seen ≡ [] → old ≡ [] → Kept b below seen 0 xs old old
kept_none b below seen xs old is none = record {
  lines = [];
  are = record { are = is };
  rows = refl;
  many = refl;
  heads = λ k lt. absurd (omega arith);
  noted = record { said = λ k lt. absurd (omega (arith, lt, ap (length {A = Row}) none)); keys = λ k lt. absurd (omega (arith, lt, ap (length {A = Row}) none)) };
}

-- one item more
module _ (b : NumberedBasis) (below : List (List ℕ)) (seen : List View) (i : ℕ) (xs : List Node) (now old : List Row) (k : Kept b below seen i xs now old) where
  heads_more : (m : ℕ) (s : List ℕ) (n : ℕ) → n < i + 1 → has_key_called (get_or (k.lines ++ line_of b k.lines (get_or xs i no_node) ∷ []) n []) m s ≡ is_key_above b xs (Some n) m s
  heads_more m s n lt =
      let line : List Label = line_of b k.lines (get_or xs i no_node) in
      let P : ℕ → Type 0 = λ n. has_key_called (get_or (k.lines ++ line ∷ []) n []) m s ≡ is_key_above b xs (Some n) m s in
      let last : P i = ap (λ (ls : List Label). has_key_called ls m s) (get_or_at k.lines line [] [] i k.many) in
      let each : (n : ℕ) → n < i → P n = λ n lt. ap (λ (ls : List Label). has_key_called ls m s) (get_or_append_left k.lines (line ∷ []) [] n (omega (arith, lt, k.many))) ∙ k.heads n lt m s in
      below_more P i each last n lt

  noted_more : (new : List Row) (row : Row) → length now ≡ i → new ≡ now ++ row ∷ []
      → row ≡ row_of b (line_at k.lines (get_or xs i no_node).parent) (get_or xs i no_node) (parent_of (get_or xs i no_node).parent) (numbers_at (get_or below i []))
      → IsWithin (get_or xs i no_node).parent i → AreOfItems b xs new
  noted_more new row many added is within =
      let x : Node = get_or xs i no_node in
      let line : List Label = line_at k.lines x.parent in
      let here : get_or new i blank_row ≡ row_of b line x (parent_of x.parent) (numbers_at (get_or below i [])) =
      ap (λ (rs : List Row). get_or rs i blank_row) added ∙ get_or_at now row [] blank_row i many ∙ is in
      let before : (n : ℕ) → n < i → get_or new n blank_row ≡ get_or now n blank_row = λ n lt.
      ap (λ (rs : List Row). get_or rs n blank_row) added ∙ get_or_append_left now (row ∷ []) blank_row n (omega (arith, lt, many)) in
      let long : length new ≡ i + 1 = ap (length {A = Row}) added ∙ length-append now (row ∷ []) ∙ ap (λ (n : ℕ). n + 1) many in
      let Said : ℕ → Type 0 = λ n. (get_or new n blank_row).label.defined ≡ said_at b (get_or xs n no_node).origin in
      let IsKey : ℕ → Type 0 = λ n. (get_or new n blank_row).label.is_key ≡ is_key_at b xs (get_or xs n no_node) in
      let said : (n : ℕ) → n < i → Said n = λ n lt. ap (λ (r : Row). r.label.defined) (before n lt) ∙ k.noted.said n (omega (arith, lt, many)) in
      let keys : (n : ℕ) → n < i → IsKey n = λ n lt. ap (λ (r : Row). r.label.is_key) (before n lt) ∙ k.noted.keys n (omega (arith, lt, many)) in
      record {
        said = λ n lt. below_more Said i said (ap (λ (r : Row). r.label.defined) here) n (omega (arith, lt, long));
        keys = λ n lt. below_more IsKey i keys (ap (λ (r : Row). r.label.is_key) here ∙ key_is b below seen i xs now old k x within) n (omega (arith, lt, long));
      }

  pub kept_more : (next : List View) (one : View) (new : List Row) (row : Row) → i < length xs → length now ≡ i → next ≡ seen ++ one ∷ [] → new ≡ now ++ row ∷ []
      → row ≡ row_of b (line_at k.lines (get_or xs i no_node).parent) (get_or xs i no_node) (parent_of (get_or xs i no_node).parent) (numbers_at (get_or below i []))
      → one ≡ seen_of (line_of b k.lines (get_or xs i no_node)) → IsWithin (get_or xs i no_node).parent i → Kept b below next (i + 1) xs new old
  kept_more next one new row lt many grew added is told within =
      let x : Node = get_or xs i no_node in
      let above : List Label = line_at k.lines x.parent in
      let line : List Label = line_of b k.lines x in
      let made : Row = row_of b above x (parent_of x.parent) (numbers_at (get_or below i [])) in
      let rest : List Row = rows_of_items b below (k.lines ++ line ∷ []) (i + 1) (drop (i + 1) xs) in
      record {
        lines = k.lines ++ line ∷ [];
        are = seen_more k.lines line seen next one k.are told grew;
        rows =
            ap (λ (rs : List Row). rs ++ rest) (added ∙ ap (λ (r : Row). now ++ r ∷ []) is) ∙ append_assoc now (made ∷ []) rest
            ∙ ap (λ (rs : List Row). now ++ rs) (sym (row_next b below k.lines xs i no_node lt)) ∙ k.rows;
        many = length-append k.lines (line ∷ []) ∙ ap (λ (n : ℕ). n + 1) k.many;
        heads = λ n lt m s. heads_more m s n lt;
        noted = noted_more new row many added is within;
      }

-- the row of a node that is made for an item of this definition, in the namespace of the module of
-- its module_file
pub row_is : (b : NumberedBasis) (ls : List Label) (x : Node) (parent : NodeId) (children : List NodeId) (d : Definition) (module_file : ℕ) (name : List ℕ) (standing : NodePlace)
    → label_of d module_file name ls ≡ label_at b ls x.origin → (row_with d module_file name standing parent children).label ≡ label_of d module_file name ls
    → row_with d module_file name standing parent children ≡ row_of b ls x parent children
row_is b ls x parent children d module_file name standing is e = ap (λ (l : Label). let r : Row = record { label = l; parent = parent; children = children } in r) (e ∙ is)

-- what is seen below an item's node
pub seen_below : (b : NumberedBasis) (ls : List Label) (seen : View) (x : Node) (d : Definition) (module_file : ℕ) (name : List ℕ) (standing : NodePlace) (above : View) (parent : NodeId) (children : List NodeId)
    → label_of d module_file name ls ≡ label_at b ls x.origin → (row_with d module_file name standing parent children).label ≡ label_of d module_file name ls
    → ((l : Label) → seen ≡ seen_of ls → l.defined ≡ d → l.module_file ≡ module_file → l.is_config ≡ standing.is_config → l.is_input ≡ standing.is_input → above ≡ seen_of (l ∷ ls))
    → seen ≡ seen_of ls → above ≡ seen_of (label_at b ls x.origin ∷ ls)
seen_below b ls seen x d module_file name standing above parent children is e below same =
    below (label_of d module_file name ls) same refl refl (sym (ap (λ (l : Label). l.is_config) e)) (sym (ap (λ (l : Label). l.is_input) e))
    ∙ ap (λ (l : Label). seen_of (l ∷ ls)) is
