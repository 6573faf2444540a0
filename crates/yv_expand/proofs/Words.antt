-- Keywords, and the statements as they are read.
use Rattle.std.proofs.Common.{◌≡◌, ℕ, ◌<◌, ◌⊎◌, inl, inr, Bool, true, false, ◌||◌, ◌&&◌, List, [], ◌∷◌, length, map, get_or, refl, sym, ◌∙◌, ap, codes, if◌then◌else◌, Some, None}
use Rattle.std.specs.List.{list_all, slice_get}
use Rattle.std.specs.Option.{option_map}
use Rattle.std.specs.Str.{bytes_eq}
use Rattle.std.proofs.lemmas.List.{length-map}
use Rattle.std.proofs.lemmas.Option.{slice_get-map, slice_get_read}
use Rattle.std.proofs.lemmas.Slice.Eq.{bytes_eq-Decides}
use Rattle.yv_text_statement.specs.Tree.{Head}
use Rattle.yv_link_scopes.specs.Files.{has_word}
use Rattle.yv_link_scopes.specs.Rows.{Row}
use Rattle.yv_text_statement.specs.Words.{is_among}
use Rattle.yv_link_definitions.specs.Refers.{is_type, is_uses}
use Rattle.yv_expand_statements.specs.Units.{units_of, nodes, operations, keywords_passed}
use Rattle.yv_expand_statements.specs.StatementBlocks.{is_node_or_uses, is_operation, is_input, is_output, is_augment}

-- a statement has one keyword
pub word_is : (head : Head) (u : List ℕ) → has_word u head ≡ true → head.keyword ≡ u
word_is head u h = (bytes_eq-Decides head.keyword u).0 h

pub false_true : false ≡ true → ⊥
false_true h = cc

pub and_first : (a b : Bool) → (a && b) ≡ true → a ≡ true
and_first true b h = refl
and_first false b h = absurd (false_true h)

pub and_second : (a b : Bool) → (a && b) ≡ true → b ≡ true
and_second true b h = h
and_second false b h = absurd (false_true h)

-- what passes for all words passes for one of them
pub among_all : (P : List ℕ → Bool) (ws : List (List ℕ)) (w : List ℕ) → list_all P ws ≡ true → is_among ws w ≡ true → P w ≡ true
among_all P [] w all is = absurd (false_true is)
among_all P (x ∷ ws) w all is = by (bytes_eq x w) refl is (among_all P ws w (and_second (P x) (list_all P ws) all))
  where
    by : (b : Bool) → bytes_eq x w ≡ b → (b || is_among ws w) ≡ true → (is_among ws w ≡ true → P w ≡ true) → P w ≡ true
    by true e h others = ap P (sym ((bytes_eq-Decides x w).0 e)) ∙ and_first (P x) (list_all P ws) all
    by false e h others = others h

-- what is an input, an output or an augment is no item
pub input_no_item : (r : Row) → is_input r ≡ true → is_node_or_uses r ≡ false
unfolding is_node_or_uses
input_no_item r h = ap (λ (w : List ℕ). is_among nodes w || is_among operations w) (word_is r.head (codes "input") h)

pub output_no_item : (r : Row) → is_output r ≡ true → is_node_or_uses r ≡ false
unfolding is_node_or_uses
output_no_item r h = ap (λ (w : List ℕ). is_among nodes w || is_among operations w) (word_is r.head (codes "output") h)

pub augment_no_item : (r : Row) → is_augment r ≡ true → is_node_or_uses r ≡ false
unfolding is_node_or_uses
augment_no_item r h = ap (λ (w : List ℕ). is_among nodes w || is_among operations w) (word_is r.head (codes "augment") h)

-- an operation is an item
pub operation_item : (r : Row) → is_operation r ≡ true → is_node_or_uses r ≡ true
unfolding is_node_or_uses is_operation
operation_item r h = by (is_among nodes r.head.keyword) (is_among operations r.head.keyword) h
  where
    by : (a b : Bool) → b ≡ true → (a || b) ≡ true
    by true b e = refl
    by false b e = e

pub no_item_no_operation : (r : Row) → is_node_or_uses r ≡ false → is_operation r ≡ false
unfolding is_node_or_uses is_operation
no_item_no_operation r h = by (is_among nodes r.head.keyword) (is_among operations r.head.keyword) h
  where
    by : (a b : Bool) → (a || b) ≡ false → b ≡ false
    by true b e = absurd (let bad : true ≡ false = e in cc)
    by false b e = e

-- what counts nothing is no item, no part and no augment
pub no_units_no_item : (r : Row) → units_of r.head.keyword ≡ None → is_node_or_uses r ≡ false
unfolding units_of is_node_or_uses
no_units_no_item r e = by (is_among nodes r.head.keyword) (is_among operations r.head.keyword) (is_among keywords_passed r.head.keyword) 1 3 0 e
  where
    by : (b c d : Bool) (x y z : ℕ) → (if b then Some x else if c then Some y else if d then Some z else None) ≡ None → (b || c) ≡ false
    by true c d x y z e = absurd (let bad : Some x ≡ None = e in cc)
    by false true d x y z e = absurd (let bad : Some y ≡ None = e in cc)
    by false false d x y z e = refl

some_none : {A : Type 0} (n : ℕ) → Some n ≡ None → A
some_none n e = absurd (let bad : Some n ≡ None = e in cc)

pub no_units_no_input : (r : Row) → units_of r.head.keyword ≡ None → is_input r ≡ false
unfolding units_of
no_units_no_input r e = by (is_input r) refl
  where
    by : (b : Bool) → is_input r ≡ b → b ≡ false
    by true h = some_none 0 (ap units_of (sym (word_is r.head (codes "input") h)) ∙ e)
    by false h = refl

pub no_units_no_output : (r : Row) → units_of r.head.keyword ≡ None → is_output r ≡ false
unfolding units_of
no_units_no_output r e = by (is_output r) refl
  where
    by : (b : Bool) → is_output r ≡ b → b ≡ false
    by true h = some_none 0 (ap units_of (sym (word_is r.head (codes "output") h)) ∙ e)
    by false h = refl

pub no_units_no_augment : (r : Row) → units_of r.head.keyword ≡ None → is_augment r ≡ false
unfolding units_of
no_units_no_augment r e = by (is_augment r) refl
  where
    by : (b : Bool) → is_augment r ≡ b → b ≡ false
    by true h = some_none 0 (ap units_of (sym (word_is r.head (codes "augment") h)) ∙ e)
    by false h = refl

-- an item is no part and no augment
pub item_no_input : (r : Row) → is_node_or_uses r ≡ true → is_input r ≡ false
item_no_input r is = by (is_input r) refl
  where
    by : (b : Bool) → is_input r ≡ b → b ≡ false
    by true h = absurd (false_true (sym (input_no_item r h) ∙ is))
    by false h = refl

pub item_no_output : (r : Row) → is_node_or_uses r ≡ true → is_output r ≡ false
item_no_output r is = by (is_output r) refl
  where
    by : (b : Bool) → is_output r ≡ b → b ≡ false
    by true h = absurd (false_true (sym (output_no_item r h) ∙ is))
    by false h = refl

pub item_no_augment : (r : Row) → is_node_or_uses r ≡ true → is_augment r ≡ false
item_no_augment r is = by (is_augment r) refl
  where
    by : (b : Bool) → is_augment r ≡ b → b ≡ false
    by true h = absurd (false_true (sym (augment_no_item r h) ∙ is))
    by false h = refl

-- a part or an augment is no other
pub input_no_output : (r : Row) → is_input r ≡ true → is_output r ≡ false
input_no_output r h = ap (λ (w : List ℕ). bytes_eq w (codes "output")) (word_is r.head (codes "input") h)

pub input_no_augment : (r : Row) → is_input r ≡ true → is_augment r ≡ false
input_no_augment r h = ap (λ (w : List ℕ). bytes_eq w (codes "augment")) (word_is r.head (codes "input") h)

pub output_no_augment : (r : Row) → is_output r ≡ true → is_augment r ≡ false
output_no_augment r h = ap (λ (w : List ℕ). bytes_eq w (codes "augment")) (word_is r.head (codes "output") h)

-- an item that is no operation counts one
pub item_units : (r : Row) → is_node_or_uses r ≡ true → is_operation r ≡ false → units_of r.head.keyword ≡ Some 1
unfolding units_of is_node_or_uses is_operation
item_units r is isnt = by (is_among nodes r.head.keyword) (is_among operations r.head.keyword) (is_among keywords_passed r.head.keyword) 1 3 0 is isnt
  where
    by : (a b c : Bool) (x y z : ℕ) → (a || b) ≡ true → b ≡ false → (if a then Some x else if b then Some y else if c then Some z else None) ≡ Some x
    by true b c x y z e f = refl
    by false b c x y z e f = absurd (false_true (sym f ∙ e))

-- an operation counts three
operation_word : (w : List ℕ) → is_among operations w ≡ true → (w ≡ codes "rpc") ⊎ (w ≡ codes "action")
operation_word w h = by (bytes_eq (codes "rpc") w) (bytes_eq (codes "action") w) refl refl h
  where
    by : (a b : Bool) → bytes_eq (codes "rpc") w ≡ a → bytes_eq (codes "action") w ≡ b → (a || (b || false)) ≡ true → (w ≡ codes "rpc") ⊎ (w ≡ codes "action")
    by true b e f g = inl (sym ((bytes_eq-Decides (codes "rpc") w).0 e))
    by false true e f g = inr (sym ((bytes_eq-Decides (codes "action") w).0 f))
    by false false e f g = absurd (false_true g)

pub operation_units : (r : Row) → is_operation r ≡ true → units_of r.head.keyword ≡ Some 3
unfolding units_of is_operation
operation_units r h = elim (operation_word r.head.keyword h) [ inl e ↦ ap units_of e | inr e ↦ ap units_of e ]

-- what names a definition and counts is a uses
type_units : units_of (codes "type") ≡ None
unfolding units_of
type_units = refl

pub counts_uses : (r : Row) (own : ℕ) → units_of r.head.keyword ≡ Some own → (is_type r ≡ true) ⊎ (is_uses r ≡ true) → is_uses r ≡ true
counts_uses r own u (inl t) =
    absurd (let bad : None ≡ Some own = sym type_units ∙ ap units_of (sym (word_is r.head (codes "type") t)) ∙ u in cc)
counts_uses r own u (inr h) = h

pub uses_item : (r : Row) → is_uses r ≡ true → is_node_or_uses r ≡ true
unfolding is_node_or_uses
uses_item r h = ap (λ (w : List ℕ). is_among nodes w || is_among operations w) (word_is r.head (codes "uses") h)

-- a type or a uses is no operation, and nor is a part
pub named_no_operation : (r : Row) → (is_type r ≡ true) ⊎ (is_uses r ≡ true) → is_operation r ≡ false
unfolding is_operation
named_no_operation r (inl t) = ap (λ (w : List ℕ). is_among operations w) (word_is r.head (codes "type") t)
named_no_operation r (inr u) = ap (λ (w : List ℕ). is_among operations w) (word_is r.head (codes "uses") u)

pub input_not_named : (r : Row) → is_input r ≡ true → (is_type r ≡ true) ⊎ (is_uses r ≡ true) → ⊥
input_not_named r h (inl t) = false_true (sym (ap (λ (w : List ℕ). bytes_eq w (codes "type")) (word_is r.head (codes "input") h)) ∙ t)
input_not_named r h (inr u) = false_true (sym (ap (λ (w : List ℕ). bytes_eq w (codes "uses")) (word_is r.head (codes "input") h)) ∙ u)

pub output_not_named : (r : Row) → is_output r ≡ true → (is_type r ≡ true) ⊎ (is_uses r ≡ true) → ⊥
output_not_named r h (inl t) = false_true (sym (ap (λ (w : List ℕ). bytes_eq w (codes "type")) (word_is r.head (codes "output") h)) ∙ t)
output_not_named r h (inr u) = false_true (sym (ap (λ (w : List ℕ). bytes_eq w (codes "uses")) (word_is r.head (codes "output") h)) ∙ u)

-- the view of a list's item
pub row_read : {A B : Type 0} (f : A → B) (xs : List A) (ys : List B) (k : ℕ) (x : A) → map f xs ≡ ys → k < length xs → x ≡ get_or xs k x → slice_get ys k ≡ Some (f x)
row_read f xs ys k x e h is = ap (λ l. slice_get l k) (sym e) ∙ slice_get-map f xs k ∙ ap (option_map f) (slice_get_read xs (length xs) k x refl h is)

pub rows_count : {A B : Type 0} (f : A → B) (xs : List A) (ys : List B) → map f xs ≡ ys → length xs ≡ length ys
rows_count f xs ys e = sym (length-map xs f) ∙ ap length e
