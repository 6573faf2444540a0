-- What keywords say of items.
use Rattle.std.proofs.Common.{◌⊎◌, inl, inr, ◌≡◌, ℕ, ◌&&◌, ◌||◌, not, Bool, true, false, if◌then◌else◌, List, [], ◌∷◌, refl, sym, ◌∙◌, ap, subst, codes, Option, Some, None}
use Rattle.std.specs.List.{slice_get}
use Rattle.std.specs.Option.{unwrap_or}
use Rattle.std.specs.Str.{bytes_eq}
use Rattle.std.proofs.lemmas.Bool.{false≢true}
use Rattle.std.proofs.lemmas.Option.{same_Some}
use Rattle.std.proofs.lemmas.Slice.Eq.{bytes_eq-Decides}
use Rattle.yv_link_scopes.specs.Files.{Briefs, has_word}
use Rattle.yv_link_scopes.specs.Rows.{Row, name_in}
use Rattle.yv_link_scopes.specs.Scopes.{MeansFrom, MeansIn, start_of}
use Rattle.yv_link_scopes.specs.Names.{local_of}
use Rattle.yv_link_scopes.specs.declared.kind.NameKind.{NameKind as NameKind}
use Rattle.yv_link_scopes.specs.declared.kind.NameKind.TheVariants.{Prefix, Include, Typedef, Grouping, Feature, Identity, Extension}
use Rattle.yv_link_definitions.specs.BuiltIn.{is_built_in}
use Rattle.yv_text_statement.specs.Words.{is_among}
use Rattle.yv_link_definitions.specs.Refers.{RefersTo, is_type, is_uses, names_definition}
use Rattle.yv_expand_statements.specs.Units.{nodes, operations}
use Rattle.yv_expand_statements.specs.StatementBlocks.{block_of, input_of, is_at, is_augment, is_input, is_node_or_uses, is_operation, is_output, output_of, part, is_refine}
use Rattle.yv_expand_statements.specs.declared.origin.Origin.TheVariants.{Input, Output}
use Rattle.yv_expand_statements.specs.Kinds.{is_node, kind_of_keyword}
use Rattle.yv_expand_statements.specs.declared.statement_kind.StatementKind.{StatementKind}
use Rattle.yv_expand_statements.specs.declared.statement_kind.StatementKind.TheVariants as kind
use Rattle.yv_expand_uses.specs.Kinds as kinds
use Rattle.yv_expand_statements.specs.Kinds as kinds_are
use Rattle.yv_expand_laws.specs.ItemProperties.{name_at, name_of}
use Rattle.yv_expand_laws.proofs.BlockStatements.{first_passes, row_at}

-- what holds of each of these words
abbrev pub Each : (List ℕ → Type 0) → List (List ℕ) → Type 0
Each P [] = Unit {0}
Each P (w ∷ ws) = P w × Each P ws

pub among_all : (P : List ℕ → Type 0) (words : List (List ℕ)) (word : List ℕ) → Each P words → is_among words word ≡ true → P word
among_all P [] word each h = absurd (false≢true h)
among_all P (w ∷ ws) word (first, rest) h = by (bytes_eq w word) refl h (λ h. among_all P ws word rest h)
  where
    by : (b : Bool) → bytes_eq w word ≡ b → (b || is_among ws word) ≡ true → (is_among ws word ≡ true → P word) → P word
    by true is h later = subst P ((bytes_eq-Decides w word).0 is) first
    by false is h later = later h

pub either_is : (a b : Bool) → (a || b) ≡ true → (a ≡ true) ⊎ (b ≡ true)
either_is true b h = inl refl
either_is false b h = inr h

pub right_is : (a b : Bool) → b ≡ true → (a || b) ≡ true
right_is true b h = refl
right_is false b h = h

left_is : (a b : Bool) → (a && b) ≡ true → a ≡ true
left_is true b h = refl
left_is false b h = h

abbrev IsKind : List ℕ → Type 0
IsKind word = (kd : StatementKind) × (kind_of_keyword word ≡ Some kd) × (kinds_are.is_uses kd ≡ bytes_eq word (codes "uses"))

nodes_are : Each IsKind nodes
unfolding kind_of_keyword
nodes_are = (
  (kind.Container, refl, refl),
  (
    (kind.Leaf, refl, refl),
    (
      (kind.LeafList, refl, refl),
      (
        (kind.List, refl, refl),
        (
          (kind.Choice, refl, refl),
          (
            (kind.Case, refl, refl),
            ((kind.Anydata, refl, refl), ((kind.Anyxml, refl, refl), ((kind.Notification, refl, refl), ((kind.Uses, refl, refl), tt)))),
          ),
        ),
      ),
    ),
  ),
)

operations_are : Each IsKind operations
unfolding kind_of_keyword
operations_are = ((kind.Rpc, refl, refl), ((kind.Action, refl, refl), tt))

-- an item is of a kind
pub item_kind : (r : Row) → is_node_or_uses r ≡ true → (kd : StatementKind) × (kind_of_keyword r.head.keyword ≡ Some kd) × (kinds_are.is_uses kd ≡ is_uses r)
unfolding is_node_or_uses
item_kind r h = elim (either_is (is_among nodes r.head.keyword) (is_among operations r.head.keyword) h) [
  | inl a ↦ among_all IsKind nodes r.head.keyword nodes_are a
  | inr b ↦ among_all IsKind operations r.head.keyword operations_are b
]

-- an operation is an item, and no uses
pub operation_item : (r : Row) → is_operation r ≡ true → (is_node_or_uses r ≡ true) × (is_uses r ≡ false)
unfolding is_node_or_uses is_operation
operation_item r h = (
  right_is (is_among nodes r.head.keyword) (is_among operations r.head.keyword) h,
  among_all (λ word. bytes_eq word (codes "uses") ≡ false) operations r.head.keyword (refl, (refl, tt)) h,
)

no_type : (r : Row) → is_node_or_uses r ≡ true → is_type r ≡ false
unfolding is_node_or_uses
no_type r h = elim (either_is (is_among nodes r.head.keyword) (is_among operations r.head.keyword) h) [
  | inl a ↦ among_all (λ word. bytes_eq word (codes "type") ≡ false) nodes r.head.keyword (refl, (refl, (refl, (refl, (refl, (refl, (refl, (refl, (refl, (refl, tt)))))))))) a
  | inr b ↦ among_all (λ word. bytes_eq word (codes "type") ≡ false) operations r.head.keyword (refl, (refl, tt)) b
]

-- what is no uses is a node
pub node_is : (k : StatementKind) → is_node k ≡ not (kinds_are.is_uses k)
node_is kind.Uses = refl
node_is kind.Container = refl
node_is kind.Leaf = refl
node_is kind.LeafList = refl
node_is kind.List = refl
node_is kind.Choice = refl
node_is kind.Case = refl
node_is kind.Anydata = refl
node_is kind.Anyxml = refl
node_is kind.Rpc = refl
node_is kind.Action = refl
node_is kind.Input = refl
node_is kind.Output = refl
node_is kind.Notification = refl

pub uses_only : (k : StatementKind) → kinds_are.is_uses k ≡ true → k ≡ kind.Uses
uses_only kind.Uses h = refl
uses_only kind.Container h = absurd (false≢true h)
uses_only kind.Leaf h = absurd (false≢true h)
uses_only kind.LeafList h = absurd (false≢true h)
uses_only kind.List h = absurd (false≢true h)
uses_only kind.Choice h = absurd (false≢true h)
uses_only kind.Case h = absurd (false≢true h)
uses_only kind.Anydata h = absurd (false≢true h)
uses_only kind.Anyxml h = absurd (false≢true h)
uses_only kind.Rpc h = absurd (false≢true h)
uses_only kind.Action h = absurd (false≢true h)
uses_only kind.Input h = absurd (false≢true h)
uses_only kind.Output h = absurd (false≢true h)
uses_only kind.Notification h = absurd (false≢true h)

-- the kind of a numbered statement that is an item
pub statement_kind : (rows : List Row) (k : ℕ) (r : Row) → slice_get rows k ≡ Some r → is_node_or_uses r ≡ true → kinds_are.is_uses (kinds.kind_at (slice_get rows k)) ≡ is_uses r
statement_kind rows k r at item =
    (let kd = item_kind r item in ap (λ o. kinds_are.is_uses (kinds.kind_at o)) at ∙ (ap (λ o. kinds_are.is_uses (unwrap_or o kind.Uses)) kd.1 ∙ kd.2))

input_kind : kind_of_keyword (codes "input") ≡ Some kind.Input
unfolding kind_of_keyword
input_kind = refl

output_kind : kind_of_keyword (codes "output") ≡ Some kind.Output
unfolding kind_of_keyword
output_kind = refl

pub input_no_uses : (r : Row) → is_input r ≡ true → kinds_are.is_uses (kinds.kind_at (Some r)) ≡ false
input_no_uses r h =
    ap (λ word. kinds_are.is_uses (unwrap_or (kind_of_keyword word) kind.Uses)) ((bytes_eq-Decides r.head.keyword (codes "input")).0 h)
    ∙ ap (λ o. kinds_are.is_uses (unwrap_or o kind.Uses)) input_kind

pub output_no_uses : (r : Row) → is_output r ≡ true → kinds_are.is_uses (kinds.kind_at (Some r)) ≡ false
output_no_uses r h =
    ap (λ word. kinds_are.is_uses (unwrap_or (kind_of_keyword word) kind.Uses)) ((bytes_eq-Decides r.head.keyword (codes "output")).0 h)
    ∙ ap (λ o. kinds_are.is_uses (unwrap_or o kind.Uses)) output_kind

-- a statement of one word is none of another
other_word : (r : Row) (u v : List ℕ) → has_word u r.head ≡ true → bytes_eq u v ≡ false → has_word v r.head ≡ false
other_word r u v h other = ap (λ word. bytes_eq word v) ((bytes_eq-Decides r.head.keyword u).0 h) ∙ other

pub uses_no_augment : (r : Row) → is_uses r ≡ true → is_augment r ≡ false
uses_no_augment r h = other_word r (codes "uses") (codes "augment") h refl

pub uses_no_refine : (r : Row) → is_uses r ≡ true → is_refine r ≡ false
uses_no_refine r h = other_word r (codes "uses") (codes "refine") h refl

if_true : {A : Type 0} (b : Bool) (x y : A) → b ≡ true → (if b then x else y) ≡ x
if_true true x y is = refl
if_true false x y is = absurd (false≢true is)

-- the input and the output of an operation are so by kind and name, written or not
pub input_is : (rows : List Row) (k : ℕ) → (kinds.kind_of rows (part (Input k) (input_of rows k)) ≡ kind.Input) × (name_of rows (part (Input k) (input_of rows k)) ≡ codes "input")
input_is rows k = by (input_of rows k) refl
  where
    by : (o : Option ℕ) → input_of rows k ≡ o → (kinds.kind_of rows (part (Input k) o) ≡ kind.Input) × (name_of rows (part (Input k) o) ≡ codes "input")
    by None is = (refl, refl)
    by (Some j) is =
        let row = row_at is_input rows j (first_passes (is_at is_input rows) (block_of rows k) j is) in
        let word : row.0.head.keyword ≡ codes "input" = (bytes_eq-Decides row.0.head.keyword (codes "input")).0 row.2 in (
          ap kinds.kind_at row.1 ∙ (ap (λ w. unwrap_or (kind_of_keyword w) kind.Uses) word ∙ ap (λ o. unwrap_or o kind.Uses) input_kind),
          ap name_at row.1 ∙ (if_true (has_word (codes "input") row.0.head || has_word (codes "output") row.0.head) row.0.head.keyword _
              (ap (λ (b : Bool). b || has_word (codes "output") row.0.head) row.2) ∙ word),
        )

pub output_is : (rows : List Row) (k : ℕ) → (kinds.kind_of rows (part (Output k) (output_of rows k)) ≡ kind.Output) × (name_of rows (part (Output k) (output_of rows k)) ≡ codes "output")
output_is rows k = by (output_of rows k) refl
  where
    by : (o : Option ℕ) → output_of rows k ≡ o → (kinds.kind_of rows (part (Output k) o) ≡ kind.Output) × (name_of rows (part (Output k) o) ≡ codes "output")
    by None is = (refl, refl)
    by (Some j) is =
        let row = row_at is_output rows j (first_passes (is_at is_output rows) (block_of rows k) j is) in
        let word : row.0.head.keyword ≡ codes "output" = (bytes_eq-Decides row.0.head.keyword (codes "output")).0 row.2 in (
          ap kinds.kind_at row.1 ∙ (ap (λ w. unwrap_or (kind_of_keyword w) kind.Uses) word ∙ ap (λ o. unwrap_or o kind.Uses) output_kind),
          ap name_at row.1 ∙ (if_true (has_word (codes "input") row.0.head || has_word (codes "output") row.0.head) row.0.head.keyword _
              (right_is (has_word (codes "input") row.0.head) (has_word (codes "output") row.0.head) row.2) ∙ word),
        )

-- an item that refers to a definition is a uses, and that is no augment
pub refers_uses : (files : Briefs) (rows : List Row) (k d : ℕ) (r : Row) → slice_get rows k ≡ Some r → is_node_or_uses r ≡ true → RefersTo files rows k d
    → (is_uses r ≡ true) × ((q : Row) × (slice_get rows d ≡ Some q) × (is_augment q ≡ false))
refers_uses files rows k d r at item (name_kind, R) = by name_kind (ap (names_definition name_kind) (sym same) ∙ R.names) R.means
  where
    same : R.statement ≡ r
    same = same_Some R.statement r (sym R.at ∙ at)

    none_is : {A : Type 0} → false ≡ true → A
    none_is h = absurd (false≢true h)

    grouping : (o : Option ℕ) (name : List ℕ) → MeansFrom Grouping rows name o (Some d) → (q : Row) × (slice_get rows d ≡ Some q) × (is_augment q ≡ false)
    grouping None name h = absurd (let bad : Some d ≡ None = h in cc)
    grouping (Some block) name h =
        let is = h.0.2 in
        (is.0, is.1, other_word is.0 (codes "grouping") (codes "augment") (left_is (has_word (codes "grouping") is.0.head) _ is.2) refl)

    by : (x : NameKind) → names_definition x r ≡ true → MeansIn files rows x k (name_in R.statement) (Some d) → (is_uses r ≡ true) × ((q : Row) × (slice_get rows d ≡ Some q) × (is_augment q ≡ false))
    by Grouping h means = (h, grouping (start_of files rows k (name_in R.statement)) (local_of (name_in R.statement)) means)
    by Typedef h means = absurd (false≢true (sym (no_type r item) ∙ left_is (is_type r) (not (is_built_in (name_in r))) h))
    by Prefix h means = none_is h
    by Include h means = none_is h
    by Feature h means = none_is h
    by Identity h means = none_is h
    by Extension h means = none_is h
