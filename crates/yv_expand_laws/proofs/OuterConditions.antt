-- The conditions of the uses and augments round a node are asked at it or at nodes above it.
use Rattle.std.proofs.Common.{inl, inr, ◌⊎◌, ◌≡◌, ◌≢◌, ℕ, zero, suc, ◌==◌, ◌&&◌, not, Bool, true, false, if◌then◌else◌, List, [], ◌∷◌, ◌++◌, length, map, refl, sym, ◌∙◌, ap, subst, arith, codes, eq-eqb, Option, Some, None}
use Rattle.std.specs.List.{Contains, slice_get}
use Rattle.std.specs.Str.{bytes_eq}
use Rattle.std.proofs.lemmas.Bool.{false≢true}
use Rattle.std.proofs.lemmas.List.{append-nil}
use Rattle.std.proofs.lemmas.List.Elements.{Contains-append_cases, Contains-append_left, Contains-append_right, Contains-push_cases}
use Rattle.std.proofs.lemmas.Option.{same_Some}
use Rattle.std.proofs.lemmas.Slice.Eq.{bytes_eq-Decides}
use Rattle.yv_link_scopes.specs.Files.{Briefs, Files, brief_of, has_word, module_file_at}
use Rattle.yv_link_scopes.specs.RowList.{rows_of}
use Rattle.yv_link_scopes.specs.Names.{local_of}
use Rattle.yv_link_scopes.specs.Rows.{Row, is_extended, name_in}
use Rattle.yv_link_scopes.specs.Scopes.{MeansFrom, MeansIn, start_of}
use Rattle.yv_link_scopes.specs.declared.kind.NameKind.{NameKind as NameKind}
use Rattle.yv_link_scopes.specs.declared.kind.NameKind.TheVariants.{Prefix, Include, Typedef, Grouping, Feature, Identity, Extension}
use Rattle.yv_link_definitions.specs.BuiltIn.{is_built_in}
use Rattle.yv_link_definitions.specs.Refers.{RefersTo, is_type, is_uses, names_definition}
use Rattle.yv_expand_statements.specs.StatementBlocks.{given_at, given_before, block_of, numbers_from, stands_in, top_of, augments_of, first_of, input_of, is_at, is_augment, is_node_or_uses, output_of, part, part_block, those}
use Rattle.yv_expand_statements.specs.Units.{nodes, operations}
use Rattle.yv_expand_statements.specs.Origin.{number_of}
use Rattle.yv_expand_statements.specs.declared.origin.Origin.{Origin}
use Rattle.yv_expand_statements.specs.declared.origin.Origin.TheVariants.{Input, Output}
use Rattle.yv_expand_statements.specs.Kinds.{kind_of_keyword}
use Rattle.yv_expand_definition.specs.Expansion.{Tops}
use Rattle.yv_expand_definition.specs.Expansion.Tops.{no_files, one_more as one_more_top}
use Rattle.yv_expand_definition.specs.Gives.{AugmentsGive, Gives, Product, RefinesGive, add_block, judge}
use Rattle.yv_expand_definition.specs.Gives.AugmentsGive.{none_left as all_added, adds, without_target}
use Rattle.yv_expand_definition.specs.Gives.Gives.{no_statements, other, one_node, operation, uses}
use Rattle.yv_expand_definition.specs.Gives.RefinesGive.{none_left as all_refined, changes, unfit, without_target as refine_misses}
use Rattle.yv_expand_definition.specs.Nodes.{Forest, Node, if_feature_statements, nodes_given, insert, is_later, join, node, none}
use Rattle.yv_expand_definition.specs.Paths.{Leads, Step}
use Rattle.yv_expand_definition.specs.Paths.End.{at as ends_at}
use Rattle.yv_expand_definition.specs.Paths.Leads.{past, to, into, into_case}
use Rattle.yv_expand_definition.specs.Rounds.{Round, Rounds}
use Rattle.yv_expand_definition.specs.Rounds.Round.{none_left as round_over, adds as round_adds, without_target as round_misses, waits}
use Rattle.yv_expand_definition.specs.Rounds.Rounds.{last as last_round, one_more as one_more_round}
use Rattle.yv_expand_laws.specs.Conditions.{AreAsked, FilesAsk, IsAsked, gives_node, is_node_kind, near, stands_in_node}
use Rattle.yv_expand_laws.proofs.BlockStatements.{block_scope, filter_in, left_is, numbered_in, right_is, row_at}
use Rattle.yv_expand_laws.proofs.FoundItems.{not_none, there_first, there_later}
use Rattle.yv_expand_laws.proofs.FrameSequences.{nothing_stands}
use Rattle.yv_expand_laws.proofs.KeywordKinds.{among_all, either_is}
use Rattle.yv_expand_laws.proofs.BlockNodes.{first_or}

-- what one list has another has
abbrev pub Within : List ℕ → List ℕ → Type 0
Within xs ys = (k : ℕ) → Contains xs k → Contains ys k

more_within : (xs ys zs : List ℕ) → Within xs ys → Within (xs ++ zs) (ys ++ zs)
more_within xs ys zs w k h = elim (Contains-append_cases xs zs k h) [
  | inl a ↦ Contains-append_left ys zs k (w k a)
  | inr b ↦ Contains-append_right ys zs k b
]

-- the keyword of an item has no prefix
item_plain : (r : Row) → is_node_or_uses r ≡ true → is_extended r.head.keyword ≡ false
unfolding is_node_or_uses
item_plain r h = elim (either_is _ _ h) [
  | inl a ↦ among_all (λ word. is_extended word ≡ false) nodes r.head.keyword (refl, (refl, (refl, (refl, (refl, (refl, (refl, (refl, (refl, (refl, tt)))))))))) a
  | inr b ↦ among_all (λ word. is_extended word ≡ false) operations r.head.keyword (refl, (refl, tt)) b
]

-- statements by their keywords
module _ (rows : List Row) where
  -- a numbered statement stands in a block
  abbrev pub IsBelow : ℕ → Type 0
  IsBelow k = (r : Row) × (slice_get rows k ≡ Some r) × (r.scope ≢ k)

  pub word_asked : (k : ℕ) (word : List ℕ) → IsBelow k → ((r : Row) → slice_get rows k ≡ Some r → has_word word r.head ≡ true)
      → is_extended word ≡ false → IsAsked rows k
  word_asked k word (r, at, apart) is plain =
      (r, at, apart, ap is_extended ((bytes_eq-Decides r.head.keyword word).0 (is r at)) ∙ plain)

  pub item_asked : (k : ℕ) (r : Row) → IsBelow k → slice_get rows k ≡ Some r → is_node_or_uses r ≡ true → IsAsked rows k
  item_asked k r (q, at, apart) there item =
      (q, at, apart, ap (λ (z : Row). is_extended z.head.keyword) (same_Some q r (sym at ∙ there)) ∙ item_plain r item)

  -- what stands in a list by this test stands in a block
  pub numbered_below : (module_file : ℕ) (passes : ℕ → Row → Bool) → ((j : ℕ) (r : Row) → passes j r ≡ true → stands_in module_file j r ≡ true)
      → (j : ℕ) → Contains (numbers_from passes 0 rows) j → IsBelow j
  numbered_below module_file passes tells j h =
      let x = numbered_in passes 0 rows j h in
      let apart = right_is (x.1.scope == module_file) (not (x.1.scope == j)) (tells j x.1 x.4) in (
        x.1,
        ap (slice_get rows) (let e = x.2 in let f : j ≡ x.0 = omega (arith, e) in f) ∙ x.3,
        λ same. false≢true (ap not (sym (eq-eqb x.1.scope j same)) ∙ apart),
      )

  pub block_below : (b j : ℕ) → Contains (block_of rows b) j → IsBelow j
  block_below b j h = numbered_below b (stands_in b) (λ k r is. is) j h

  pub top_below : (files : Briefs) (file j : ℕ) → Contains (top_of files rows file) j → IsBelow j
  top_below files file j h =
      numbered_below (module_file_at files file) (λ k r. stands_in (module_file_at files file) k r && (r.file == file)) (λ k r is. left_is _ _ is) j h

  -- a statement of a block that gives no node stands in no node
  pub in_block : (b j : ℕ) → gives_node (slice_get rows b) ≡ false → Contains (block_of rows b) j
      → stands_in_node rows (slice_get rows j) ≡ false
  in_block b j is h =
      let x = block_scope rows b j h in
      ap (stands_in_node rows) x.1 ∙ (ap (λ (n : ℕ). gives_node (slice_get rows n)) x.2 ∙ is)

  pub word_gives : (k : ℕ) (r : Row) (word : List ℕ) → slice_get rows k ≡ Some r → has_word word r.head ≡ true
      → is_node_kind (kind_of_keyword word) ≡ false → gives_node (slice_get rows k) ≡ false
  word_gives k r word at is none_by =
      ap gives_node at ∙ (ap (λ w. is_node_kind (kind_of_keyword w)) ((bytes_eq-Decides r.head.keyword word).0 is) ∙ none_by)

grouping_gives : is_node_kind (kind_of_keyword (codes "grouping")) ≡ false
unfolding kind_of_keyword
grouping_gives = refl

augment_gives : is_node_kind (kind_of_keyword (codes "augment")) ≡ false
unfolding kind_of_keyword
augment_gives = refl

pub augment_row : (r : Row) → is_augment r ≡ true → gives_node (Some r) ≡ false
augment_row r h = ap (λ w. is_node_kind (kind_of_keyword w)) ((bytes_eq-Decides r.head.keyword (codes "augment")).0 h) ∙ augment_gives

uses_gives : is_node_kind (kind_of_keyword (codes "uses")) ≡ false
unfolding kind_of_keyword
uses_gives = refl

-- what a uses refers to is a grouping
pub refers_grouping : (files : Briefs) (rows : List Row) (k d : ℕ) (r : Row) → slice_get rows k ≡ Some r → is_uses r ≡ true
    → RefersTo files rows k d
    → (q : Row) × (slice_get rows d ≡ Some q) × (has_word (codes "grouping") q.head ≡ true)
refers_grouping files rows k d r at of_uses (name_kind, R) = by name_kind (ap (names_definition name_kind) (sym same) ∙ R.names) R.means
  where
    same : R.statement ≡ r
    same = same_Some R.statement r (sym R.at ∙ at)

    none_is : {A : Type 0} → false ≡ true → A
    none_is h = absurd (false≢true h)

    no_type : is_type r ≡ false
    no_type = ap (λ w. bytes_eq w (codes "type")) ((bytes_eq-Decides r.head.keyword (codes "uses")).0 of_uses)

    grouping : (o : Option ℕ) (name : List ℕ) → MeansFrom Grouping rows name o (Some d)
        → (q : Row) × (slice_get rows d ≡ Some q) × (has_word (codes "grouping") q.head ≡ true)
    grouping None name h = absurd (let bad : Some d ≡ None = h in cc)
    grouping (Some block) name h = (let is = h.0.2 in (is.0, is.1, left_is (has_word (codes "grouping") is.0.head) _ is.2))

    by : (x : NameKind) → names_definition x r ≡ true → MeansIn files rows x k (name_in R.statement) (Some d)
        → (q : Row) × (slice_get rows d ≡ Some q) × (has_word (codes "grouping") q.head ≡ true)
    by Grouping h means = grouping (start_of files rows k (name_in R.statement)) (local_of (name_in R.statement)) means
    by Typedef h means = absurd (false≢true (sym no_type ∙ left_is (is_type r) (not (is_built_in (name_in r))) h))
    by Prefix h means = none_is h
    by Include h means = none_is h
    by Feature h means = none_is h
    by Identity h means = none_is h
    by Extension h means = none_is h

-- what is asked of forests
module _ (rows : List Row) where
  -- of the uses and augments round a statement those beyond the next node are among these
  abbrev pub Reaches : (above under : List ℕ) → ℕ → Type 0
  Reaches above under k = (n : ℕ) → Contains under n → Contains (near rows k under) n ⊎ Contains above n

  -- so it is below one more of them
  reaches_through : (above under : List ℕ) (u j : ℕ) → stands_in_node rows (slice_get rows j) ≡ false → Reaches above under u
      → Reaches above (u ∷ under) j
  reaches_through above under u j out reaches n h =
      elim (Contains-append_cases (u ∷ []) under n h) [
        | inl first ↦ inl (subst (λ xs. Contains xs n) (sym is) (Contains-append_left (u ∷ []) (near rows u under) n first))
        | inr rest ↦ elim (reaches n rest) [
          | inl a ↦ inl (subst (λ xs. Contains xs n) (sym is) (Contains-append_right (u ∷ []) (near rows u under) n a))
          | inr b ↦ inr b
        ]
      ]
    where
      is : near rows j (u ∷ under) ≡ u ∷ near rows u under
      is = ap (λ (b : Bool). if b then [] else u ∷ near rows u under) out

  asked_wider : (f : Forest) (a b : List ℕ) → Within a b → AreAsked rows a f → AreAsked rows b f
  asked_wider none a b w A = tt
  asked_wider (node g below behind) a b w A = (
    (λ k h. elim (A.0 k h) [ inl x ↦ inl x | inr y ↦ inr (w k y) ]),
    (A.1.0, (asked_wider below (a ++ if_feature_statements g) (b ++ if_feature_statements g) (more_within a b (if_feature_statements g) w) A.1.1.0, asked_wider behind a b w A.1.1.1)),
  )

  asked_joined : (f h : Forest) (a : List ℕ) → AreAsked rows a f → AreAsked rows a h → AreAsked rows a (join f h)
  asked_joined none h a A B = B
  asked_joined (node g below behind) h a A B = (A.0, (A.1.0, (A.1.1.0, asked_joined behind h a A.1.1.1 B)))

  asked_given : (n : ℕ) (f : Forest) (a : List ℕ) → AreAsked rows a f → AreAsked rows a (nodes_given n f)
  asked_given n none a A = tt
  asked_given n (node g below behind) a A = (A.0, (A.1.0, (A.1.1.0, asked_given n behind a A.1.1.1)))

  asked_inserted : (n : ℕ) (f there : Forest) (a : List ℕ) → AreAsked rows a f → AreAsked rows a there
      → AreAsked rows a (insert n f there)
  asked_inserted n f none a A B = A
  asked_inserted n f (node g below behind) a A B = by (is_later n g.giver) (asked_inserted n f behind a A B.1.1.1)
    where
      by : (b : Bool) → AreAsked rows a (insert n f behind)
          → AreAsked rows a (if b then join f (node g below behind) else node g below (insert n f behind))
      by true C = asked_joined f (node g below behind) a A B
      by false C = (B.0, (B.1.0, (B.1.1.0, C)))

  -- an exchange keeps what is asked, if it does at the end of the path
  leads_asked : {c : Bool} {ss : List Step} {f there : Forest} {g h : Node} {low put : Forest} → Leads c ss f (ends_at g low h put) there
      → (above : List ℕ)
      → ((a : List ℕ) → Within above a → AreAsked rows a (node g low none) → AreAsked rows a (node h put none)) → AreAsked rows above f
      → AreAsked rows above there
  leads_asked (past isnt l) above keeps A = (A.0, (A.1.0, (A.1.1.0, leads_asked l above keeps A.1.1.1)))
  leads_asked (to is short) above keeps A =
      (let B = keeps above (λ k h. h) (A.0, (A.1.0, (A.1.1.0, tt))) in (B.0, (B.1.0, (B.1.1.0, A.1.1.1))))
  leads_asked (into {g = f} is short l) above keeps A = (
    A.0,
    (
      A.1.0,
      (leads_asked l (above ++ if_feature_statements f) (λ a w. keeps a (λ k h. w k (Contains-append_left above (if_feature_statements f) k h))) A.1.1.0, A.1.1.1),
    ),
  )
  leads_asked (into_case {behind = behind} is short l) above keeps A =
      asked_joined _ behind above (leads_asked l above keeps (A.0, (A.1.0, (A.1.1.0, tt)))) A.1.1.1

module _ (files : Files) where
  abbrev rows : List Row
  rows = rows_of files

  abbrev All : (ℕ → Type 0) → List ℕ → Type 0
  All P ks = (k : ℕ) → Contains ks k → P k

  first_all : (P : ℕ → Type 0) (k : ℕ) (ks : List ℕ) → All P (k ∷ ks) → P k
  first_all P k ks all = all k (there_first k ks)

  rest_all : (P : ℕ → Type 0) (k : ℕ) (ks : List ℕ) → All P (k ∷ ks) → All P ks
  rest_all P k ks all j h = all j (there_later k j ks h)

  one_more_all : (P : ℕ → Type 0) (k : ℕ) (ks : List ℕ) → P k → All P ks → All P (k ∷ ks)
  one_more_all P k ks is all j h = elim (first_or k ks j h) [ inl same ↦ subst P same is | inr rest ↦ all j rest ]

  refined_asked : {module_file : ℕ} {ks : List ℕ} {m last : Product} → RefinesGive files module_file ks m last → All (IsAsked rows) ks → (above : List ℕ)
      → AreAsked rows above m.nodes
      → AreAsked rows above last.nodes
  refined_asked all_refined all above A = A
  refined_asked (changes {k = k} {ks = ks} {g = g} {below = low} leads fit later) all above A =
      refined_asked later (rest_all (IsAsked rows) k ks all) above
      (leads_asked rows leads.2 above (λ a w B. (
        B.0,
        (
          (λ n h. elim (Contains-append_cases (number_of g.origin ∷ g.under) (g.refines ++ k ∷ []) n h) [
            | inl x ↦ B.1.0 n (Contains-append_left (number_of g.origin ∷ g.under) g.refines n x)
            | inr y ↦ elim (Contains-push_cases g.refines k n y) [
              | inl z ↦ B.1.0 n (Contains-append_right (number_of g.origin ∷ g.under) g.refines n z)
              | inr same ↦ subst (IsAsked rows) same (first_all (IsAsked rows) k ks all)
            ]
          ]),
          (
            asked_wider rows low (a ++ if_feature_statements g) (a ++ if_feature_statements (record g { refines = g.refines ++ k ∷ [] }))
                (λ n h. elim (Contains-append_cases a (if_feature_statements g) n h) [
                  | inl x ↦ Contains-append_left a (if_feature_statements (record g { refines = g.refines ++ k ∷ [] })) n x
                  | inr y ↦ Contains-append_right a (if_feature_statements (record g { refines = g.refines ++ k ∷ [] })) n (longer g k n y)
                ]) B.1.1.0,
            tt,
          ),
        ),
      )) A)
    where
      longer : (g : Node) (k n : ℕ) → Contains (if_feature_statements g) n → Contains (if_feature_statements (record g { refines = g.refines ++ k ∷ [] })) n
      longer g k n h = elim (Contains-append_cases (number_of g.origin ∷ g.under) g.refines n h) [
        | inl x ↦ Contains-append_left (number_of g.origin ∷ g.under) (g.refines ++ k ∷ []) n x
        | inr y ↦ Contains-append_right (number_of g.origin ∷ g.under) (g.refines ++ k ∷ []) n (Contains-append_left g.refines (k ∷ []) n y)
      ]
  refined_asked (unfit {k = k} {ks = ks} leads fit later) all above A = refined_asked later (rest_all (IsAsked rows) k ks all) above A
  refined_asked (refine_misses {k = k} {ks = ks} nowhere later) all above A = refined_asked later (rest_all (IsAsked rows) k ks all) above A

  added_nodes : (a : ℕ) (target : Node) (before block : Product) (there : Forest) → (add_block files a target before block there).nodes ≡ there
  added_nodes a target before block there = by _
    where
      by : (b : Bool) → (judge b a (record { nodes = there; wrong = before.wrong ++ block.wrong })).nodes ≡ there
      by true = refl
      by false = refl

  -- a statement of a list stands in a block, and what is round it beyond the next node is among
  -- these
  abbrev Starts : (above under : List ℕ) → ℕ → Type 0
  Starts above under k = IsBelow rows k × Reaches rows above under k

  abbrev Adding : (above under : List ℕ) → ℕ → Type 0
  Adding above under a = IsAsked rows a × ((gives_node (slice_get rows a) ≡ false) × Reaches rows above under a)

  those_at : (test : Row → Bool) (ks : List ℕ) (k : ℕ) → Contains (those test rows ks) k
      → Contains ks k × ((r : Row) × (slice_get rows k ≡ Some r) × (test r ≡ true))
  those_at test ks k h = (let x = filter_in (is_at test rows) ks k h in (x.0, row_at test rows k x.1))

  -- those of a block by a word
  those_asked : (word : List ℕ) (ks : List ℕ) → is_extended word ≡ false → All (IsBelow rows) ks
      → All (IsAsked rows) (those (λ r. has_word word r.head) rows ks)
  those_asked word ks plain all k h =
      let x = those_at (λ r. has_word word r.head) ks k h in
      word_asked rows k word (all k x.0) (λ r at. ap (λ (z : Row). has_word word z.head) (same_Some r x.1.0 (sym at ∙ x.1.1)) ∙ x.1.2) plain

  -- a part of an operation: what gives it is asked, and what stands in it
  part_asked : (word : List ℕ) (unwritten : Origin) (k : ℕ) → is_extended word ≡ false → number_of unwritten ≡ k → IsAsked rows k
      → IsAsked rows (number_of (part unwritten (first_of (λ r. has_word word r.head) rows (block_of rows k))))
  part_asked word unwritten k plain same asked = by (first_of (λ r. has_word word r.head) rows (block_of rows k)) refl
    where
      by : (o : Option ℕ) → first_of (λ r. has_word word r.head) rows (block_of rows k) ≡ o → IsAsked rows (number_of (part unwritten o))
      by None is = subst (IsAsked rows) (sym same) asked
      by (Some j) is =
          those_asked word (block_of rows k) plain (block_below rows k) j (first_there (those (λ r. has_word word r.head) rows (block_of rows k)) j is)
        where
          first_there : (xs : List ℕ) (j : ℕ) → slice_get xs 0 ≡ Some j → Contains xs j
          first_there [] j e = absurd (not_none e)
          first_there (x ∷ xs) j e = subst (Contains (x ∷ xs)) (same_Some x j e) (there_first x xs)

  part_below : (o : Option ℕ) → All (IsBelow rows) (part_block rows o)
  part_below None j h = absurd (nothing_stands j h)
  part_below (Some k) j h = block_below rows k j h

  -- where all that is round them is among these
  starts_all : (above under ks : List ℕ) → All (IsBelow rows) ks → Within under above → All (Starts above under) ks
  starts_all above under ks all within k h = (all k h, λ n there. inr (within n there))

  node_conditions : (k : ℕ) (under : List ℕ) → IsAsked rows k → All (IsAsked rows) under → All (IsAsked rows) (k ∷ (under ++ []))
  node_conditions k under is all =
      subst (λ xs. All (IsAsked rows) (k ∷ xs)) (sym (append-nil under)) (one_more_all (IsAsked rows) k under is all)

  -- what stands in the block of an augment, or of the grouping of a uses
  through_all : (above under : List ℕ) (u b : ℕ) → gives_node (slice_get rows b) ≡ false → Reaches rows above under u
      → All (Starts above (u ∷ under)) (block_of rows b)
  through_all above under u b out reaches j h =
      (block_below rows b j h, reaches_through rows above under u j (in_block rows b j out h) reaches)

  within : (k : ℕ) (under above : List ℕ) → Within under (above ++ (k ∷ (under ++ [])))
  within k under above n h =
      Contains-append_right above (k ∷ (under ++ [])) n (there_later k n (under ++ []) (Contains-append_left under [] n h))

  mutual
    gives_asked : {module_file : ℕ} {under ks : List ℕ} {m : Product} → Gives files module_file under ks m → (above : List ℕ) → All (Starts above under) ks
        → All (IsAsked rows) under
        → AreAsked rows above m.nodes
    gives_asked no_statements above starts asked = tt
    gives_asked {under = under} (other {k = k} {ks = ks} there isnt e) above starts asked =
        gives_asked e above (rest_all (Starts above under) k ks starts) asked
    gives_asked {under = under} (one_node {k = k} {r = r} {ks = ks} there item o u known b e) above starts asked =
        let s = first_all (Starts above under) k ks starts in
        let conditions = node_conditions k under (item_asked rows k r s.0 there item) asked in (
          s.1,
          (
            conditions,
            (
              gives_asked b (above ++ (k ∷ (under ++ []))) (starts_all (above ++ (k ∷ (under ++ []))) under (block_of rows k) (block_below rows k) (within k under above)) asked,
              gives_asked e above (rest_all (Starts above under) k ks starts) asked,
            ),
          ),
        )
    gives_asked {under = under} (operation {k = k} {r = r} {ks = ks} there item o u known i p e) above starts asked =
        let s = first_all (Starts above under) k ks starts in
        let own = item_asked rows k r s.0 there item in
        let inner : List ℕ = above ++ (k ∷ (under ++ [])) in
        let input = part_asked (codes "input") (Input k) k refl refl own in
        let output = part_asked (codes "output") (Output k) k refl refl own in
        let first : ℕ = number_of (part (Input k) (input_of rows k)) in
        let second : ℕ = number_of (part (Output k) (output_of rows k)) in (
          s.1,
          (
            node_conditions k under own asked,
            (
              (
                (λ n h. inr (within k under above n h)),
                (
                  node_conditions first under input asked,
                  (
                    gives_asked i (inner ++ (first ∷ (under ++ []))) (starts_all (inner ++ (first ∷ (under ++ []))) under (part_block rows (input_of rows k)) (part_below (input_of rows k)) (within first under inner)) asked,
                    (
                      (λ n h. inr (within k under above n h)),
                      (
                        node_conditions second under output asked,
                        (
                          gives_asked p (inner ++ (second ∷ (under ++ []))) (starts_all (inner ++ (second ∷ (under ++ []))) under (part_block rows (output_of rows k)) (part_below (output_of rows k)) (within second under inner)) asked,
                          tt,
                        ),
                      ),
                    ),
                  ),
                ),
              ),
              gives_asked e above (rest_all (Starts above under) k ks starts) asked,
            ),
          ),
        )
    gives_asked {under = under} (uses {k = k} {d = d} {r = r} {ks = ks} {copies = copies} {refined = refined} {given = given} {behind = behind} there item u refers c x y e) above starts asked =
        let s = first_all (Starts above under) k ks starts in
        let own = item_asked rows k r s.0 there item in
        let meant = refers_grouping (map brief_of files) rows k d r there u refers in
        let out = word_gives rows d meant.0 (codes "grouping") meant.1 meant.2 grouping_gives in
        let all = one_more_all (IsAsked rows) k under own asked in
        let copied = gives_asked c above (through_all above under k d out s.1) all in
        let changed = refined_asked x (those_asked (codes "refine") (block_of rows k) refl (block_below rows k)) above copied in
        asked_joined rows given.nodes behind.nodes above
        (augmented_asked y above
        (λ a h. (
          those_asked (codes "augment") (block_of rows k) refl (block_below rows k) a h,
          (
            (let z = those_at is_augment (block_of rows k) a h in word_gives rows a z.1.0 (codes "augment") z.1.1 z.1.2 augment_gives),
            (let z = those_at is_augment (block_of rows k) a h in
                reaches_through rows above under k a (in_block rows k a (word_gives rows k r (codes "uses") there u uses_gives) z.0) s.1),
          ),
        )) all changed)
        (gives_asked e above (rest_all (Starts above under) k ks starts) asked)

    augmented_asked : {module_file : ℕ} {under ks : List ℕ} {m last : Product} → AugmentsGive files module_file under ks m last → (above : List ℕ)
        → All (Adding above under) ks → All (IsAsked rows) under
        → AreAsked rows above m.nodes → AreAsked rows above last.nodes
    augmented_asked all_added above adding asked A = A
    augmented_asked {under = under} (adds {others = others} {a = a} {m = m} {block = block} {there = there} {target = target} e reaches later) above adding asked A =
        let s = first_all (Adding above under) a others adding in
        let B = gives_asked e above (through_all above under a a s.1.0 s.1.1) (one_more_all (IsAsked rows) a under s.0 asked) in
        augmented_asked later above (rest_all (Adding above under) a others adding) asked
        (subst (AreAsked rows above) (sym (added_nodes a target m block there))
        (leads_asked rows reaches.leads.2 above (λ b w C. (
          C.0,
          (
            C.1.0,
            (
              asked_joined rows reaches.below block.nodes (b ++ if_feature_statements target) C.1.1.0
                  (asked_wider rows block.nodes above (b ++ if_feature_statements target) (λ n h. Contains-append_left b (if_feature_statements target) n (w n h)) B),
              tt,
            ),
          ),
        )) A))
    augmented_asked {under = under} (without_target {others = others} {a = a} misses later) above adding asked A =
        augmented_asked later above (rest_all (Adding above under) a others adding) asked A

  -- the augments of modules
  abbrev Modules : ℕ → Type 0
  Modules a = IsAsked rows a × (gives_node (slice_get rows a) ≡ false)

  nothing_round : (k : ℕ) → Reaches rows [] [] k
  nothing_round k n h = absurd (nothing_stands n h)

  round_asked : {waiting still : List ℕ} {m last : Product} → Round files waiting m still last → All Modules waiting → AreAsked rows [] m.nodes
      → AreAsked rows [] last.nodes × Within still waiting
  round_asked round_over all A = (A, λ k h. h)
  round_asked (round_adds {a = a} {others = others} {m = m} {block = block} {there = there} {target = target} module_file e reaches later) all A =
      let s = first_all Modules a others all in
      let B = gives_asked e [] (through_all [] [] a a s.1 (nothing_round a)) (one_more_all (IsAsked rows) a [] s.0 (λ k h. absurd (nothing_stands k h))) in
      let C = leads_asked rows reaches.leads.2 [] (λ b w C. (
        C.0,
        (
          C.1.0,
          (
            asked_inserted rows a (nodes_given a block.nodes) reaches.below (b ++ if_feature_statements target)
                (asked_given rows a block.nodes (b ++ if_feature_statements target) (asked_wider rows block.nodes [] (b ++ if_feature_statements target) (λ n h. absurd (nothing_stands n h)) B))
                C.1.1.0,
            tt,
          ),
        ),
      )) A in
      let r = round_asked later (rest_all Modules a others all) (subst (AreAsked rows []) (sym (added_nodes a target m block there)) C) in
      (r.0, λ k h. there_later a k others (r.1 k h))
  round_asked (round_misses {a = a} {others = others} module_file leads misses later) all A =
      let r = round_asked later (rest_all Modules a others all) A in
      (r.0, λ k h. there_later a k others (r.1 k h))
  round_asked (waits {a = a} {others = others} {still = still} module_file nowhere later) all A =
      let r = round_asked later (rest_all Modules a others all) A in (
        r.0,
        λ k h. elim (Contains-append_cases (a ∷ []) still k h) [
          | inl first ↦ Contains-append_left (a ∷ []) others k first
          | inr rest ↦ there_later a k others (r.1 k rest)
        ],
      )

  rounds_asked : {waiting : List ℕ} {m end : Product} → Rounds files waiting m end → All Modules waiting → AreAsked rows [] m.nodes
      → AreAsked rows [] end.nodes
  rounds_asked (last_round round) all A = A
  rounds_asked (one_more_round round less later) all A =
      let r = round_asked round all A in
      rounds_asked later (λ k h. all k (r.1 k h)) r.0

  tops_asked : {order : List ℕ} {m : Product} → Tops files order m → AreAsked rows [] m.nodes
  tops_asked no_files = tt
  tops_asked (one_more_top {file = file} {m = m} {behind = behind} e later) =
      asked_joined rows m.nodes behind.nodes []
      (gives_asked e [] (λ k h. (top_below rows (map brief_of files) file k h, nothing_round k)) (λ k h. absurd (nothing_stands k h))) (tops_asked later)

  given_below : (marks : List Bool) (n : ℕ) → All (IsBelow rows) (given_before (map brief_of files) rows marks n)
  given_below marks zero k h = absurd (nothing_stands k h)
  given_below marks (suc file) k h = elim (Contains-append_cases (given_before (map brief_of files) rows marks file) (given_at (map brief_of files) rows marks file) k h) [
    | inl first ↦ given_below marks file k first
    | inr rest ↦ by _ rest
  ]
    where
      by : (b : Bool) → Contains (if b then top_of (map brief_of files) rows file else []) k → IsBelow rows k
      by true there = top_below rows (map brief_of files) file k there
      by false there = absurd (nothing_stands k there)

  modules_asked : (marks : List Bool) → All Modules (augments_of (map brief_of files) rows marks)
  modules_asked marks a h =
      let ks : List ℕ = given_before (map brief_of files) rows marks (length (map brief_of files)) in
      let z = those_at is_augment ks a h in
      (those_asked (codes "augment") ks refl (given_below marks (length (map brief_of files))) a h, word_gives rows a z.1.0 (codes "augment") z.1.1 z.1.2 augment_gives)

pub files_ask : (files : Files) → FilesAsk files
files_ask files marks order m E = rounds_asked files E.rounds (modules_asked files marks) (tops_asked files E.tops)
