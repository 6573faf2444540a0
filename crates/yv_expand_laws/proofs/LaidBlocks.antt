-- What is laid of items lies in blocks.
use Rattle.std.proofs.Common.{◌≡◌, ℕ, zero, suc, ◌+◌, ◌<◌, Bool, true, false, if◌then◌else◌, List, [], ◌∷◌, ◌++◌, length, map, length-append, append_assoc, refl, sym, ◌∙◌, ap, subst, arith, Option, Some, None}
use Rattle.std.specs.List.{Contains, slice_get}
use Rattle.std.proofs.lemmas.List.{append-nil}
use Rattle.std.proofs.lemmas.Bool.{false≢true}
use Rattle.std.proofs.lemmas.Option.{same_Some}
use Rattle.yv_link_scopes.specs.Rows.{Row}
use Rattle.yv_expand_statements.specs.Origin.{number_of}
use Rattle.yv_expand.specs.Tree.{Item, Tree, count, item, join, item_list, none}
use Rattle.yv_expand_statements.specs.declared.origin.Origin.{Origin}
use Rattle.yv_expand_statements.specs.declared.origin.Origin.TheVariants.{Statement, Input, Output}
use Rattle.yv_link_definitions.specs.Refers as refers
use Rattle.yv_link_definitions.specs.Refers.{RefersTo}
use Rattle.yv_expand_statements.specs.StatementBlocks.{block_of, first_of, input_of, is_at, is_input, is_node_or_uses, is_operation, is_output, output_of, part, part_block}
use Rattle.yv_expand_rounds.specs.declared.label.Label.{Label}
use Rattle.yv_expand_uses.specs.AugmentOrder.{augments_giving}
use Rattle.yv_expand_uses.specs.Paths.{path_in}
use Rattle.yv_expand_statements.specs.Kinds.{is_uses}
use Rattle.yv_expand_uses.specs.Kinds.{kind_at, kind_of}
use Rattle.yv_expand_uses.specs.Spots.{LayoutView, Whole, copies_of, group_below, laid_from, spot_at, spot_of, used_group}
use Rattle.yv_expand_uses.specs.declared.spot.Spot.{Spot}
use Rattle.yv_expand_laws.specs.Blocks.{Augments, Block, augment, no_augments, uses}
use Rattle.yv_expand_laws.specs.Blocks as block
use Rattle.yv_expand_laws.specs.Expansions.{spot_view}
use Rattle.yv_expand_laws.specs.Layout.{AllLie, Lie, paths_of}
use Rattle.yv_expand_laws.proofs.FoundItems.{there_first, there_later}
use Rattle.yv_expand_laws.proofs.BlockStatements.{first_passes, row_at}
use Rattle.yv_expand_laws.proofs.KeywordKinds.{input_no_uses, operation_item, output_no_uses, statement_kind}
use Rattle.yv_expand_laws.proofs.JoinedBlocks.{count_joined, joined_assoc, laid_append, lie_then, listed_joined, then_block}

pub map_append : {A B : Type 0} (f : A → B) (xs ys : List A) → map f (xs ++ ys) ≡ map f xs ++ map f ys
map_append f [] ys = refl
map_append f (x ∷ xs) ys = ap (λ l. f x ∷ l) (map_append f xs ys)

pub map_length : {A B : Type 0} (f : A → B) (xs : List A) → length (map f xs) ≡ length xs
map_length f [] = refl
map_length f (x ∷ xs) = (let e = map_length f xs in omega (arith, e))

behind_all : {A : Type 0} (xs : List A) (y : A) → slice_get (xs ++ y ∷ []) (length xs) ≡ Some y
behind_all [] y = refl
behind_all (x ∷ xs) y = behind_all xs y

pub last_at : {A : Type 0} (xs : List A) (y : A) (n : ℕ) → length xs ≡ n → slice_get (xs ++ y ∷ []) n ≡ Some y
last_at xs y n long = ap (slice_get (xs ++ y ∷ [])) (sym long) ∙ behind_all xs y

pub still_at : {A : Type 0} (xs ys : List A) (p : ℕ) → p < length xs → slice_get (xs ++ ys) p ≡ slice_get xs p
still_at [] ys p l = absurd (omega (arith, l))
still_at (x ∷ xs) ys zero l = refl
still_at (x ∷ xs) ys (suc p) l = still_at xs ys p (omega (arith, l))

module _ (w : Whole) (labels : List Label) where
  abbrev pub laid_as : List Spot → ℕ → LayoutView
  laid_as spots copies = record { spots = spots; copies = copies }

  -- these items, laid behind others, lie in a block
  pub record Lies (l : LayoutView) (items : List Item) (g n hi c e : ℕ) : Type 0 where
    pub new : List Spot
    pub laid : laid_from w items l ≡ laid_as (l.spots ++ new) e
    pub long : n + length new ≡ hi
    pub block : Block n hi c e
    pub lie : Lie labels g block (map (spot_view w) new)

  -- or in those of augments
  pub record AllLies (l : LayoutView) (items : List Item) (n hi c e k own : ℕ) (paths : List (List ℕ)) : Type 0 where
    pub new : List Spot
    pub laid : laid_from w items l ≡ laid_as (l.spots ++ new) e
    pub long : n + length new ≡ hi
    pub augments : Augments n hi c e k own
    pub lie : AllLie labels augments (map (spot_view w) new)
    pub paths_are : paths_of augments ≡ paths

  abbrev pub empty_lies : (l : LayoutView) (g n c : ℕ) → l.copies ≡ c → Lies l [] g n n c c
  empty_lies l g n c same = record {
    new = [];
    laid = ap (λ s. laid_as s l.copies) (sym (append-nil l.spots)) ∙ ap (laid_as (l.spots ++ [])) same;
    long = omega arith;
    block = block.nothing;
    lie = refl;
  }

  abbrev pub lies_then : (l : LayoutView) (xs ys : List Item) (g n mid hi c d e : ℕ) (p : Lies l xs g n mid c d) → Lies (laid_as (l.spots ++ p.new) d) ys g mid hi d e → Lies l (xs ++ ys) g n hi c e
  lies_then l xs ys g n mid hi c d e p q = record {
    new = p.new ++ q.new;
    laid = laid_append w xs ys l ∙ (ap (laid_from w ys) p.laid ∙ (q.laid ∙ ap (λ s. laid_as s e) (append_assoc l.spots p.new q.new)));
    long = (let a = length-append p.new q.new in let b = p.long in let f = q.long in omega (arith, a, b, f));
    block = then_block p.block q.block;
    lie = subst (Lie labels g (then_block p.block q.block)) (sym (map_append (spot_view w) p.new q.new))
        (lie_then labels g p.block q.block (map (spot_view w) p.new) (map (spot_view w) q.new) p.lie q.lie);
  }

  pub no_copies : (l : LayoutView) (x : Item) (c : ℕ) → l.copies ≡ c → is_uses (spot_of w l.spots l.copies x).label.kind ≡ false → l.copies + copies_of w.rows (spot_of w l.spots l.copies x) ≡ c
  no_copies l x c copies no_uses = (let none : copies_of w.rows (spot_of w l.spots l.copies x) ≡ 0 =
      ap (λ (b : Bool). if b then length (augments_giving w.rows (spot_of w l.spots l.copies x).statement) else 0) no_uses in omega (arith, none, copies))

  pub own_copies : (l : LayoutView) (x : Item) (c own : ℕ) → l.copies ≡ c → is_uses (spot_of w l.spots l.copies x).label.kind ≡ true
      → own ≡ c + length (augments_giving w.rows (spot_of w l.spots l.copies x).statement) → l.copies + copies_of w.rows (spot_of w l.spots l.copies x) ≡ own
  own_copies l x c own copies of_uses own_is = (let all : copies_of w.rows (spot_of w l.spots l.copies x) ≡ length (augments_giving w.rows (spot_of w l.spots l.copies x).statement) =
      ap (λ (b : Bool). if b then length (augments_giving w.rows (spot_of w l.spots l.copies x).statement) else 0) of_uses in omega (arith, all, copies, own_is))

  -- an item that is no uses, above others
  abbrev pub item_lies : (l : LayoutView) (x : Item) (below : List Item) (g n hi c e : ℕ) → length l.spots ≡ n → l.copies ≡ c → is_uses (spot_of w l.spots l.copies x).label.kind ≡ false
      → (spot_of w l.spots l.copies x).group ≡ g → Lies (laid_as (l.spots ++ spot_of w l.spots l.copies x ∷ []) c) below (n + 1) (n + 1) hi c e → Lies l (x ∷ below) g n hi c e
  item_lies l x below g n hi c e long copies no_uses at q = (let s : Spot = spot_of w l.spots l.copies x in record {
    new = s ∷ q.new;
    laid = ap (λ (m : ℕ). laid_from w below (laid_as (l.spots ++ s ∷ []) m)) (no_copies l x c copies no_uses) ∙ (q.laid ∙ ap (λ z. laid_as z e) (append_assoc l.spots (s ∷ []) q.new));
    long = (let a = q.long in omega (arith, a));
    block = block.item hi e q.block block.nothing;
    lie = (
      spot_view w s,
      map (spot_view w) q.new,
      [],
      ap (λ z. spot_view w s ∷ z) (sym (append-nil (map (spot_view w) q.new))),
      at,
      no_uses,
      q.lie,
      refl,
      (let a = q.long in let b = map_length (spot_view w) q.new in omega (arith, a, b)),
    );
  })

  -- a uses, above what it copies and what its augments give
  abbrev pub uses_lies : (l : LayoutView) (x : Item) (first others : List Item) (g n mid hi c own d e : ℕ) → length l.spots ≡ n → l.copies ≡ c → is_uses (spot_of w l.spots l.copies x).label.kind ≡ true
      → (spot_of w l.spots l.copies x).group ≡ g → own ≡ c + length (augments_giving w.rows (spot_of w l.spots l.copies x).statement)
      → (p : Lies (laid_as (l.spots ++ spot_of w l.spots l.copies x ∷ []) own) first g (n + 1) mid own d)
      → AllLies (laid_as ((l.spots ++ spot_of w l.spots l.copies x ∷ []) ++ p.new) d) others mid hi d e c own
      (map (path_in w (spot_of w l.spots l.copies x).module_file) (augments_giving w.rows (spot_of w l.spots l.copies x).statement)) → Lies l (x ∷ (first ++ others)) g n hi c e
  uses_lies l x first others g n mid hi c own d e long copies of_uses at own_is p q = (let s : Spot = spot_of w l.spots l.copies x in record {
    new = s ∷ (p.new ++ q.new);
    laid = ap (λ (m : ℕ). laid_from w (first ++ others) (laid_as (l.spots ++ s ∷ []) m)) (own_copies l x c own copies of_uses own_is)
        ∙ (laid_append w first others (laid_as (l.spots ++ s ∷ []) own)
        ∙ (ap (laid_from w others) p.laid ∙ (q.laid ∙ ap (λ z. laid_as z e) (append_assoc (l.spots ++ s ∷ []) p.new q.new ∙ append_assoc l.spots (s ∷ []) (p.new ++ q.new)))));
    long = (let a = p.long in let b = q.long in let f = length-append p.new q.new in omega (arith, a, b, f));
    block = uses mid hi own d e p.block q.augments block.nothing;
    lie = (
      spot_view w s,
      map (spot_view w) p.new,
      map (spot_view w) q.new,
      [],
      ap (λ z. spot_view w s ∷ z) (map_append (spot_view w) p.new q.new ∙ ap (λ z. map (spot_view w) p.new ++ z) (sym (append-nil (map (spot_view w) q.new)))),
      at,
      of_uses,
      copies,
      sym q.paths_are,
      p.lie,
      q.lie,
      refl,
      (let a = p.long in let b = map_length (spot_view w) p.new in omega (arith, a, b)),
      (let a = q.long in let b = map_length (spot_view w) q.new in omega (arith, a, b)),
    );
  })

  -- Each statement gives a part of the items: whatever they are laid behind, those of the part lie
  -- in a block of the group in which the statement puts them. A statement that is no item gives
  -- none.
  abbrev pub PartLies : (k : ℕ) → Tree → Type 0
  PartLies k t =
      (l : LayoutView) (parent : Option ℕ) (g n hi c : ℕ) → length l.spots ≡ n → l.copies ≡ c → n + count t ≡ hi → ((p : ℕ) → parent ≡ Some p → p < n)
      → ((r : Row) → slice_get w.rows k ≡ Some r → group_below w (Some r) parent (spot_at l.spots parent) ≡ g) → (e : ℕ) × Lies l (item_list parent n t) g n hi c e

  pub record Part (k : ℕ) (t : Tree) : Type 0 where
    pub lies : PartLies k t
    pub nothing : (r : Row) → slice_get w.rows k ≡ Some r → is_node_or_uses r ≡ false → t ≡ none

  pub data Parts : List ℕ → Tree → Type 0 where
    no_parts : Parts [] none
    one_part : {k : ℕ} {ks : List ℕ} {t u : Tree} → Part k t → Parts ks u → Parts (k ∷ ks) (join t u)

  -- the spot above stays where it is
  pub spot_stays : (spots more : List Spot) (parent : Option ℕ) (n : ℕ) → length spots ≡ n → ((p : ℕ) → parent ≡ Some p → p < n) → spot_at (spots ++ more) parent ≡ spot_at spots parent
  spot_stays spots more None n long below = refl
  spot_stays spots more (Some p) n long below = still_at spots more p (let l = below p refl in omega (arith, l, long))

  pub all_lie : {ks : List ℕ} {t : Tree} → Parts ks t → (l : LayoutView) (parent : Option ℕ) (g n hi c : ℕ) → length l.spots ≡ n → l.copies ≡ c → n + count t ≡ hi
      → ((p : ℕ) → parent ≡ Some p → p < n) → ((k : ℕ) (r : Row) → Contains ks k → slice_get w.rows k ≡ Some r → group_below w (Some r) parent (spot_at l.spots parent) ≡ g)
      → (e : ℕ) × Lies l (item_list parent n t) g n hi c e
  all_lie no_parts l parent g n hi c long copies ends below group =
      (c, subst (λ (h : ℕ). Lies l [] g n h c c) (let e : n ≡ hi = omega (arith, ends) in e) (empty_lies l g n c copies))
  all_lie (one_part {k = k} {ks = ks} {t = t} {u = u} P rest) l parent g n hi c long copies ends below group =
      let a = P.lies l parent g n (n + count t) c long copies refl below (λ r at. group k r (there_first k ks) at) in
      let A = a.1 in
      let b = all_lie rest (laid_as (l.spots ++ A.new) a.0) parent g (n + count t) hi a.0
      (let f = length-append l.spots A.new in let h = A.long in omega (arith, f, h, long)) refl (let f = count_joined t u in omega (arith, f, ends))
      (λ p is. (let f = below p is in omega (arith, f)))
      (λ j r there at. ap (group_below w (Some r) parent) (spot_stays l.spots A.new parent n long below) ∙ group j r (there_later k j ks there) at) in
      (b.0, subst (λ items. Lies l items g n hi c b.0) (sym (listed_joined parent n t u)) (lies_then l (item_list parent n t) (item_list parent (n + count t) u) g n (n + count t) hi c a.0 b.0 A b.1))

  pub parts_split : (xs ys : List ℕ) {t : Tree} → Parts (xs ++ ys) t → (a : Tree) × (b : Tree) × (t ≡ join a b) × Parts xs a × Parts ys b
  parts_split [] ys {t = t} P = (none, t, refl, no_parts, P)
  parts_split (x ∷ xs) ys (one_part {t = t} P rest) =
      let s = parts_split xs ys rest in (join t s.0, s.1, ap (join t) s.2 ∙ sym (joined_assoc t s.0 s.1), one_part P s.3, s.4)

  -- what stands below an item that is no uses lies in the group of that item
  abbrev pub BelowLies : Tree → Type 0
  BelowLies t =
      (l : LayoutView) (p n hi c : ℕ) (s : Spot) → length l.spots ≡ n → l.copies ≡ c → n + count t ≡ hi → p < n → slice_get l.spots p ≡ Some s → is_uses s.label.kind ≡ false
      → (e : ℕ) × Lies l (item_list (Some p) n t) (p + 1) n hi c e

  pub group_of_node : (r : Option Row) (p : ℕ) (o : Option Spot) (s : Spot) → o ≡ Some s → is_uses s.label.kind ≡ false → group_below w r (Some p) o ≡ p + 1
  group_of_node r p o s at no_uses = ap (group_below w r (Some p)) at ∙ ap (λ (b : Bool). if b then used_group w s r else p + 1) no_uses

  pub below_lies : {ks : List ℕ} {t : Tree} → Parts ks t → BelowLies t
  below_lies P l p n hi c s long copies ends less at no_uses =
      all_lie P l (Some p) (p + 1) n hi c long copies ends (λ q is. subst (λ (m : ℕ). m < n) (same_Some p q is) less)
      (λ k r there row. group_of_node (Some r) p (slice_get l.spots p) s at no_uses)

  -- an item that is no uses, with what stands below it
  pub own_lies : (o : Origin) (t : Tree) → BelowLies t → is_uses (kind_of w.rows o) ≡ false → (l : LayoutView) (parent : Option ℕ) (g n hi c : ℕ) → length l.spots ≡ n → l.copies ≡ c
      → n + count (item o t none) ≡ hi → group_below w (slice_get w.rows (number_of o)) parent (spot_at l.spots parent) ≡ g
      → (e : ℕ) × Lies l (item_list parent n (item o t none)) g n hi c e
  own_lies o t inner no_uses l parent g n hi c long copies ends group =
      let x : Item = record { origin = o; parent = parent } in
      let s : Spot = spot_of w l.spots l.copies x in
      let b = inner (laid_as (l.spots ++ s ∷ []) c) n (n + 1) hi c s (let f = length-append l.spots (s ∷ []) in omega (arith, f, long)) refl
      (omega (arith, ends)) (omega arith) (last_at l.spots s n long) no_uses in (
        b.0,
        subst (λ items. Lies l (x ∷ items) g n hi c b.0) (sym (append-nil (item_list (Some n) (n + 1) t)))
            (item_lies l x (item_list (Some n) (n + 1) t) g n hi c b.0 long copies no_uses group b.1),
      )

  -- the part that a statement gives which is no operation and no uses
  pub node_part : (k : ℕ) (r : Row) (below : Tree) → slice_get w.rows k ≡ Some r → is_node_or_uses r ≡ true → refers.is_uses r ≡ false → Parts (block_of w.rows k) below
      → Part k (item (Statement k) below none)
  node_part k r below at is_one no_uses P = record {
    lies = λ l parent g n hi c long copies ends less group.
        own_lies (Statement k) below (below_lies P) (statement_kind w.rows k r at is_one ∙ no_uses) l parent g n hi c long copies ends
        (ap (λ o. group_below w o parent (spot_at l.spots parent)) at ∙ group r at);
    nothing = λ q row none_is. absurd (false≢true (sym none_is ∙ (ap is_node_or_uses (same_Some q r (sym row ∙ at)) ∙ is_one)));
  }

  -- an operation's input and output
  pub part_no_uses : (unwritten : Origin) (test : Row → Bool) (block : List ℕ) → is_uses (kind_of w.rows unwritten) ≡ false → ((r : Row) → test r ≡ true → is_uses (kind_at (Some r)) ≡ false)
      → is_uses (kind_of w.rows (part unwritten (first_of test w.rows block))) ≡ false
  part_no_uses unwritten test block own written = by (first_of test w.rows block) refl
    where
      by : (o : Option ℕ) → first_of test w.rows block ≡ o → is_uses (kind_of w.rows (part unwritten o)) ≡ false
      by None is = own
      by (Some j) is =
          (let row = row_at test w.rows j (first_passes (is_at test w.rows) block j is) in
          ap (λ o. is_uses (kind_at o)) row.1 ∙ written row.0 row.2)

  pub two_lie : (o q : Origin) (t u : Tree) → BelowLies t → BelowLies u → is_uses (kind_of w.rows o) ≡ false → is_uses (kind_of w.rows q) ≡ false → BelowLies (item o t (item q u none))
  two_lie o q t u T U no_o no_q l p n hi c s long copies ends less at no_uses =
      let mid : ℕ = n + count (item o t none) in
      let a = own_lies o t T no_o l (Some p) (p + 1) n mid c long copies refl (group_of_node (slice_get w.rows (number_of o)) p (slice_get l.spots p) s at no_uses) in
      let A = a.1 in
      let b = own_lies q u U no_q (laid_as (l.spots ++ A.new) a.0) (Some p) (p + 1) mid hi a.0 (let f = length-append l.spots A.new in let h = A.long in omega (arith, f, h, long)) refl
      (omega (arith, ends))
      (group_of_node (slice_get w.rows (number_of q)) p (slice_get (l.spots ++ A.new) p) s (still_at l.spots A.new p (omega (arith, less, long)) ∙ at) no_uses) in (
        b.0,
        subst (λ items. Lies l items (p + 1) n hi c b.0) (sym (listed_joined (Some p) n (item o t none) (item q u none)))
            (lies_then l (item_list (Some p) n (item o t none)) (item_list (Some p) mid (item q u none)) (p + 1) n mid hi c a.0 b.0 A b.1),
      )

  pub operation_part : (k : ℕ) (r : Row) (input output : Tree) → slice_get w.rows k ≡ Some r → is_operation r ≡ true → Parts (part_block w.rows (input_of w.rows k)) input
      → Parts (part_block w.rows (output_of w.rows k)) output
      → Part k (item (Statement k) (item (part (Input k) (input_of w.rows k)) input (item (part (Output k) (output_of w.rows k)) output none)) none)
  operation_part k r input output at is_one I O = record {
    lies = λ l parent g n hi c long copies ends less group.
        own_lies (Statement k) (item (part (Input k) (input_of w.rows k)) input (item (part (Output k) (output_of w.rows k)) output none))
        (two_lie (part (Input k) (input_of w.rows k)) (part (Output k) (output_of w.rows k)) input output (below_lies I) (below_lies O)
        (part_no_uses (Input k) is_input (block_of w.rows k) refl input_no_uses) (part_no_uses (Output k) is_output (block_of w.rows k) refl output_no_uses))
        (statement_kind w.rows k r at (operation_item r is_one).0 ∙ (operation_item r is_one).1) l parent g n hi c long copies ends
        (ap (λ o. group_below w o parent (spot_at l.spots parent)) at ∙ group r at);
    nothing = λ q row none_is. absurd (false≢true (sym none_is ∙ (ap is_node_or_uses (same_Some q r (sym row ∙ at)) ∙ (operation_item r is_one).0)));
  }
