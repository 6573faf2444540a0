-- The tops of files, and behind them the blocks of the augments of modules, lie in blocks that give
-- what their statements give.
use Rattle.std.proofs.Common.{inl, ◌≡◌, ℕ, ◌+◌, ◌<◌, ◌≤◌, false, List, [], ◌∷◌, ◌++◌, length, map, length-append, append_assoc, refl, sym, ◌∙◌, ap, subst, arith, Some, None}
use Rattle.std.specs.List.{Contains, slice_get}
use Rattle.std.proofs.lemmas.List.{append-nil}
use Rattle.yv_link_scopes.specs.Files.{Files, brief_of, module_file_at}
use Rattle.yv_link_scopes.specs.RowList.{rows_of}
use Rattle.yv_link_scopes.specs.Rows.{Row}
use Rattle.yv_expand_statements.specs.StatementBlocks.{top_of}
use Rattle.yv_expand.specs.Tree.{Item, Tree, all_of, count, item_list}
use Rattle.yv_expand_rounds.specs.declared.label.Label.{Label}
use Rattle.yv_expand_rounds.specs.Groups.{group_of_augment, members_of}
use Rattle.yv_expand_rounds.specs.Turns.{State}
use Rattle.yv_expand_uses.specs.InnerEnds.{is_from_at}
use Rattle.yv_expand_uses.specs.Spots.{LayoutView, Whole, labels_of, layout_of, laid_from, own_module_file, top_group, whole}
use Rattle.yv_expand_uses.specs.declared.spot.Spot.{Spot}
use Rattle.yv_expand_definition.specs.Expansion.{Tops}
use Rattle.yv_expand_definition.specs.Expansion.Tops.{no_files, one_more as one_more_top}
use Rattle.yv_expand_definition.specs.Gives.{Gives, Product}
use Rattle.yv_expand_definition.specs.Nodes as nodes
use Rattle.yv_expand_laws.specs.FirstItems.{BlocksMarked}
use Rattle.yv_expand_laws.specs.Blocks.{Augments, Block, augment, no_augments, run_all}
use Rattle.yv_expand_laws.specs.Blocks as block
use Rattle.yv_expand_laws.specs.Comes.{HasMarks}
use Rattle.yv_expand_laws.specs.Expansions.{spot_view}
use Rattle.yv_expand_laws.specs.Frames.{IsOutside}
use Rattle.yv_expand_laws.specs.StatementItems.{ShowNodes, around}
use Rattle.yv_expand_laws.specs.Marks.{mark_of}
use Rattle.yv_expand_laws.specs.Shows.{Items}
use Rattle.yv_expand_laws.proofs.Alike.{AreAlike}
use Rattle.yv_expand_laws.proofs.InitialNodes.{blocks_mark}
use Rattle.yv_expand_laws.proofs.FoundItems.{not_none}
use Rattle.yv_expand_laws.proofs.Givers.{Spans}
use Rattle.yv_expand_laws.proofs.JoinedBlocks.{count_joined, laid_append, listed_joined}
use Rattle.yv_expand_laws.proofs.BlockFrame.{AllKept, MayAll, all_go_up, all_keep, goes_up}
use Rattle.yv_expand_laws.proofs.LaidBlocks.{AllLies, Lies, empty_lies, laid_as, lies_then, map_append, map_length}
use Rattle.yv_expand_laws.proofs.LaterItems.{IsHere, Makes, MayRun, all_state_is, drop_at, first_stops, low, new_long, node_stays, refined, split_here, stage, state, then_makes}
use Rattle.yv_expand_laws.proofs.MakingNodes.{PartsMake, all_make}
use Rattle.yv_expand_laws.proofs.BlockRefusals.{Come, come_as, come_none, come_same}
use Rattle.yv_expand_laws.proofs.BlockNodes.{may_block, may_others}
use Rattle.yv_expand_laws.proofs.RefineStages.{noted_alike}

module _ (files : Files) (augments : List ℕ) (many : ℕ) (items : List Item) where
  -- the blocks of augments give what this says of each, by its place, and at their items that is
  -- refused which is refused of these
  abbrev pub AllCome : Items → (made : ℕ → Product → Type 0) → {lo hi c e k own : ℕ} → Augments lo hi c e k own → Type 0
  AllCome now made no_augments = Unit {0}
  AllCome now made {k = k} (augment mid d names block others) = ((m : Product) → made k m → Come files augments many items now block m.nodes m.wrong) × AllCome now made others

  -- the same, where what is told of their items is the same
  pub all_come_same : (made : ℕ → Product → Type 0) (its new : Items) → AreAlike its new → {lo hi c e k own : ℕ} (augs : Augments lo hi c e k own)
      → ((i : ℕ) → lo ≤ i → i < hi → new.node_of i ≡ its.node_of i) → AllCome its made augs → AllCome new made augs
  all_come_same made its new are no_augments same come = tt
  all_come_same made its new are (augment mid d names block others) same (first, rest) =
      let up = goes_up block in let lm = up.0 in
      let up' = all_go_up others in let mh = up'.0 in (
        λ m given. come_same files augments many items its new are m.wrong (λ i l h. same i l (omega (arith, h, mh))) (first m given),
        all_come_same made its new are others (λ i l h. same i (omega (arith, l, lm)) h) rest,
      )

module _ (files : Files) (augments : List ℕ) (many : ℕ) (items : List Item) (its : Items)
    (facts : ShowNodes files (whole (map brief_of files) (rows_of files) augments many) items (λ i. None) its) (each : length items ≡ many) where
  abbrev w : Whole
  w = whole (map brief_of files) (rows_of files) augments many

  abbrev spots : List Spot
  spots = (layout_of w items).spots

  abbrev labels : List Label
  labels = labels_of spots

  -- what some statements give
  abbrev pub Given : List ℕ → (module_file : ℕ) → (under : List ℕ) → Product → Type 0
  Given ks module_file under m = Gives files module_file under ks m

  -- statements of which all items stand in one group, at the top or in that of an augment of a
  -- module
  pub record TopPart (ks : List ℕ) (t : Tree) (g module_file : ℕ) (under : List ℕ) : Type 0 where
    pub parts : PartsMake files augments many items its facts each ks t
    pub stands : (k : ℕ) (r : Row) → Contains ks k → slice_get w.rows k ≡ Some r
        → (top_group w (Some r) ≡ g) × (own_module_file w.files (Some r) ≡ module_file) × (around w.rows (Some r) ≡ under)

  top_makes : (ks : List ℕ) (t : Tree) (g module_file : ℕ) (under : List ℕ) → TopPart ks t g module_file under → (l : LayoutView) (n hi c : ℕ) → length l.spots ≡ n → l.copies ≡ c → n + count t ≡ hi
      → (e : ℕ) × (F : Lies w labels l (item_list None n t) g n hi c e) × Makes files augments many items its F (Given ks module_file under)
  top_makes ks t g module_file under P l n hi c long copies ends =
      all_make files augments many items its facts each P.parts l None g n hi c module_file under long copies ends (λ p is. absurd (not_none is)) (λ k r there at. P.stands k r there at)

  -- the files of modules in order
  pub data FilesMake : List ℕ → List Tree → Type 0 where
    no_files_make : FilesMake [] []
    one_file : {file : ℕ} {order : List ℕ} {t : Tree} {ts : List Tree} → TopPart (top_of w.files w.rows file) t 0 (module_file_at w.files file) [] → FilesMake order ts
        → FilesMake (file ∷ order) (t ∷ ts)

  abbrev pub TopsGive : List ℕ → Product → Type 0
  TopsGive order m = Tops files order m

  tops_split : {file : ℕ} {order : List ℕ} {m : Product} → TopsGive (file ∷ order) m
      → (a : Product) × (b : Product) × Given (top_of w.files w.rows file) (module_file_at w.files file) [] a × TopsGive order b
      × (m.nodes ≡ nodes.join a.nodes b.nodes) × (m.wrong ≡ a.wrong ++ b.wrong)
  tops_split (one_more_top {m = x} {behind = behind} G rest) = (x, behind, G, rest, refl, refl)

  no_tops : {m : Product} → TopsGive [] m → (m.nodes ≡ nodes.none) × (m.wrong ≡ [])
  no_tops no_files = (refl, refl)

  empty_tops : (l : LayoutView) (n c : ℕ) (same : l.copies ≡ c) → Makes files augments many items its (empty_lies w labels l 0 n c same) (TopsGive [])
  empty_tops l n c same m behind rest gives here may =
      let none_so = no_tops gives in
      let now : Items = stage files augments many items its n rest in
      come_as files augments many items now (block.nothing {lo = n} {c = c}) nodes.none m.nodes [] m.wrong (sym none_so.0) (sym none_so.1) (come_none files augments many items now)

  -- what stands at the tops of files gives what these do
  pub tops_make : {order : List ℕ} {trees : List Tree} → FilesMake order trees → (l : LayoutView) (n hi c : ℕ) → length l.spots ≡ n → l.copies ≡ c → n + count (all_of trees) ≡ hi
      → (e : ℕ) × (F : Lies w labels l (item_list None n (all_of trees)) 0 n hi c e) × Makes files augments many items its F (TopsGive order)
  tops_make no_files_make l n hi c long copies ends =
      let h : n ≡ hi = omega (arith, ends) in
      let pair = subst (λ (h : ℕ). (F : Lies w labels l [] 0 n h c c) × Makes files augments many items its F (TopsGive [])) h (empty_lies w labels l 0 n c copies, empty_tops l n c copies) in
      (c, pair.0, pair.1)
  tops_make (one_file {file = file} {order = order} {t = t} {ts = ts} P more) l n hi c long copies ends =
      let a = top_makes (top_of w.files w.rows file) t 0 (module_file_at w.files file) [] P l n (n + count t) c long copies refl in
      let A = a.1 in
      let f = length-append l.spots A.new in let h = A.long in let j = count_joined t (all_of ts) in
      let b = tops_make more (laid_as w labels (l.spots ++ A.new) a.0) (n + count t) hi a.0 (omega (arith, f, h, long)) refl (omega (arith, j, ends)) in
      let pair = subst (λ these. (F : Lies w labels l these 0 n hi c b.0) × Makes files augments many items its F (TopsGive (file ∷ order))) (sym (listed_joined None n t (all_of ts))) (
        lies_then w labels l (item_list None n t) (item_list None (n + count t) (all_of ts)) 0 n (n + count t) hi c a.0 b.0 A b.1,
        then_makes files augments many items its facts each l (item_list None n t) (item_list None (n + count t) (all_of ts)) 0 n (n + count t) hi c a.0 b.0 A b.1
            (Given (top_of w.files w.rows file) (module_file_at w.files file) []) (TopsGive order) (TopsGive (file ∷ order)) (λ m T. tops_split T)
            (λ behind stops. first_stops None n (λ p is. absurd (not_none is)) (all_of ts) (n + count t) behind stops) a.2 b.2,
      ) in (b.0, pair.0, pair.1)

  -- the blocks of augments of modules may enter their groups
  pub record MayBegin (n hi c e k own : ℕ) (augs : Augments n hi c e k own) (st : State) : Type 0 where
    pub enters : MayAll labels n hi c e k own st
    pub empty : (x : ℕ) → n < x → x ≤ hi → members_of st.groups x ≡ []
    pub marks : HasMarks its.given (mark_of w) st
    pub marked : BlocksMarked labels its.given (mark_of w) augs

  module _ (made : ℕ → Product → Type 0) where
    -- blocks of augments that are laid give what they do
    abbrev pub AllBegin : {l : LayoutView} {these : List Item} {n hi c e k own : ℕ} {paths : List (List ℕ)} → AllLies w labels l these n hi c e k own paths → Type 0
    AllBegin {l = l} {these = these} {n = n} {hi = hi} {c = c} {e = e} {k = k} {own = own} F =
        (behind : List Item) (rest : List Spot) → IsHere files augments many items its l these behind n c F.new rest
        → MayBegin n hi c e k own F.augments (state files augments many items its hi rest)
        → AllCome files augments many items (stage files augments many items its n (F.new ++ rest)) made F.augments

    -- one block, and those behind it
    module _ (l : LayoutView) (xs ys : List Item) (n mid hi c d e k own : ℕ) (A : Lies w labels l xs (group_of_augment labels k) n mid c d) (paths : List (List ℕ))
        (G : AllLies w labels (laid_as w labels (l.spots ++ A.new) d) ys mid hi d e (k + 1) own paths) where
      abbrev pub block_and : AllLies w labels l (xs ++ ys) n hi c e k own ([] ∷ paths)
      block_and = record {
        new = A.new ++ G.new;
        laid = laid_append w xs ys l ∙ (ap (laid_from w ys) A.laid ∙ (G.laid ∙ ap (λ z. laid_as w labels z e) (append_assoc l.spots A.new G.new)));
        long = (let f = length-append A.new G.new in let h = A.long in let i = G.long in omega (arith, f, h, i));
        augments = augment mid d [] A.block G.augments;
        lie = (map (spot_view w) A.new, map (spot_view w) G.new, map_append (spot_view w) A.new G.new, A.lie, G.lie, (let f = map_length (spot_view w) A.new in let h = A.long in omega (arith, f, h)));
        paths_are = ap (λ z. [] ∷ z) G.paths_are;
      }

      module _ (firsts : (behind : List Item) → ((j : ℕ) → n ≤ j → is_from_at j (slice_get behind 0) ≡ false) → (j : ℕ) → n ≤ j → is_from_at j (slice_get (ys ++ behind) 0) ≡ false)
          (behind : List Item) (rest : List Spot) (here : IsHere files augments many items its l (xs ++ ys) behind n c (A.new ++ G.new) rest)
          (may : MayBegin n hi c e k own (augment mid d [] A.block G.augments) (state files augments many items its hi rest)) where
        abbrev st1 : State
        st1 = state files augments many items its hi rest

        abbrev st2 : State
        st2 = run_all labels G.augments st1

        up : (n ≤ mid) × (c ≤ d)
        up = goes_up A.block

        up' : (mid ≤ hi) × (d ≤ e) × (k + 1 ≤ own)
        up' = all_go_up G.augments

        both : IsHere files augments many items its (laid_as w labels (l.spots ++ A.new) d) ys behind mid d G.new rest
            × IsHere files augments many items its l xs (ys ++ behind) n c A.new (G.new ++ rest)
        both =
            split_here files augments many items its facts each l xs ys behind n mid c d A.new G.new rest (new_long w labels l xs (group_of_augment labels k) n mid c d A) A.long up.1 firsts here

        m1 : MayAll labels mid hi d e (k + 1) own st1
        m1 = may_others labels its (mark_of w) (low files augments many items its facts each) n hi c e k own mid d st1 up.1 may.enters

        out1 : IsOutside labels mid hi (k + 1) e 0
        out1 = (inl (omega arith), inl (omega arith))

        kept : AllKept labels 0 mid hi d e (k + 1) own st1 st2
        kept = all_keep labels 0 G.augments st1 out1 m1

        may_first : MayRun files augments many items its (group_of_augment labels k) n mid c d st2
        may_first =
            let items_in = may.enters.items in let cd = up.1 in let mh = up'.0 in let de = up'.1 in let ko = up'.2 in
            record {
              enters = may_block labels its (mark_of w) (low files augments many items its facts each) 0 n hi c e k own mid d st1 st2 mh cd de ko may.enters kept;
              empty = λ x u h. kept.frame.outside x (λ same. omega (arith, same, u)) (inl h, inl (omega (arith, h, mh, items_in))) ∙ may.empty x u (omega (arith, h, mh));
              marks = blocks_mark labels its.given (mark_of w) (low files augments many items its facts each) G.augments st1 may.marked.1 may.marks;
            }

        may_later : MayBegin mid hi d e (k + 1) own G.augments st1
        may_later = (let nm = up.0 in record {
          enters = m1;
          empty = λ x u h. may.empty x (omega (arith, u, nm)) h;
          marks = may.marks;
          marked = may.marked.1;
        })

        stops_at : (j : ℕ) → n ≤ j → is_from_at j (slice_get items mid) ≡ false
        stops_at j l =
            ap (is_from_at j) (ap (slice_get items) (let h : mid ≡ mid + 0 = omega arith in h) ∙ (sym (drop_at items mid 0) ∙ ap (λ z. slice_get z 0) both.0.items_are))
            ∙ firsts behind here.stops j l

        come : Makes files augments many items its A (made k) → AllBegin G
            → AllCome files augments many items (stage files augments many items its n (A.new ++ (G.new ++ rest))) made (augment mid d [] A.block G.augments)
        come first later = (
          λ m given. first m (ys ++ behind) (G.new ++ rest) given both.1
              (subst (MayRun files augments many items its (group_of_augment labels k) n mid c d) (sym (all_state_is files augments many items its facts each G.augments G.new rest G.long G.lie)) may_first),
          all_come_same files augments many items made (stage files augments many items its mid (G.new ++ rest)) (stage files augments many items its n (A.new ++ (G.new ++ rest)))
              (noted_alike files spots its (refined files augments many items its mid (G.new ++ rest)) (refined files augments many items its n (A.new ++ (G.new ++ rest)))) G.augments
              (λ i u h. node_stays files augments many items its facts each n mid A.new (G.new ++ rest) A.long (λ j v x. stops_at j v) i u) (later behind rest both.0 may_later),
        )

      pub begins : ((behind : List Item) → ((j : ℕ) → n ≤ j → is_from_at j (slice_get behind 0) ≡ false) → (j : ℕ) → n ≤ j → is_from_at j (slice_get (ys ++ behind) 0) ≡ false)
          → Makes files augments many items its A (made k) → AllBegin G → AllBegin block_and
      begins firsts first later behind rest here may =
          subst (λ z. AllCome files augments many items (stage files augments many items its n z) made (augment mid d [] A.block G.augments)) (sym (append_assoc A.new G.new rest)) (come firsts behind rest here may first later)

    -- the augments of modules from a place on
    pub data BlocksMake : ℕ → List Tree → Type 0 where
      no_blocks : {k : ℕ} → BlocksMake k []
      one_block : {k module_file : ℕ} {ks under : List ℕ} {t : Tree} {ts : List Tree} → TopPart ks t (group_of_augment labels k) module_file under
          → ((m : Product) → made k m → Given ks module_file under m) → BlocksMake (k + 1) ts → BlocksMake k (t ∷ ts)

    abbrev empty_blocks : (l : LayoutView) (n c k : ℕ) → l.copies ≡ c → AllLies w labels l [] n n c c k k []
    empty_blocks l n c k copies = record {
      new = [];
      laid = ap (λ z. laid_as w labels z l.copies) (sym (append-nil l.spots)) ∙ ap (laid_as w labels (l.spots ++ [])) copies;
      long = omega arith;
      augments = no_augments;
      lie = refl;
      paths_are = refl;
    }

    -- what is laid of these blocks
    pub record AreBegun (l : LayoutView) (these : List Item) (ts : List Tree) (n hi c k own : ℕ) : Type 0 where
      pub last : ℕ
      pub paths : List (List ℕ)
      pub lies : AllLies w labels l these n hi c last k own paths
      pub begin : AllBegin lies
      pub spans : Spans lies.augments ts

    nothing_begun : (l : LayoutView) (n hi c k own : ℕ) → n ≡ hi → k ≡ own → l.copies ≡ c → AreBegun l [] [] n hi c k own
    nothing_begun l n hi c k own h o copies = subst (λ (h : ℕ). AreBegun l [] [] n h c k own) h (subst (λ (o : ℕ). AreBegun l [] [] n n c k o) o here)
      where
        here : AreBegun l [] [] n n c k k
        here = record { last = c; paths = []; lies = empty_blocks l n c k copies; begin = λ behind rest here may. tt; spans = refl }

    joined_begun : (l : LayoutView) (xs ys : List Item) (t : Tree) (ts : List Tree) (n mid hi c d k own : ℕ) → n + count t ≡ mid
        → (A : Lies w labels l xs (group_of_augment labels k) n mid c d) (b : AreBegun (laid_as w labels (l.spots ++ A.new) d) ys ts mid hi d (k + 1) own)
        → ((behind : List Item) → ((j : ℕ) → n ≤ j → is_from_at j (slice_get behind 0) ≡ false) → (j : ℕ) → n ≤ j → is_from_at j (slice_get (ys ++ behind) 0) ≡ false)
        → Makes files augments many items its A (made k) → AreBegun l (xs ++ ys) (t ∷ ts) n hi c k own
    joined_begun l xs ys t ts n mid hi c d k own ends A b firsts first = record {
      last = b.last;
      paths = [] ∷ b.paths;
      lies = block_and l xs ys n mid hi c d b.last k own A b.paths b.lies;
      begin = begins l xs ys n mid hi c d b.last k own A b.paths b.lies firsts first b.begin;
      spans = (t, ts, refl, ends, b.spans);
    }

    pub blocks_make : {k : ℕ} {ts : List Tree} → BlocksMake k ts → (l : LayoutView) (n hi c own : ℕ) → length l.spots ≡ n → l.copies ≡ c → n + count (all_of ts) ≡ hi → own ≡ k + length ts
        → AreBegun l (item_list None n (all_of ts)) ts n hi c k own
    blocks_make {k = k} no_blocks l n hi c own long copies ends own_is = nothing_begun l n hi c k own (omega (arith, ends)) (omega (arith, own_is)) copies
    blocks_make {k = k} (one_block {module_file = module_file} {ks = ks} {under = under} {t = t} {ts = ts} P makes more) l n hi c own long copies ends own_is =
        let a = top_makes ks t (group_of_augment labels k) module_file under P l n (n + count t) c long copies refl in
        let A = a.1 in
        let f = length-append l.spots A.new in let h = A.long in let j = count_joined t (all_of ts) in
        let b = blocks_make more (laid_as w labels (l.spots ++ A.new) a.0) (n + count t) hi a.0 own (omega (arith, f, h, long)) refl (omega (arith, j, ends)) (omega (arith, own_is)) in
        subst (λ these. AreBegun l these (t ∷ ts) n hi c k own) (sym (listed_joined None n t (all_of ts)))
        (joined_begun l (item_list None n t) (item_list None (n + count t) (all_of ts)) t ts n (n + count t) hi c a.0 k own refl A b
        (λ behind stops. first_stops None n (λ p is. absurd (not_none is)) (all_of ts) (n + count t) behind stops)
        (λ m behind rest given here may. a.2 m behind rest (makes m given) here may))
