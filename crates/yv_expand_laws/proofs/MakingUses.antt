-- A uses gives what it copies, refined, with what its augments add; and so each statement gives
-- what its items show.
use Rattle.std.proofs.Common.{inl, inr, ◌≡◌, ◌≢◌, ℕ, ◌+◌, ◌<◌, ◌≤◌, ◌||◌, Bool, true, false, if◌then◌else◌, List, [], ◌∷◌, ◌++◌, length, map, drop, length-append, append_assoc, refl, sym, ◌∙◌, ap, subst, arith, codes, Option, Some, None}
use Rattle.std.specs.List.{Contains, filter, slice_get}
use Rattle.std.specs.Option.{option_map}
use Rattle.std.proofs.lemmas.Bool.{false≢true, le-leb}
use Rattle.std.proofs.lemmas.List.{append-nil}
use Rattle.std.proofs.lemmas.Option.{same_Some, slice_get-map, slice_get_within}
use Rattle.yv_link_scopes.specs.Files.{Files, brief_of, has_word}
use Rattle.yv_link_scopes.specs.RowList.{rows_of}
use Rattle.yv_link_scopes.specs.Rows.{Row}
use Rattle.yv_link_definitions.specs.Refers as refers
use Rattle.yv_link_definitions.specs.Refers.{RefersTo}
use Rattle.yv_expand_paths.specs.InnerSteps.{has_path}
use Rattle.yv_expand_statements.specs.StatementBlocks.{block_of, is_at, is_augment, is_node_or_uses, those, is_refine}
use Rattle.yv_expand.specs.Tree.{Item, Tree, count, item, join, item_list, none}
use Rattle.yv_expand_statements.specs.declared.origin.Origin.TheVariants.{Statement}
use Rattle.yv_expand.specs.Expands.{Expands, blocks_of}
use Rattle.yv_expand.specs.Expands.Expands.{nothing as expands_nothing, other as expands_other, node as expands_node, operation as expands_operation, uses as expands_uses}
use Rattle.yv_expand_statements.specs.declared.statement_kind.StatementKind.{StatementKind}
use Rattle.yv_expand_statements.specs.declared.statement_kind.StatementKind.TheVariants as kind
use Rattle.yv_expand_rounds.specs.declared.label.Label.{Label}
use Rattle.yv_expand_rounds.specs.Groups.{members_of}
use Rattle.yv_expand_statements.specs.Kinds as kinds_are
use Rattle.yv_expand_rounds.specs.Turns.{State}
use Rattle.yv_expand_uses.specs.Ends.{end_at, is_above, is_from}
use Rattle.yv_expand_uses.specs.Ends as ends
use Rattle.yv_expand_uses.specs.AugmentOrder.{augments_giving, is_giving, ordinal}
use Rattle.yv_expand_uses.specs.Paths.{path_in}
use Rattle.yv_expand_augments.specs.Augmentation.{placed_from}
use Rattle.yv_expand_uses.specs.InnerEnds.{is_from_at}
use Rattle.yv_expand_statements.specs.Kinds.{is_uses}
use Rattle.yv_expand_uses.specs.Kinds.{kind_at}
use Rattle.yv_expand_augments.specs.Placement.{augment_at}
use Rattle.yv_expand_uses.specs.RefineTargets.{node_meant, refined_at, refines_in}
use Rattle.yv_expand_augments.specs.RefineMeanings.{refined_from}
use Rattle.yv_expand_uses.specs.Spots.{LayoutView, Whole, copy_group, module_file_below, labels_of, layout_of, spot_at, spot_of, whole}
use Rattle.yv_expand_uses.specs.AugmentOrder.{augments_in}
use Rattle.yv_expand_uses.specs.declared.spot.Spot.{Spot}
use Rattle.yv_expand_uses.proofs.SubtreeEnds.{drop_drop, run_yes}
use Rattle.yv_expand_augments.proofs.AugmentTurns.{giving_filtered}
use Rattle.yv_expand_changes.specs.Changes.{changes}
use Rattle.yv_expand_refines.specs.Targets.{RefineMeaning}
use Rattle.yv_expand_definition.specs.Gives.{AugmentsGive, Gives, Product, takes_block, RefinesGive as AreRefined}
use Rattle.yv_expand_definition.specs.Gives.Gives.{no_statements as gives_nothing, other as gives_other, one_node as gives_node, operation as gives_operation, uses as gives_uses}
use Rattle.yv_expand_definition.specs.Nodes.{Forest, Node, node}
use Rattle.yv_expand_definition.specs.Nodes as nodes
use Rattle.yv_expand_definition.proofs.GivenNodeUniqueness.{RefersToOne, clash}
use Rattle.yv_expand_laws.specs.Blocks.{Augments, Block, augment, no_augments, enter_block, run_all}
use Rattle.yv_expand_laws.specs.Blocks as block
use Rattle.yv_expand_laws.specs.Comes.{Comes, MarksBlock}
use Rattle.yv_expand_laws.specs.Comes.Comes.{no_items as none_come, of_uses}
use Rattle.yv_expand_laws.specs.Frames.{IsOutside}
use Rattle.yv_expand_laws.specs.StatementItems.{AreSound, ShowNodes, around, one_of, under_of}
use Rattle.yv_expand_laws.specs.Marks.{mark_of}
use Rattle.yv_expand_laws.specs.Shows.{AreLabels, Items}
use Rattle.yv_expand_laws.specs.ItemProperties.{HaveStatements, is_some_node}
use Rattle.yv_expand_laws.specs.Under.{Keeps, KeepsAdded}
use Rattle.yv_expand_laws.proofs.Alike.{Same}
use Rattle.yv_expand_laws.proofs.BlockStatements.{augments_are, block_scope, filter_in, no_augment_gives, refines_are, row_at}
use Rattle.yv_expand_laws.proofs.ExpansionBlocks.{no_uses}
use Rattle.yv_expand_laws.proofs.FrameSequences.{narrower, still}
use Rattle.yv_expand_laws.proofs.JoinedBlocks.{count_joined, listed_joined}
use Rattle.yv_expand_laws.proofs.BlockFrame.{AllKept, MayAll, all_go_up, all_keep, goes_up}
use Rattle.yv_expand_laws.proofs.KeywordKinds.{refers_uses, statement_kind, uses_no_augment, uses_no_refine}
use Rattle.yv_expand_laws.proofs.LaidBlocks.{AllLies, Lies, empty_lies, laid_as, last_at, map_length, still_at, uses_lies}
use Rattle.yv_expand_laws.proofs.GroupMarks.{all_marks}
use Rattle.yv_expand_laws.proofs.AugmentTargets.{EndsFrom, adds_of, bad_reach, copies_show, due, goes_reach, missed_reach, shows_made}
use Rattle.yv_expand_laws.proofs.BlockRefusals.{Come, Go, come_as, come_none, go_same, refined_by, uses_tell}
use Rattle.yv_expand_laws.proofs.BlockNodes.{may_all, may_copies}
use Rattle.yv_expand_laws.proofs.RefineStages.{Targets, changes_away, changes_then, noted, noted_alike, noted_labels}
use Rattle.yv_expand_laws.proofs.ExpansionStart.{count_listed}
use Rattle.yv_expand_laws.proofs.LabelsAndPaths.{laid_grows, there_is}
use Rattle.yv_expand_laws.proofs.UsesBlocks.{group_of_used}
use Rattle.yv_expand_laws.proofs.LaterItems.{IsHere, Makes, MayRun, all_state_is, are, at_behind, drop_at, drop_front, each_label, end_before, first_stops, item_here, low, marked, new_long, node_stays, split_here, spot_here, state_is}
use Rattle.yv_expand_laws.proofs.MakingNodes.{Given, PartMakes, PartsMake, StandsBelow, all_make, makes_for, node_makes, operation_makes, spot_above}
use Rattle.yv_expand_laws.proofs.MakingRefines.{meant_all, refines_come}
use Rattle.yv_expand_laws.proofs.MakingAugments.{AllMakes, MayAllRun, all_given_make}
use Rattle.yv_expand_laws.proofs.MakingNodes.PartsMake.{no_parts, one_part}

module _ (files : Files) (augments : List ℕ) (many : ℕ) (items : List Item) (its : Items) where
  abbrev pub w : Whole
  w = whole (map brief_of files) (rows_of files) augments many

  abbrev pub spots : List Spot
  spots = (layout_of w items).spots

  abbrev pub labels : List Label
  labels = labels_of spots

  abbrev pub copies : ℕ
  copies = (layout_of w items).copies

  -- where items stand when those from a number on have entered, and what is told of them then
  abbrev pub state : ℕ → List Spot → State
  state n xs = placed_from w labels copies n xs

  abbrev pub refined : ℕ → List Spot → List RefineMeaning
  refined n xs = refined_from w labels copies (end_at items) n xs

  abbrev pub stage : ℕ → List Spot → Items
  stage n xs = noted files spots its (refined n xs)

  module _ (facts : ShowNodes files w items (λ i. None) its) (each : length items ≡ many) where
    module _ (sound : AreSound files) (have : HaveStatements (rows_of files) items) where
      module _ (one_meant : RefersToOne files) where
        uses_kind : (k : StatementKind) → is_uses k ≡ true → kinds_are.is_node k ≡ false
        uses_kind kind.Uses is = refl
        uses_kind kind.Container is = absurd (false≢true is)
        uses_kind kind.Leaf is = absurd (false≢true is)
        uses_kind kind.LeafList is = absurd (false≢true is)
        uses_kind kind.List is = absurd (false≢true is)
        uses_kind kind.Choice is = absurd (false≢true is)
        uses_kind kind.Case is = absurd (false≢true is)
        uses_kind kind.Anydata is = absurd (false≢true is)
        uses_kind kind.Anyxml is = absurd (false≢true is)
        uses_kind kind.Rpc is = absurd (false≢true is)
        uses_kind kind.Action is = absurd (false≢true is)
        uses_kind kind.Input is = absurd (false≢true is)
        uses_kind kind.Output is = absurd (false≢true is)
        uses_kind kind.Notification is = absurd (false≢true is)

        -- a uses, above what it copies and what its augments give
        module _ (k meant_one : ℕ) (r : Row) (at : slice_get w.rows k ≡ Some r) (is_one : is_node_or_uses r ≡ true) (is_a_uses : refers.is_uses r ≡ true) (refers_to : RefersTo w.files w.rows k meant_one)
            (l : LayoutView) (parent : Option ℕ) (first others : List Item) (n mid hi c own d e : ℕ) (under : List ℕ) (long : length l.spots ≡ n) (all_copies : l.copies ≡ c)
            (less : (p : ℕ) → parent ≡ Some p → p < n) where
          abbrev x : Item
          x = record { origin = Statement k; parent = parent }

          abbrev s : Spot
          s = spot_of w l.spots l.copies x

          abbrev g : ℕ
          g = s.group

          abbrev refines : List ℕ
          refines = those is_refine w.rows (block_of w.rows k)

          module _ (of_uses_is : is_uses s.label.kind ≡ true) (own_is : own ≡ c + length (augments_giving w.rows k)) (p : Lies w labels (laid_as w labels (l.spots ++ s ∷ []) own) first g (n + 1) mid own d)
              (q : AllLies w labels (laid_as w labels ((l.spots ++ s ∷ []) ++ p.new) d) others mid hi d e c own (map (path_in w s.module_file) (augments_giving w.rows k)))
              (under_is : under_of w.rows its (slice_get w.rows k) parent (spot_at l.spots parent) ≡ under)
              (firsts : (behind : List Item) → ((j : ℕ) → n + 1 ≤ j → is_from_at j (slice_get behind 0) ≡ false) → (j : ℕ) → n + 1 ≤ j → is_from_at j (slice_get (others ++ behind) 0) ≡ false)
              (inside : (behind : List Item) → length first ≤ ends.run_length n (first ++ behind))
              (inside_all : (behind : List Item) → length (first ++ others) ≤ ends.run_length n ((first ++ others) ++ behind)) where
            abbrev whole_lies : Lies w labels l (x ∷ (first ++ others)) g n hi c e
            whole_lies = uses_lies w labels l x first others g n mid hi c own d e long all_copies of_uses_is refl own_is p q

            module _ (behind : List Item) (rest : List Spot) (here : IsHere files augments many items its l (x ∷ (first ++ others)) behind n c (s ∷ (p.new ++ q.new)) rest) (may : MayRun files augments many items its g n hi c e (state hi rest)) where
              abbrev xs : List Spot
              xs = p.new ++ (q.new ++ rest)

              abbrev st1 : State
              st1 = state hi rest

              abbrev st2 : State
              st2 = run_all labels q.augments st1

              abbrev now_is : State
              now_is = enter_block labels g p.block st2

              abbrev limit : ℕ
              limit = end_at items n

              up : (n + 1 ≤ mid) × (own ≤ d)
              up = goes_up p.block

              up' : (mid ≤ hi) × (d ≤ e) × (c ≤ own)
              up' = all_go_up q.augments

              at_spot : slice_get spots n ≡ Some s
              at_spot = ap (slice_get spots) (let h : n ≡ n + 0 = omega arith in h) ∙ spot_here files augments many items its facts each here 0 s refl

              at_item : slice_get items n ≡ Some x
              at_item = ap (slice_get items) (let h : n ≡ n + 0 = omega arith in h) ∙ item_here files augments many items its facts each here 0 x refl

              under_now : (its.node_of n).under ≡ under
              under_now = facts.under n x at_item ∙ (ap (under_of w.rows its (slice_get w.rows k) parent) (spot_above files augments many items its facts each here parent less) ∙ under_is)

              both : IsHere files augments many items its (laid_as w labels ((l.spots ++ s ∷ []) ++ p.new) d) others behind mid d q.new rest
                  × IsHere files augments many items its (laid_as w labels (l.spots ++ s ∷ []) own) first (others ++ behind) (n + 1) own p.new (q.new ++ rest)
              both =
                  let more = length-append l.spots (s ∷ []) in let late = here.late in let co = up'.2 in
                  split_here files augments many items its facts each (laid_as w labels (l.spots ++ s ∷ []) own) first others behind (n + 1) mid own d p.new q.new rest
                  (new_long w labels (laid_as w labels (l.spots ++ s ∷ []) own) first g (n + 1) mid own d p) p.long up.1 firsts (record {
                    long = omega (arith, more, long);
                    late = omega (arith, late, co);
                    items_are = sym (drop_drop n 1 items) ∙ ap (drop 1) here.items_are;
                    spots_are = here.spots_are ∙ ap (λ z. z ++ rest) (sym (append_assoc l.spots (s ∷ []) (p.new ++ q.new)));
                    stops = λ j h. here.stops j (omega (arith, h));
                  })

              marks_are : MarksBlock labels its.given (mark_of w) g whole_lies.block
              marks_are = marked files augments many items its facts each g whole_lies.block here whole_lies.lie

              out2 : IsOutside labels mid hi c e g
              out2 = (let nm = up.0 in narrower labels n hi c e mid hi c e g (omega (arith, nm)) (omega arith) (omega arith) (omega arith) may.enters.outside)

              m2 : MayAll labels mid hi d e c own st1
              m2 = may_all labels its (mark_of w) (low files augments many items its facts each) g n hi c e mid hi own d e st1 st1 up.0 up'.0 (omega arith) up'.2 up.1 up'.1 (omega arith) may.enters (still labels g hi hi e e st1) may.enters.from

              kept : AllKept labels g mid hi d e c own st1 st2
              kept = all_keep labels g q.augments st1 out2 m2

              not_g : (y : ℕ) → n < y → y ≤ hi → y ≢ g
              not_g y u h same = elim may.enters.outside.0 [ inl z ↦ omega (arith, z, u, same) | inr z ↦ omega (arith, z, h, same) ]

              may_p : MayRun files augments many items its g (n + 1) mid own d st2
              may_p =
                  let items_in = may.enters.items in let mh = up'.0 in
                  record {
                    enters = may_copies labels its (mark_of w) (low files augments many items its facts each) g n hi c e mid hi own d e st1 st1 st2 up.0 mh (omega arith) up'.2 up.1 up'.1 (omega arith) may.enters (still labels g hi hi e e st1) kept;
                    empty = λ y u h. kept.frame.outside y (not_g y (omega (arith, u)) (omega (arith, h, mh))) (inl h, inl (omega (arith, h, mh, items_in)))
                        ∙ may.empty y (omega (arith, u)) (omega (arith, h, mh));
                    marks = all_marks its.given (mark_of w) labels (low files augments many items its facts each) q.augments st1 marks_are.2 may.marks;
                  }

              may_q : MayAllRun files augments many items its facts each sound have one_meant g mid hi d e c own q.augments st1
              may_q =
                  let nm = up.0 in
                  record {
                    enters = m2;
                    out = out2;
                    empty = λ y u h. may.empty y (omega (arith, u, nm)) h;
                    marks = may.marks;
                    marked = marks_are.2;
                  }

              st2_is : state mid (q.new ++ rest) ≡ st2
              st2_is = all_state_is files augments many items its facts each q.augments q.new rest q.long q.lie

              now_so : state (n + 1) xs ≡ now_is
              now_so = state_is files augments many items its facts each g p.block p.new (q.new ++ rest) p.long p.lie ∙ ap (enter_block labels g p.block) st2_is

              all_long : length q.new ≡ length others
              all_long =
                  let z : LayoutView = laid_as w labels ((l.spots ++ s ∷ []) ++ p.new) d in
                  let r = laid_grows w others z in
                  let same : z.spots ++ q.new ≡ z.spots ++ r.0 = ap (λ (y : LayoutView). y.spots) (sym q.laid) ∙ r.1 in
                  let a = ap length same in let b = length-append z.spots q.new in let f = length-append z.spots r.0 in let h = r.2 in omega (arith, a, b, f, h)

              limit_up : limit ≤ hi
              limit_up =
                  let nm = up.0 in let mh = up'.0 in
                  let hi_is : mid + length others ≡ hi = (let a = all_long in let b = q.long in omega (arith, a, b)) in
                  end_before items n hi (omega (arith, nm, mh))
                  (ap (is_from_at n) (ap (slice_get items) (let h : hi ≡ mid + length others = omega (arith, hi_is) in h)
                  ∙ (sym (drop_at items mid (length others)) ∙ (ap (λ z. slice_get z (length others)) both.0.items_are
                  ∙ (ap (slice_get (others ++ behind)) (let h : length others ≡ length others + 0 = omega arith in h) ∙ at_behind others behind (length others) 0 refl)))) ∙ here.stops n (omega arith))

              new_long_all : n + 1 + length (first ++ others) ≡ hi
              new_long_all =
                  let a = new_long w labels (laid_as w labels (l.spots ++ s ∷ []) own) first g (n + 1) mid own d p in
                  let b = all_long in let f = p.long in let h = q.long in let i = length-append first others in omega (arith, a, b, f, h, i)

              limit_low : mid ≤ limit
              limit_low =
                  let a = inside (others ++ behind) in
                  let b = new_long w labels (laid_as w labels (l.spots ++ s ∷ []) own) first g (n + 1) mid own d p in
                  let f = p.long in
                  let same : ends.run_length n (drop (n + 1) items) ≡ ends.run_length n (first ++ (others ++ behind)) = ap (ends.run_length n) both.1.items_are in
                  omega (arith, a, b, f, same)

              behind_limit : (i : ℕ) → Contains (members_of st2.groups g) i → limit ≤ i
              behind_limit i h =
                  let nm = up.0 in let mh = up'.0 in let items_in = may.enters.items in
                  let quiet = (all_keep labels (n + 1) q.augments st1 (inl nm, inl (omega (arith, items_in, nm, mh))) m2).frame in
                  let same = quiet.outside g (λ e. not_g (n + 1) (omega arith) (omega (arith, nm, mh)) (sym e)) out2 in
                  let there = may.enters.from g i (subst (λ ms. Contains ms i) same h) in let b = limit_up in omega (arith, there, b)

              refs_are : refines_in w.rows k ≡ refines
              refs_are = refines_are w.rows k (λ z row. ap is_refine (same_Some z r (sym row ∙ at)) ∙ uses_no_refine r is_a_uses)

              paths : (j : ℕ) → Contains refines j → (z : Row) × (slice_get w.rows j ≡ Some z) × (has_path z ≡ true)
              paths j h =
                  let f = filter_in (is_at is_refine w.rows) (block_of w.rows k) j h in
                  let row = row_at is_refine w.rows j f.1 in
                  (row.0, row.1, ap (λ (b : Bool). b || has_word (codes "augment") row.0.head) row.2)

              list_is : refined n (s ∷ xs) ≡ refined (n + 1) xs ++ meant_all files augments many items its facts each s n limit now_is refines
              list_is =
                  ap (λ (b : Bool). refined (n + 1) xs ++ (if b then meant_all files augments many items its facts each s n limit (state (n + 1) xs) (refines_in w.rows k) else [])) of_uses_is
                  ∙ (ap (λ z. refined (n + 1) xs ++ meant_all files augments many items its facts each s n limit (state (n + 1) xs) z) refs_are ∙ ap (λ z. refined (n + 1) xs ++ meant_all files augments many items its facts each s n limit z refines) now_so)

              -- the augments of this uses, in the state in which their turns begin
              augments_so : augments_in w.rows k ≡ those is_augment w.rows (block_of w.rows k)
              augments_so = augments_are w.rows k (λ z row. ap is_augment (same_Some z r (sym row ∙ at)) ∙ uses_no_augment r is_a_uses)

              limit_is : limit ≡ hi
              limit_is =
                  let a = inside_all behind in let b = limit_up in
                  let f = new_long_all in let mh = up'.0 in
                  let same : ends.run_length n (drop (n + 1) items) ≡ ends.run_length n ((first ++ others) ++ behind) = ap (ends.run_length n) (sym (drop_drop n 1 items) ∙ ap (drop 1) here.items_are) in
                  omega (arith, a, b, f, same)

              behind_spots : drop (n + 1) spots ≡ xs
              behind_spots =
                  let all : spots ≡ (l.spots ++ s ∷ []) ++ xs =
                  here.spots_are ∙ (ap (λ z. z ++ rest) (sym (append_assoc l.spots (s ∷ []) (p.new ++ q.new)))
                  ∙ (append_assoc (l.spots ++ s ∷ []) (p.new ++ q.new) rest ∙ ap (λ z. (l.spots ++ s ∷ []) ++ z) (append_assoc p.new q.new rest))) in
                  let more = length-append l.spots (s ∷ []) in
                  ap (drop (n + 1)) all ∙ drop_front (l.spots ++ s ∷ []) xs (n + 1) (omega (arith, more, long))

              state_so : state (n + 1) (drop (n + 1) spots) ≡ now_is
              state_so = ap (state (n + 1)) behind_spots ∙ now_so

              abbrev adding_now : List ℕ
              adding_now = those is_augment w.rows (block_of w.rows k)

              abbrev st_then : State
              st_then = state (n + 1) (drop (n + 1) spots)

              ends_so : (o : Option ℕ) (a : ℕ) → EndsFrom w labels s o hi adding_now c now_is a → EndsFrom w labels s o limit (augments_in w.rows k) l.copies st_then a
              ends_so o a h =
                  subst (λ (z : ℕ). EndsFrom w labels s o limit (augments_in w.rows k) z st_then a) (sym all_copies)
                  (subst (λ z. EndsFrom w labels s o limit z c st_then a) (sym augments_so)
                  (subst (λ (m : ℕ). EndsFrom w labels s o m adding_now c st_then a) (sym limit_is)
                  (subst (λ (z : State). EndsFrom w labels s o hi adding_now c z a) (sym state_so) h)))

              ends_is : (o : Option ℕ) (a : ℕ) → EndsFrom w labels s o limit (augments_in w.rows k) l.copies st_then a → EndsFrom w labels s o hi adding_now c now_is a
              ends_is o a h =
                  subst (λ (z : State). EndsFrom w labels s o hi adding_now c z a) state_so
                  (subst (λ (m : ℕ). EndsFrom w labels s o m adding_now c st_then a) limit_is
                  (subst (λ z. EndsFrom w labels s o limit z c st_then a) augments_so
                  (subst (λ (z : ℕ). EndsFrom w labels s o limit (augments_in w.rows k) z st_then a) all_copies h)))

              -- as many labels as spots
              spot_there : (i : ℕ) → i < length labels → (t : Spot) × (slice_get spots i ≡ Some t)
              spot_there i few = there_is spots i (let a = map_length (λ (z : Spot). z.label) spots in omega (arith, a, few))

              label_there : (i : ℕ) (t : Spot) → slice_get spots i ≡ Some t → i < length labels
              label_there i t there = (let a = map_length (λ (z : Spot). z.label) spots in let b = slice_get_within spots i t there in omega (arith, a, b))

              -- what is refused of the refines of this uses
              refined_here : refined_by files augments many items (slice_get spots n) n ≡ meant_all files augments many items its facts each s n limit now_is refines
              refined_here =
                  ap (λ o. refined_by files augments many items o n) at_spot
                  ∙ (ap (λ z. refined_at w labels s n limit (state (n + 1) z)) behind_spots
                  ∙ (ap (λ (b : Bool). if b then meant_all files augments many items its facts each s n limit (state (n + 1) xs) (refines_in w.rows k) else []) of_uses_is
                  ∙ (ap (λ z. meant_all files augments many items its facts each s n limit (state (n + 1) xs) z) refs_are
                  ∙ ap (λ z. meant_all files augments many items its facts each s n limit z refines) now_so)))

              uses_come : (copied refined_made given : Product) → Come files augments many items (stage (n + 1) xs) p.block copied.nodes copied.wrong → AreRefined files s.module_file refines copied refined_made
                  → Go files augments many items (stage mid (q.new ++ rest)) s (those is_augment w.rows (block_of w.rows k)) q.augments refined_made.nodes given.nodes refined_made.wrong given.wrong
                  → Come files augments many items (stage n (s ∷ xs)) whole_lies.block (nodes.join given.nodes nodes.none) given.wrong
              uses_come copied refined_made given C R A =
                  let D = refines_come files augments many items its facts each sound have s (n + 1) mid own d n limit p.block st2 may_p marks_are.1 limit_low behind_limit refines paths R (refined (n + 1) xs) C.0 in
                  let no_node : its.is_node n ≡ false =
                  facts.told.node n ∙ (ap is_some_node (slice_get-map (λ (z : Spot). z.label) spots n ∙ ap (option_map (λ (z : Spot). z.label)) at_spot) ∙ uses_kind s.label.kind of_uses_is) in
                  let E = subst (λ z. (E : Comes labels (noted files spots its z) _ _ _ _ p.block refined_made.nodes) × Same (λ x. Keeps E x) (λ x. Keeps C.0 x)) (sym list_is) D.0 in
                  let now : Items = stage n (s ∷ xs) in
                  let B = go_same files augments many items (stage mid (q.new ++ rest)) now (noted_alike files spots its (refined mid (q.new ++ rest)) (refined n (s ∷ xs))) s
                  (those is_augment w.rows (block_of w.rows k)) refined_made.wrong given.wrong (λ i u h. node_same i u D.1) A in
                  let now_are : AreLabels labels now = noted_labels files spots labels its (refined n (s ∷ xs)) (are files augments many items its facts each) in
                  let low_is = low files augments many items its facts each in
                  let reach = goes_reach w labels s now now_are (mark_of w) low_is n hi now_is B.2 marks_are.2
                  (due labels now now_are (mark_of w) low_is g n mid hi c own d e p.block q.augments st1 may.enters may.empty may.marks marks_are.1 marks_are.2)
                  (copies_show labels now now_are (mark_of w) low_is g n mid hi c own d e p.block q.augments st1 may.enters may.empty may.marks marks_are.1 marks_are.2 (adds_of w labels s now B.2))
                  (shows_made labels now now_are (mark_of w) low_is g n mid hi c own d e p.block q.augments st1 may.enters may.empty may.marks marks_are.1 marks_are.2 E.0) in (
                    of_uses no_node E.0 (adds_of w labels s now B.2) none_come,
                    uses_tell files augments many items n s (λ x. Keeps C.0 x) (λ x. Keeps E.0 x) (λ x. KeepsAdded (adds_of w labels s now B.2) x) B.0 B.1 copied.wrong refined_made.wrong given.wrong
                        (meant_all files augments many items its facts each s n limit now_is refines) at_spot refined_here
                        (λ a. (let r = missed_reach w labels s now hi B.2 now_is reach a in ((λ h. (of_uses_is, ends_so None a (r.0 h))), (λ h. r.1 (ends_is None a h.1)))))
                        (λ a. (let r = bad_reach w labels s now hi B.2 now_is reach a in (
                          (λ h. (let (i, ends, few, kind) = r.0 h in
                              let t = spot_there i few in
                              (of_uses_is, (i, t.0, ends_so (Some i) a ends, t.1, ap (λ (z : StatementKind). takes_block w.rows a z) (sym (facts.told.kind i t.0 t.1)) ∙ kind)))),
                          (λ (is, (i, t, ends, there, kind)). r.1 (
                            i,
                            ends_is (Some i) a ends,
                            label_there i t there,
                            ap (λ (z : StatementKind). takes_block w.rows a z) (facts.told.kind i t there) ∙ kind,
                          )),
                        )))
                        C.1 E.1 D.2 B.3,
                  )
                where
                  same_at : slice_get items mid ≡ slice_get (others ++ behind) 0
                  same_at = ap (slice_get items) (let h : mid ≡ mid + 0 = omega arith in h) ∙ (sym (drop_at items mid 0) ∙ ap (λ z. slice_get z 0) both.0.items_are)

                  node_same : (i : ℕ) → mid ≤ i → Targets (λ i. i < mid) (meant_all files augments many items its facts each s n limit now_is refines) → (stage n (s ∷ xs)).node_of i ≡ (stage mid (q.new ++ rest)).node_of i
                  node_same i u targets =
                      ap (λ z. record (its.node_of i) { refines = z })
                      (ap (λ z. changes files spots z i) list_is ∙ (changes_then files spots i (refined (n + 1) xs) (meant_all files augments many items its facts each s n limit now_is refines)
                      ∙ (ap (λ z. changes files spots (refined (n + 1) xs) i ++ z) (changes_away files spots (λ i. i < mid) i (meant_all files augments many items its facts each s n limit now_is refines) targets (λ h. omega (arith, h, u)))
                      ∙ append-nil (changes files spots (refined (n + 1) xs) i))))
                      ∙ node_stays files augments many items its facts each (n + 1) mid p.new (q.new ++ rest) p.long (λ j v z. ap (is_from_at j) same_at ∙ firsts behind (λ j h. here.stops j (omega (arith, h))) j v) i u

            uses_give : Makes files augments many items its p (Given files augments many items its facts each (block_of w.rows meant_one) s.module_file (k ∷ (its.node_of n).under)) → AllMakes files augments many items its facts each sound have one_meant q (those is_augment w.rows (block_of w.rows k)) s (k ∷ (its.node_of n).under)
                → Makes files augments many items its whole_lies (Given files augments many items its facts each (k ∷ []) s.module_file under)
            uses_give first_makes later_makes m behind rest gives here may =
                subst (λ z. Come files augments many items (stage n (s ∷ z)) whole_lies.block m.nodes m.wrong) (sym (append_assoc p.new q.new rest)) (by gives)
              where
                by : {m : Product} → Gives files s.module_file under (k ∷ []) m → Come files augments many items (stage n (s ∷ (p.new ++ (q.new ++ rest)))) whole_lies.block m.nodes m.wrong
                by (gives_other at' isnt e) = absurd (clash is_node_or_uses w.rows k _ _ at' at isnt is_one)
                by (gives_node at' is_item' o u known B e) = absurd (clash refers.is_uses w.rows k _ _ at' at u is_a_uses)
                by (gives_operation at' is_item' o u known I O e) = absurd (clash refers.is_uses w.rows k _ _ at' at u is_a_uses)
                by (gives_uses {d = other_one} {copies = copied} {refined = refined_made} {given = given} at' is_item' u refers' C R A gives_nothing) =
                    let round_is = under_now behind rest here may in
                    let same : other_one ≡ meant_one = one_meant k other_one meant_one refers' refers_to in
                    let C' : Gives files s.module_file (k ∷ (its.node_of n).under) (block_of w.rows meant_one) copied =
                    subst (λ z. Gives files s.module_file (k ∷ (its.node_of n).under) (block_of w.rows z) copied) same
                    (subst (λ z. Gives files s.module_file (k ∷ z) (block_of w.rows other_one) copied) (sym round_is) C) in
                    let A' : AugmentsGive files s.module_file (k ∷ (its.node_of n).under) (those is_augment w.rows (block_of w.rows k)) refined_made given =
                    subst (λ z. AugmentsGive files s.module_file (k ∷ z) (those is_augment w.rows (block_of w.rows k)) refined_made given) (sym round_is) A in
                    come_as files augments many items (stage n (s ∷ (p.new ++ (q.new ++ rest)))) whole_lies.block (nodes.join given.nodes nodes.none) (nodes.join given.nodes nodes.none) given.wrong
                    (given.wrong ++ []) refl (sym (append-nil given.wrong))
                    (uses_come behind rest here may copied refined_made given
                    (first_makes copied (others ++ behind) (q.new ++ rest) C' (both behind rest here may).1
                    (subst (MayRun files augments many items its g (n + 1) mid own d) (sym (st2_is behind rest here may)) (may_p behind rest here may))) R
                    (later_makes g refined_made given behind rest A' (both behind rest here may).0 (may_q behind rest here may)))

        -- the items below an item (are files augments many items its facts each) from it on
        run_listed : (j parent m : ℕ) → j ≤ parent → j ≤ m → (t : Tree) (ys : List Item) → count t ≤ ends.run_length j (item_list (Some parent) m t ++ ys)
        run_listed j parent m jp jm t ys = (let e = run_all_listed j parent m jp jm t ys in omega (arith, e))
          where
            run_all_listed : (j parent m : ℕ) → j ≤ parent → j ≤ m → (t : Tree) (ys : List Item) → ends.run_length j (item_list (Some parent) m t ++ ys) ≡ count t + ends.run_length j ys
            run_all_listed j parent m jp jm none ys = omega arith
            run_all_listed j parent m jp jm (item o t u) ys =
                let a = run_all_listed j m (m + 1) jm (omega (arith, jm)) t (item_list (Some parent) (m + 1 + count t) u ++ ys) in
                let b = run_all_listed j parent (m + 1 + count t) jp (omega (arith, jm)) u ys in
                let here : ends.run_length j (item_list (Some parent) m (item o t u) ++ ys) ≡ 1 + ends.run_length j ((item_list (Some m) (m + 1) t ++ item_list (Some parent) (m + 1 + count t) u) ++ ys) =
                run_yes j (record { origin = o; parent = Some parent }) ((item_list (Some m) (m + 1) t ++ item_list (Some parent) (m + 1 + count t) u) ++ ys) (le-leb j parent jp) in
                let same = ap (ends.run_length j) (append_assoc (item_list (Some m) (m + 1) t) (item_list (Some parent) (m + 1 + count t) u) ys) in
                omega (arith, a, b, here, same)

        pub uses_makes : (k d : ℕ) (r : Row) (copied given : Tree) → slice_get w.rows k ≡ Some r → is_node_or_uses r ≡ true → RefersTo w.files w.rows k d → PartsMake files augments many items its facts each (block_of w.rows d) copied
            → PartsMake files augments many items its facts each (blocks_of w.rows (block_of w.rows k)) given → PartMakes files augments many items its facts each k (item (Statement k) (join copied given) none)
        uses_makes k d r copied given at is_one node_meant C G = record {
          makes = makes;
          nothing = λ q row none_is. absurd (false≢true (sym none_is ∙ (ap is_node_or_uses (same_Some q r (sym row ∙ at)) ∙ is_one)));
          some = λ q row is. omega arith;
        }
          where
            found : (refers.is_uses r ≡ true) × ((q : Row) × (slice_get w.rows d ≡ Some q) × (is_augment q ≡ false))
            found = refers_uses w.files w.rows k d r at is_one node_meant

            of_uses_is : is_uses (kind_at (slice_get w.rows k)) ≡ true
            of_uses_is = statement_kind w.rows k r at is_one ∙ found.0

            gives : augments_giving w.rows k ≡ [] ++ filter (is_giving w.rows k) (those is_augment w.rows (block_of w.rows k))
            gives = giving_filtered w.rows k ∙ ap (filter (is_giving w.rows k)) (augments_are w.rows k (λ q row. ap is_augment (same_Some q r (sym row ∙ at)) ∙ uses_no_augment r found.0))

            augs : (a : ℕ) → Contains (those is_augment w.rows (block_of w.rows k)) a → (q : Row) × (slice_get w.rows a ≡ Some q) × (is_augment q ≡ true) × (q.scope ≡ k)
            augs a h =
                let f = filter_in (is_at is_augment w.rows) (block_of w.rows k) a h in
                let row = row_at is_augment w.rows a f.1 in
                let b = block_scope w.rows k a f.0 in
                (row.0, row.1, row.2, ap (λ (z : Row). z.scope) (same_Some row.0 b.0 (sym row.1 ∙ b.1)) ∙ b.2)

            makes : (l : LayoutView) (parent : Option ℕ) (g n hi c module_file : ℕ) (under : List ℕ) → length l.spots ≡ n → l.copies ≡ c → n + count (item (Statement k) (join copied given) none) ≡ hi
                → ((p : ℕ) → parent ≡ Some p → p < n) → ((q : Row) → slice_get w.rows k ≡ Some q → StandsBelow files augments many items its facts each (Some q) l parent g module_file under)
                → (e : ℕ) × (F : Lies w labels l (item_list parent n (item (Statement k) (join copied given) none)) g n hi c e) × Makes files augments many items its F (Given files augments many items its facts each (k ∷ []) module_file under)
            makes l parent g n hi c module_file under long all_copies ends_are less stands =
                let y : Item = record { origin = Statement k; parent = parent } in
                let s : Spot = spot_of w l.spots l.copies y in
                let stand = subst (λ o. StandsBelow files augments many items its facts each o l parent g module_file under) (sym at) (stands r at) in
                let own : ℕ = c + length (augments_giving w.rows k) in
                let mid : ℕ = n + 1 + count copied in
                let counts = count_joined copied given in
                let more = length-append l.spots (s ∷ []) in
                let one = all_make files augments many items its facts each C (laid_as w labels (l.spots ++ s ∷ []) own) (Some n) s.group (n + 1) mid own s.module_file (k ∷ (its.node_of n).under) (omega (arith, more, long)) refl refl
                (λ q e. subst (λ (m : ℕ). m < n + 1) (same_Some n q e) (omega arith)) (λ j q there row. copies_stand l s n j q there row (last_at l.spots s n long) of_uses_is refl) in
                let F = one.1 in
                let two = all_given_make files augments many items its facts each sound have one_meant s of_uses_is n (those is_augment w.rows (block_of w.rows k)) [] G augs gives (laid_as w labels ((l.spots ++ s ∷ []) ++ F.new) one.0) mid hi one.0 c own
                (omega (arith, all_copies)) (omega (arith, all_copies))
                (let f = length-append (l.spots ++ s ∷ []) F.new in let h = F.long in omega (arith, f, h, more, long)) refl (omega (arith, counts, ends_are)) (omega arith)
                (still_at (l.spots ++ s ∷ []) F.new n (omega (arith, more, long)) ∙ last_at l.spots s n long) in
                let whole_two = subst (λ z. (F' : AllLies w labels (laid_as w labels ((l.spots ++ s ∷ []) ++ F.new) one.0) (item_list (Some n) mid given) mid hi one.0 two.0 c own (map (path_in w s.module_file) z))
                × AllMakes files augments many items its facts each sound have one_meant F' (those is_augment w.rows (block_of w.rows k)) s (k ∷ (its.node_of n).under)) (sym gives) (two.1, two.2) in
                let all = uses_give k d r at is_one found.0 node_meant l parent (item_list (Some n) (n + 1) copied) (item_list (Some n) mid given) n mid hi c own one.0 two.0 under long all_copies less of_uses_is refl F whole_two.0
                stand.2 (λ behind stops. first_stops (Some n) (n + 1) (λ q e. subst (λ (m : ℕ). m < n + 1) (same_Some n q e) (omega arith)) given mid behind stops)
                (λ behind. (let a = run_listed n n (n + 1) (omega arith) (omega arith) copied behind in let b = count_listed (Some n) (n + 1) copied in omega (arith, a, b)))
                (λ behind. subst (λ these. length these ≤ ends.run_length n (these ++ behind)) (listed_joined (Some n) (n + 1) copied given)
                (let a = run_listed n n (n + 1) (omega arith) (omega arith) (join copied given) behind in let b = count_listed (Some n) (n + 1) (join copied given) in omega (arith, a, b)))
                one.2 whole_two.1 in
                let F' : Lies w labels l (y ∷ (item_list (Some n) (n + 1) copied ++ item_list (Some n) mid given)) s.group n hi c two.0 =
                uses_lies w labels l y (item_list (Some n) (n + 1) copied) (item_list (Some n) mid given) s.group n mid hi c own one.0 two.0 long all_copies of_uses_is refl refl F whole_two.0 in
                let pair = subst (λ these. (F : Lies w labels l these g n hi c two.0) × Makes files augments many items its F (Given files augments many items its facts each (k ∷ []) module_file under))
                (ap (λ z. y ∷ z) (sym (append-nil (item_list (Some n) (n + 1) (join copied given)) ∙ listed_joined (Some n) (n + 1) copied given)))
                (subst (λ (g : ℕ). (F : Lies w labels l (y ∷ (item_list (Some n) (n + 1) copied ++ item_list (Some n) mid given)) g n hi c two.0) × Makes files augments many items its F (Given files augments many items its facts each (k ∷ []) module_file under)) stand.0
                (F', makes_for files augments many items its facts each F' (Given files augments many items its facts each (k ∷ []) s.module_file under) (Given files augments many items its facts each (k ∷ []) module_file under) (λ m z. subst (λ (h : ℕ). Given files augments many items its facts each (k ∷ []) h under m) (sym stand.1) z) all)) in
                (two.0, pair.0, pair.1)
              where
                copies_stand : (l : LayoutView) (s : Spot) (n j : ℕ) (q : Row) → Contains (block_of w.rows d) j → slice_get w.rows j ≡ Some q → slice_get (l.spots ++ s ∷ []) n ≡ Some s
                    → is_uses s.label.kind ≡ true → s.statement ≡ k → StandsBelow files augments many items its facts each (Some q) (laid_as w labels (l.spots ++ s ∷ []) (c + length (augments_giving w.rows k))) (Some n) s.group s.module_file (k ∷ (its.node_of n).under)
                copies_stand l s n j q there row at_s is_u statement =
                    let b = block_scope w.rows d j there in
                    let scope : q.scope ≡ d = ap (λ (z : Row). z.scope) (same_Some q b.0 (sym row ∙ b.1)) ∙ b.2 in (
                      group_of_used w labels (each_label files augments many items its facts each) (Some q) n (slice_get (l.spots ++ s ∷ []) n) s at_s is_u
                          ∙ (ap (λ (z : ℕ). if is_giving w.rows s.statement z then copy_group w (s.first + ordinal w.rows z) else s.group) scope
                          ∙ ap (λ (z : Bool). if z then copy_group w (s.first + ordinal w.rows d) else s.group) (no_augment_gives w.rows s.statement d found.1.0 found.1.1 found.1.2)),
                      ap (module_file_below w.files (Some q)) at_s,
                      ap (under_of w.rows its (Some q) (Some n)) at_s
                          ∙ (ap (λ (b : Bool). if b then around w.rows (Some q) ++ s.statement ∷ (its.node_of n).under else (its.node_of n).under) is_u
                          ∙ (ap (λ (z : ℕ). around w.rows (Some q) ++ z ∷ (its.node_of n).under) statement
                          ∙ ap (λ z. one_of z ++ k ∷ (its.node_of n).under) (ap (λ (z : ℕ). augment_at z (slice_get w.rows z)) scope
                          ∙ (ap (augment_at d) found.1.1 ∙ ap (λ (b : Bool). if b then Some d else None) found.1.2)))),
                    )

        other_makes : (k : ℕ) (r : Row) → slice_get w.rows k ≡ Some r → is_node_or_uses r ≡ false → PartMakes files augments many items its facts each k none
        other_makes k r at is_none = record {
          makes = λ l parent g n hi c module_file under long all_copies ends_are less stands.
              (let h : n ≡ hi = omega (arith, ends_are) in
              let pair = subst (λ (h : ℕ). (F : Lies w labels l [] g n h c c) × Makes files augments many items its F (Given files augments many items its facts each (k ∷ []) module_file under)) h
              (empty_lies w labels l g n c all_copies, none_come_here l g n c all_copies module_file under) in
              (c, pair.0, pair.1));
          nothing = λ q row none_is. refl;
          some = λ q row is. absurd (clash is_node_or_uses w.rows k r q at row is_none is);
        }
          where
            nothing_given : {module_file : ℕ} {under : List ℕ} {m : Product} → Gives files module_file under (k ∷ []) m → (m.nodes ≡ nodes.none) × (m.wrong ≡ [])
            nothing_given (gives_other at' isnt gives_nothing) = (refl, refl)
            nothing_given (gives_node at' is_item' o u known B e) = absurd (clash is_node_or_uses w.rows k _ _ at at' is_none is_item')
            nothing_given (gives_operation at' is_item' o u known I O e) = absurd (clash is_node_or_uses w.rows k _ _ at at' is_none is_item')
            nothing_given (gives_uses at' is_item' u d C R A e) = absurd (clash is_node_or_uses w.rows k _ _ at at' is_none is_item')

            none_come_here : (l : LayoutView) (g n c : ℕ) (all_copies : l.copies ≡ c) (module_file : ℕ) (under : List ℕ)
                → Makes files augments many items its (empty_lies w labels l g n c all_copies) (Given files augments many items its facts each (k ∷ []) module_file under)
            none_come_here l g n c all_copies module_file under m behind rest gives here may =
                let none_so = nothing_given gives in
                come_as files augments many items (stage n rest) (block.nothing {lo = n} {c = c}) nodes.none m.nodes [] m.wrong (sym none_so.0) (sym none_so.1)
                (come_none files augments many items (stage n rest))

        pub parts_make : {numbers : List ℕ} {t : Tree} → Expands w.files w.rows numbers t → PartsMake files augments many items its facts each numbers t
        parts_make expands_nothing = no_parts
        parts_make (expands_other {k = k} {r = r} at is E) = one_part (other_makes k r at is) (parts_make E)
        parts_make (expands_node {k = k} {r = r} {below = below} at is no_operation none_meant B E) =
            one_part (node_makes files augments many items its facts each k r below at is no_operation (no_uses w labels (each_label files augments many items its facts each) sound.refer k r at none_meant) (parts_make B)) (parts_make E)
        parts_make (expands_operation {k = k} {r = r} {input = input} {output = output} at is I O E) = one_part (operation_makes files augments many items its facts each k r input output at is (parts_make I) (parts_make O)) (parts_make E)
        parts_make (expands_uses {k = k} {d = d} {r = r} {copies = copies} {given = given} at is node_meant C G E) =
            one_part (uses_makes k d r copies given at is node_meant (parts_make C) (parts_make G)) (parts_make E)
