-- What the augments of a uses add: blocks of their own, each with its turn.
use Rattle.std.proofs.Common.{inl, inr, ◌≡◌, ℕ, ◌+◌, ◌<◌, ◌≤◌, cond, Bool, true, false, if◌then◌else◌, List, [], ◌∷◌, ◌++◌, length, map, length-append, append_assoc, refl, sym, ◌∙◌, ap, subst, arith, codes, Some, None}
use Rattle.std.specs.List.{Contains, filter, flat_map, slice_get}
use Rattle.std.proofs.lemmas.List.{append-nil}
use Rattle.std.proofs.lemmas.Option.{same_Some}
use Rattle.yv_text_statement.specs.declared.refusal.Code.TheVariants as code
use Rattle.yv_link_scopes.specs.Files.{Files, brief_of, has_word}
use Rattle.yv_link_scopes.specs.RowList.{rows_of}
use Rattle.yv_link_scopes.specs.Rows.{Row}
use Rattle.yv_expand_statements.specs.StatementBlocks.{block_of, is_augment, is_node_or_uses}
use Rattle.yv_expand.specs.Tree.{Item, Tree, count, join, item_list, none}
use Rattle.yv_expand_rounds.specs.declared.label.Label.{Label}
use Rattle.yv_expand_rounds.specs.Groups.{group_of_augment, members_of}
use Rattle.yv_expand_rounds.specs.Turns.{State}
use Rattle.yv_expand_uses.specs.Ends.{end_at}
use Rattle.yv_expand_uses.specs.AugmentOrder.{augments_giving, is_giving, ordinal}
use Rattle.yv_expand_uses.specs.Paths.{path_in}
use Rattle.yv_expand_augments.specs.Augmentation.{placed_from}
use Rattle.yv_expand_uses.specs.InnerEnds.{is_from_at}
use Rattle.yv_expand_statements.specs.Kinds.{is_uses}
use Rattle.yv_expand_augments.specs.Placement.{augment_at}
use Rattle.yv_expand_augments.specs.RefineMeanings.{refined_from}
use Rattle.yv_expand_uses.specs.Spots.{LayoutView, Whole, copy_group, module_file_below, labels_of, layout_of, laid_from, whole}
use Rattle.yv_expand_uses.specs.declared.spot.Spot.{Spot}
use Rattle.yv_expand_refines.specs.Targets.{RefineMeaning}
use Rattle.yv_expand_definition.specs.Gives.{AugmentsGive, Product, Reaches, Wrong, add_block, judge, nothing as made_none, add_refusal, takes_block}
use Rattle.yv_expand_definition.specs.Gives.AugmentsGive.{none_left as augmented_all, adds as augment_adds, without_target as augment_misses}
use Rattle.yv_expand_definition.specs.Nodes.{Forest, Node, node}
use Rattle.yv_expand_definition.specs.Nodes as nodes
use Rattle.yv_expand_definition.specs.Paths.{Leads, at as end_at_node, path_of}
use Rattle.yv_expand_definition.proofs.GivenNodeUniqueness.{RefersToOne}
use Rattle.yv_expand_definition.proofs.Nothing.{adds_none, gives_none}
use Rattle.yv_expand_laws.specs.Blocks.{Augments, augment, no_augments, run_all}
use Rattle.yv_expand_laws.specs.Comes.{AllMarked, HasMarks}
use Rattle.yv_expand_laws.specs.Expansions.{spot_view}
use Rattle.yv_expand_laws.specs.Frames.{IsOutside}
use Rattle.yv_expand_laws.specs.StatementItems.{AreSound, ShowNodes, around, one_of, under_of}
use Rattle.yv_expand_laws.specs.Marks.{mark_of}
use Rattle.yv_expand_laws.specs.Shows.{Agree, Items}
use Rattle.yv_expand_laws.specs.ItemProperties.{HaveStatements}
use Rattle.yv_expand_laws.specs.Under.{Keeps, KeepsAdded}
use Rattle.yv_expand_laws.proofs.BlockStatements.{block_scope, nothing_given, ordinal_is}
use Rattle.yv_expand_laws.proofs.FoundItems.{there_first, there_later}
use Rattle.yv_expand_laws.proofs.FrameSequences.{narrower, nothing_stands}
use Rattle.yv_expand_laws.proofs.JoinedBlocks.{count_joined, joined_assoc, laid_append, listed_joined}
use Rattle.yv_expand_laws.proofs.BlockFrame.{AllKept, MayAll, all_go_up, all_keep, goes_up}
use Rattle.yv_expand_laws.proofs.KeywordKinds.{right_is}
use Rattle.yv_expand_laws.proofs.LaidBlocks.{AllLies, Lies, laid_as, map_append, map_length, still_at}
use Rattle.yv_expand_laws.proofs.GroupMarks.{all_marks}
use Rattle.yv_expand_laws.proofs.AugmentTargets.{adds_of, judged_list}
use Rattle.yv_expand_laws.proofs.AugmentTargets.Goes.{adds, hits_still, misses, misses_still}
use Rattle.yv_expand_laws.proofs.BlockRefusals.{AskedAt, Go, TellsMore, added_tells, go_none, go_same, judged_tells, missed_tells}
use Rattle.yv_expand_laws.proofs.BlockNodes.{first_or, may_block, may_others}
use Rattle.yv_expand_laws.proofs.RefineStages.{noted, noted_alike}
use Rattle.yv_expand_laws.proofs.UsesBlocks.{group_of_used, no_item}
use Rattle.yv_expand_laws.proofs.LaterItems.{IsHere, Makes, MayRun, all_state_is, drop_at, each_label, first_stops, low, new_long, node_stays, split_here}
use Rattle.yv_expand_laws.proofs.MakingNodes.{Given, PartsMake, StandsBelow, all_make, joined_nothing}
use Rattle.yv_expand_laws.proofs.MakingRefines.{agree_at}
use Rattle.yv_expand_laws.proofs.MakingNodes.PartsMake.{no_parts, one_part}

module _ (files : Files) (augments : List ℕ) (many : ℕ) (items : List Item) (its : Items) where
  abbrev pub w : Whole
  w = whole (map brief_of files) (rows_of files) augments many

  abbrev pub spots : List Spot
  spots = (layout_of w items).spots

  abbrev pub labels : List Label
  labels = labels_of spots

  abbrev pub copies : ℕ
  copies = (layout_of w items).copies

  -- where items stand when those from a number on have entered, and what is told of them then
  abbrev pub state : ℕ → List Spot → State
  state n xs = placed_from w labels copies n xs

  abbrev pub refined : ℕ → List Spot → List RefineMeaning
  refined n xs = refined_from w labels copies (end_at items) n xs

  abbrev pub stage : ℕ → List Spot → Items
  stage n xs = noted files spots its (refined n xs)

  module _ (facts : ShowNodes files w items (λ i. None) its) (each : length items ≡ many) where
    module _ (sound : AreSound files) (have : HaveStatements (rows_of files) items) where
      module _ (one_meant : RefersToOne files) where
        -- the blocks of augments may enter their groups, where the uses stands in this one
        pub record MayAllRun (g n hi c e k own : ℕ) (augs : Augments n hi c e k own) (st : State) : Type 0 where
          pub enters : MayAll labels n hi c e k own st
          pub out : IsOutside labels n hi k e g
          pub empty : (x : ℕ) → n < x → x ≤ hi → members_of st.groups x ≡ []
          pub marks : HasMarks its.given (mark_of w) st
          pub marked : AllMarked labels its.given (mark_of w) augs

        -- they add to nodes what the augments do, and at their items that is refused which is
        -- refused of these
        abbrev pub AllMakes : {l : LayoutView} {these : List Item} {n hi c e k own : ℕ} {paths : List (List ℕ)} → AllLies w labels l these n hi c e k own paths → (augments : List ℕ) → Spot
            → (under : List ℕ) → Type 0
        AllMakes {l = l} {these = these} {n = n} {hi = hi} {c = c} {e = e} {k = k} {own = own} F adding s under =
            (g : ℕ) (m last : Product) (behind : List Item) (rest : List Spot) → AugmentsGive files s.module_file under adding m last → IsHere files augments many items its l these behind n c F.new rest
            → MayAllRun g n hi c e k own F.augments (state hi rest) → Go files augments many items (stage n (F.new ++ rest)) s adding F.augments m.nodes last.nodes m.wrong last.wrong

        judged_nodes : (b : Bool) (a : ℕ) (m : Product) → (judge b a m).nodes ≡ m.nodes
        judged_nodes true a m = refl
        judged_nodes false a m = refl

        parts_make_split : (xs ys : List ℕ) {t : Tree} → PartsMake files augments many items its facts each (xs ++ ys) t → (a : Tree) × (b : Tree) × (t ≡ join a b) × PartsMake files augments many items its facts each xs a × PartsMake files augments many items its facts each ys b
        parts_make_split [] ys {t = t} P = (none, t, refl, no_parts, P)
        parts_make_split (x ∷ xs) ys (one_part {t = t} P more) =
            let s = parts_make_split xs ys more in (join t s.0, s.1, ap (join t) s.2 ∙ sym (joined_assoc t s.0 s.1), one_part P s.3, s.4)

        none_made : {ks : List ℕ} {t : Tree} → PartsMake files augments many items its facts each ks t → ((k : ℕ) → Contains ks k → (r : Row) × (slice_get w.rows k ≡ Some r) × (is_node_or_uses r ≡ false)) → t ≡ none
        none_made no_parts all = refl
        none_made (one_part {k = k} {ks = ks} {u = u} P more) all =
            let r = all k (there_first k ks) in ap (λ x. join x u) (P.nothing r.0 r.1 r.2) ∙ none_made more (λ j h. all j (there_later k j ks h))

        some_made : {ks : List ℕ} {t : Tree} → PartsMake files augments many items its facts each ks t → (k : ℕ) (r : Row) → Contains ks k → slice_get w.rows k ≡ Some r → is_node_or_uses r ≡ true → 1 ≤ count t
        some_made no_parts k r there at is = absurd (nothing_stands k there)
        some_made (one_part {k = x} {ks = ks} {t = t} {u = u} P more) k r there at is = elim (first_or x ks k there) [
          | inl same ↦ (let a = count_joined t u in let b = P.some r (ap (slice_get w.rows) same ∙ at) is in omega (arith, a, b))
          | inr h ↦ (let a = count_joined t u in let b = some_made more k r h at is in omega (arith, a, b))
        ]

        module _ (s : Spot) (of_uses : is_uses s.label.kind ≡ true) (p : ℕ) where
          abbrev round : List ℕ
          round = s.statement ∷ (its.node_of p).under

          -- an augment that gives no item
          quiet_makes : (a : ℕ) (others : List ℕ) (q : Row) → slice_get w.rows a ≡ Some q → is_augment q ≡ true → is_giving w.rows s.statement a ≡ false
              → {l : LayoutView} {these : List Item} {n hi c e k own : ℕ} {paths : List (List ℕ)} (F : AllLies w labels l these n hi c e k own paths)
              → ((j : ℕ) (r : Row) → Contains (block_of w.rows a) j → slice_get w.rows j ≡ Some r → is_node_or_uses r ≡ false) → AllMakes F others s round → AllMakes F (a ∷ others) s round
          quiet_makes a others q at_a is_aug quiet {n = n} F no_items later g m last behind rest aug here may = by aug
            where
              now : Items
              now = stage n (F.new ++ rest)

              agrees : (r : Row) → slice_get w.rows a ≡ Some r → Agree labels now (path_in w s.module_file a) (path_of files s.module_file r)
              agrees r at = agree_at files augments many items its facts each sound have (refined n (F.new ++ rest)) s.module_file a r at
                  (right_is (has_word (codes "refine") r.head) (has_word (codes "augment") r.head) (ap is_augment (same_Some r q (sym at ∙ at_a)) ∙ is_aug))

              by : {last : Product} → AugmentsGive files s.module_file round (a ∷ others) m last
                  → Go files augments many items now s (a ∷ others) F.augments m.nodes last.nodes m.wrong last.wrong
              by {last = last} (augment_adds {block = block} {there = there} {target = target} B reach more) =
                  let nothing_is : block ≡ made_none = gives_none files s.module_file B no_items in
                  let reached : Reaches files s.module_file a (λ below. nodes.join below nodes.none) m.nodes there target =
                  subst (λ (z : Product). Reaches files s.module_file a (λ below. nodes.join below z.nodes) m.nodes there target) nothing_is reach in
                  let still : there ≡ m.nodes = adds_none files s.module_file a m.nodes there target reached in
                  let so : Product = add_block files a target m block there in
                  let is_taken : Bool = takes_block (rows_of files) a target.kind in
                  let none_wrong : m.wrong ++ block.wrong ≡ m.wrong = ap (λ (z : Product). m.wrong ++ z.wrong) nothing_is ∙ append-nil m.wrong in
                  let r = reached.leads.0 in
                  let leads : Leads false (path_of files s.module_file r) m.nodes (end_at_node target reached.below target reached.below) there =
                  subst (λ z. Leads false (path_of files s.module_file r) m.nodes (end_at_node target reached.below target z) there) (joined_nothing files augments many items its facts each reached.below) reached.leads.2 in
                  let old : List Wrong = m.wrong ++ block.wrong in
                  let x = subst (λ z. Go files augments many items now s others F.augments z last.nodes so.wrong last.wrong)
                  (judged_nodes is_taken a (record { nodes = there; wrong = old }) ∙ still) (later g so last behind rest more here may) in
                  let told = judged_tells files augments many items (λ y. KeepsAdded (adds_of w labels s now x.2) y) is_taken a there x.0 x.1 old last.wrong x.3 in (
                    x.0,
                    judged_list is_taken a x.1,
                    hits_still (path_of files s.module_file r) quiet (agrees r reached.leads.1) (leads, reached.may_be) x.2,
                    subst (λ z. TellsMore augments (AskedAt files augments many items) z (λ y. KeepsAdded (adds_of w labels s now x.2) y) x.0 (judged_list is_taken a x.1) last.wrong) none_wrong told,
                  )
              by {last = last} (augment_misses missed more) =
                  let x = later g (add_refusal code.AugmentTarget a m) last behind rest more here may in (
                    a ∷ x.0,
                    x.1,
                    misses_still (path_of files s.module_file q) quiet (agrees q at_a)
                        (λ target below there hit. missed target there (record { below = below; leads = (q, at_a, hit.0); may_be = hit.1 })) x.2,
                    missed_tells files augments many items (λ y. KeepsAdded (adds_of w labels s now x.2) y) a x.0 x.1 m.wrong last.wrong x.3,
                  )

          -- one that gives some
          module _ (a : ℕ) (others : List ℕ) (q : Row) (at_a : slice_get w.rows a ≡ Some q) (is_aug : is_augment q ≡ true) (l : LayoutView) (xs ys : List Item) (n mid hi c d e k own : ℕ)
              (A : Lies w labels l xs (group_of_augment labels k) n mid c d) {paths : List (List ℕ)} (G : AllLies w labels (laid_as w labels (l.spots ++ A.new) d) ys mid hi d e (k + 1) own paths)
              (some : n < mid)
              (firsts : (behind : List Item) → ((j : ℕ) → n ≤ j → is_from_at j (slice_get behind 0) ≡ false) → (j : ℕ) → n ≤ j → is_from_at j (slice_get (ys ++ behind) 0) ≡ false) where
            giving_makes : is_giving w.rows s.statement a ≡ true → (F : AllLies w labels l (xs ++ ys) n hi c e k own (path_in w s.module_file a ∷ paths)) → F.new ≡ A.new ++ G.new → F.augments ≡ augment mid d (path_in w s.module_file a) A.block G.augments
                → Makes files augments many items its A (Given files augments many items its facts each (block_of w.rows a) s.module_file (a ∷ round)) → AllMakes G others s round → AllMakes F (a ∷ others) s round
            giving_makes giving_one F new_is augs_are first later g m last behind rest aug here may =
                subst (λ z. Go files augments many items (stage n (z ++ rest)) s (a ∷ others) F.augments m.nodes last.nodes m.wrong last.wrong) (sym new_is)
                (subst (λ z. Go files augments many items (stage n ((A.new ++ G.new) ++ rest)) s (a ∷ others) z m.nodes last.nodes m.wrong last.wrong) (sym augs_are)
                (subst (λ z. Go files augments many items (stage n z) s (a ∷ others) (augment mid d (path_in w s.module_file a) A.block G.augments) m.nodes last.nodes m.wrong last.wrong)
                (sym (append_assoc A.new G.new rest)) (by aug)))
              where
                now : Items
                now = stage n (A.new ++ (G.new ++ rest))

                up : (n ≤ mid) × (c ≤ d)
                up = goes_up A.block

                up' : (mid ≤ hi) × (d ≤ e) × (k + 1 ≤ own)
                up' = all_go_up G.augments

                both : IsHere files augments many items its (laid_as w labels (l.spots ++ A.new) d) ys behind mid d G.new rest × IsHere files augments many items its l xs (ys ++ behind) n c A.new (G.new ++ rest)
                both = split_here files augments many items its facts each l xs ys behind n mid c d A.new G.new rest (new_long w labels l xs (group_of_augment labels k) n mid c d A) A.long up.1 firsts
                    (subst (λ z. IsHere files augments many items its l (xs ++ ys) behind n c z rest) new_is here)

                marked_all : AllMarked labels its.given (mark_of w) (augment mid d (path_in w s.module_file a) A.block G.augments)
                marked_all = subst (λ z. AllMarked labels its.given (mark_of w) z) augs_are may.marked

                st1 : State
                st1 = state hi rest

                m1 : MayAll labels mid hi d e (k + 1) own st1
                m1 = may_others labels its (mark_of w) (low files augments many items its facts each) n hi c e k own mid d st1 up.1 may.enters

                out1 : IsOutside labels mid hi (k + 1) e g
                out1 = narrower labels n hi k e mid hi (k + 1) e g up.0 (omega arith) (omega arith) (omega arith) may.out

                kept : AllKept labels g mid hi d e (k + 1) own st1 (run_all labels G.augments st1)
                kept = all_keep labels g G.augments st1 out1 m1

                may_A : MayRun files augments many items its (group_of_augment labels k) n mid c d (state mid (G.new ++ rest))
                may_A =
                    let items_in = may.enters.items in let cd = up.1 in let mh = up'.0 in let de = up'.1 in let ko = up'.2 in
                    subst (MayRun files augments many items its (group_of_augment labels k) n mid c d) (sym (all_state_is files augments many items its facts each G.augments G.new rest G.long G.lie)) (record {
                      enters = may_block labels its (mark_of w) (low files augments many items its facts each) g n hi c e k own mid d st1 (run_all labels G.augments st1) mh cd de ko may.enters kept;
                      empty = λ x u h. kept.frame.outside x (λ same. elim may.out.0 [ inl y ↦ omega (arith, y, u, same) | inr y ↦ omega (arith, y, h, mh, same) ])
                          (inl h, inl (omega (arith, h, mh, items_in))) ∙ may.empty x u (omega (arith, h, mh));
                      marks = all_marks its.given (mark_of w) labels (low files augments many items its facts each) G.augments st1 marked_all.2 may.marks;
                    })

                may_G : MayAllRun g mid hi d e (k + 1) own G.augments st1
                may_G =
                    let nm = up.0 in
                    record {
                      enters = m1;
                      out = out1;
                      empty = λ x u h. may.empty x (omega (arith, u, nm)) h;
                      marks = may.marks;
                      marked = marked_all.2;
                    }

                same_at : slice_get items mid ≡ slice_get (ys ++ behind) 0
                same_at = ap (slice_get items) (let h : mid ≡ mid + 0 = omega arith in h) ∙ (sym (drop_at items mid 0) ∙ ap (λ z. slice_get z 0) both.0.items_are)

                later_adds : (m last : Product) → AugmentsGive files s.module_file round others m last
                    → Go files augments many items (stage n (A.new ++ (G.new ++ rest))) s others G.augments m.nodes last.nodes m.wrong last.wrong
                later_adds m last more =
                    go_same files augments many items (stage mid (G.new ++ rest)) (stage n (A.new ++ (G.new ++ rest)))
                    (noted_alike files spots its (refined mid (G.new ++ rest)) (refined n (A.new ++ (G.new ++ rest)))) s others m.wrong last.wrong
                    (λ i u h. node_stays files augments many items its facts each n mid A.new (G.new ++ rest) A.long (λ j v x. ap (is_from_at j) same_at ∙ firsts behind here.stops j v) i u) (later g m last behind rest more both.0 may_G)

                agrees : (r : Row) → slice_get w.rows a ≡ Some r → Agree labels (stage n (A.new ++ (G.new ++ rest))) (path_in w s.module_file a) (path_of files s.module_file r)
                agrees r at = agree_at files augments many items its facts each sound have (refined n (A.new ++ (G.new ++ rest))) s.module_file a r at
                    (right_is (has_word (codes "refine") r.head) (has_word (codes "augment") r.head) (ap is_augment (same_Some r q (sym at ∙ at_a)) ∙ is_aug))

                by : {last : Product} → AugmentsGive files s.module_file round (a ∷ others) m last
                    → Go files augments many items now s (a ∷ others) (augment mid d (path_in w s.module_file a) A.block G.augments) m.nodes last.nodes m.wrong last.wrong
                by {last = last} (augment_adds {block = block} {there = there} {target = target} B reach more) =
                    let r = reach.leads.0 in
                    let B_comes = first block (ys ++ behind) (G.new ++ rest) B both.1 may_A in
                    let so : Product = add_block files a target m block there in
                    let is_taken : Bool = takes_block (rows_of files) a target.kind in
                    let old : List Wrong = m.wrong ++ block.wrong in
                    let x = subst (λ z. Go files augments many items now s others G.augments z last.nodes so.wrong last.wrong)
                    (judged_nodes is_taken a (record { nodes = there; wrong = old })) (later_adds so last more) in
                    let told = judged_tells files augments many items (λ y. KeepsAdded (adds_of w labels s now x.2) y) is_taken a there x.0 x.1 old last.wrong x.3 in (
                      x.0,
                      judged_list is_taken a x.1,
                      adds (path_of files s.module_file r) giving_one (agrees r reach.leads.1) some B_comes.0 (reach.leads.2, reach.may_be) x.2,
                      added_tells files augments many items (λ y. Keeps B_comes.0 y) (λ y. KeepsAdded (adds_of w labels s now x.2) y) x.0 (judged_list is_taken a x.1) m.wrong block.wrong last.wrong
                          B_comes.1 told,
                    )
                by {last = last} (augment_misses missed more) =
                    let x = later_adds (add_refusal code.AugmentTarget a m) last more in (
                      a ∷ x.0,
                      x.1,
                      misses (path_of files s.module_file q) giving_one (agrees q at_a) some
                          (λ target below there hit. missed target there (record { below = below; leads = (q, at_a, hit.0); may_be = hit.1 })) x.2,
                      missed_tells files augments many items (λ y. KeepsAdded (adds_of w labels s now x.2) y) a x.0 x.1 m.wrong last.wrong x.3,
                    )

          abbrev GivenMade : (augments : List ℕ) → LayoutView → (n hi c k own : ℕ) → Tree → (passed : List ℕ) → Type 0
          GivenMade adding l n hi c k own u passed =
              (e : ℕ) × (F : AllLies w labels l (item_list (Some p) n u) n hi c e k own (map (path_in w s.module_file) passed)) × AllMakes F adding s round

          pub all_given_make : (others done : List ℕ) {t : Tree} → PartsMake files augments many items its facts each (flat_map (block_of w.rows) others) t
              → ((a : ℕ) → Contains others a → (q : Row) × (slice_get w.rows a ≡ Some q) × (is_augment q ≡ true) × (q.scope ≡ s.statement))
              → augments_giving w.rows s.statement ≡ done ++ filter (is_giving w.rows s.statement) others
              → (l : LayoutView) (n hi c k own : ℕ) → k ≡ s.first + length done → own ≡ s.first + length (augments_giving w.rows s.statement) → length l.spots ≡ n → l.copies ≡ c → n + count t ≡ hi
              → p < n → slice_get l.spots p ≡ Some s
              → (e : ℕ) × (F : AllLies w labels l (item_list (Some p) n t) n hi c e k own (map (path_in w s.module_file) (filter (is_giving w.rows s.statement) others))) × AllMakes F others s round
          all_given_make [] done no_parts augs gives l n hi c k own k_is own_is long all_copies ends less at =
              let h : n ≡ hi = omega (arith, ends) in
              let o : k ≡ own = (let f = ap length gives in let h = length-append done [] in omega (arith, f, h, k_is, own_is)) in
              let pair = subst (λ (h : ℕ). (F : AllLies w labels l [] n h c c k own []) × AllMakes F [] s round) h
              (subst (λ (o : ℕ). (F : AllLies w labels l [] n n c c k o []) × AllMakes F [] s round) o (empty, empty_adds)) in (c, pair.0, pair.1)
            where
              empty : AllLies w labels l [] n n c c k k []
              empty = record {
                new = [];
                laid = ap (λ z. laid_as w labels z l.copies) (sym (append-nil l.spots)) ∙ ap (laid_as w labels (l.spots ++ [])) all_copies;
                long = omega arith;
                augments = no_augments;
                lie = refl;
                paths_are = refl;
              }

              empty_adds : AllMakes empty [] s round
              empty_adds g m last behind rest aug here may = by aug
                where
                  by : {last : Product} → AugmentsGive files s.module_file round [] m last
                      → Go files augments many items (stage n rest) s [] (no_augments {lo = n} {c = c} {k = k}) m.nodes last.nodes m.wrong last.wrong
                  by augmented_all = go_none files augments many items (stage n rest) s m.nodes m.wrong
          all_given_make (a ∷ others) done {t = t} P augs gives l n hi c k own k_is own_is long all_copies ends less at =
              let sp = parts_make_split (block_of w.rows a) (flat_map (block_of w.rows) others) P in
              by (is_giving w.rows s.statement a) refl sp.0 sp.1 sp.2 sp.3 sp.4
              (λ more u R gives l n c k k_is long all_copies ends less at.
              all_given_make others more {t = u} R (λ b h. augs b (there_later a b others h)) gives l n hi c k own k_is own_is long all_copies ends less at)
            where
              chosen : (b : Bool) → is_giving w.rows s.statement a ≡ b → filter (is_giving w.rows s.statement) (a ∷ others) ≡ cond b (a ∷ filter (is_giving w.rows s.statement) others) (filter (is_giving w.rows s.statement) others)
              chosen b is = ap (λ (b : Bool). cond b (a ∷ filter (is_giving w.rows s.statement) others) (filter (is_giving w.rows s.statement) others)) is

              by : (b : Bool) → is_giving w.rows s.statement a ≡ b → (x y : Tree) → t ≡ join x y → PartsMake files augments many items its facts each (block_of w.rows a) x → PartsMake files augments many items its facts each (flat_map (block_of w.rows) others) y
                  → ((more : List ℕ) (u : Tree) → PartsMake files augments many items its facts each (flat_map (block_of w.rows) others) u → augments_giving w.rows s.statement ≡ more ++ filter (is_giving w.rows s.statement) others
                  → (l : LayoutView) (n c k : ℕ) → k ≡ s.first + length more → length l.spots ≡ n → l.copies ≡ c → n + count u ≡ hi → p < n → slice_get l.spots p ≡ Some s
                  → (e : ℕ) × (F : AllLies w labels l (item_list (Some p) n u) n hi c e k own (map (path_in w s.module_file) (filter (is_giving w.rows s.statement) others))) × AllMakes F others s round)
                  → GivenMade (a ∷ others) l n hi c k own t (filter (is_giving w.rows s.statement) (a ∷ others))
              by false is x y whole_is A R later =
                  let q = augs a (there_first a others) in
                  let no_items : (j : ℕ) (r : Row) → Contains (block_of w.rows a) j → slice_get w.rows j ≡ Some r → is_node_or_uses r ≡ false =
                  λ j r h row. (let b = block_scope w.rows a j h in
                  no_item w labels (each_label files augments many items its facts each) r (nothing_given w.rows s.statement a q.0 q.1 q.2 q.3 is j r row (ap (λ (z : Row). z.scope) (same_Some r b.0 (sym row ∙ b.1)) ∙ b.2))) in
                  let empty : x ≡ none = none_made A (λ j h. (let b = block_scope w.rows a j h in (b.0, b.1, no_items j b.0 h b.1))) in
                  let same : t ≡ y = whole_is ∙ ap (λ z. join z y) empty in
                  let b = later done y R (gives ∙ ap (λ z. done ++ z) (chosen false is)) l n c k k_is long all_copies (ap (λ z. n + count z) (sym same) ∙ ends) less at in
                  subst (λ z. GivenMade (a ∷ others) l n hi c k own z (filter (is_giving w.rows s.statement) (a ∷ others))) (sym same) (subst (GivenMade (a ∷ others) l n hi c k own y) (sym (chosen false is)) (b.0, b.1, quiet_makes a others q.0 q.1 q.2 is b.1 no_items b.2))
              by true is x y whole_is A R later =
                  let q = augs a (there_first a others) in
                  let mid : ℕ = n + count x in
                  let here : augments_giving w.rows s.statement ≡ done ++ a ∷ filter (is_giving w.rows s.statement) others = gives ∙ ap (λ z. done ++ z) (chosen true is) in
                  let place : ordinal w.rows a ≡ length done = ordinal_is w.rows s.statement done a (filter (is_giving w.rows s.statement) others) here in
                  let one = all_make files augments many items its facts each A l (Some p) (group_of_augment labels k) n mid c s.module_file (a ∷ round) long all_copies refl (λ q e. subst (λ (m : ℕ). m < n) (same_Some p q e) less)
                  (λ j r there row. own_group j r q.0 there row q.1 q.2 k_is place) in
                  let F = one.1 in
                  let two = later (done ++ a ∷ []) y R (here ∙ sym (append_assoc done (a ∷ []) (filter (is_giving w.rows s.statement) others))) (laid_as w labels (l.spots ++ F.new) one.0) mid one.0 (k + 1)
                  (let f = length-append done (a ∷ []) in omega (arith, f, k_is)) (let f = length-append l.spots F.new in let h = F.long in omega (arith, f, h, long)) refl
                  (let f = count_joined x y in let h : count t ≡ count (join x y) = ap count whole_is in omega (arith, f, h, ends)) (omega (arith, less))
                  (still_at l.spots F.new p (omega (arith, less, long)) ∙ at) in
                  let G = two.1 in
                  let item_in = sound.gives s.statement a is in
                  let many_in = some_made A item_in.0 item_in.1 item_in.2 item_in.3 item_in.4 in
                  let all : AllLies w labels l (item_list (Some p) n x ++ item_list (Some p) mid y) n hi c two.0 k own (path_in w s.module_file a ∷ map (path_in w s.module_file) (filter (is_giving w.rows s.statement) others)) = record {
                    new = F.new ++ G.new;
                    laid = laid_append w (item_list (Some p) n x) (item_list (Some p) mid y) l ∙ (ap (laid_from w (item_list (Some p) mid y)) F.laid ∙ (G.laid ∙ ap (λ z. laid_as w labels z two.0) (append_assoc l.spots F.new G.new)));
                    long = (let f = length-append F.new G.new in let h = F.long in let i = G.long in omega (arith, f, h, i));
                    augments = augment mid one.0 (path_in w s.module_file a) F.block G.augments;
                    lie = (map (spot_view w) F.new, map (spot_view w) G.new, map_append (spot_view w) F.new G.new, F.lie, G.lie, (let f = map_length (spot_view w) F.new in let h = F.long in omega (arith, f, h)));
                    paths_are = ap (λ z. path_in w s.module_file a ∷ z) G.paths_are;
                  } in
                  let makes : AllMakes all (a ∷ others) s round =
                  giving_makes a others q.0 q.1 q.2 l (item_list (Some p) n x) (item_list (Some p) mid y) n mid hi c one.0 two.0 k own F G (omega (arith, many_in))
                  (λ behind stops. first_stops (Some p) n (λ q e. subst (λ (m : ℕ). m < n) (same_Some p q e) less) y mid behind stops) is all refl refl one.2 two.2 in
                  let pair = subst (λ these. (F : AllLies w labels l these n hi c two.0 k own (path_in w s.module_file a ∷ map (path_in w s.module_file) (filter (is_giving w.rows s.statement) others))) × AllMakes F (a ∷ others) s round)
                  (sym (listed_joined (Some p) n x y)) (all, makes) in
                  subst (λ z. GivenMade (a ∷ others) l n hi c k own z (filter (is_giving w.rows s.statement) (a ∷ others))) (sym whole_is) (subst (GivenMade (a ∷ others) l n hi c k own (join x y)) (sym (chosen true is))
                  (two.0, pair.0, pair.1))
                where
                  own_group : (j : ℕ) (r q : Row) → Contains (block_of w.rows a) j → slice_get w.rows j ≡ Some r → slice_get w.rows a ≡ Some q → is_augment q ≡ true → k ≡ s.first + length done
                      → ordinal w.rows a ≡ length done → StandsBelow files augments many items its facts each (Some r) l (Some p) (group_of_augment labels k) s.module_file (a ∷ round)
                  own_group j r q there row at_a is_aug k_is place =
                      let b = block_scope w.rows a j there in
                      let scope : r.scope ≡ a = ap (λ (z : Row). z.scope) (same_Some r b.0 (sym row ∙ b.1)) ∙ b.2 in
                      let label_long = (each_label files augments many items its facts each) in (
                        group_of_used w labels (each_label files augments many items its facts each) (Some r) p (slice_get l.spots p) s at of_uses
                            ∙ (ap (λ (z : ℕ). if is_giving w.rows s.statement z then copy_group w (s.first + ordinal w.rows z) else s.group) scope
                            ∙ (ap (λ (z : Bool). if z then copy_group w (s.first + ordinal w.rows a) else s.group) is
                            ∙ (let e : w.items + 1 + (s.first + ordinal w.rows a) ≡ length labels + 1 + k = omega (arith, label_long, place, k_is) in e))),
                        ap (module_file_below w.files (Some r)) at,
                        ap (under_of w.rows its (Some r) (Some p)) at
                            ∙ (ap (λ (b : Bool). if b then around w.rows (Some r) ++ round else (its.node_of p).under) of_uses
                            ∙ ap (λ z. one_of z ++ round) (ap (λ (z : ℕ). augment_at z (slice_get w.rows z)) scope ∙ (ap (augment_at a) at_a ∙ ap (λ (b : Bool). if b then Some a else None) is_aug))),
                      )
