-- What refines make of a block: it gives the nodes that are refined.
use Rattle.std.proofs.Common.{◌≡◌, ℕ, ◌<◌, ◌≤◌, ◌==◌, ◌&&◌, Bool, true, false, if◌then◌else◌, List, [], ◌∷◌, ◌++◌, length, map, append_assoc, refl, sym, ◌∙◌, ap, subst, arith, eqb-true, eq-eqb, Option, Some, None}
use Rattle.std.specs.List.{Contains, slice_get}
use Rattle.std.specs.Option.{option_and_then}
use Rattle.std.proofs.lemmas.Bool.{false≢true, ne_eqb}
use Rattle.std.proofs.lemmas.List.{append-nil}
use Rattle.std.proofs.lemmas.Option.{same_Some}
use Rattle.yv_link_scopes.specs.Files.{Files, brief_of}
use Rattle.yv_link_scopes.specs.RowList.{rows_of, statements_of}
use Rattle.yv_link_scopes.specs.Rows.{Row}
use Rattle.yv_expand_paths.specs.InnerSteps.{has_path}
use Rattle.yv_expand_statements.specs.Origin.{number_of}
use Rattle.yv_expand.specs.Tree.{Item}
use Rattle.yv_expand_rounds.specs.declared.end.End.{End}
use Rattle.yv_expand_rounds.specs.declared.end.End.TheVariants as end_is
use Rattle.yv_expand_rounds.specs.declared.label.Label.{Label}
use Rattle.yv_expand_rounds.specs.Groups.{members_of}
use Rattle.yv_expand_rounds.specs.Paths.{path_end}
use Rattle.yv_expand_rounds.specs.Turns.{State}
use Rattle.yv_expand_uses.specs.Ends.{end_at}
use Rattle.yv_expand_uses.specs.Paths.{path_in}
use Rattle.yv_expand_augments.specs.Augmentation.{placed_from}
use Rattle.yv_expand_uses.specs.RefineTargets.{node_meant, node_at}
use Rattle.yv_expand_augments.specs.RefineMeanings.{refined_from}
use Rattle.yv_expand_uses.specs.Spots.{Whole, labels_of, layout_of, whole}
use Rattle.yv_expand_uses.specs.declared.spot.Spot.{Spot}
use Rattle.yv_expand_changes.specs.Changes.{changes, is_change, is_fit_at_item, is_meant}
use Rattle.yv_expand_statements.specs.AllowedRefines.{is_some_fit}
use Rattle.yv_expand_refines.specs.Targets.{RefineMeaning}
use Rattle.yv_expand_definition.specs.Gives.{Product, is_fit, RefinesGive as AreRefined}
use Rattle.yv_expand_definition.specs.Gives.RefinesGive.{none_left as refined_all, changes as refine_changes, unfit as refine_unfit, without_target as refine_misses}
use Rattle.yv_expand_definition.specs.Nodes.{Forest, Node}
use Rattle.yv_expand_definition.specs.Paths.{path_of}
use Rattle.yv_expand_definition.proofs.Unique.{any_exchange}
use Rattle.yv_expand_laws.specs.Blocks.{Block, enter_block}
use Rattle.yv_expand_laws.specs.Comes.{Comes, MarksBlock}
use Rattle.yv_expand_laws.specs.StatementItems.{AreSound, ShowNodes}
use Rattle.yv_expand_laws.specs.Marks.{mark_of}
use Rattle.yv_expand_laws.specs.RefinedBlocks.{IsRefinable}
use Rattle.yv_expand_laws.specs.RefineStep.{add_refine}
use Rattle.yv_expand_laws.specs.Shows.{Agree, Items}
use Rattle.yv_expand_laws.specs.ItemProperties.{AreItems, HaveStatements}
use Rattle.yv_expand_laws.specs.RefusedRefines.{Refuse}
use Rattle.yv_expand_laws.specs.Under.{Keeps}
use Rattle.yv_expand_laws.proofs.RefusedRefines.{fits, means_none, none_refused, unfit}
use Rattle.yv_expand_laws.proofs.Alike.{AreAlike, IsLike, Same, comes_kept, same_then}
use Rattle.yv_expand_laws.proofs.FoundItems.{not_none, there_first, there_later}
use Rattle.yv_expand_laws.proofs.LaidBlocks.{map_length}
use Rattle.yv_expand_laws.proofs.RefinedBlocks.{block_is_missed, refined_kept}
use Rattle.yv_expand_laws.proofs.RefineStages.{Targets, changes_first, changes_then, noted, noted_alike, noted_labels}
use Rattle.yv_expand_laws.proofs.LabelsAndPaths.{paths_agree, there_is, told_at}
use Rattle.yv_expand_laws.proofs.LaterItems.{MayRun, are, low}

module _ (files : Files) (augments : List ℕ) (many : ℕ) (items : List Item) (its : Items) where
  abbrev pub w : Whole
  w = whole (map brief_of files) (rows_of files) augments many

  abbrev pub spots : List Spot
  spots = (layout_of w items).spots

  abbrev pub labels : List Label
  labels = labels_of spots

  abbrev pub copies : ℕ
  copies = (layout_of w items).copies

  -- where items stand when those from a number on have entered, and what is told of them then
  abbrev pub state : ℕ → List Spot → State
  state n xs = placed_from w labels copies n xs

  abbrev pub refined : ℕ → List Spot → List RefineMeaning
  refined n xs = refined_from w labels copies (end_at items) n xs

  abbrev pub stage : ℕ → List Spot → Items
  stage n xs = noted files spots its (refined n xs)

  module _ (facts : ShowNodes files w items (λ i. None) its) (each : length items ≡ many) where
    -- what refines make of a block
    abbrev pub meant_all : Spot → (number limit : ℕ) → State → List ℕ → List RefineMeaning
    meant_all s n limit st ks = map (λ k. record { item = n; refine = k; target = node_meant w labels s limit k st }) ks

    added_change : (refined : List RefineMeaning) (y : RefineMeaning) (i : ℕ) (fit : Bool) → y.target ≡ Some i → is_fit_at_item files spots y.refine i ≡ fit → (j : ℕ)
        → changes files spots (refined ++ y ∷ []) j ≡ changes files spots refined j ++ (if (j == i) && fit then y.refine ∷ [] else [])
    added_change refined y i fit target is_so j = changes_then files spots j refined (y ∷ []) ∙ ap (λ z. changes files spots refined j ++ z) (by (j == i) refl)
      where
        change_is : is_change files spots j y ≡ ((i == j) && is_fit_at_item files spots y.refine j)
        change_is = ap (λ o. is_meant j o && is_fit_at_item files spots y.refine j) target

        by : (b : Bool) → (j == i) ≡ b → changes files spots (y ∷ []) j ≡ (if b && fit then y.refine ∷ [] else [])
        by true e =
            (let same : j ≡ i = eqb-true j i e in
            last fit (change_is ∙ (ap (λ (b : Bool). b && is_fit_at_item files spots y.refine j) (eq-eqb i j (sym same)) ∙ (ap (is_fit_at_item files spots y.refine) same ∙ is_so))))
          where
            last : (b : Bool) → is_change files spots j y ≡ b → changes files spots (y ∷ []) j ≡ (if b then y.refine ∷ [] else [])
            last true is = changes_first files spots j y [] true is
            last false is = changes_first files spots j y [] false is
        by false e =
            changes_first files spots j y [] false (change_is ∙ ap (λ (b : Bool). b && is_fit_at_item files spots y.refine j) (ne_eqb i j (λ same. false≢true (sym e ∙ eq-eqb j i (sym same)))))

    missed_change : (refined : List RefineMeaning) (y : RefineMeaning) → y.target ≡ None → (j : ℕ) → changes files spots (refined ++ y ∷ []) j ≡ changes files spots refined j
    missed_change refined y target j =
        changes_then files spots j refined (y ∷ []) ∙ (ap (λ z. changes files spots refined j ++ z)
        (changes_first files spots j y [] false (ap (λ o. is_meant j o && is_fit_at_item files spots y.refine j) target)) ∙ append-nil (changes files spots refined j))

    -- a refine is fit for an item where it is fit for the node that this shows
    fit_same : (k i : ℕ) → i < length labels → is_fit_at_item files spots k i ≡ is_fit files k (its.node_of i)
    fit_same k i l =
        let s = there_is spots i (let a = map_length (λ (s : Spot). s.label) spots in omega (arith, a, l)) in
        let x = told_at w items i s.0 s.1 in
        ap (λ o. is_some_fit (option_and_then (λ (s : Spot). slice_get (rows_of files) s.statement) o) (slice_get (statements_of files) k)) s.1
        ∙ ap (λ (n : ℕ). is_some_fit (slice_get (rows_of files) n) (slice_get (statements_of files) k)) (x.2.statement ∙ ap number_of (sym (facts.origin i x.0 x.1)))

    noted_told : (refined : List RefineMeaning) → AreItems w items (noted files spots its refined)
    noted_told refined = record {
      given = facts.told.given;
      node = facts.told.node;
      kind = facts.told.kind;
      module_file = facts.told.module_file;
      name = facts.told.name;
    }

    nothing_more : (b : Bool) (xs : List ℕ) (k : ℕ) → xs ++ (if b && false then k ∷ [] else []) ≡ xs
    nothing_more true xs k = append-nil xs
    nothing_more false xs k = append-nil xs

    after : (refined : List RefineMeaning) (y : RefineMeaning) (i : ℕ) → AreAlike (add_refine (noted files spots its refined) i y.refine) (noted files spots its (refined ++ y ∷ []))
    after refined y i = record {
      given = refl;
      node = λ x. refl;
      like = λ x. by (its.node_of x) (changes files spots refined x) (changes files spots (refined ++ y ∷ []) x) (x == i);
    }
      where
        by : (g : Node) (xs more : List ℕ) (b : Bool) → IsLike (if b then record g { refines = xs ++ y.refine ∷ [] } else record g { refines = xs }) (record g { refines = more })
        by g xs more true = record { module_file = refl; kind = refl; name = refl }
        by g xs more false = record { module_file = refl; kind = refl; name = refl }

    one_node_more : (refined : List RefineMeaning) (y : RefineMeaning) (i j : ℕ) → changes files spots (refined ++ y ∷ []) j ≡ changes files spots refined j ++ (if (j == i) && true then y.refine ∷ [] else [])
        → (noted files spots its (refined ++ y ∷ [])).node_of j ≡ (add_refine (noted files spots its refined) i y.refine).node_of j
    one_node_more refined y i j is = ap (λ z. record (its.node_of j) { refines = z }) is ∙ by (its.node_of j) (changes files spots refined j) (j == i)
      where
        by : (g : Node) (xs : List ℕ) (b : Bool) → record g { refines = xs ++ (if b && true then y.refine ∷ [] else []) } ≡ (if b then record g { refines = xs ++ y.refine ∷ [] } else record g { refines = xs })
        by g xs true = refl
        by g xs false = ap (λ z. record g { refines = z }) (append-nil xs)

    module _ (sound : AreSound files) (have : HaveStatements (rows_of files) items) where
      pub agree_at : (refined : List RefineMeaning) (module_file k : ℕ) (r : Row) → slice_get (rows_of files) k ≡ Some r → has_path r ≡ true
          → Agree labels (noted files spots its refined) (path_in w module_file k) (path_of files module_file r)
      agree_at refined module_file k r at path = paths_agree files augments many items (noted files spots its refined) module_file k r sound.few have (noted_told refined) at path

      module _ (s : Spot) (lo mid own d n limit : ℕ) (block : Block lo mid own d) (st : State) (may : MayRun files augments many items its s.group lo mid own d st) (marks : MarksBlock labels its.given (mark_of w) s.group block)
          (most : mid ≤ limit) (behind_limit : (i : ℕ) → Contains (members_of st.groups s.group) i → limit ≤ i) where
        abbrev now : State
        now = enter_block labels s.group block st

        abbrev refinable : (refined : List RefineMeaning) (m : Forest) → Comes labels (noted files spots its refined) _ _ _ _ block m
            → IsRefinable labels (noted files spots its refined) (mark_of w) s.group lo mid own d limit block st m
        refinable refined m comes = record {
          comes = comes;
          marked = marks;
          enters = may.enters;
          empty = may.empty;
          marks = may.marks;
          within = most;
          behind = behind_limit;
        }

        meant_none : (k : ℕ) → ((i : ℕ) → path_end labels now.groups limit (path_in w s.module_file k) (end_is.Start s.group) ≡ Some (end_is.Node i) → ⊥) → node_meant w labels s limit k now ≡ None
        meant_none k never = by (path_end labels now.groups limit (path_in w s.module_file k) (end_is.Start s.group)) refl
          where
            by : (o : Option End) → path_end labels now.groups limit (path_in w s.module_file k) (end_is.Start s.group) ≡ o → node_meant w labels s limit k now ≡ None
            by None is = ap (option_and_then node_at) is
            by (Some (end_is.Start g)) is = ap (option_and_then node_at) is
            by (Some (end_is.ShorthandCase j)) is = ap (option_and_then node_at) is
            by (Some (end_is.Node j)) is = absurd (never j is)

        -- the block gives these nodes when these refines changed some, and keeps what it kept
        abbrev pub RefinedSo : List ℕ → Forest → List RefineMeaning → (ℕ → Type 0) → Type 0
        RefinedSo ks f refined kept =
            (D : Comes labels (noted files spots its (refined ++ meant_all s n limit now ks)) _ _ _ _ block f) × Same (λ x. Keeps D x) kept

        -- the refines behind one
        one_more : (y : RefineMeaning) (ks : List ℕ) (f : Forest) (refined : List RefineMeaning) (P Q : ℕ → Type 0) → Same P Q
            → (D : Comes labels (noted files spots its ((refined ++ y ∷ []) ++ meant_all s n limit now ks)) _ _ _ _ block f) × Same (λ x. Keeps D x) P
            → (D : Comes labels (noted files spots its (refined ++ y ∷ meant_all s n limit now ks)) _ _ _ _ block f) × Same (λ x. Keeps D x) Q
        one_more y ks f refined P Q kept r =
            subst (λ z. (D : Comes labels (noted files spots its z) _ _ _ _ block f) × Same (λ x. Keeps D x) Q) (append_assoc refined (y ∷ []) (meant_all s n limit now ks))
            (r.0, same_then (λ x. Keeps r.0 x) P Q r.1 kept)

        -- With its refines the block gives the nodes that are refined, and they mean items of it.
        -- Those are refused that are refused for what they mean by number. The block keeps the same
        -- items.
        pub refines_come : (ks : List ℕ) → ((k : ℕ) → Contains ks k → (r : Row) × (slice_get (rows_of files) k ≡ Some r) × (has_path r ≡ true)) → {m last : Product}
            → AreRefined files s.module_file ks m last → (refined : List RefineMeaning) → (C : Comes labels (noted files spots its refined) _ _ _ _ block m.nodes)
            → RefinedSo ks last.nodes refined (λ x. Keeps C x) × Targets (λ i. i < mid) (meant_all s n limit now ks)
            × Refuse files spots (meant_all s n limit now ks) m.wrong last.wrong
        refines_come [] paths {m = m} refined_all refined C = (
          subst (λ z. (D : Comes labels (noted files spots its z) _ _ _ _ block m.nodes) × Same (λ x. Keeps D x) (λ x. Keeps C x)) (sym (append-nil refined)) (C, λ x. (λ h. h, λ h. h)),
          tt,
          none_refused files spots m.wrong,
        )
        refines_come (k ∷ ks) paths {last = last} (refine_changes {m = m} {g = g} {below = below} {there = there} (r, at, leads) fit later) refined C =
            let path = paths k (there_first k ks) in
            let same_row : path.0 ≡ r = same_Some path.0 r (sym path.1 ∙ at) in
            let agree = agree_at refined s.module_file k r at (ap has_path (sym same_row) ∙ path.2) in
            let x = refined_kept labels (noted files spots its refined) (mark_of w) (noted_labels files spots labels its refined (are files augments many items its facts each)) (low files augments many items its facts each) s.group lo mid own d limit k block (path_in w s.module_file k)
            (path_of files s.module_file r) st m.nodes below there g (refinable refined m.nodes C) agree leads in
            let i : ℕ = x.0 in
            let y : RefineMeaning = record { item = n; refine = k; target = node_meant w labels s limit k now } in
            let target : y.target ≡ Some i = ap (option_and_then node_at) x.1 in
            let in_items = may.enters.items in let up = x.4 in
            let is_so : is_fit_at_item files spots k i ≡ true = fit_same k i (omega (arith, up, in_items)) ∙ (ap (λ (z : Node). is_fit files k z) (sym x.2) ∙ fit) in
            let D = comes_kept labels (add_refine (noted files spots its refined) i k) (noted files spots its (refined ++ y ∷ [])) (after refined y i) (λ j l h. one_node_more refined y i j (added_change refined y i true target is_so j)) x.5 in
            let more = refines_come ks (λ j h. paths j (there_later k j ks h)) later (refined ++ y ∷ []) D.0 in (
              one_more y ks last.nodes refined (λ z. Keeps D.0 z) (λ z. Keeps C z) (same_then (λ z. Keeps D.0 z) (λ z. Keeps x.5 z) (λ z. Keeps C z) D.1 x.6) more.0,
              ((λ j is. subst (λ (m : ℕ). m < mid) (same_Some i j (sym target ∙ is)) x.4), more.1),
              fits files spots y i (meant_all s n limit now ks) m.wrong last.wrong target is_so more.2,
            )
        refines_come (k ∷ ks) paths {last = last} (refine_unfit {m = m} {g = g} {below = below} {there = there} (r, at, leads) fit later) refined C =
            let path = paths k (there_first k ks) in
            let same_row : path.0 ≡ r = same_Some path.0 r (sym path.1 ∙ at) in
            let agree = agree_at refined s.module_file k r at (ap has_path (sym same_row) ∙ path.2) in
            let other = any_exchange leads (record g { refines = g.refines ++ k ∷ [] }) below in
            let x = refined_kept labels (noted files spots its refined) (mark_of w) (noted_labels files spots labels its refined (are files augments many items its facts each)) (low files augments many items its facts each) s.group lo mid own d limit k block (path_in w s.module_file k)
            (path_of files s.module_file r) st m.nodes below other.0 g (refinable refined m.nodes C) agree other.1 in
            let i : ℕ = x.0 in
            let y : RefineMeaning = record { item = n; refine = k; target = node_meant w labels s limit k now } in
            let target : y.target ≡ Some i = ap (option_and_then node_at) x.1 in
            let in_items = may.enters.items in let up = x.4 in
            let is_so : is_fit_at_item files spots k i ≡ false = fit_same k i (omega (arith, up, in_items)) ∙ (ap (λ (z : Node). is_fit files k z) (sym x.2) ∙ fit) in
            let D = comes_kept labels (noted files spots its refined) (noted files spots its (refined ++ y ∷ [])) (noted_alike files spots its refined (refined ++ y ∷ []))
            (λ j l h. ap (λ z. record (its.node_of j) { refines = z }) (added_change refined y i false target is_so j ∙ nothing_more (j == i) (changes files spots refined j) k)) C in
            let more = refines_come ks (λ j h. paths j (there_later k j ks h)) later (refined ++ y ∷ []) D.0 in (
              one_more y ks last.nodes refined (λ z. Keeps D.0 z) (λ z. Keeps C z) D.1 more.0,
              ((λ j is. subst (λ (m : ℕ). m < mid) (same_Some i j (sym target ∙ is)) x.4), more.1),
              unfit files spots y (meant_all s n limit now ks) m.wrong last.wrong (record { item = i; target = target; unfit = is_so }) more.2,
            )
        refines_come (k ∷ ks) paths {last = last} (refine_misses {m = m} nowhere later) refined C =
            let path = paths k (there_first k ks) in
            let agree = agree_at refined s.module_file k path.0 path.1 path.2 in
            let y : RefineMeaning = record { item = n; refine = k; target = node_meant w labels s limit k now } in
            let target : y.target ≡ None =
            meant_none k (λ i is. block_is_missed labels (noted files spots its refined) (mark_of w) (noted_labels files spots labels its refined (are files augments many items its facts each)) (low files augments many items its facts each) s.group lo mid own d limit i block
            (path_in w s.module_file k) (path_of files s.module_file path.0) st m.nodes (refinable refined m.nodes C) agree (λ g below there leads. nowhere g below there (path.0, path.1, leads)) is) in
            let D = comes_kept labels (noted files spots its refined) (noted files spots its (refined ++ y ∷ [])) (noted_alike files spots its refined (refined ++ y ∷ []))
            (λ j l h. ap (λ z. record (its.node_of j) { refines = z }) (missed_change refined y target j)) C in
            let more = refines_come ks (λ j h. paths j (there_later k j ks h)) later (refined ++ y ∷ []) D.0 in (
              one_more y ks last.nodes refined (λ z. Keeps D.0 z) (λ z. Keeps C z) D.1 more.0,
              ((λ j is. absurd (not_none (sym target ∙ is))), more.1),
              means_none files spots y (meant_all s n limit now ks) m.wrong last.wrong target more.2,
            )
