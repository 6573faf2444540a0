-- Statements show what they give.
use Rattle.std.proofs.Common.{◌≡◌, ℕ, List, [], ◌++◌, length, map, refl, sym, ◌∙◌, ap, subst, arith, None}
use Rattle.std.specs.List.{Contains}
use Rattle.std.proofs.lemmas.List.{append-nil}
use Rattle.yv_link_scopes.specs.Files.{Files, brief_of}
use Rattle.yv_link_scopes.specs.RowList.{rows_of}
use Rattle.yv_expand.specs.Tree.{Item, count, item_list}
use Rattle.yv_expand_rounds.specs.declared.label.Label.{Label}
use Rattle.yv_expand_rounds.specs.Placements.{nothing}
use Rattle.yv_expand_uses.specs.Ends.{end_at}
use Rattle.yv_expand_augments.specs.RefineMeanings.{refined_from}
use Rattle.yv_expand_uses.specs.Spots.{LayoutView, Whole, labels_of, layout_of, whole}
use Rattle.yv_expand_uses.specs.declared.spot.Spot.{Spot}
use Rattle.yv_expand_changes.specs.Changes.{changes}
use Rattle.yv_expand_definition.proofs.GivenNodeUniqueness.{RefersToOne}
use Rattle.yv_expand_laws.specs.Comes.{Comes}
use Rattle.yv_expand_laws.specs.StatementItems.{ShowNodes, StatementsShow, one_of}
use Rattle.yv_expand_laws.specs.Shows.{Items}
use Rattle.yv_expand_laws.specs.ItemProperties.{HaveStatements}
use Rattle.yv_expand_laws.proofs.Alike.{AreAlike, comes_same}
use Rattle.yv_expand_laws.proofs.FoundItems.{not_none}
use Rattle.yv_expand_laws.proofs.FrameSequences.{nothing_stands}
use Rattle.yv_expand_laws.proofs.LaidBlocks.{Lies}
use Rattle.yv_expand_laws.proofs.LaterItems.{IsHere, MayRun, stage}
use Rattle.yv_expand_laws.proofs.MakingNodes.{all_make}
use Rattle.yv_expand_laws.proofs.MakingUses.{parts_make}
use Rattle.yv_expand_laws.proofs.LaterItems as making
use Rattle.yv_expand_laws.proofs.ExpansionStart.{count_listed, lies_show, may_enter, none_there, whole_is}
use Rattle.yv_expand_laws.proofs.Statements.{have_statements}

-- what is told of items in the end is what is told when all have entered
pub told_last : (files : Files) (augments : List ℕ) (many : ℕ) (items : List Item) (its : Items) → ShowNodes files (whole (map brief_of files) (rows_of files) augments many) items (λ i. None) its
    → (xs : List Spot) → xs ≡ (layout_of (whole (map brief_of files) (rows_of files) augments many) items).spots
    → (i : ℕ) → its.node_of i ≡ (stage files augments many items its 0 xs).node_of i
told_last files augments many items its facts xs is i =
    ap (λ z. record (its.node_of i) { refines = z })
    (facts.refines i ∙ ap (λ z. changes files (making.spots files augments many items its) (refined_from (making.w files augments many items its) (making.labels files augments many items its)
    (making.copies files augments many items its) (end_at items) 0 z) i) (sym is))

pub statements_show : (files : Files) (augments : List ℕ) → RefersToOne files → StatementsShow files augments
statements_show files augments one_meant numbers t module_file m its sound E tops facts gives =
    let items : List Item = item_list None 0 t in
    let w : Whole = whole (map brief_of files) (rows_of files) augments (count t) in
    let labels : List Label = labels_of (layout_of w items).spots in
    let all : length items ≡ count t = count_listed None 0 t in
    let have : HaveStatements (rows_of files) items = have_statements (map brief_of files) (rows_of files) numbers t None 0 E in
    let each : length labels ≡ count t = making.each_label files augments (count t) items its facts all in
    let x = all_make files augments (count t) items its facts all (parts_make files augments (count t) items its facts all sound have one_meant E)
    (record { spots = []; copies = length augments }) None 0 0 (count t) (length augments) module_file [] refl refl (omega arith) (λ p is. absurd (not_none is))
    (λ k r there at. (let y = tops k r there at in (y.0, y.1, ap one_of y.2))) in
    let e : ℕ = x.0 in
    let F : Lies w labels (record { spots = []; copies = length augments }) items 0 0 (count t) (length augments) e = x.1 in
    let laid_so = whole_is w items (count t) e all F each (omega (arith, each)) in
    let spots_so : (layout_of w items).spots ≡ F.new = ap (λ (l : LayoutView). l.spots) laid_so in
    let here : IsHere files augments (count t) items its (record { spots = []; copies = length augments }) items [] 0 (length augments) F.new [] = record {
      long = refl;
      late = omega arith;
      items_are = sym (append-nil items);
      spots_are = spots_so ∙ sym (append-nil F.new);
      stops = λ j l. refl;
    } in
    let may : MayRun files augments (count t) items its 0 0 (count t) (length augments) e (nothing (length labels) (layout_of w items).copies) =
    subst (λ (n : ℕ). MayRun files augments (count t) items its 0 0 (count t) (length augments) e (nothing (length labels) n)) (sym (ap (λ (l : LayoutView). l.copies) laid_so)) (record {
      enters = may_enter labels (count t) (length augments) e (omega (arith, each));
      empty = λ y low high. none_there (length labels) e y;
      marks = λ y i h. absurd (nothing_stands i (subst (λ l. Contains l i) (none_there (length labels) e y) h));
    }) in
    let C : Comes labels (stage files augments (count t) items its 0 (F.new ++ [])) _ _ _ _ F.block m.nodes = (x.2 m [] [] gives here may).0 in
    let like : AreAlike (stage files augments (count t) items its 0 (F.new ++ [])) its =
    record { given = refl; node = λ i. refl; like = λ i. record { module_file = refl; kind = refl; name = refl } } in
    lies_show w items (count t) e all F each (omega (arith, each)) its m.nodes facts.told
    (comes_same labels (stage files augments (count t) items its 0 (F.new ++ [])) its like
    (λ i low high. told_last files augments (count t) items its facts (F.new ++ []) (append-nil F.new ∙ sym spots_so) i) C)
