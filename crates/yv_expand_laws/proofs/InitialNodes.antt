-- Before any augment of a module has its turn the top shows what the modules give, and the group of
-- each augment what its block gives.
use Rattle.std.proofs.Common.{inl, inr, ◌≡◌, ℕ, ◌+◌, ◌<◌, ◌≤◌, Bool, false, List, [], length, sym, ◌∙◌, subst, arith, None}
use Rattle.std.specs.List.{Contains}
use Rattle.std.proofs.lemmas.List.{length-replicate}
use Rattle.yv_expand_rounds.specs.declared.label.Label.{Label}
use Rattle.yv_expand_rounds.specs.Groups.{group_of_augment, members_of}
use Rattle.yv_expand_rounds.specs.Placements.{nothing}
use Rattle.yv_expand_rounds.specs.Turns.{State}
use Rattle.yv_expand_laws.specs.FirstItems.{AllShow, BeginningShows, BlocksMarked}
use Rattle.yv_expand_laws.specs.Blocks.{Augments, Block, augment, no_augments, enter_block, run_all}
use Rattle.yv_expand_laws.specs.Comes.{HasMarks}
use Rattle.yv_expand_laws.specs.Frames.{IsOutside, MayEnter}
use Rattle.yv_expand_laws.specs.Shows.{AreLabels, Items}
use Rattle.yv_expand_laws.proofs.FrameSequences.{narrower, nothing_stands}
use Rattle.yv_expand_laws.proofs.BlockFrame.{AllKept, MayAll, all_go_up, all_keep, block_keeps, goes_up}
use Rattle.yv_expand_laws.proofs.GroupMarks.{run_marks}
use Rattle.yv_expand_laws.proofs.BlockNodes.{may_block, may_others}
use Rattle.yv_expand_laws.proofs.StableItems.{shows_on}
use Rattle.yv_expand_laws.proofs.ExpansionStart.{none_applied, none_there}
use Rattle.yv_expand_laws.proofs.Turns.{block_shows_all}

module _ (labels : List Label) where
  pub blocks_mark : (given mark : ℕ → Bool) → ((x : ℕ) → x ≤ length labels → mark x ≡ false) → {lo hi c e k own : ℕ} (augments : Augments lo hi c e k own) (st : State)
      → BlocksMarked labels given mark augments → HasMarks given mark st → HasMarks given mark (run_all labels augments st)
  blocks_mark given mark low no_augments st all has = has
  blocks_mark given mark low {k = k} (augment mid d names block others) st (a, rest) has =
      run_marks given mark labels low (group_of_augment labels k) block (run_all labels others st) a (blocks_mark given mark low others st rest has)

module _ (labels : List Label) (its : Items) (mark : ℕ → Bool) (are : AreLabels labels its) (low : (x : ℕ) → x ≤ length labels → mark x ≡ false) where
  -- the same in groups that are the same
  all_on : (old new : State) {lo hi c e k own : ℕ} (augments : Augments lo hi c e k own)
      → ((i : ℕ) → lo ≤ i → i < hi → members_of new.groups (i + 1) ≡ members_of old.groups (i + 1))
      → ((j : ℕ) → k ≤ j → j < own → members_of new.groups (group_of_augment labels j) ≡ members_of old.groups (group_of_augment labels j))
      → AllShow labels its old augments → AllShow labels its new augments
  all_on old new no_augments same copies show = tt
  all_on old new {lo = lo} {k = k} (augment mid d names block others) same copies (shows, rest) =
      let up = goes_up block in let lm = up.0 in
      let up' = all_go_up others in let mh = up'.0 in let ko = up'.2 in
      let here : members_of new.groups (group_of_augment labels k) ≡ members_of old.groups (group_of_augment labels k) = copies k (omega arith) (omega (arith, ko)) in (
        λ f comes. shows_on old.groups new.groups (group_of_augment labels k) lo mid (λ i x h. same i x (omega (arith, h, mh)))
            (λ i x h y. subst (λ ms. Contains ms i) here y) (λ i x h y. subst (λ ms. Contains ms i) (sym here) y) (shows f comes),
        all_on old new others (λ i x h. same i (omega (arith, x, lm)) h) (λ j x h. copies j (omega (arith, x)) h) rest,
      )

  all_blocks_show : (g : ℕ) (st : State) {lo hi c e k own : ℕ} (augments : Augments lo hi c e k own) → BlocksMarked labels its.given mark augments → IsOutside labels lo hi k e g
      → MayAll labels lo hi c e k own st → ((x : ℕ) → lo < x → x ≤ hi → members_of st.groups x ≡ []) → HasMarks its.given mark st
      → AllShow labels its (run_all labels augments st) augments
  all_blocks_show g st no_augments marked out m empty has = tt
  all_blocks_show g st {lo = lo} {hi = hi} {c = c} {e = e} {k = k} {own = own} (augment mid d names block others) (marks_b, marks_o) out m empty has =
      let up = goes_up block in let lm = up.0 in let cd = up.1 in
      let up' = all_go_up others in let mh = up'.0 in let de = up'.1 in let ko = up'.2 in
      let items = m.items in let oc = m.inner in
      let st1 : State = run_all labels others st in
      let m1 : MayAll labels mid hi d e (k + 1) own st = may_others labels its mark low lo hi c e k own mid d st cd m in
      let out1 : IsOutside labels mid hi (k + 1) e g = narrower labels lo hi k e mid hi (k + 1) e g lm (omega arith) (omega arith) (omega arith) out in
      let rest = all_keep labels g others st out1 m1 in
      let f1 = rest.frame in
      let st2 : State = enter_block labels (group_of_augment labels k) block st1 in
      let m2 : MayEnter labels (group_of_augment labels k) lo mid c d st1 = may_block labels its mark low g lo hi c e k own mid d st st1 mh cd de ko m rest in
      let f2 = (block_keeps labels (group_of_augment labels k) block st1 m2).0 in
      let has1 : HasMarks its.given mark st1 = blocks_mark labels its.given mark low others st marks_o has in
      let shows_later : AllShow labels its st1 others = all_blocks_show g st others marks_o out1 m1 (λ x a h. empty x (omega (arith, a, lm)) h) has in
      let still_later : AllShow labels its st2 others =
      all_on st1 st2 others
      (λ i x y. f2.outside (i + 1) (λ same. omega (arith, same, y, items)) (inr (omega (arith, x)), inl (omega (arith, y, items))))
      (λ j x y. f2.outside (group_of_augment labels j) (λ same. omega (arith, same, x)) (inr (omega (arith, items, mh)), inl (omega (arith, y, oc)))) shows_later in (
        λ f comes. block_shows_all labels its mark are low (group_of_augment labels k) st1 comes marks_b m2
            (λ x a h. f1.outside x (λ same. elim out.0 [ inl p ↦ omega (arith, p, a, same) | inr p ↦ omega (arith, p, h, mh, same) ]) (inl h, inl (omega (arith, h, mh, items)))
            ∙ empty x a (omega (arith, h, mh))) has1,
        still_later,
      )

  -- nothing has entered yet
  module _ (n hi d e own : ℕ) (block : Block 0 n own d) (augments : Augments n hi d e 0 own) (within : hi ≤ length labels) where
    abbrev pub start : State
    start = nothing (length labels) e

    many : length start.groups ≡ length labels + 1 + e
    many = length-replicate (length labels + 1 + e) []

    ends : length start.ends ≡ e
    ends = length-replicate e None

    pub no_marks : (given : ℕ → Bool) (of : ℕ → Bool) → HasMarks given of start
    no_marks given of y i h = absurd (nothing_stands i (subst (λ l. Contains l i) (none_there (length labels) e y) h))

    pub blocks_enter : MayAll labels n hi d e 0 own start
    blocks_enter =
        let up = goes_up block in let od = up.1 in
        let room = many in let as_many = ends in
        record {
          room = omega (arith, room, as_many);
          items = within;
          copies = omega (arith, as_many);
          inner = od;
          from = λ x i h. absurd (nothing_stands i (subst (λ l. Contains l i) (none_there (length labels) e x) h));
          fresh = λ j w. none_there (length labels) e (group_of_augment labels j);
          waiting = λ j w. none_applied (length labels) e j w.1;
        }

    pub top_is_outside : IsOutside labels n hi 0 e 0
    top_is_outside = (inl (omega arith), inl (omega arith))

    pub kept_start : AllKept labels 0 n hi d e 0 own start (run_all labels augments start)
    kept_start = all_keep labels 0 augments start top_is_outside blocks_enter

    pub own_enters : MayEnter labels 0 0 n own d (run_all labels augments start)
    own_enters =
        let up' = all_go_up augments in let nh = up'.0 in let de = up'.1 in
        let room = many in let as_many = ends in
        let frame = kept_start.frame in
        let long = frame.groups in let still_many = frame.augments in
        record {
          room = omega (arith, room, as_many, long, still_many);
          items = omega (arith, within, nh);
          copies = omega (arith, as_many, still_many, de);
          group = omega (arith, room, long);
          outside = (inl (omega arith), inl (omega arith));
          from = kept_start.from;
          fresh = λ j a b. kept_start.gap j a b ∙ none_there (length labels) e (group_of_augment labels j);
          waiting = λ j a b. kept_start.gap_ends j b ∙ none_applied (length labels) e j (omega (arith, b, de));
        }

    pub own_empty : (x : ℕ) → 0 < x → x ≤ n → members_of (run_all labels augments start).groups x ≡ []
    own_empty x a b =
        let up' = all_go_up augments in let nh = up'.0 in
        kept_start.frame.outside x (λ same. omega (arith, same, a)) (inl b, inl (omega (arith, b, nh, within))) ∙ none_there (length labels) e x

  pub beginning_shows : BeginningShows labels its mark
  beginning_shows n hi d e own block augments within marked marks =
      let up' = all_go_up augments in let nh = up'.0 in
      let st : State = nothing (length labels) e in
      let st1 : State = run_all labels augments st in
      let has : HasMarks its.given mark st = no_marks n hi d e own block augments within its.given mark in
      let has1 : HasMarks its.given mark st1 = blocks_mark labels its.given mark low augments st marks has in
      let may = own_enters n hi d e own block augments within in
      let f2 = (block_keeps labels 0 block st1 may).0 in (
        λ f comes. block_shows_all labels its mark are low 0 st1 comes marked may (own_empty n hi d e own block augments within) has1,
        all_on st1 (enter_block labels 0 block st1) augments
            (λ i x y. f2.outside (i + 1) (λ same. omega (arith, same)) (inr (omega (arith, x)), inl (omega (arith, y, within))))
            (λ j x y. f2.outside (group_of_augment labels j) (λ same. omega (arith, same)) (inr (omega (arith, nh, within)), inl (omega (arith, y))))
            (all_blocks_show 0 st augments marks (top_is_outside n hi d e own block augments within) (blocks_enter n hi d e own block augments within) (λ x a b. none_there (length labels) e x) has),
      )
