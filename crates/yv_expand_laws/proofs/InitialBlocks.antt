-- Before any augment of a module has its turn the block of the modules stands at the top, and that
-- of each augment in its group.
use Rattle.std.proofs.Common.{inl, inr, ◌≡◌, ℕ, ◌+◌, ◌<◌, ◌≤◌, Bool, false, List, [], length, ◌∙◌, subst, arith}
use Rattle.std.specs.List.{Contains}
use Rattle.yv_expand_rounds.specs.declared.label.Label.{Label}
use Rattle.yv_expand_rounds.specs.Groups.{group_of_augment, members_of}
use Rattle.yv_expand_rounds.specs.Placements.{nothing}
use Rattle.yv_expand_rounds.specs.Turns.{State}
use Rattle.yv_expand_definition.specs.Nodes.{Forest}
use Rattle.yv_expand_laws.specs.FirstItems.{BlocksMarked}
use Rattle.yv_expand_laws.specs.Blocks.{Augments, augment, no_augments, enter_block, run_all}
use Rattle.yv_expand_laws.specs.Comes.{Comes, HasMarks}
use Rattle.yv_expand_laws.specs.Frames.{IsOutside, MayEnter}
use Rattle.yv_expand_laws.specs.Shows.{AreLabels, Items}
use Rattle.yv_expand_laws.specs.Under.{AllStand, BeginningStands, StandWithin, Under}
use Rattle.yv_expand_laws.proofs.InitialNodes.{blocks_enter, blocks_mark, no_marks, own_empty, own_enters, top_is_outside}
use Rattle.yv_expand_laws.proofs.FrameSequences.{narrower, nothing_stands}
use Rattle.yv_expand_laws.proofs.BlockFrame.{MayAll, all_go_up, all_keep, block_keeps, goes_up}
use Rattle.yv_expand_laws.proofs.BlockContents.{all_within, block_stands, keeps_within}
use Rattle.yv_expand_laws.proofs.BlockNodes.{may_block, may_others}
use Rattle.yv_expand_laws.proofs.ExpansionStart.{none_there}
use Rattle.yv_expand_laws.proofs.Under.{kept_under, none_under, was_under}

module _ (labels : List Label) (its : Items) (mark : ℕ → Bool) (are : AreLabels labels its) (low : (x : ℕ) → x ≤ length labels → mark x ≡ false) where
  all_stand_on : (old new : State) {lo hi c e k own : ℕ} (augments : Augments lo hi c e k own)
      → ((i : ℕ) → lo ≤ i → i < hi → members_of new.groups (i + 1) ≡ members_of old.groups (i + 1))
      → ((j : ℕ) → k ≤ j → j < own → members_of new.groups (group_of_augment labels j) ≡ members_of old.groups (group_of_augment labels j))
      → AllStand labels its old augments → AllStand labels its new augments
  all_stand_on old new no_augments same copies stand = tt
  all_stand_on old new {lo = lo} {k = k} (augment mid d names block others) same copies (stands, rest) =
      let up = goes_up block in let lm = up.0 in
      let up' = all_go_up others in let mh = up'.0 in let ko = up'.2 in
      let own : ℕ = group_of_augment labels k in
      let here : members_of new.groups own ≡ members_of old.groups own = copies k (omega arith) (omega (arith, ko)) in
      let inner : (f : Forest) (comes : Comes labels its _ _ _ _ block f) (j : ℕ) → Under old.groups own j → members_of new.groups (j + 1) ≡ members_of old.groups (j + 1) =
      λ f comes j u. (let w = keeps_within labels its are mark low comes j ((stands f comes j).0 u) in let h = w.1 in same j w.0 (omega (arith, h, mh))) in (
        λ f comes x. (
          (λ u. (stands f comes x).0 (was_under old.groups new.groups own here (inner f comes) u)),
          (λ h. kept_under old.groups new.groups own here (inner f comes) ((stands f comes x).1 h)),
        ),
        all_stand_on old new others (λ i x h. same i (omega (arith, x, lm)) h) (λ j x h. copies j (omega (arith, x)) h) rest,
      )

  all_blocks_stand : (g : ℕ) (st : State) {lo hi c e k own : ℕ} (augments : Augments lo hi c e k own) → BlocksMarked labels its.given mark augments → IsOutside labels lo hi k e g
      → MayAll labels lo hi c e k own st → ((x : ℕ) → lo < x → x ≤ hi → members_of st.groups x ≡ []) → HasMarks its.given mark st → StandWithin labels st
      → AllStand labels its (run_all labels augments st) augments
  all_blocks_stand g st no_augments marked out m empty has within = tt
  all_blocks_stand g st {lo = lo} {hi = hi} {c = c} {e = e} {k = k} {own = own} (augment mid d names block others) (marks_b, marks_o) out m empty has within =
      let up = goes_up block in let lm = up.0 in let cd = up.1 in
      let up' = all_go_up others in let mh = up'.0 in let de = up'.1 in let ko = up'.2 in
      let items = m.items in let oc = m.inner in
      let st1 : State = run_all labels others st in
      let m1 : MayAll labels mid hi d e (k + 1) own st = may_others labels its mark low lo hi c e k own mid d st cd m in
      let out1 : IsOutside labels mid hi (k + 1) e g = narrower labels lo hi k e mid hi (k + 1) e g lm (omega arith) (omega arith) (omega arith) out in
      let rest = all_keep labels g others st out1 m1 in
      let f1 = rest.frame in
      let copy : ℕ = group_of_augment labels k in
      let st2 : State = enter_block labels copy block st1 in
      let m2 : MayEnter labels copy lo mid c d st1 = may_block labels its mark low g lo hi c e k own mid d st st1 mh cd de ko m rest in
      let f2 = (block_keeps labels copy block st1 m2).0 in
      let was : members_of st1.groups copy ≡ [] =
      f1.outside copy (λ same. elim out.1 [ inl p ↦ omega (arith, p, same) | inr p ↦ omega (arith, p, same, ko, oc, cd, de) ])
      (inr (omega (arith, items)), inl (omega arith)) ∙ m.fresh k (inl (omega arith, omega (arith, ko))) in
      let has1 : HasMarks its.given mark st1 = blocks_mark labels its.given mark low others st marks_o has in
      let within1 = all_within labels others st items within in
      let later : AllStand labels its st1 others = all_blocks_stand g st others marks_o out1 m1 (λ x a h. empty x (omega (arith, a, lm)) h) has within in
      let still_later : AllStand labels its st2 others =
      all_stand_on st1 st2 others
      (λ i x y. f2.outside (i + 1) (λ same. omega (arith, same, y, items)) (inr (omega (arith, x)), inl (omega (arith, y, items))))
      (λ j x y. f2.outside (group_of_augment labels j) (λ same. omega (arith, same, x)) (inr (omega (arith, items, mh)), inl (omega (arith, y, oc)))) later in (
        λ f comes x.
            (let s = block_stands labels its are mark low copy st1 comes marks_b m2
            (λ x a h. f1.outside x (λ same. elim out.0 [ inl p ↦ omega (arith, p, a, same) | inr p ↦ omega (arith, p, h, mh, same) ]) (inl h, inl (omega (arith, h, mh, items)))
            ∙ empty x a (omega (arith, h, mh))) has1 within1 x in
            ((λ u. elim (s.0 u) [ inl a ↦ absurd (none_under st1.groups copy was a) | inr b ↦ b ]), (λ h. s.1 (inr h)))),
        still_later,
      )

  pub beginning_stands : BeginningStands labels its mark
  beginning_stands n hi d e own block augments within marked marks =
      let up' = all_go_up augments in let nh = up'.0 in
      let st : State = nothing (length labels) e in
      let st1 : State = run_all labels augments st in
      let has : HasMarks its.given mark st = no_marks labels its mark are low n hi d e own block augments within its.given mark in
      let has1 : HasMarks its.given mark st1 = blocks_mark labels its.given mark low augments st marks has in
      let may = own_enters labels its mark are low n hi d e own block augments within in
      let f2 = (block_keeps labels 0 block st1 may).0 in
      let none_within : StandWithin labels st = λ y i h. absurd (nothing_stands i (subst (λ l. Contains l i) (none_there (length labels) e y) h)) in
      let out = top_is_outside labels its mark are low n hi d e own block augments within in
      let entering = blocks_enter labels its mark are low n hi d e own block augments within in
      let none_top : members_of st1.groups 0 ≡ [] =
      (all_keep labels (group_of_augment labels e) augments st (inr (omega (arith, within)), inr (omega arith)) entering).frame.outside 0 (λ same. omega (arith, same)) out ∙ none_there (length labels) e 0 in (
        λ f comes x.
            (let s = block_stands labels its are mark low 0 st1 comes marked may (own_empty labels its mark are low n hi d e own block augments within) has1
            (all_within labels augments st within none_within) x in
            ((λ u. elim (s.0 u) [ inl a ↦ absurd (none_under st1.groups 0 none_top a) | inr b ↦ b ]), (λ h. s.1 (inr h)))),
        all_stand_on st1 (enter_block labels 0 block st1) augments
            (λ i x y. f2.outside (i + 1) (λ same. omega (arith, same)) (inr (omega (arith, x)), inl (omega (arith, y, within))))
            (λ j x y. f2.outside (group_of_augment labels j) (λ same. omega (arith, same)) (inr (omega (arith, nh, within)), inl (omega (arith, y))))
            (all_blocks_stand 0 st augments marks out entering (λ x a b. none_there (length labels) e x) has none_within),
      )
