-- When the item that a refine means has it, the block gives the nodes with it.
use Rattle.std.proofs.Common.{◌⊎◌, inl, inr, ◌≡◌, ℕ, ◌<◌, ◌≤◌, ◌==◌, Bool, true, false, if◌then◌else◌, List, [], ◌∷◌, ◌++◌, length, refl, sym, ◌∙◌, subst, Some}
use Rattle.std.specs.List.{Contains}
use Rattle.std.proofs.lemmas.List.Elements.{Contains-append_cases}
use Rattle.yv_expand_rounds.specs.declared.end.End.TheVariants as end_is
use Rattle.yv_expand_rounds.specs.declared.label.Label.{Label}
use Rattle.yv_expand_rounds.specs.Groups.{members_of}
use Rattle.yv_expand_rounds.specs.Paths.{path_end}
use Rattle.yv_expand_rounds.specs.Turns.{State}
use Rattle.yv_expand_definition.specs.Nodes.{Forest, Node}
use Rattle.yv_expand_definition.specs.Paths.{Leads, Step, at}
use Rattle.yv_expand_laws.specs.Blocks.{Block, enter_block}
use Rattle.yv_expand_laws.specs.Comes.{Comes, HasMarks}
use Rattle.yv_expand_laws.specs.RefinedBlocks.{BlockIsMissed, BlockIsRefined, IsRefinable}
use Rattle.yv_expand_laws.specs.RefineStep.{add_refine}
use Rattle.yv_expand_laws.specs.Shows.{Agree, AreLabels, Items, Shows}
use Rattle.yv_expand_laws.specs.Under.{Keeps}
use Rattle.yv_expand_laws.proofs.Alike.{AreAlike, IsLike, Same, comes_alike, shows_one}
use Rattle.yv_expand_laws.proofs.RefineChanges.{refine_changes, refine_misses}
use Rattle.yv_expand_laws.proofs.BlockFrame.{block_keeps}
use Rattle.yv_expand_laws.proofs.GroupMarks.{run_marks}
use Rattle.yv_expand_laws.proofs.Turns.{block_shows_all}

one_more_like : (g : Node) (k : ℕ) (b : Bool) → IsLike g (if b then record g { refines = g.refines ++ k ∷ [] } else g)
one_more_like g k true = record { module_file = refl; kind = refl; name = refl }
one_more_like g k false = record { module_file = refl; kind = refl; name = refl }

pub changed_alike : (its : Items) (i k : ℕ) → AreAlike its (add_refine its i k)
changed_alike its i k = record { given = refl; node = λ x. refl; like = λ x. one_more_like (its.node_of x) k (x == i) }

more_kind : (g : Node) (k : ℕ) (b : Bool) → g.kind ≡ (if b then record g { refines = g.refines ++ k ∷ [] } else g).kind
more_kind g k true = refl
more_kind g k false = refl

pub changed_labels : (labels : List Label) (its : Items) (i k : ℕ) → AreLabels labels its → AreLabels labels (add_refine its i k)
changed_labels labels its i k are = record {
  given = are.given;
  node = are.node;
  within = λ x is. (let w = are.within x is in (w.0, w.1, w.2 ∙ more_kind (its.node_of x) k (x == i)));
}

module _ (labels : List Label) (its : Items) (mark : ℕ → Bool) (are : AreLabels labels its) (low : (x : ℕ) → x ≤ length labels → mark x ≡ false) where
  module _ (g lo hi c e limit : ℕ) (block : Block lo hi c e) (st : State) (m : Forest) (r : IsRefinable labels its mark g lo hi c e limit block st m) where
    pub shows_block : Shows its (enter_block labels g block st).groups g lo hi m
    shows_block = block_shows_all labels its mark are low g st r.comes r.marked r.enters r.empty r.marks

    pub stand_where : (i : ℕ) → Contains (members_of (enter_block labels g block st).groups g) i → ((lo ≤ i) × (i < hi)) ⊎ (limit ≤ i)
    stand_where i h =
        let f = (block_keeps labels g block st r.enters).0 in
        elim (Contains-append_cases (members_of st.groups g) f.entered i (subst (λ ms. Contains ms i) f.behind h)) [ inl was ↦ inr (r.behind i was) | inr new ↦ inl (f.theirs i new) ]

    pub has_marks : HasMarks its.given mark (enter_block labels g block st)
    has_marks = run_marks its.given mark labels low g block st r.marked r.marks

  -- the block keeps the same items besides
  pub refined_kept : (g lo hi c e limit k : ℕ) (block : Block lo hi c e) (names : List ℕ) (ss : List Step) (st : State) (m below there : Forest) (target : Node)
      → (r : IsRefinable labels its mark g lo hi c e limit block st m) → Agree labels its names ss
      → Leads false ss m (at target below (record target { refines = target.refines ++ k ∷ [] }) below) there
      → (i : ℕ) × (path_end labels (enter_block labels g block st).groups limit names (end_is.Start g) ≡ Some (end_is.Node i)) × (target ≡ its.node_of i) × (lo ≤ i)
      × (i < hi) × (D : Comes labels (add_refine its i k) _ _ _ _ block there) × Same (λ x. Keeps D x) (λ x. Keeps r.comes x)
  refined_kept g lo hi c e limit k block names ss st m below there target r agree leads =
      let S = shows_block g lo hi c e limit block st m r in
      let has = has_marks g lo hi c e limit block st m r in
      let x = refine_changes labels its are (enter_block labels g block st).groups g lo hi limit k names ss m below there target r.within (stand_where g lo hi c e limit block st m r)
      (λ i j h l. has g i h ∙ sym (has g j l)) agree S leads in
      let i : ℕ = x.0 in
      let y = comes_alike labels its (add_refine its i k) (changed_alike its i k) r.comes in
      let T : Shows (add_refine its i k) (enter_block labels g block st).groups g lo hi y.0 =
      block_shows_all labels (add_refine its i k) mark (changed_labels labels its i k are) low g st y.1 r.marked r.enters r.empty r.marks in
      let same : y.0 ≡ there = shows_one labels (add_refine its i k) (changed_labels labels its i k are) (enter_block labels g block st).groups g lo hi y.0 there T x.5 in
      let D = subst (λ f. (D : Comes labels (add_refine its i k) _ _ _ _ block f) × Same (λ x. Keeps D x) (λ x. Keeps r.comes x)) same (y.1, y.3) in
      (i, x.1, x.2, x.3, x.4, D.0, D.1)

  pub block_is_refined : BlockIsRefined labels its mark
  block_is_refined g lo hi c e limit k block names ss st m below there target r agree leads =
      let x = refined_kept g lo hi c e limit k block names ss st m below there target r agree leads in
      (x.0, x.1, x.2, x.3, x.4, x.5)

  pub block_is_missed : BlockIsMissed labels its mark
  block_is_missed g lo hi c e limit i block names ss st m r agree none is =
      let has = has_marks g lo hi c e limit block st m r in
      refine_misses labels its are (enter_block labels g block st).groups g lo hi limit i names ss m r.within (stand_where g lo hi c e limit block st m r)
      (λ j l h p. has g j h ∙ sym (has g l p)) agree (shows_block g lo hi c e limit block st m r) none is
