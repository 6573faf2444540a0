-- What is refused of the refines and of the augments of uses in a block is what is refused at the
-- items that the block keeps.
use Rattle.std.proofs.Common.{◌⊎◌, inl, inr, ◌≡◌, ℕ, ◌+◌, ◌<◌, ◌≤◌, Bool, true, false, if◌then◌else◌, List, [], ◌∷◌, ◌++◌, drop, map, refl, sym, ◌∙◌, ap, subst, arith, Option, Some, None}
use Rattle.std.specs.List.{Contains, slice_get}
use Rattle.std.proofs.lemmas.Bool.{false≢true}
use Rattle.std.proofs.lemmas.List.Elements.{Contains-append_cases, Contains-append_left, Contains-append_right, Contains-push, Contains-push_cases}
use Rattle.yv_text_statement.specs.declared.refusal.Code.{Code}
use Rattle.yv_text_statement.specs.declared.refusal.Code.TheVariants as code
use Rattle.yv_link_scopes.specs.Files.{Files, brief_of}
use Rattle.yv_link_scopes.specs.RowList.{rows_of}
use Rattle.yv_expand.specs.Tree.{Item}
use Rattle.yv_expand_rounds.specs.declared.label.Label.{Label}
use Rattle.yv_expand_uses.specs.Ends.{end_at}
use Rattle.yv_expand_augments.specs.Augmentation.{placed_from}
use Rattle.yv_expand_statements.specs.Kinds.{is_uses}
use Rattle.yv_expand_uses.specs.RefineTargets.{node_meant, refined_at, refines_in}
use Rattle.yv_expand_uses.specs.Spots.{Whole, labels_of, layout_of, whole}
use Rattle.yv_expand_uses.specs.AugmentOrder.{augments_in}
use Rattle.yv_expand_uses.specs.declared.spot.Spot.{Spot}
use Rattle.yv_expand_refines.specs.Targets.{RefineMeaning}
use Rattle.yv_expand_definition.specs.Gives.{Wrong, judge, takes_block}
use Rattle.yv_expand_definition.specs.Nodes.{Forest, node}
use Rattle.yv_expand_definition.specs.Nodes as nodes
use Rattle.yv_expand_laws.specs.Blocks.{Augments, Block}
use Rattle.yv_expand_laws.specs.Blocks as block
use Rattle.yv_expand_laws.specs.Comes.{Comes}
use Rattle.yv_expand_laws.specs.Comes.Comes.{no_items as none_come, of_uses, one_node}
use Rattle.yv_expand_laws.specs.Refines.{IsOfRefine}
use Rattle.yv_expand_laws.specs.RefusedRefines.{IsAnyRefused}
use Rattle.yv_expand_laws.specs.Shows.{Items}
use Rattle.yv_expand_laws.specs.Under.{Keeps, KeepsAdded}
use Rattle.yv_expand_laws.proofs.Alike.{AreAlike, Same, comes_kept}
use Rattle.yv_expand_laws.proofs.FoundItems.{there_first, there_later}
use Rattle.yv_expand_laws.proofs.FrameSequences.{nothing_stands}
use Rattle.yv_expand_laws.proofs.JoinedBlocks.{then_block}
use Rattle.yv_expand_laws.proofs.AugmentTargets.{EndsFrom, Goes, MissesFrom, adds_of, goes_kept, judged_list}
use Rattle.yv_expand_laws.proofs.AugmentTargets.Goes.{all_went}
use Rattle.yv_expand_laws.proofs.BlockNodes.{first_or}

no_wrong : (x : Wrong) → Contains (let none : List Wrong = [] in none) x → ⊥
no_wrong x (i, l, e) = omega (arith, l)

abbrev wrong_so : Code → ℕ → Wrong
wrong_so c k = record { code = c; statement = k }

-- an augment of a uses has no target, or one that doesn't take its block: it is none of these,
-- which are those of modules
abbrev pub IsOfUses : (augments : List ℕ) → Wrong → Type 0
IsOfUses augments e = ((e.code ≡ code.AugmentTarget) ⊎ (e.code ≡ code.BadAugment)) × (Contains augments e.statement → ⊥)

-- it is asked of an item that is a uses
abbrev pub IsAsked : (augments : List ℕ) → Wrong → Type 0
IsAsked augments e = IsOfRefine e ⊎ IsOfUses augments e

-- it is of an augment that missed, or whose target doesn't take its block
abbrev pub IsOwn : (missed bad : List ℕ) → Wrong → Type 0
IsOwn missed bad e = ((e.code ≡ code.AugmentTarget) × Contains missed e.statement) ⊎ ((e.code ≡ code.BadAugment) × Contains bad e.statement)

module _ (augments : List ℕ) where
  -- of an augment of a module nothing is asked
  pub not_module : (e : Wrong) (c : Code) (k : ℕ) → IsAsked augments e → ((c ≡ code.AugmentTarget) ⊎ (c ≡ code.BadAugment)) → Contains augments k → wrong_so c k ≡ e → ⊥
  not_module e c k asked which there same = (let is : c ≡ e.code = ap (λ (x : Wrong). x.code) same in elim asked [
    | inl (inl a) ↦ elim which [
      | inl x ↦ (let bad : code.AugmentTarget ≡ code.RefineTarget = sym x ∙ (is ∙ a) in cc)
      | inr x ↦ (let bad : code.BadAugment ≡ code.RefineTarget = sym x ∙ (is ∙ a) in cc)
    ]
    | inl (inr b) ↦ elim which [
      | inl x ↦ (let bad : code.AugmentTarget ≡ code.BadRefine = sym x ∙ (is ∙ b) in cc)
      | inr x ↦ (let bad : code.BadAugment ≡ code.BadRefine = sym x ∙ (is ∙ b) in cc)
    ]
    | inr (d, none) ↦ none (subst (Contains augments) (ap (λ (x : Wrong). x.statement) same) there)
  ])

  -- the same is asked
  abbrev pub RefuseAlike : (xs ys : List Wrong) → Type 0
  RefuseAlike xs ys = (e : Wrong) → IsAsked augments e → (Contains xs e → Contains ys e) × (Contains ys e → Contains xs e)

  pub judged_alike : (b : Bool) (a : ℕ) (there : Forest) (xs : List Wrong) → Contains augments a → RefuseAlike (judge b a (record { nodes = there; wrong = xs })).wrong xs
  judged_alike true a there xs own e asked = (λ h. h, λ h. h)
  judged_alike false a there xs own e asked = (
    (λ h. elim (Contains-push_cases xs (wrong_so code.BadAugment a) e h) [ inl x ↦ x | inr same ↦ absurd (not_module e code.BadAugment a asked (inr refl) own same) ]),
    (λ h. Contains-append_left xs (wrong_so code.BadAugment a ∷ []) e h),
  )

  pub target_alike : (a : ℕ) (xs : List Wrong) → Contains augments a → RefuseAlike (xs ++ wrong_so code.AugmentTarget a ∷ []) xs
  target_alike a xs there e asked = (
    (λ h. elim (Contains-push_cases xs (wrong_so code.AugmentTarget a) e h) [ inl x ↦ x | inr same ↦ absurd (not_module e code.AugmentTarget a asked (inl refl) there same) ]),
    (λ h. Contains-append_left xs (wrong_so code.AugmentTarget a ∷ []) e h),
  )

-- of some items those of which something holds are told by a list of refusals
module _ (augments : List ℕ) (At : ℕ → Wrong → Type 0) where
  abbrev pub Told : (holds : ℕ → Type 0) → Wrong → Type 0
  Told holds e = (i : ℕ) × holds i × At i e

  abbrev pub TellsOf : (holds : ℕ → Type 0) → List Wrong → Type 0
  TellsOf holds xs = (e : Wrong) → IsAsked augments e → (Contains xs e → Told holds e) × (Told holds e → Contains xs e)

  -- besides what was refused before, and of augments of the uses themselves
  abbrev pub TellsMore : (old : List Wrong) → (holds : ℕ → Type 0) → (missed bad : List ℕ) → (new : List Wrong) → Type 0
  TellsMore old holds missed bad new =
      (e : Wrong) → IsAsked augments e → (Contains new e → Contains old e ⊎ (Told holds e ⊎ IsOwn missed bad e)) × (Contains old e ⊎ (Told holds e ⊎ IsOwn missed bad e) → Contains new e)

  told_as : (P Q : ℕ → Type 0) (e : Wrong) → ((x : ℕ) → P x → Q x) → Told P e → Told Q e
  told_as P Q e all (i, holds, at) = (i, all i holds, at)

  pub tells_same : (P Q : ℕ → Type 0) (xs : List Wrong) → Same Q P → TellsOf P xs → TellsOf Q xs
  tells_same P Q xs same t e of = (
    (λ h. told_as P Q e (λ x. (same x).1) ((t e of).0 h)),
    (λ h. (t e of).1 (told_as Q P e (λ x. (same x).0) h)),
  )

  more_same : (P Q : ℕ → Type 0) (missed bad : List ℕ) (old new : List Wrong) → Same Q P → TellsMore old P missed bad new → TellsMore old Q missed bad new
  more_same P Q missed bad old new same t e asked = (
    (λ h. elim ((t e asked).0 h) [ inl a ↦ inl a | inr (inl b) ↦ inr (inl (told_as P Q e (λ x. (same x).1) b)) | inr (inr c) ↦ inr (inr c) ]),
    (λ h. (t e asked).1 (elim h [ inl a ↦ inl a | inr (inl b) ↦ inr (inl (told_as Q P e (λ x. (same x).0) b)) | inr (inr c) ↦ inr (inr c) ])),
  )

  tells_both : (P Q R : ℕ → Type 0) (xs ys : List Wrong) → TellsOf P xs → TellsOf Q ys → Same R (λ x. P x ⊎ Q x) → TellsOf R (xs ++ ys)
  tells_both P Q R xs ys p q same e of = (
    (λ h. elim (Contains-append_cases xs ys e h) [
      | inl a ↦ told_as P R e (λ x i. (same x).1 (inl i)) ((p e of).0 a)
      | inr b ↦ told_as Q R e (λ x i. (same x).1 (inr i)) ((q e of).0 b)
    ]),
    (λ (i, holds, at). elim ((same i).0 holds) [
      | inl a ↦ Contains-append_left xs ys e ((p e of).1 (i, a, at))
      | inr b ↦ Contains-append_right xs ys e ((q e of).1 (i, b, at))
    ]),
  )

  -- nothing is refused at a node
  tells_node : (n : ℕ) (P : ℕ → Type 0) (xs : List Wrong) → ((e : Wrong) → At n e → ⊥) → TellsOf P xs → TellsOf (λ x. (x ≡ n) ⊎ (P x ⊎ ⊥)) xs
  tells_node n P xs never t e of = (
    (λ h. told_as P (λ x. (x ≡ n) ⊎ (P x ⊎ ⊥)) e (λ x i. inr (inl i)) ((t e of).0 h)),
    (λ (i, holds, at). elim holds [
      | inl same ↦ absurd (never e (subst (λ (z : ℕ). At z e) same at))
      | inr (inl a) ↦ (t e of).1 (i, a, at)
      | inr (inr b) ↦ absurd b
    ]),
  )

  -- what is refused at a uses is refused of its refines, or of its augments
  tells_uses : (n : ℕ) (P Q : ℕ → Type 0) (missed bad : List ℕ) (copied refined given : List Wrong) (X : Wrong → Type 0) → TellsOf P copied
      → ((e : Wrong) → (Contains refined e → Contains copied e ⊎ X e) × (Contains copied e ⊎ X e → Contains refined e))
      → ((e : Wrong) → (X e ⊎ IsOwn missed bad e → At n e) × (At n e → X e ⊎ IsOwn missed bad e)) → TellsMore refined Q missed bad given
      → TellsOf (λ x. (x ≡ n) ⊎ ((P x ⊎ Q x) ⊎ ⊥)) given
  tells_uses n P Q missed bad copied refined given X p refines here q e asked = (
    (λ h. elim ((q e asked).0 h) [
      | inl a ↦ elim ((refines e).0 a) [
        | inl b ↦ told_as P (λ x. (x ≡ n) ⊎ ((P x ⊎ Q x) ⊎ ⊥)) e (λ x i. inr (inl (inl i))) ((p e asked).0 b)
        | inr b ↦ (n, inl refl, (here e).0 (inl b))
      ]
      | inr (inl a) ↦ told_as Q (λ x. (x ≡ n) ⊎ ((P x ⊎ Q x) ⊎ ⊥)) e (λ x i. inr (inl (inr i))) a
      | inr (inr a) ↦ (n, inl refl, (here e).0 (inr a))
    ]),
    (λ (i, holds, at). (q e asked).1 (elim holds [
      | inl same ↦ elim ((here e).1 (subst (λ (z : ℕ). At z e) same at)) [ inl x ↦ inl ((refines e).1 (inr x)) | inr y ↦ inr (inr y) ]
      | inr (inl (inl a)) ↦ inl ((refines e).1 (inl ((p e asked).1 (i, a, at))))
      | inr (inl (inr a)) ↦ inr (inl (i, a, at))
      | inr (inr b) ↦ absurd b
    ])),
  )

  -- an augment that adds tells of its block
  tells_added : (P Q : ℕ → Type 0) (missed bad : List ℕ) (old xs new : List Wrong) → TellsOf P xs → TellsMore (old ++ xs) Q missed bad new → TellsMore old (λ x. P x ⊎ Q x) missed bad new
  tells_added P Q missed bad old xs new p q e asked = (
    (λ h. elim ((q e asked).0 h) [
      | inl a ↦ elim (Contains-append_cases old xs e a) [ inl b ↦ inl b | inr b ↦ inr (inl (told_as P (λ x. P x ⊎ Q x) e (λ x i. inl i) ((p e asked).0 b))) ]
      | inr (inl a) ↦ inr (inl (told_as Q (λ x. P x ⊎ Q x) e (λ x i. inr i) a))
      | inr (inr a) ↦ inr (inr a)
    ]),
    (λ h. (q e asked).1 (elim h [
      | inl a ↦ inl (Contains-append_left old xs e a)
      | inr (inl (i, inl a, at)) ↦ inl (Contains-append_right old xs e ((p e asked).1 (i, a, at)))
      | inr (inl (i, inr a, at)) ↦ inr (inl (i, a, at))
      | inr (inr a) ↦ inr (inr a)
    ])),
  )

  wrong_is : (e : Wrong) (c : Code) (k : ℕ) → e.code ≡ c → k ≡ e.statement → wrong_so c k ≡ e
  wrong_is e c k d same = ap (λ (n : ℕ). wrong_so c n) same ∙ ap (λ (z : Code). wrong_so z e.statement) (sym d)

  -- one that misses is told itself
  tells_missed : (P : ℕ → Type 0) (a : ℕ) (missed bad : List ℕ) (old new : List Wrong) → TellsMore (old ++ wrong_so code.AugmentTarget a ∷ []) P missed bad new
      → TellsMore old P (a ∷ missed) bad new
  tells_missed P a missed bad old new t e asked = (
    (λ h. elim ((t e asked).0 h) [
      | inl x ↦ elim (Contains-push_cases old (wrong_so code.AugmentTarget a) e x) [
        | inl y ↦ inl y
        | inr same ↦ inr (inr (inl (sym (ap (λ (z : Wrong). z.code) same), subst (Contains (a ∷ missed)) (ap (λ (z : Wrong). z.statement) same) (there_first a missed))))
      ]
      | inr (inl x) ↦ inr (inl x)
      | inr (inr (inl (c, x))) ↦ inr (inr (inl (c, there_later a e.statement missed x)))
      | inr (inr (inr x)) ↦ inr (inr (inr x))
    ]),
    (λ h. (t e asked).1 (elim h [
      | inl x ↦ inl (Contains-append_left old (wrong_so code.AugmentTarget a ∷ []) e x)
      | inr (inl x) ↦ inr (inl x)
      | inr (inr (inl (c, x))) ↦ elim (first_or a missed e.statement x) [
        | inl same ↦ inl (subst (Contains (old ++ wrong_so code.AugmentTarget a ∷ [])) (wrong_is e code.AugmentTarget a c same) (Contains-push old (wrong_so code.AugmentTarget a)))
        | inr more ↦ inr (inr (inl (c, more)))
      ]
      | inr (inr (inr x)) ↦ inr (inr (inr x))
    ])),
  )

  -- and one whose target doesn't take its block
  tells_judged : (P : ℕ → Type 0) (t : Bool) (a : ℕ) (there : Forest) (missed bad : List ℕ) (old new : List Wrong)
      → TellsMore (judge t a (record { nodes = there; wrong = old })).wrong P missed bad new → TellsMore old P missed (judged_list t a bad) new
  tells_judged P true a there missed bad old new t e asked = t e asked
  tells_judged P false a there missed bad old new t e asked = (
    (λ h. elim ((t e asked).0 h) [
      | inl x ↦ elim (Contains-push_cases old (wrong_so code.BadAugment a) e x) [
        | inl y ↦ inl y
        | inr same ↦ inr (inr (inr (sym (ap (λ (z : Wrong). z.code) same), subst (Contains (a ∷ bad)) (ap (λ (z : Wrong). z.statement) same) (there_first a bad))))
      ]
      | inr (inl x) ↦ inr (inl x)
      | inr (inr (inl x)) ↦ inr (inr (inl x))
      | inr (inr (inr (c, x))) ↦ inr (inr (inr (c, there_later a e.statement bad x)))
    ]),
    (λ h. (t e asked).1 (elim h [
      | inl x ↦ inl (Contains-append_left old (wrong_so code.BadAugment a ∷ []) e x)
      | inr (inl x) ↦ inr (inl x)
      | inr (inr (inl x)) ↦ inr (inr (inl x))
      | inr (inr (inr (c, x))) ↦ elim (first_or a bad e.statement x) [
        | inl same ↦ inl (subst (Contains (old ++ wrong_so code.BadAugment a ∷ [])) (wrong_is e code.BadAugment a c same) (Contains-push old (wrong_so code.BadAugment a)))
        | inr more ↦ inr (inr (inr (c, more)))
      ]
    ])),
  )

module _ (files : Files) (augments : List ℕ) (many : ℕ) (items : List Item) where
  abbrev w : Whole
  w = whole (map brief_of files) (rows_of files) augments many

  abbrev spots : List Spot
  spots = (layout_of w items).spots

  abbrev labels : List Label
  labels = labels_of spots

  -- what the refines of an item mean, when all items behind it have entered
  abbrev pub refined_by : Option Spot → ℕ → List RefineMeaning
  refined_by None i = []
  refined_by (Some s) i = refined_at w labels s i (end_at items i) (placed_from w labels (layout_of w items).copies (i + 1) (drop (i + 1) spots))

  -- one of the refines of an item is refused
  abbrev pub RefusedAt : ℕ → Wrong → Type 0
  RefusedAt i e = IsAnyRefused files spots (refined_by (slice_get spots i) i) e

  -- one of the augments of an item that is a uses reaches no item in its turn
  abbrev pub UntargetedBy : Option Spot → ℕ → (augment : ℕ) → Type 0
  UntargetedBy None i a = ⊥
  UntargetedBy (Some s) i a =
      (is_uses s.label.kind ≡ true)
      × MissesFrom w labels s (end_at items i) (augments_in w.rows s.statement) s.first (placed_from w labels (layout_of w items).copies (i + 1) (drop (i + 1) spots)) a

  -- one reaches an item that doesn't take its block
  abbrev pub UntakenBy : Option Spot → ℕ → (augment : ℕ) → Type 0
  UntakenBy None i a = ⊥
  UntakenBy (Some s) i a =
      (is_uses s.label.kind ≡ true)
      × ((j : ℕ) × (t : Spot)
      × EndsFrom w labels s (Some j) (end_at items i) (augments_in w.rows s.statement) s.first (placed_from w labels (layout_of w items).copies (i + 1) (drop (i + 1) spots)) a
      × (slice_get spots j ≡ Some t) × (takes_block w.rows a t.label.kind ≡ false))

  abbrev pub OwnAt : ℕ → Wrong → Type 0
  OwnAt i e =
      ((e.code ≡ code.AugmentTarget) × UntargetedBy (slice_get spots i) i e.statement) ⊎ ((e.code ≡ code.BadAugment) × UntakenBy (slice_get spots i) i e.statement)

  -- it is refused at an item
  abbrev pub AskedAt : ℕ → Wrong → Type 0
  AskedAt i e = RefusedAt i e ⊎ OwnAt i e

  -- a block gives nodes, and of it that is refused which is refused at items that it keeps
  abbrev pub Come : Items → {lo hi c e : ℕ} → Block lo hi c e → Forest → List Wrong → Type 0
  Come now block f xs = (C : Comes labels now _ _ _ _ block f) × TellsOf augments AskedAt (λ x. Keeps C x) xs

  -- augments of a uses add to nodes, and of them that is refused which is refused at items that
  -- they keep, or of themselves
  abbrev pub Go : Items → Spot → (adding : List ℕ) → {lo hi c e k own : ℕ} → Augments lo hi c e k own → (m last : Forest) → (old new : List Wrong) → Type 0
  Go now s adding augs m last old new =
      (missed : List ℕ) × (bad : List ℕ) × (G : Goes w labels s now adding _ _ _ _ _ _ augs m last missed bad)
      × TellsMore augments AskedAt old (λ x. KeepsAdded (adds_of w labels s now G) x) missed bad new

  pub come_as : (now : Items) {lo hi c e : ℕ} (block : Block lo hi c e) (f g : Forest) (xs ys : List Wrong) → f ≡ g → xs ≡ ys → Come now block f xs → Come now block g ys
  come_as now block f g xs ys same also C = subst (λ z. Come now block g z) also (subst (λ z. Come now block z xs) same C)

  pub come_same : (its new : Items) → AreAlike its new → {lo hi c e : ℕ} {block : Block lo hi c e} {f : Forest} (xs : List Wrong)
      → ((i : ℕ) → lo ≤ i → i < hi → new.node_of i ≡ its.node_of i) → Come its block f xs → Come new block f xs
  come_same its new are xs same C =
      let d = comes_kept labels its new are same C.0 in
      (d.0, tells_same augments AskedAt (λ x. Keeps C.0 x) (λ x. Keeps d.0 x) xs d.1 C.1)

  pub go_same : (its new : Items) → AreAlike its new → (s : Spot) (adding : List ℕ) {lo hi c e k own : ℕ} {augs : Augments lo hi c e k own} {m last : Forest} (old more : List Wrong)
      → ((i : ℕ) → lo ≤ i → i < hi → new.node_of i ≡ its.node_of i) → Go its s adding augs m last old more → Go new s adding augs m last old more
  go_same its new are s adding old more same A =
      let d = goes_kept w labels s its new are same A.2 in
      (A.0, A.1, d.0, more_same augments AskedAt (λ x. KeepsAdded (adds_of w labels s its A.2) x) (λ x. KeepsAdded (adds_of w labels s new d.0) x) A.0 A.1 old more d.1 A.3)

  pub come_none : (now : Items) {lo c : ℕ} → Come now (block.nothing {lo = lo} {c = c}) nodes.none []
  come_none now = (none_come, λ e of. (λ h. absurd (no_wrong e h), λ (i, holds, at). absurd holds))

  pub go_none : (now : Items) (s : Spot) {lo c k : ℕ} (m : Forest) (xs : List Wrong) → Go now s [] (block.no_augments {lo = lo} {c = c} {k = k}) m m xs xs
  go_none now s m xs = (
    [],
    [],
    all_went,
    λ e asked. (
      λ h. inl h,
      λ h. elim h [
        | inl a ↦ a
        | inr (inl (i, holds, at)) ↦ absurd holds
        | inr (inr (inl (c, x))) ↦ absurd (nothing_stands e.statement x)
        | inr (inr (inr (c, x))) ↦ absurd (nothing_stands e.statement x)
      ],
    ),
  )

  -- one kept more of the first
  moved_in : {A K R B D : Type 0} → (D → R ⊎ B) × (R ⊎ B → D) → (A ⊎ (K ⊎ D) → (A ⊎ (K ⊎ R)) ⊎ B) × ((A ⊎ (K ⊎ R)) ⊎ B → A ⊎ (K ⊎ D))
  moved_in same = (
    (λ h. elim h [
      | inl a ↦ inl (inl a)
      | inr (inl k) ↦ inl (inr (inl k))
      | inr (inr d) ↦ elim (same.0 d) [ inl r ↦ inl (inr (inr r)) | inr b ↦ inr b ]
    ]),
    (λ h. elim h [
      | inl (inl a) ↦ inl a
      | inl (inr (inl k)) ↦ inr (inl k)
      | inl (inr (inr r)) ↦ inr (inr (same.1 (inl r)))
      | inr b ↦ inr (inr (same.1 (inr b)))
    ]),
  )

  forest_assoc : (a b c : Forest) → nodes.join (nodes.join a b) c ≡ nodes.join a (nodes.join b c)
  forest_assoc nodes.none b c = refl
  forest_assoc (node x inner rest) b c = ap (λ z. node x inner z) (forest_assoc rest b c)

  -- blocks give nodes one behind the other
  then_kept : (now : Items) {lo mid hi c d e : ℕ} {a : Block lo mid c d} {b : Block mid hi d e} {f g : Forest} (A : Comes labels now _ _ _ _ a f) (B : Comes labels now _ _ _ _ b g)
      → (D : Comes labels now _ _ _ _ (then_block a b) (nodes.join f g)) × Same (λ x. Keeps D x) (λ x. Keeps A x ⊎ Keeps B x)
  then_kept now none_come B = (B, λ x. (λ h. inr h, λ h. elim h [ inl a ↦ absurd a | inr b ↦ b ]))
  then_kept now (one_node is_node L R) B = (let r = then_kept now R B in (one_node is_node L r.0, λ x. moved_in (r.1 x)))
  then_kept now {b = b} {g = g} (of_uses {lo = lo} {hi = hi} {c = c} {f = f} {mid = mid} {end = end} {own = own} {d = d} {e = e} {copies = copies} {augments = augs} {behind = behind} {given = given} {others = others} no_node M A R) B =
      let r = then_kept now R B in
      subst (λ z. (D : Comes labels now _ _ _ _ (then_block (block.uses {lo = lo} {hi = hi} {c = c} {f = f} mid end own d e copies augs behind) b) z)
      × Same (λ x. Keeps D x) (λ x. ((x ≡ lo) ⊎ ((Keeps M x ⊎ KeepsAdded A x) ⊎ Keeps R x)) ⊎ Keeps B x)) (sym (forest_assoc given others g))
      (of_uses no_node M A r.0, λ x. moved_in (r.1 x))

  pub come_then : (now : Items) {lo mid hi c d e : ℕ} {a : Block lo mid c d} {b : Block mid hi d e} {f g : Forest} (xs ys : List Wrong) → Come now a f xs → Come now b g ys
      → Come now (then_block a b) (nodes.join f g) (xs ++ ys)
  come_then now xs ys A B =
      let d = then_kept now A.0 B.0 in
      (d.0, tells_both augments AskedAt (λ x. Keeps A.0 x) (λ x. Keeps B.0 x) (λ x. Keeps d.0 x) xs ys A.1 B.1 d.1)

  -- at an item that is no uses nothing is refused
  none_at : (n : ℕ) (s : Spot) → slice_get spots n ≡ Some s → is_uses s.label.kind ≡ false → (e : Wrong) → RefusedAt n e → ⊥
  none_at n s at no_uses e h =
      let nothing : refined_by (slice_get spots n) n ≡ [] =
      ap (λ o. refined_by o n) at
      ∙ ap (λ (b : Bool). if b then map (λ k. record { item = n; refine = k; target = node_meant w labels s (end_at items n) k (placed_from w labels (layout_of w items).copies (n + 1) (drop (n + 1) spots)) }) (refines_in w.rows s.statement) else []) no_uses in
      subst (λ xs. IsAnyRefused files spots xs e) nothing h

  pub node_tells : (n : ℕ) (s : Spot) (P : ℕ → Type 0) (xs : List Wrong) → slice_get spots n ≡ Some s → is_uses s.label.kind ≡ false → TellsOf augments AskedAt P xs
      → TellsOf augments AskedAt (λ x. (x ≡ n) ⊎ (P x ⊎ ⊥)) xs
  node_tells n s P xs at no_uses t = tells_node augments AskedAt n P xs (λ e h. elim h [
    | inl a ↦ none_at n s at no_uses e a
    | inr (inl (c, b)) ↦ false≢true (sym no_uses ∙ (subst (λ o. UntargetedBy o n e.statement) at b).0)
    | inr (inr (c, b)) ↦ false≢true (sym no_uses ∙ (subst (λ o. UntakenBy o n e.statement) at b).0)
  ]) t

  pub uses_tell : (n : ℕ) (s : Spot) (P P' Q : ℕ → Type 0) (missed bad : List ℕ) (copied refined given : List Wrong) (list : List RefineMeaning) → slice_get spots n ≡ Some s
      → refined_by (slice_get spots n) n ≡ list → ((a : ℕ) → (Contains missed a → UntargetedBy (Some s) n a) × (UntargetedBy (Some s) n a → Contains missed a))
      → ((a : ℕ) → (Contains bad a → UntakenBy (Some s) n a) × (UntakenBy (Some s) n a → Contains bad a))
      → TellsOf augments AskedAt P copied → Same P' P
      → ((e : Wrong) → (Contains refined e → Contains copied e ⊎ IsAnyRefused files spots list e) × (Contains copied e ⊎ IsAnyRefused files spots list e → Contains refined e))
      → TellsMore augments AskedAt refined Q missed bad given → TellsOf augments AskedAt (λ x. (x ≡ n) ⊎ ((P' x ⊎ Q x) ⊎ ⊥)) given
  uses_tell n s P P' Q missed bad copied refined given list at is reach taken p same refines q =
      tells_uses augments AskedAt n P' Q missed bad copied refined given (λ e. IsAnyRefused files spots list e) (tells_same augments AskedAt P P' copied same p) refines
      (λ e. (
        (λ h. elim h [
          | inl a ↦ inl (subst (λ xs. IsAnyRefused files spots xs e) (sym is) a)
          | inr (inl (c, b)) ↦ inr (inl (c, subst (λ o. UntargetedBy o n e.statement) (sym at) ((reach e.statement).0 b)))
          | inr (inr (c, b)) ↦ inr (inr (c, subst (λ o. UntakenBy o n e.statement) (sym at) ((taken e.statement).0 b)))
        ]),
        (λ h. elim h [
          | inl a ↦ inl (subst (λ xs. IsAnyRefused files spots xs e) is a)
          | inr (inl (c, b)) ↦ inr (inl (c, (reach e.statement).1 (subst (λ o. UntargetedBy o n e.statement) at b)))
          | inr (inr (c, b)) ↦ inr (inr (c, (taken e.statement).1 (subst (λ o. UntakenBy o n e.statement) at b)))
        ]),
      )) q

  pub added_tells : (P Q : ℕ → Type 0) (missed bad : List ℕ) (old xs new : List Wrong) → TellsOf augments AskedAt P xs → TellsMore augments AskedAt (old ++ xs) Q missed bad new
      → TellsMore augments AskedAt old (λ x. P x ⊎ Q x) missed bad new
  added_tells = tells_added augments AskedAt

  pub missed_tells : (P : ℕ → Type 0) (a : ℕ) (missed bad : List ℕ) (old new : List Wrong)
      → TellsMore augments AskedAt (old ++ record { code = code.AugmentTarget; statement = a } ∷ []) P missed bad new → TellsMore augments AskedAt old P (a ∷ missed) bad new
  missed_tells = tells_missed augments AskedAt

  pub judged_tells : (P : ℕ → Type 0) (t : Bool) (a : ℕ) (there : Forest) (missed bad : List ℕ) (old new : List Wrong)
      → TellsMore augments AskedAt (judge t a (record { nodes = there; wrong = old })).wrong P missed bad new → TellsMore augments AskedAt old P missed (judged_list t a bad) new
  judged_tells = tells_judged augments AskedAt
