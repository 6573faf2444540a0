-- What is refused of refines and of augments of uses is refused at items of the final tree.
use Rattle.std.proofs.Common.{inl, inr, ◌≡◌, ℕ, zero, suc, ◌+◌, ◌<◌, Bool, List, length, map, None, Some, refl, sym, subst, arith}
use Rattle.yv_link_scopes.specs.Files.{Files, brief_of}
use Rattle.yv_link_scopes.specs.RowList.{rows_of}
use Rattle.yv_expand.specs.Tree.{Item, all_of, count}
use Rattle.yv_expand.specs.Expansion.{IsWhole}
use Rattle.yv_expand_statements.specs.StatementBlocks.{augments_of}
use Rattle.yv_expand_rounds.specs.declared.label.Label.{Label}
use Rattle.yv_expand_rounds.specs.Groups.{group_of_augment}
use Rattle.yv_expand_rounds.specs.Tree.{IsTree, Tree, tree_list}
use Rattle.yv_expand_rounds.specs.Turns.{State, target_of}
use Rattle.yv_expand_augments.specs.Augmentation.{AreAugmented}
use Rattle.yv_expand_uses.specs.Spots.{Whole}
use Rattle.yv_expand_changes.specs.Refusals.{IsThere}
use Rattle.yv_expand_definition.specs.Expansion.{Expand, Tops}
use Rattle.yv_expand_definition.specs.Gives.{Product, Wrong}
use Rattle.yv_expand_definition.specs.Nodes.{Forest}
use Rattle.yv_expand_definition.proofs.GivenNodeUniqueness.{RefersToOne}
use Rattle.yv_expand_laws.specs.Blocks.{Augments, augment, no_augments}
use Rattle.yv_expand_laws.specs.Comes.{Comes}
use Rattle.yv_expand_laws.specs.Files.{AreGiven, ShowFiles, expansion_of, labels_in}
use Rattle.yv_expand_laws.specs.Marks.{mark_of}
use Rattle.yv_expand_laws.specs.Shows.{Items}
use Rattle.yv_expand_laws.specs.Under.{AllStand, FinalStands, Keeps, Under}
use Rattle.yv_expand_laws.proofs.FileBlocks.{Begins}
use Rattle.yv_expand_laws.proofs.LaterItems.{are, low}
use Rattle.yv_expand_laws.proofs.Modules.{MadeAt, at_first, begins, facts, start_is, ungiven, within}
use Rattle.yv_expand_laws.proofs.BlockRefusals.{AskedAt, TellsOf, tells_same}
use Rattle.yv_expand_laws.proofs.InitialBlocks.{beginning_stands}
use Rattle.yv_expand_laws.proofs.Tops.{AllCome}
use Rattle.yv_expand_laws.proofs.Whole.{applied_gives, asked_refused}

module _ (files : Files) (marks : List Bool) (order : List ℕ) (own : ℕ) (items : List Item) (its : Items) (given : AreGiven files marks order) (expanded : IsWhole files marks order own items)
    (tells : ShowFiles files marks items its) (one_meant : RefersToOne files) where
  abbrev augments_here : List ℕ
  augments_here = augments_of (map brief_of files) (rows_of files) marks

  abbrev w_here : Whole
  w_here = expansion_of files marks items

  abbrev labels_here : List Label
  labels_here = labels_in files marks items

  abbrev bare : Items
  bare = ungiven its

  abbrev Made_at : ℕ → Product → Type 0
  Made_at = MadeAt files marks order own items its given expanded tells

  abbrev B : Begins files augments_here (length items) items (ungiven its) (facts files marks order own items its given expanded tells) refl
      (MadeAt files marks order own items its given expanded tells) order expanded.added (count (all_of expanded.trees))
  B = begins files marks order own items its given expanded tells one_meant

  abbrev st : State
  st = at_first files marks order own items its given expanded tells one_meant

  abbrev At : ℕ → Wrong → Type 0
  At = AskedAt files augments_here (length items) items

  -- what stands there before any augment of a module has its turn is what the blocks keep
  stands : ((f : Forest) (comes : Comes labels_here bare _ _ _ _ B.front f) (x : ℕ) → (Under st.groups 0 x → Keeps comes x) × (Keeps comes x → Under st.groups 0 x))
      × AllStand labels_here bare st B.augs
  stands =
      beginning_stands labels_here bare (mark_of w_here) (are files augments_here (length items) items bare (facts files marks order own items its given expanded tells) refl)
      (low files augments_here (length items) items bare (facts files marks order own items its given expanded tells) refl) (count (all_of expanded.trees)) (length items) B.last_own B.last
      (length augments_here) B.front B.augs (within files marks order own items its given expanded tells one_meant) B.marked B.all_marked

  own_told : (m : Product) → Tops files order m → TellsOf augments_here At (λ x. Under st.groups 0 x) m.wrong
  own_told m T = (let C = B.top m T in tells_same augments_here At (λ x. Keeps C.0 x) (λ x. Under st.groups 0 x) m.wrong (λ x. stands.0 m.nodes C.0 x) C.1)

  block_told : {lo hi c e k last : ℕ} (augs : Augments lo hi c e k last) → AllCome files augments_here (length items) items bare Made_at augs → AllStand labels_here bare st augs
      → (p : ℕ) → k + p < last → (m : Product) → Made_at (k + p) m → TellsOf augments_here At (λ x. Under st.groups (group_of_augment labels_here (k + p)) x) m.wrong
  block_told no_augments come stand p less m made = absurd (omega (arith, less))
  block_told {k = k} (augment mid d names block others) (comes, come) (stand, rest) zero less m made =
      let same : k ≡ k + 0 = omega arith in
      let C = comes m (subst (λ (n : ℕ). Made_at n m) (sym same) made) in
      subst (λ (n : ℕ). TellsOf augments_here At (λ x. Under st.groups (group_of_augment labels_here n) x) m.wrong) same
      (tells_same augments_here At (λ x. Keeps C.0 x) (λ x. Under st.groups (group_of_augment labels_here k) x) m.wrong (λ x. stand m.nodes C.0 x) C.1)
  block_told {k = k} (augment mid d names block others) (comes, come) (stand, rest) (suc p) less m made =
      let same : k + 1 + p ≡ k + suc p = omega arith in
      subst (λ (n : ℕ). TellsOf augments_here At (λ x. Under st.groups (group_of_augment labels_here n) x) m.wrong) same
      (block_told others come rest p (omega (arith, less)) m (subst (λ (n : ℕ). Made_at n m) (sym same) made))

  -- of refines and of augments of uses that is refused which is refused at items of the final tree
  pub asked_joined : FinalStands → (m : Product) (new : State) (t : Tree) → Expand files marks order m → AreAugmented w_here items new → IsTree labels_here new.groups t
      → TellsOf augments_here At (λ x. IsThere (tree_list None 1 t) x) m.wrong
  asked_joined final m new t E grafted tree e of =
      let known = asked_refused files marks order own items its given expanded tells one_meant m new E grafted e of in
      let own_known = own_told E.own E.tops e of in
      let start = start_is files marks order own items its given expanded tells one_meant in
      let apart : (k : ℕ) → 0 + k ≡ k = λ k. (let e : 0 + k ≡ k = omega arith in e) in
      let in_block : (k : ℕ) (made : Product) → k < length augments_here → Made_at k made → TellsOf augments_here At (λ x. Under st.groups (group_of_augment labels_here k) x) made.wrong =
      λ k made less at. subst (λ (n : ℕ). TellsOf augments_here At (λ x. Under st.groups (group_of_augment labels_here n) x) made.wrong) (apart k)
      (block_told B.augs B.blocks stands.1 k (omega (arith, less)) made (subst (λ (n : ℕ). Made_at n made) (sym (apart k)) at)) in (
        (λ h. elim (known.0 h) [
          | inl x ↦
              let r = own_known.0 x in
              (r.0, (final w_here items new t r.0 refl grafted tree).1 (inl (subst (λ (s : State). Under s.groups 0 r.0) (sym start) r.1)), r.2)
          | inr (k, (less, (i, refine_targets)), (a, module_file, made, at, module_file_is, G, x)) ↦
              let r = (in_block k made less (a, module_file, at, module_file_is, G) e of).0 x in (
                r.0,
                (final w_here items new t r.0 refl grafted tree).1 (inr (record {
                  place = k;
                  less = less;
                  target = i;
                  adds = refine_targets;
                  stands = subst (λ (s : State). Under s.groups (group_of_augment labels_here k) r.0) (sym start) r.1;
                })),
                r.2,
              )
        ]),
        (λ (x, there, refused). known.1 (elim ((final w_here items new t x refl grafted tree).0 there) [
          | inl u ↦ inl (own_known.1 (x, subst (λ (s : State). Under s.groups 0 x) start u, refused))
          | inr added ↦
              let applied : (added.place < length augments_here) × ((i : ℕ) × (target_of labels_here new.ends added.place ≡ Some i)) = (added.less, (added.target, added.adds)) in
              let (f, (a, module_file, made, at, module_file_is, G, is)) = applied_gives files marks order own items its given expanded tells one_meant m new E grafted added.place applied in
              let wrong = (in_block added.place made added.less (a, module_file, at, module_file_is, G) e of).1
              (x, subst (λ (s : State). Under s.groups (group_of_augment labels_here added.place) x) start added.stands, refused) in
              inr (added.place, applied, (a, module_file, made, at, module_file_is, G, wrong))
        ])),
      )
