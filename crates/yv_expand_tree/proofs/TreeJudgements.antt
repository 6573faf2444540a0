-- What is judged of a final tree, by what was read of it.
use Rattle.std.proofs.Common.{◌≡◌, ◌⊎◌, ℕ, ◌-◌, nat_lt, Bool, true, false, if◌then◌else◌, List, [], length, Option, Some, None, inl, inr, refl, sym, ◌∙◌, subst}
use Rattle.std.specs.List.{slice_get}
use Rattle.std.proofs.lemmas.Option.{none-some}
use Rattle.yv_text_statement.specs.Order.{IsLeast, IsLesser}
use Rattle.yv_text_statement.specs.declared.refusal.Refusal.{Refusal}
use Rattle.yv_text_statement.proofs.Least.{least_lesser}
use Rattle.yv_link_scopes.specs.Files.{Files}
use Rattle.yv_link_scopes.specs.RowList.{rows_of}
use Rattle.yv_link_scopes.specs.Rows.{Row}
use Rattle.yv_expand_rounds.specs.Tree.{Tree, none, item}
use Rattle.yv_expand_rounds.specs.declared.row.ItemRow.{ItemRow}
use Rattle.yv_expand_refines.specs.Targets.{RefineMeaning}
use Rattle.yv_expand_augments.specs.Refusals.{BadTarget, TooDeep}
use Rattle.yv_expand_augments.specs.MandatoryNodes.{Around, ImposesMandatory, MarksView, inside, nothing_around}
use Rattle.yv_expand_augments.specs.Placement.{PutsMisplaced}
use Rattle.yv_expand_augments.specs.MissingTargets.{MissesTarget}
use Rattle.yv_expand_uses.specs.Spots.{source_in}
use Rattle.yv_expand_uses.specs.declared.spot.Spot.{Spot}
use Rattle.yv_expand_changes.specs.Refusals.{BadRefines}
use Rattle.yv_expand_changes.specs.Properties.{told_of}
use Rattle.yv_expand_tree.specs.Refusals.{BadAugments, BadStanding}
use Rattle.yv_expand_tree.specs.Final.{Final, refined_of, said_of, spots_of, final_items, whole_of}

pub imposed_same : (rows : List Row) (spots spots' : List Spot) (augments augments' : List ℕ) (told told' : MarksView) (t : Tree) (o : Option Refusal)
    → spots ≡ spots' → augments ≡ augments' → told ≡ told' → IsLeast (ImposesMandatory rows spots augments told None nothing_around t) o
    → IsLeast (ImposesMandatory rows spots' augments' told' None nothing_around t) o
imposed_same rows spots spots' augments augments' told told' t o p q r h =
    subst (λ (x : MarksView). IsLeast (ImposesMandatory rows spots' augments' x None nothing_around t) o) r
    (subst (λ (ks : List ℕ). IsLeast (ImposesMandatory rows spots' ks told None nothing_around t) o) q
    (subst (λ (ss : List Spot). IsLeast (ImposesMandatory rows ss augments told None nothing_around t) o) p h))

abbrev nothing_listed : List ℕ
nothing_listed = []

no_source : (items g : ℕ) → source_in items [] g ≡ None
no_source items g = by_place (nat_lt items g) where
  by_place : (b : Bool) → (if b then slice_get nothing_listed (g - items - 1) else None) ≡ None
  by_place true = refl
  by_place false = refl

-- without augments of modules nothing is imposed
pub none_imposed : (rows : List Row) (spots : List Spot) (told : MarksView) (parent : Option ℕ) (around : Around) (t : Tree) (r : Refusal)
    → ImposesMandatory rows spots [] told parent around t r → ⊥
none_imposed rows spots told parent around none r h = h
none_imposed rows spots told parent around (item i below behind) r (inl (s, node, augment, at, above, source, refuses)) =
    none-some augment (sym (no_source (length spots) s.group) ∙ source)
none_imposed rows spots told parent around (item i below behind) r (inr (inl h)) =
    none_imposed rows spots told (Some i) (inside spots told i around) below r h
none_imposed rows spots told parent around (item i below behind) r (inr (inr h)) = none_imposed rows spots told parent around behind r h

module _ (files : Files) (f : Final) (spots : List Spot) (tree : List ItemRow) (is_spots : spots ≡ spots_of files f) (is_tree : tree ≡ final_items f) where
  pub deep_same : (o : Option Refusal) → IsLeast (TooDeep (rows_of files) spots tree) o → IsLeast (TooDeep (rows_of files) (spots_of files f) (final_items f)) o
  deep_same o h =
      subst (λ (ss : List Spot). IsLeast (TooDeep (rows_of files) ss (final_items f)) o) is_spots
      (subst (λ (t : List ItemRow). IsLeast (TooDeep (rows_of files) spots t) o) is_tree h)

  pub refines_same : (refined : List RefineMeaning) (o : Option Refusal) → refined ≡ refined_of files f → IsLeast (BadRefines files spots refined tree) o
      → IsLeast (BadRefines files (spots_of files f) (refined_of files f) (final_items f)) o
  refines_same refined o is h =
      subst (λ (xs : List RefineMeaning). IsLeast (BadRefines files (spots_of files f) xs (final_items f)) o) is
      (subst (λ (ss : List Spot). IsLeast (BadRefines files ss refined (final_items f)) o) is_spots
      (subst (λ (t : List ItemRow). IsLeast (BadRefines files spots refined t) o) is_tree h))

  pub misplaced_same : (o : Option Refusal) → IsLeast (PutsMisplaced (rows_of files) spots tree) o → IsLeast (PutsMisplaced (rows_of files) (spots_of files f) (final_items f)) o
  misplaced_same o h =
      subst (λ (ss : List Spot). IsLeast (PutsMisplaced (rows_of files) ss (final_items f)) o) is_spots
      (subst (λ (t : List ItemRow). IsLeast (PutsMisplaced (rows_of files) spots t) o) is_tree h)

  pub untargeted_same : (o : Option Refusal) → IsLeast (MissesTarget (whole_of files f) f.items tree) o
      → IsLeast (MissesTarget (whole_of files f) f.items (final_items f)) o
  untargeted_same o h = subst (λ (t : List ItemRow). IsLeast (MissesTarget (whole_of files f) f.items t) o) is_tree h

module _ (files : Files) (f : Final) where
  abbrev Deep : Refusal → Type 0
  Deep r = TooDeep (rows_of files) (spots_of files f) (final_items f) r

  abbrev Refine : Refusal → Type 0
  Refine r = BadRefines files (spots_of files f) (refined_of files f) (final_items f) r

  abbrev Missing : Refusal → Type 0
  Missing r = BadTarget (whole_of files f) f.items f.state r

  abbrev Unreached : Refusal → Type 0
  Unreached r = MissesTarget (whole_of files f) f.items (final_items f) r

  abbrev Amiss : Refusal → Type 0
  Amiss r = PutsMisplaced (rows_of files) (spots_of files f) (final_items f) r

  abbrev Weighty : Refusal → Type 0
  Weighty r = ImposesMandatory (rows_of files) (spots_of files f) f.augments (told_of (said_of files f)) None nothing_around f.tree r

  -- the lesser of all is the least of what is wrong
  pub least_standing : (deep refine missing unreached amiss weighty a b c d e : Option Refusal) → IsLesser missing unreached a → IsLesser amiss weighty b
      → IsLesser a b c → IsLesser refine c d → IsLesser deep d e → IsLeast Deep deep → IsLeast Refine refine → IsLeast Missing missing
      → IsLeast Unreached unreached → IsLeast Amiss amiss → IsLeast Weighty weighty → IsLeast (BadStanding files f) e
  least_standing deep refine missing unreached amiss weighty a b c d e la lb lc ld le p q r s t u =
      let first : IsLeast (λ x. Missing x ⊎ Unreached x) a = least_lesser Missing Unreached missing unreached a la r s in
      let second : IsLeast (λ x. Amiss x ⊎ Weighty x) b = least_lesser Amiss Weighty amiss weighty b lb t u in
      let augments : IsLeast (BadAugments files f) c = least_lesser (λ x. Missing x ⊎ Unreached x) (λ x. Amiss x ⊎ Weighty x) a b c lc first second in
      let below : IsLeast (λ x. Refine x ⊎ BadAugments files f x) d = least_lesser Refine (BadAugments files f) refine c d ld q augments in
      least_lesser Deep (λ x. Refine x ⊎ BadAugments files f x) deep d e le p below
