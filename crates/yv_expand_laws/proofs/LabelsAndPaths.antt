-- What is told of the items of an expansion: labels and paths.
use Rattle.std.proofs.Common.{◌≡◌, ◌↔◌, ℕ, zero, suc, ◌+◌, ◌*◌, ◌<◌, ◌≤◌, ◌==◌, ◌&&◌, Bool, true, false, if◌then◌else◌, List, [], ◌∷◌, ◌++◌, length, map, length-append, append_assoc, refl, sym, ◌∙◌, ap, subst, arith, eqb-true, eq-eqb, Option, Some, None}
use Rattle.std.specs.List.{slice_get}
use Rattle.std.specs.Option.{is_some, option_and_then, option_map, unwrap_or}
use Rattle.std.specs.Str.{bytes_eq}
use Rattle.std.proofs.lemmas.Bool.{false≢true}
use Rattle.std.proofs.lemmas.List.{append-nil}
use Rattle.std.proofs.lemmas.Option.{same_Some, slice_get-map, slice_get_within}
use Rattle.std.proofs.lemmas.Slice.Eq.{bytes_eq-Decides}
use Rattle.yv_link_scopes.specs.Files.{Files, brief_of}
use Rattle.yv_link_scopes.specs.RowList.{rows_of}
use Rattle.yv_link_scopes.specs.Names.{local_of}
use Rattle.yv_link_scopes.specs.Rows.{Row, name_in}
use Rattle.yv_expand_statements.specs.Names.{node_name}
use Rattle.yv_expand_paths.specs.InnerNameNumbers.{qualified_name}
use Rattle.yv_expand_paths.specs.InnerNameNumbers as name_numbers
use Rattle.yv_expand_statements.specs.Paths.{module_file_of, steps_of}
use Rattle.yv_expand_paths.specs.InnerSteps.{path_at, step_number, step_of}
use Rattle.yv_expand_paths.specs.declared.step.SchemaStep.{SchemaStep as NumberedStep}
use Rattle.yv_expand_paths.proofs.StepNumbers.{input_there, number_there, number_within, output_there, step_is}
use Rattle.yv_expand_statements.specs.Origin.{number_of}
use Rattle.yv_expand.specs.Tree.{Item}
use Rattle.yv_expand_statements.specs.declared.origin.Origin.{Origin}
use Rattle.yv_expand_statements.specs.declared.origin.Origin.TheVariants.{Statement, Input, Output}
use Rattle.yv_expand_rounds.specs.declared.label.Label.{Label}
use Rattle.yv_expand_rounds.specs.Labels.{is_named, is_some_named}
use Rattle.yv_expand_statements.specs.Kinds as kinds_are
use Rattle.yv_expand_uses.specs.Paths.{step_name}
use Rattle.yv_expand_uses.specs.Kinds.{label_of, name_number}
use Rattle.yv_expand_uses.specs.Spots.{LayoutView, Whole, source_in, labels_of, layout_of, laid_from, one_more, spot_of, whole}
use Rattle.yv_expand_uses.specs.declared.spot.Spot.{Spot}
use Rattle.yv_expand_definition.specs.Paths.{Step, answers, is_module_file, path_of}
use Rattle.yv_expand_laws.specs.Shows.{Agree, Items}
use Rattle.yv_expand_laws.specs.ItemProperties.{AreItems, HaveStatements, LabelsTell, PathsAgree, is_some_node, name_at, name_of}
use Rattle.yv_expand_laws.proofs.FoundItems.{not_none}
use Rattle.yv_expand_laws.proofs.LaidBlocks.{last_at, still_at}

-- what is laid is laid behind what is there
pub laid_grows : (w : Whole) (items : List Item) (l : LayoutView) → (new : List Spot) × ((laid_from w items l).spots ≡ l.spots ++ new) × (length new ≡ length items)
laid_grows w [] l = ([], sym (append-nil l.spots), refl)
laid_grows w (x ∷ xs) l =
    let s : Spot = spot_of w l.spots l.copies x in
    let r = laid_grows w xs (one_more w x l) in
    (s ∷ r.0, r.1 ∙ append_assoc l.spots (s ∷ []) r.0, (let e = r.2 in omega (arith, e)))

-- what a spot tells of its item
pub record SpotTells (w : Whole) (x : Item) (s : Spot) : Type 0 where
  pub statement : s.statement ≡ number_of x.origin
  pub label : s.label ≡ label_of w.rows s.module_file x.origin (is_some (source_in w.items w.augments s.group))

spots_tell : (w : Whole) (items : List Item) (l : LayoutView) (n i : ℕ) (s : Spot) (x : Item) → length l.spots ≡ n → slice_get (laid_from w items l).spots (n + i) ≡ Some s → slice_get items i ≡ Some x
    → SpotTells w x s
spots_tell w [] l n i s x long at of = absurd (not_none of)
spots_tell w (y ∷ xs) l n zero s x long at of =
    let t : Spot = spot_of w l.spots l.copies y in
    let r = laid_grows w xs (one_more w y l) in
    let more = length-append l.spots (t ∷ []) in
    let here : Some t ≡ Some s =
    sym (last_at l.spots t n long) ∙ (sym (still_at (l.spots ++ t ∷ []) r.0 n (omega (arith, more, long)))
    ∙ (ap (λ z. slice_get z n) (sym r.1) ∙ (ap (slice_get (laid_from w xs (one_more w y l)).spots) (let e : n ≡ n + 0 = omega arith in e) ∙ at))) in
    subst (λ z. SpotTells w x z) (same_Some t s here)
    (subst (λ z. SpotTells w z t) (same_Some y x of) (record { statement = refl; label = refl }))
spots_tell w (y ∷ xs) l n (suc i) s x long at of =
    spots_tell w xs (one_more w y l) (n + 1) i s x (let e = length-append l.spots (spot_of w l.spots l.copies y ∷ []) in omega (arith, e, long))
    (ap (slice_get (laid_from w xs (one_more w y l)).spots) (let e : n + 1 + i ≡ n + suc i = omega arith in e) ∙ at) of

pub there_is : {A : Type 0} (xs : List A) (i : ℕ) → i < length xs → (x : A) × (slice_get xs i ≡ Some x)
there_is [] i l = absurd (omega (arith, l))
there_is (x ∷ xs) zero l = (x, refl)
there_is (x ∷ xs) (suc i) l = there_is xs i (omega (arith, l))

pub told_at : (w : Whole) (items : List Item) (i : ℕ) (s : Spot) → slice_get (layout_of w items).spots i ≡ Some s → (x : Item) × (slice_get items i ≡ Some x) × SpotTells w x s
unfolding layout_of
told_at w items i s at =
    let l : LayoutView = record { spots = []; copies = length w.augments } in
    let r = laid_grows w items l in
    let long : length (laid_from w items l).spots ≡ length items = ap length r.1 ∙ r.2 in
    let within = slice_get_within (laid_from w items l).spots i s at in
    let x = there_is items i (omega (arith, within, long)) in
    (x.0, x.1, spots_tell w items l 0 i s x.0 refl (ap (slice_get (laid_from w items l).spots) (let e : 0 + i ≡ i = omega arith in e) ∙ at) x.1)

-- a label is that of a spot
label_at : (spots : List Spot) (i : ℕ) (l : Label) → slice_get (labels_of spots) i ≡ Some l → (s : Spot) × (slice_get spots i ≡ Some s) × (s.label ≡ l)
label_at spots i l at = by (slice_get spots i) refl
  where
    by : (o : Option Spot) → slice_get spots i ≡ o → (s : Spot) × (slice_get spots i ≡ Some s) × (s.label ≡ l)
    by None is = absurd (not_none (sym (slice_get-map (λ (s : Spot). s.label) spots i ∙ ap (option_map (λ (s : Spot). s.label)) is) ∙ at))
    by (Some s) is = (s, is, same_Some s.label l (sym (slice_get-map (λ (s : Spot). s.label) spots i ∙ ap (option_map (λ (s : Spot). s.label)) is) ∙ at))

pub labels_tell : (w : Whole) (items : List Item) (its : Items) → LabelsTell w items its
labels_tell w items its are = record {
  given = are.given;
  node = λ i l at. are.node i ∙ ap is_some_node at;
  within = λ i is. within i (slice_get (labels_of (layout_of w items).spots) i) refl (sym (are.node i) ∙ is);
}
  where
    within : (i : ℕ) (o : Option Label) → slice_get (labels_of (layout_of w items).spots) i ≡ o → is_some_node (slice_get (labels_of (layout_of w items).spots) i) ≡ true
        → (l : Label) × (slice_get (labels_of (layout_of w items).spots) i ≡ Some l) × (l.kind ≡ (its.node_of i).kind)
    within i None at is = absurd (false≢true (sym (ap is_some_node at) ∙ is))
    within i (Some l) at is =
        (let s = label_at (layout_of w items).spots i l at in (l, at, ap (λ (z : Label). z.kind) (sym s.2) ∙ sym (are.kind i s.0 s.1)))

same_truth : (a b : Bool) → (a ≡ true → b ≡ true) → (b ≡ true → a ≡ true) → a ≡ b
same_truth true true p q = refl
same_truth false false p q = refl
same_truth true false p q = sym (p refl)
same_truth false true p q = q refl

both_are : (a b : Bool) → (a && b) ≡ true → (a ≡ true) × (b ≡ true)
both_are true b h = (refl, h)
both_are false b h = absurd (false≢true h)

module_file_is : (o : Option ℕ) (h : ℕ) → is_module_file o h ≡ true → o ≡ Some h
module_file_is None h is = absurd (false≢true is)
module_file_is (Some m) h is = ap (λ (z : ℕ). Some z) (eqb-true m h is)

module _ (files : Files) (few : length (rows_of files) ≤ 4294967293) where
  -- a step by number is the name of those nodes that answer it
  step_agrees : (file own module_file : ℕ) (text name : List ℕ) (number : ℕ) → name_numbers.number_of (rows_of files) name ≡ Some number
      → (qualified_name module_file number == step_name own (step_of (map brief_of files) (rows_of files) file text)) ≡ (is_module_file (module_file_of (map brief_of files) (rows_of files) file own text) module_file && bytes_eq (local_of text) name)
  step_agrees file own module_file text name number numbered =
      same_truth (qualified_name module_file number == step_name own (step_of (map brief_of files) (rows_of files) file text)) (is_module_file (module_file_of (map brief_of files) (rows_of files) file own text) module_file && bytes_eq (local_of text) name)
      (λ h. to (step_of (map brief_of files) (rows_of files) file text) refl (eqb-true (qualified_name module_file number) (step_name own (step_of (map brief_of files) (rows_of files) file text)) h)) from
    where
      law : (option_map (step_number own) (step_of (map brief_of files) (rows_of files) file text) ≡ Some (qualified_name module_file number))
          ↔ ((module_file_of (map brief_of files) (rows_of files) file own text ≡ Some module_file) × (local_of text ≡ name))
      law = step_is (map brief_of files) (rows_of files) file own module_file few text name number numbered

      to : (o : Option NumberedStep) → step_of (map brief_of files) (rows_of files) file text ≡ o → qualified_name module_file number ≡ step_name own (step_of (map brief_of files) (rows_of files) file text)
          → (is_module_file (module_file_of (map brief_of files) (rows_of files) file own text) module_file && bytes_eq (local_of text) name) ≡ true
      to None is h =
          (let bad : module_file * 4294967296 + number ≡ 4294967295 = h ∙ ap (step_name own) is in let less = number_within (rows_of files) name number numbered in absurd (omega (arith, bad, less, few)))
      to (Some s) is h =
          let both = law.0 (ap (option_map (step_number own)) is ∙ ap (λ (z : ℕ). Some z) (sym (h ∙ ap (step_name own) is))) in
          ap (λ o. is_module_file o module_file && bytes_eq (local_of text) name) both.0
          ∙ (ap (λ (b : Bool). b && bytes_eq (local_of text) name) (eq-eqb module_file module_file refl) ∙ (bytes_eq-Decides (local_of text) name).1 both.1)

      from : (is_module_file (module_file_of (map brief_of files) (rows_of files) file own text) module_file && bytes_eq (local_of text) name) ≡ true
          → (qualified_name module_file number == step_name own (step_of (map brief_of files) (rows_of files) file text)) ≡ true
      from h =
          let both = both_are (is_module_file (module_file_of (map brief_of files) (rows_of files) file own text) module_file) (bytes_eq (local_of text) name) h in
          by (step_of (map brief_of files) (rows_of files) file text) refl (law.1 (module_file_is (module_file_of (map brief_of files) (rows_of files) file own text) module_file both.0, (bytes_eq-Decides (local_of text) name).0 both.1))
        where
          by : (o : Option NumberedStep) → step_of (map brief_of files) (rows_of files) file text ≡ o → option_map (step_number own) (step_of (map brief_of files) (rows_of files) file text) ≡ Some (qualified_name module_file number)
              → (qualified_name module_file number == step_name own (step_of (map brief_of files) (rows_of files) file text)) ≡ true
          by None is e = absurd (not_none (ap (option_map (step_number own)) (sym is) ∙ e))
          by (Some s) is e =
              eq-eqb (qualified_name module_file number) (step_name own (step_of (map brief_of files) (rows_of files) file text))
              (sym (same_Some (step_number own s) (qualified_name module_file number) (ap (option_map (step_number own)) (sym is) ∙ e)) ∙ ap (step_name own) (sym is))

  -- the number of an item's name
  name_there : (o : Origin) → number_of o < length (rows_of files) → (n : ℕ) × (name_number (rows_of files) o ≡ Some n) × (name_numbers.number_of (rows_of files) (name_of (rows_of files) o) ≡ Some n)
  name_there (Input k) l = (let x = input_there (rows_of files) in (x.0, x.1, x.1))
  name_there (Output k) l = (let x = output_there (rows_of files) in (x.0, x.1, x.1))
  name_there (Statement k) l =
      let x = number_there (rows_of files) k l in
      let r = there_is (rows_of files) k l in
      (x.0, x.1, ap (λ o. name_numbers.number_of (rows_of files) (name_at o)) r.1 ∙ (sym (ap (option_and_then (λ (z : Row). name_numbers.number_of (rows_of files) (node_name z.head))) r.1) ∙ x.1))

module _ (files : Files) (few : length (rows_of files) ≤ 4294967293) (augments : List ℕ) (count : ℕ) (items : List Item) (have : HaveStatements (rows_of files) items) (its : Items)
    (are : AreItems (whole (map brief_of files) (rows_of files) augments count) items its) where
  abbrev w : Whole
  w = whole (map brief_of files) (rows_of files) augments count

  abbrev step : (file module_file : ℕ) → List ℕ → Step
  step file module_file text = record { module_file = module_file_of (map brief_of files) (rows_of files) file module_file text; name = local_of text }

  abbrev number : (file module_file : ℕ) → List ℕ → ℕ
  number file module_file text = step_name module_file (step_of (map brief_of files) (rows_of files) file text)

  one_agrees : (file module_file : ℕ) (text : List ℕ) (i : ℕ) → is_named (labels_of (layout_of w items).spots) (number file module_file text) i ≡ (its.is_node i && answers (step file module_file text) (its.node_of i))
  one_agrees file module_file text i = by (slice_get (labels_of (layout_of w items).spots) i) refl
    where
      by : (o : Option Label) → slice_get (labels_of (layout_of w items).spots) i ≡ o
          → is_named (labels_of (layout_of w items).spots) (number file module_file text) i ≡ (its.is_node i && answers (step file module_file text) (its.node_of i))
      by None at = ap (is_some_named (number file module_file text)) at ∙ sym (ap (λ (b : Bool). b && answers (step file module_file text) (its.node_of i)) (are.node i ∙ ap is_some_node at))
      by (Some l) at =
          let s = label_at (layout_of w items).spots i l at in
          let x = told_at w items i s.0 s.1 in
          let n = name_there files few x.0.origin (have i x.0 x.1) in
          let name : l.name ≡ qualified_name s.0.module_file n.0 =
          ap (λ (z : Label). z.name) (sym s.2 ∙ x.2.label) ∙ ap (λ o. qualified_name s.0.module_file (unwrap_or o 0)) n.1 in
          let agree = step_agrees files few file module_file s.0.module_file text (name_of (rows_of files) x.0.origin) n.0 n.2 in
          let shown : answers (step file module_file text) (its.node_of i)
          ≡ (is_module_file (module_file_of (map brief_of files) (rows_of files) file module_file text) s.0.module_file && bytes_eq (local_of text) (name_of (rows_of files) x.0.origin)) =
          ap (λ (h : ℕ). is_module_file (module_file_of (map brief_of files) (rows_of files) file module_file text) h && bytes_eq (local_of text) (its.node_of i).name) (are.module_file i s.0 s.1)
          ∙ ap (λ z. is_module_file (module_file_of (map brief_of files) (rows_of files) file module_file text) s.0.module_file && bytes_eq (local_of text) z) (are.name i x.0 x.1) in
          ap (is_some_named (number file module_file text)) at
          ∙ (ap (λ (b : Bool). kinds_are.is_node l.kind && b) (ap (λ (z : ℕ). z == number file module_file text) name ∙ (agree ∙ sym shown))
          ∙ ap (λ (b : Bool). b && answers (step file module_file text) (its.node_of i)) (sym (are.node i ∙ ap is_some_node at)))

  all_agree : (file module_file : ℕ) (texts : List (List ℕ)) → Agree (labels_of (layout_of w items).spots) its (map (step_name module_file) (map (step_of (map brief_of files) (rows_of files) file) texts)) (map (step file module_file) texts)
  all_agree file module_file [] = tt
  all_agree file module_file (text ∷ texts) = (one_agrees file module_file text, all_agree file module_file texts)

pub paths_agree : (files : Files) (augments : List ℕ) (count : ℕ) (items : List Item) (its : Items) → PathsAgree files augments count items its
paths_agree files augments count items its module_file k r few have are at path =
    subst (λ z. Agree (labels_of (layout_of (whole (map brief_of files) (rows_of files) augments count) items).spots) its z (path_of files module_file r))
    (sym (ap (λ o. map (step_name module_file) (path_at (map brief_of files) (rows_of files) o)) at
    ∙ ap (λ (b : Bool). map (step_name module_file) (if b then map (step_of (map brief_of files) (rows_of files) r.file) (steps_of (name_in r)) else [])) path))
    (all_agree files few augments count items have its are r.file module_file (steps_of (name_in r)))

pub laid_many : (w : Whole) (items : List Item) → length (layout_of w items).spots ≡ length items
unfolding layout_of
laid_many w items = (let r = laid_grows w items (record { spots = []; copies = length w.augments }) in ap length r.1 ∙ r.2)
