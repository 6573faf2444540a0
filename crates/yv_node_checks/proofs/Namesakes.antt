-- Nodes that are known to have a name, by the default cases of earlier nodes.
use Rattle.std.proofs.Common.{◌≡◌, ◌==◌, ℕ, ◌+◌, ◌<◌, Bool, true, false, ◌&&◌, cond, List, [], ◌∷◌, ◌++◌, Option, Some, None, get_or, length, length-append, below_more, refl, sym, ap, ◌∙◌, subst, arith}
use Rattle.std.specs.List.{find, slice_get}
use Rattle.std.specs.Str.{bytes_eq}
use Rattle.std.proofs.lemmas.List.{get_or_append_left, get_or_at}
use Rattle.std.proofs.lemmas.Option.{get_or_from_slice_get, same_Some, slice_get-get_or, slice_get_within}
use Rattle.std.proofs.lemmas.Slice.Eq.{bytes_eq-Decides}
use Rattle.yv_node_content.specs.Definition.{own_default}
use Rattle.yv_text_statement.specs.TextInFile.{TextInFile}
use Rattle.yv_nodes.specs.declared.node.NodeId.{NodeId}
use Rattle.yv_nodes.specs.Alike.{untyped_at}
use Rattle.yv_nodes.specs.Rows.{Row, blank_row}
use Rattle.yv_node_checks.specs.InnerBelow.{case_among, is_named_at, is_some_named}
use Rattle.yv_node_checks.specs.InnerNamesakes.{AreCases, NamesDefault, case_at}
use Rattle.yv_nodes.specs.InnerNamesakes.{HasName, HaveName}

-- what is found passes
found_passes : {A : Type 0} (p : A → Bool) (xs : List A) (x : A) → find p xs ≡ Some x → p x ≡ true
found_passes p [] x e = absurd (let bad : None ≡ Some x = e in cc)
found_passes {A} p (y ∷ ys) x e = by (found_passes p ys x) (p y) refl e
  where
    by : (find p ys ≡ Some x → p x ≡ true) → (b : Bool) → p y ≡ b → cond b (Some y) (find p ys) ≡ Some x → p x ≡ true
    by others true here e = subst (λ (z : A). p z ≡ true) (same_Some y x e) here
    by others false here e = others e

both_true : (a b : Bool) → (a && b) ≡ true → b ≡ true
both_true true b e = e
both_true false b e = absurd (let bad : false ≡ true = e in cc)

-- a node that is named so has the name
named : (rows : List Row) (module_file : ℕ) (name : List ℕ) (n : NodeId) → is_named_at rows module_file name n ≡ true → HasName rows name n.0
named rows module_file name n e = by (slice_get rows n.0) refl e
  where
    by : (o : Option Row) → slice_get rows n.0 ≡ o → is_some_named o module_file name ≡ true → HasName rows name n.0
    by None at e = absurd (let bad : false ≡ true = e in cc)
    by (Some r) at e = record {
      within = slice_get_within rows n.0 r at;
      is = ap (λ (x : Row). x.label.defined.name) (get_or_from_slice_get rows n.0 r blank_row at)
          ∙ (bytes_eq-Decides r.label.defined.name name).0 (both_true (r.label.module_file == module_file) (bytes_eq r.label.defined.name name) e);
    }

-- the case that is known of an earlier node has the name of its default
pub case_named : (rows : List Row) (first next : ℕ) (cases : List (Option NodeId)) → AreCases rows cases → untyped_at rows first ≡ untyped_at rows next
    → (kept : Option NodeId) → ((case : NodeId) → kept ≡ Some case → slice_get cases first ≡ Some (Some case)) → NamesDefault rows (own_default (untyped_at rows next)) kept
case_named rows first next cases are same None there = λ written says. tt
case_named rows first next cases are same (Some case) there = λ written says.
    let said : own_default (untyped_at rows first) ≡ Some written = ap own_default same ∙ says in
    let found : case_at rows first ≡ Some case = are first case (there case refl) in
    let r : Row = get_or rows first blank_row in
    named rows r.label.module_file written.text case
    (found_passes (is_named_at rows r.label.module_file written.text) r.children case (sym (ap (λ (o : Option TextInFile). case_among rows r.label.module_file o r.children) said) ∙ found))

-- one case more
pub cases_more : (rows : List Row) (cases new : List (Option NodeId)) (n : ℕ) (one : Option NodeId) → length cases ≡ n → AreCases rows cases → one ≡ case_at rows n → new ≡ cases ++ one ∷ []
    → AreCases rows new
cases_more rows cases new n one long are is grown = λ k case at.
    let now : slice_get (cases ++ one ∷ []) k ≡ Some (Some case) = ap (λ (cs : List (Option NodeId)). slice_get cs k) (sym grown) ∙ at in
    let P : ℕ → Type 0 = λ k. slice_get (cases ++ one ∷ []) k ≡ Some (Some case) → case_at rows k ≡ Some case in
    let last : P (length cases) = λ e. ap (case_at rows) long ∙ sym is ∙ same_Some one (Some case) (sym (slice_get-get_or (cases ++ one ∷ []) (length cases) one (omega (arith, length-append cases (one ∷ [])))
    ∙ ap (λ (o : Option NodeId). Some o) (get_or_at cases one [] one (length cases) refl)) ∙ e) in
    let each : (k : ℕ) → k < length cases → P k = λ k lt e. are k case (slice_get-get_or cases k one lt ∙ ap (λ (o : Option NodeId). Some o) (sym (get_or_append_left cases (one ∷ []) one k lt))
    ∙ sym (slice_get-get_or (cases ++ one ∷ []) k one (omega (arith, lt, length-append cases (one ∷ [])))) ∙ e) in
    below_more P (length cases) each last k (omega (arith, slice_get_within (cases ++ one ∷ []) k (Some case) now, length-append cases (one ∷ []))) now
