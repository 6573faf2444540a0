-- Schemas that say the same have the same links.
use Rattle.std.proofs.Common.{◌≡◌, ◌<◌, ◌^◌, ℕ, suc, List, [], ◌∷◌, length, arith, refl, sym, ap, subst, ◌∙◌, Option, Some, None}
use Rattle.std.specs.List.{slice_get}
use Rattle.yv_nodes.specs.Link.{Link, reference_in}
use Rattle.yv_nodes.specs.Rows.{Row}
use Rattle.yv_node_leafrefs.specs.Above.{IsInside}
use Rattle.yv_node_leafrefs.specs.Schema.{AreAlike, Referral, Schema}
use Rattle.yv_node_leafrefs.specs.Targets.{IsLeafref, RefersTo}
use Rattle.yv_node_leafrefs.specs.Ways.{Begins, Leads}
use Rattle.yv_node_leafrefs.specs.Links.{AreInner, AreLinks, IsLinkOf, LeadsOver}

turned : (s t : Schema) → AreAlike s t → AreAlike t s
turned s t alike = record { rows = sym alike.rows; says = λ n. sym (alike.says n) }

leafref_alike : (s t : Schema) (n : ℕ) (row : Row) (ref : Referral) → AreAlike s t → IsLeafref s n row ref → IsLeafref t n row ref
leafref_alike s t n row ref alike is = record {
  at = ap (λ (rows : List Row). slice_get rows n) (sym alike.rows) ∙ is.at;
  says = sym (alike.says n) ∙ is.says;
  outside = λ i. is.outside (subst (λ (rows : List Row). IsInside rows (Some n)) (sym alike.rows) i);
}

abbrev refers_alike : (s t : Schema) (n x : ℕ) → AreAlike s t → RefersTo s n x → RefersTo t n x
refers_alike s t n x alike r = record {
  row = r.row;
  ref = r.ref;
  is_leafref = leafref_alike s t n r.row r.ref alike r.is_leafref;
  start = r.start;
  begins = subst (λ (rows : List Row). Begins rows n r.ref.climbs r.start) alike.rows r.begins;
  leads = subst (λ (rows : List Row). Leads rows r.row.label.module_file r.ref.steps r.start (Some x)) alike.rows r.leads;
  found = r.found;
  at = ap (λ (rows : List Row). slice_get rows x) (sym alike.rows) ∙ r.at;
  fit = r.fit;
}

link_alike : (s t : Schema) (n : ℕ) (link : Link) → AreAlike s t → IsLinkOf s n link → IsLinkOf t n link
link_alike s t n link alike is =
    let r = is.refers in
    record {
      refers = refers_alike s t n link.target alike r;
      climbs = is.climbs;
      begins = is.begins;
      way = subst
          (λ (rows : List Row). LeadsOver rows r.row.label.module_file r.ref.steps link.steps r.start (Some link.target)) alike.rows is.way;
      inner = subst (λ (rows : List Row). AreInner rows link.steps) alike.rows is.inner;
      is_required = is.is_required;
    }

has_alike : (s t : Schema) (a b : List (Option Link)) → AreAlike s t → AreLinks s a → AreLinks t b → (n : ℕ) (link : Link)
    → reference_in a n ≡ Some link → reference_in b n ≡ Some link
has_alike s t a b alike of_a of_b n link has = (of_b.each n link).1 (link_alike s t n link alike ((of_a.each n link).0 has))

same_if : {A : Type 0} (o p : Option A) → ((x : A) → o ≡ Some x → p ≡ Some x) → ((x : A) → p ≡ Some x → o ≡ Some x) → o ≡ p
same_if (Some x) p to from = sym (to x refl)
same_if None (Some y) to from = from y refl
same_if None None to from = refl

links_alike : (s t : Schema) (a b : List (Option Link)) → AreAlike s t → AreLinks s a → AreLinks t b → (n : ℕ)
    → reference_in a n ≡ reference_in b n
links_alike s t a b alike of_a of_b n =
    same_if (reference_in a n) (reference_in b n) (has_alike s t a b alike of_a of_b n) (has_alike t s b a (turned s t alike) of_b of_a n)

-- lists of one length that have the same at each place are the same
same_lists : (xs ys : List (Option Link)) → length xs ≡ length ys → ((n : ℕ) → reference_in xs n ≡ reference_in ys n) → xs ≡ ys
same_lists [] [] long each = refl
same_lists [] (y ∷ ys) long each = absurd (omega (arith, long))
same_lists (x ∷ xs) [] long each = absurd (omega (arith, long))
same_lists (x ∷ xs) (y ∷ ys) long each =
    ap (λ (o : Option Link). o ∷ xs) (each 0) ∙ ap (λ (ls : List (Option Link)). y ∷ ls) (same_lists xs ys (omega (arith, long)) (λ n. each (suc n)))

pub one_list : (s t : Schema) (a b : List (Option Link)) → AreAlike s t → AreLinks s a → AreLinks t b → a ≡ b
one_list s t a b alike of_a of_b =
    same_lists a b (of_a.long ∙ ap length alike.rows ∙ sym of_b.long) (links_alike s t a b alike of_a of_b)

pub same_links : (s t : Schema) (links : List (Option Link)) → AreAlike s t → AreLinks s links → AreLinks t links
same_links s t links alike are = record {
  few = subst (λ (rows : List Row). length rows < 2 ^ 32) alike.rows are.few;
  long = are.long ∙ ap length alike.rows;
  each = λ n link. (
    (λ e. link_alike s t n link alike ((are.each n link).0 e)),
    λ is. (are.each n link).1 (link_alike t s n link (turned s t alike) is),
  );
}
