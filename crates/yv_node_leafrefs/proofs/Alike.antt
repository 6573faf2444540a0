-- Schemas that say the same.
use Rattle.std.proofs.Common.{◌≡◌, ◌<◌, ◌^◌, ℕ, List, length, Some, inl, inr, sym, ap, subst, ◌∙◌}
use Rattle.std.specs.List.{slice_get}
use Rattle.yv_text_statement.specs.declared.refusal.Refusal.{Refusal}
use Rattle.yv_text_statement.proofs.Least.{least_same}
use Rattle.yv_nodes.specs.Rows.{Row}
use Rattle.yv_node_leafrefs.specs.Schema.{AreAlike, Referral, Schema}
use Rattle.yv_node_leafrefs.specs.Above.{IsInside}
use Rattle.yv_node_leafrefs.specs.Ways.{Begins, Leads}
use Rattle.yv_node_leafrefs.specs.Targets.{HasTypesOf, IsLeafref, LeadsTo, RefersTo, own, along, by_step, by_way}
use Rattle.yv_node_leafrefs.specs.Bad.{BadLeafref, BadLeafrefs, IsLost}
use Rattle.yv_node_leafrefs.specs.Leafrefs.{AreLeafrefs}
use Rattle.yv_node_leafrefs.specs.declared.leafrefs.Leafrefs.{Leafrefs}

pub turned : (s t : Schema) → AreAlike s t → AreAlike t s
turned s t alike = record { rows = sym alike.rows; says = λ n. sym (alike.says n) }

leafref_alike : (s t : Schema) (n : ℕ) (row : Row) (ref : Referral) → AreAlike s t → IsLeafref s n row ref → IsLeafref t n row ref
leafref_alike s t n row ref alike is = record {
  at = ap (λ (rows : List Row). slice_get rows n) (sym alike.rows) ∙ is.at;
  says = sym (alike.says n) ∙ is.says;
  outside = λ i. is.outside (subst (λ (rows : List Row). IsInside rows (Some n)) (sym alike.rows) i);
}

refers_alike : (s t : Schema) (n x : ℕ) → AreAlike s t → RefersTo s n x → RefersTo t n x
refers_alike s t n x alike r = record {
  row = r.row;
  ref = r.ref;
  is_leafref = leafref_alike s t n r.row r.ref alike r.is_leafref;
  start = r.start;
  begins = subst (λ (rows : List Row). Begins rows n r.ref.climbs r.start) alike.rows r.begins;
  leads = subst (λ (rows : List Row). Leads rows r.row.label.module_file r.ref.steps r.start (Some x)) alike.rows r.leads;
  found = r.found;
  at = ap (λ (rows : List Row). slice_get rows x) (sym alike.rows) ∙ r.at;
  fit = r.fit;
}

pub types_alike : (s t : Schema) (n e : ℕ) → AreAlike s t → HasTypesOf s n e → HasTypesOf t n e
types_alike s t n e alike (own none) = own (λ x r. none x (refers_alike t s n x (turned s t alike) r))
types_alike s t n e alike (along {target = x} r h) = along (refers_alike s t n x alike r) (types_alike s t x e alike h)

leads_alike : (s t : Schema) (n m : ℕ) → AreAlike s t → LeadsTo s n m → LeadsTo t n m
leads_alike s t n m alike (by_step r) = by_step (refers_alike s t n m alike r)
leads_alike s t n m alike (by_way {b = b} r rest) = by_way (refers_alike s t n b alike r) (leads_alike s t b m alike rest)

lost_alike : (s t : Schema) (n : ℕ) (row : Row) → AreAlike s t → IsLost s n row → IsLost t n row
lost_alike s t n row alike is = record {
  ref = is.ref;
  is_leafref = leafref_alike s t n row is.ref alike is.is_leafref;
  lost = λ x r. is.lost x (refers_alike t s n x (turned s t alike) r);
}

one_alike : (s t : Schema) (n : ℕ) (row : Row) (f : Refusal) → AreAlike s t → BadLeafref s n row f → BadLeafref t n row f
one_alike s t n row f alike (inl bad) = inl (lost_alike s t n row alike bad.0, bad.1)
one_alike s t n row f alike (inr bad) = inr (leads_alike s t n n alike bad.0, bad.1)

-- the same is wrong with them
pub bad_alike : (s t : Schema) (f : Refusal) → AreAlike s t → BadLeafrefs s f → BadLeafrefs t f
bad_alike s t f alike (n, within, row, at, bad) = (
  n,
  subst (λ (rows : List Row). n < length rows) alike.rows within,
  row,
  ap (λ (rows : List Row). slice_get rows n) (sym alike.rows) ∙ at,
  one_alike s t n row f alike bad,
)

-- and the same was read
pub leafrefs_alike : (s t : Schema) (l : Leafrefs) → AreAlike s t → AreLeafrefs s l → AreLeafrefs t l
leafrefs_alike s t l alike are = record {
  few = subst (λ (rows : List Row). length rows < 2 ^ 32) alike.rows are.few;
  each = are.each ∙ ap length alike.rows;
  exact = λ n x. ((λ e. refers_alike s t n x alike ((are.exact n x).0 e)), λ r. (are.exact n x).1 (refers_alike t s n x (turned s t alike) r));
  wrong = least_same (BadLeafrefs s) (BadLeafrefs t) l.fault (λ f. bad_alike s t f alike) (λ f. bad_alike t s f (turned s t alike)) are.wrong;
}
