-- Leafrefs that refer to nodes, and their links.
use Rattle.std.proofs.Common.{◌≡◌, ◌≢◌, ℕ, zero, suc, ◌+◌, ◌<◌, Bool, true, if◌then◌else◌, List, [], ◌∷◌, length, Option, Some, None, refl, sym, ap, ◌∙◌, subst, arith}
use Rattle.std.specs.List.{slice_get}
use Rattle.std.proofs.lemmas.Option.{same_Some}
use Rattle.yv_node_content.specs.Steps.{Step}
use Rattle.yv_nodes.specs.Link.{if_required, Link, link_in, reference_in}
use Rattle.yv_nodes.specs.Rows.{Row}
use Rattle.yv_node_leafrefs.specs.Schema.{Schema}
use Rattle.yv_node_leafrefs.specs.Targets.{RefersTo}
use Rattle.yv_node_leafrefs.specs.Ways.{Leads, Means}
use Rattle.yv_node_leafrefs.specs.Links.{AreInner, AreLinks, IsInner, IsLinkOf, LeadsOver, OnlyInnerHold}

module _ (rows : List Row) (own : ℕ) (hold : OnlyInnerHold rows) where
  -- a node that a step means, below which a step means one, is a container or a list
  inner_between : (a : Option ℕ) (s t : Option Step) (c d : ℕ) → Means rows own a s c → Means rows own (Some c) t d → IsInner rows c
  inner_between a None t c d m k = elim m [ ]
  inner_between a (Some s) None c d m k = elim k [ ]
  inner_between a (Some s) (Some t) c d m k = (m.0.row, m.0.at, hold c d _ _ m.0.row m.0.at m.0.is_data_node k.0)

  -- the node that a step means, before a way that goes on
  inner_first : (a : Option ℕ) (s : Option Step) (c : ℕ) (ss : List (Option Step)) (cs : List ℕ) (b : Option ℕ) → Means rows own a s c
      → LeadsOver rows own ss cs (Some c) b → 1 < length (c ∷ cs) → IsInner rows c
  inner_first a s c ss [] b m over lt = absurd (omega (arith, lt))
  inner_first a s c [] (d ∷ ds) b m over lt = elim over [ ]
  inner_first a s c (t ∷ ts) (d ∷ ds) b m over lt = inner_between a s t c d m over.0

  inner_more : (c : ℕ) (cs : List ℕ) → (1 < length (c ∷ cs) → IsInner rows c) → AreInner rows cs → AreInner rows (c ∷ cs)
  inner_more c cs first others zero k lt at = let same : c ≡ k = same_Some c k at in let here : 1 < length (c ∷ cs) = omega (arith, lt) in subst (IsInner rows) same (first here)
  inner_more c cs first others (suc i) k lt at = others i k (omega (arith, lt)) at

  -- a path that leads somewhere leads there over nodes, which are containers and lists but for the
  -- last
  abbrev pub Way : List (Option Step) → Option ℕ → Option ℕ → Type 0
  Way steps a b = (cs : List ℕ) × LeadsOver rows own steps cs a b × AreInner rows cs

  pub way_of : (steps : List (Option Step)) (a b : Option ℕ) → Leads rows own steps a b → Way steps a b
  way_of [] a b leads = ([], leads, λ i c lt at. absurd (omega (arith, lt)))
  way_of (s ∷ ss) a b (c, means, leads) =
      let (cs, over, inner) = way_of ss (Some c) b leads in
      (c ∷ cs, (means, over), inner_more c cs (inner_first a s c ss cs b means over) inner)

pub has_reference : (s : Schema) (links : List (Option Link)) (n target : ℕ) → AreLinks s links → OnlyInnerHold s.rows → (refers : RefersTo s n target)
    → refers.ref.climbs ≢ Some 0 → (link : Link) × (reference_in links n ≡ Some link) × (link.target ≡ target) × (link.is_required ≡ refers.ref.is_required)
has_reference s links n target are hold refers begins =
    let (cs, over, inner) = way_of s.rows refers.row.label.module_file hold refers.ref.steps refers.start (Some target) refers.leads in
    let link : Link = record { climbs = refers.ref.climbs; steps = cs; target = target; is_required = refers.ref.is_required } in
    let is : IsLinkOf s n link = record {
      refers = refers;
      climbs = refl;
      begins = begins;
      way = over;
      inner = inner;
      is_required = refl;
    } in
    (link, (are.each n link).1 is, refl, refl)

pub has_link : (s : Schema) (links : List (Option Link)) (n target : ℕ) → AreLinks s links → OnlyInnerHold s.rows → (refers : RefersTo s n target)
    → refers.ref.is_required ≡ true → refers.ref.climbs ≢ Some 0 → (link : Link) × (link_in links n ≡ Some link) × (link.target ≡ target)
has_link s links n target are hold refers required begins =
    let (link, has, to, says) = has_reference s links n target are hold refers begins in
    (link, ap if_required has ∙ ap (λ (b : Bool). if b then Some link else None) (says ∙ required), to)
