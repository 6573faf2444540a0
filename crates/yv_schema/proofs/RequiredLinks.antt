-- Leafrefs of files that conform, and their links.
use Rattle.std.proofs.Common.{inl, ◌≡◌, ◌≢◌, ℕ, ◌<◌, List, length, Option, Some, None, refl, sym, ap, ◌∙◌, subst}
use Rattle.std.specs.List.{slice_get}
use Rattle.std.specs.Option.{option_and_then}
use Rattle.std.proofs.lemmas.Option.{same_Some, slice_get_within}
use Rattle.yv_text_statement.specs.Tree.{Tree}
use Rattle.yv_text_statement.specs.Order.{Among, IsLeast}
use Rattle.yv_text_statement.specs.declared.refusal.Refusal.{Refusal}
use Rattle.yv_text_statement.specs.declared.refusal.Code.TheVariants as code
use Rattle.yv_text_grammar.specs.Refusals.{Bad}
use Rattle.yv_text_grammar.specs.declared.xpath.Xpath.{Xpath}
use Rattle.yv_text_grammar.specs.declared.xpath.Xpath.TheVariants.{Refuse, Skip}
use Rattle.yv_text_grammar.specs.Fits.{Fits}
use Rattle.yv_text_statement.specs.Selection.{ModuleChoice}
use Rattle.yv_link_scopes.specs.Files.{Files}
use Rattle.yv_expand.specs.Tree.{Node}
use Rattle.yv_nodes.specs.Link.{Link, reference_in}
use Rattle.yv_nodes.specs.Refusals.{refusal_of}
use Rattle.yv_nodes.specs.Rows.{Row}
use Rattle.yv_nodes.specs.Tree.{Forest}
use Rattle.yv_node_leafrefs.specs.Bad.{BadLeafrefs}
use Rattle.yv_node_leafrefs.specs.Resolution.{IsTyped, with_refusal, with_targets}
use Rattle.yv_node_leafrefs.specs.Schema.{Referral, Schema}
use Rattle.yv_node_leafrefs.specs.Targets.{HasTypesOf, IsLeafref, RefersTo, along, own}
use Rattle.yv_expand_tree.specs.FinalTree.{origin_at}
use Rattle.yv_schema.specs.InnerBasis.{IsNumberedBasis, NumberedBasis, leafrefs_of, nodes_in, said_of, stated_of}
use Rattle.yv_schema.specs.Refusals.{BadFile, in_file}
use Rattle.yv_node_leafrefs.specs.Links.{AreLinks}
use Rattle.yv_node_leafrefs.proofs.LeafrefLinks.{has_reference}
use Rattle.yv_schema.proofs.LeafrefPathStarts.{Conform, Headed, Origins, begins, no_value}
use Rattle.yv_schema.proofs.Interior.{NothingBelow, basis_inner}

module _ (choice : ModuleChoice) (b : NumberedBasis) (is : IsNumberedBasis choice b) (fine : Conform b.files) (headed : Headed b.files) (origins : Origins) where
  at_node : (x : Option Node) (ref : Referral) → option_and_then (said_of b) x ≡ Some ref → ref.climbs ≢ Some 0
  at_node None ref says = absurd (no_value ref says)
  at_node (Some x) ref says = begins b.files b.typing fine headed origins is.typing.referrals (origin_at b.final.items x.origin) ref says

  pub leafref_begins : (n : ℕ) (ref : Referral) → (leafrefs_of b).says n ≡ Some ref → ref.climbs ≢ Some 0
  leafref_begins n ref says = at_node (slice_get (nodes_in b) n) ref says

-- a file of which nothing is refused conforms
-- (yv_expand::conformance_laws::what_is_not_refused_fits)
abbrev pub Spared : Type 0
Spared = (x : Xpath) (t : Tree) → ((f : Refusal) → Bad x t f → ⊥) → Fits x t

-- skipping conditions refuses no more (yv_text_grammar::laws::skipping_refuses_no_more)
abbrev pub SkippingSpares : Type 0
SkippingSpares = (x : Xpath) (t : Tree) (r : Refusal) → Bad Skip t r → Bad x t r

pub conform_of : Spared → SkippingSpares → (files : Files) → IsLeast (Among files BadFile (length files)) None → Conform files
conform_of spared skipping files clear n root at =
    spared Skip root
    (λ f bad. clear (in_file n f) (n, slice_get_within files n root at, root, at, record { own = f; stands = skipping Refuse root f bad; is = refl }))

-- what types a node has tells whether it refers to one
types_refer : (s : Schema) {n e : ℕ} → HasTypesOf s n e → (((target : ℕ) → RefersTo s n target → ⊥) → ⊥) → (target : ℕ) × RefersTo s n target
types_refer s (own none) found = absurd (found none)
types_refer s (along {target = t} refers rest) found = (t, refers)

refers_of : (s : Schema) (stated tree : Forest) → IsTyped s stated tree → ((f : Refusal) → BadLeafrefs s f → ⊥) → (n : ℕ) (row : Row) (ref : Referral)
    → IsLeafref s n row ref → (target : ℕ) × RefersTo s n target
refers_of s stated tree (with_targets least is) clear n row ref leafref =
    let within : n < length s.rows = slice_get_within s.rows n row leafref.at in
    types_refer s (is.each n within)
    (λ lost. clear (refusal_of code.BadPath row.label)
    (n, within, row, leafref.at, inl (record { ref = ref; is_leafref = leafref; lost = lost }, refl)))
refers_of s stated tree (with_refusal {f = f} bad) clear n row ref leafref = absurd (clear f bad)

-- a leafref's link leads where it refers to, and says whether an instance is required
abbrev pub HasItsLink : Schema → List (Option Link) → Type 0
HasItsLink s links =
    (n : ℕ) (row : Row) (ref : Referral) → IsLeafref s n row ref
    → (link : Link) × (reference_in links n ≡ Some link) × RefersTo s n link.target × (link.is_required ≡ ref.is_required)

-- where nothing is refused, each leafref of a basis has its link
module _ (headed : (files : Files) → Headed files) (origins : Origins) (below : NothingBelow) (choice : ModuleChoice) (b : NumberedBasis) (is : IsNumberedBasis choice b)
    (fine : Conform b.files) where
  led : (links : List (Option Link)) → AreLinks (leafrefs_of b) links → (n target : ℕ) (refers : RefersTo (leafrefs_of b) n target)
      → (link : Link) × (reference_in links n ≡ Some link) × (link.target ≡ target) × (link.is_required ≡ refers.ref.is_required)
  led links are n target refers =
      has_reference (leafrefs_of b) links n target are (basis_inner b choice is fine (headed b.files) below) refers
      (leafref_begins choice b is fine (headed b.files) origins n refers.ref refers.is_leafref.says)

  pub each_linked : (tree : Forest) (links : List (Option Link)) → IsTyped (leafrefs_of b) (stated_of b) tree → ((f : Refusal) → BadLeafrefs (leafrefs_of b) f → ⊥)
      → AreLinks (leafrefs_of b) links → HasItsLink (leafrefs_of b) links
  each_linked tree links typed clear are n row ref leafref =
      let s : Schema = leafrefs_of b in
      let (target, refers) = refers_of s (stated_of b) tree typed clear n row ref leafref in
      let says : refers.ref ≡ ref = same_Some refers.ref ref (sym refers.is_leafref.says ∙ leafref.says) in
      let (link, at, leads, required) = led links are n target refers in
      (link, at, subst (RefersTo s n) (sym leads) refers, required ∙ ap (λ (r : Referral). r.is_required) says)
