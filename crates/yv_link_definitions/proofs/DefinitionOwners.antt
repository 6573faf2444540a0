-- The definitions for which statements count.
use Rattle.std.proofs.Common.{◌≡◌, ℕ, ◌↔◌, Bool, true, false, not, List, Some, None, codes, refl, sym, ◌∙◌, ap, subst}
use Rattle.std.specs.List.{slice_get}
use Rattle.std.proofs.lemmas.Option.{same_Some}
use Rattle.std.proofs.lemmas.Bool.{false≢true}
use Rattle.yv_link_scopes.specs.Rows.{Row}
use Rattle.yv_link_scopes.specs.declared.kind.NameKind.{NameKind}
use Rattle.yv_link_scopes.specs.declared.kind.NameKind.TheVariants.{Prefix, Include, Typedef, Grouping, Feature, Identity, Extension}
use Rattle.yv_link_definitions.specs.Duplicates.{is_of}
use Rattle.yv_link_definitions.specs.Leads.{CountsFor, directly, further, is_between}
use Rattle.yv_link_definitions.proofs.Words.{word_once}

not_both : (b : Bool) → b ≡ true → not b ≡ true → ⊥
not_both true h g = false≢true g
not_both false h g = false≢true h

-- what stands between is no definition of the kind
apart : (kind : NameKind) (r : Row) → is_of kind r ≡ true → is_between kind r ≡ true → ⊥
apart Typedef r h g = let bad : codes "typedef" ≡ codes "type" = word_once r.head (codes "typedef") (codes "type") h g in cc
apart Grouping r h g = not_both (is_of Grouping r) h g
apart Prefix r h g = false≢true g
apart Include r h g = false≢true g
apart Feature r h g = false≢true g
apart Identity r h g = false≢true g
apart Extension r h g = false≢true g

module _ (rows : List Row) (kind : NameKind) (k b : ℕ) (r s : Row) (at : slice_get rows k ≡ Some r) (own : r.scope ≡ b) (block : slice_get rows b ≡ Some s) where
  same_block : (q : Row) (d : ℕ) → slice_get rows k ≡ Some q → q.scope ≡ d → b ≡ d
  same_block q d here e = sym own ∙ ap (λ (x : Row). x.scope) (same_Some r q (sym at ∙ here)) ∙ e

  same_outer : (q t : Row) (d : ℕ) → slice_get rows k ≡ Some q → q.scope ≡ d → slice_get rows d ≡ Some t → s ≡ t
  same_outer q t d here e there = same_Some s t (sym block ∙ ap (slice_get rows) (same_block q d here e) ∙ there)

  by_direct : is_of kind s ≡ true → (d : ℕ) → CountsFor rows kind k d → b ≡ d
  by_direct is d (directly {r = q} here e there one) = same_block q d here e
  by_direct is d (further {b = c} {r = q} {s = t} here e there between rest) = absurd (apart kind s is (ap (is_between kind) (same_outer q t c here e there) ∙ between))

  -- the block is a definition of the kind
  pub counts_here : is_of kind s ≡ true → (d : ℕ) → (Some b ≡ Some d) ↔ CountsFor rows kind k d
  counts_here is d = (
    λ e. subst (CountsFor rows kind k) (same_Some b d e) (directly at own block is),
    λ c. ap Some (by_direct is d c),
  )

  -- it is neither that nor between
  by_none : is_of kind s ≡ false → is_between kind s ≡ false → (d : ℕ) → CountsFor rows kind k d → ⊥
  by_none out none d (directly {r = q} {s = t} here e there one) = false≢true (sym out ∙ ap (is_of kind) (same_outer q t d here e there) ∙ one)
  by_none out none d (further {b = c} {r = q} {s = t} here e there between rest) = false≢true (sym none ∙ ap (is_between kind) (same_outer q t c here e there) ∙ between)

  -- what it counts for is that for which the block counts
  by_further : is_of kind s ≡ false → (d : ℕ) → CountsFor rows kind k d → CountsFor rows kind b d
  by_further out d (directly {r = q} {s = t} here e there one) = absurd (false≢true (sym out ∙ ap (is_of kind) (same_outer q t d here e there) ∙ one))
  by_further out d (further {b = c} {r = q} here e there between rest) = subst (λ x. CountsFor rows kind x d) (sym (same_block q c here e)) rest

  pub counts_further : is_of kind s ≡ false → is_between kind s ≡ true → (d : ℕ) → CountsFor rows kind b d ↔ CountsFor rows kind k d
  counts_further out between d = (λ c. further at own block between c, λ c. by_further out d c)

none_some : (d : ℕ) → None ≡ Some d → ⊥
none_some d e = cc

-- a root that is no definition of the kind counts for none
root_none : (rows : List Row) (kind : NameKind) (root : ℕ) (r : Row) → slice_get rows root ≡ Some r → r.scope ≡ root → is_of kind r ≡ false → {k d : ℕ} → CountsFor rows kind k d → k ≡ root → ⊥
root_none rows kind root r at own out (directly {d = d} {r = q} {s = t} here e there one) same =
    let qr : q ≡ r = same_Some q r (sym here ∙ ap (slice_get rows) same ∙ at) in
    let dr : d ≡ root = sym e ∙ ap (λ (x : Row). x.scope) qr ∙ own in
    false≢true (sym out ∙ ap (is_of kind) (same_Some r t (sym at ∙ ap (slice_get rows) (sym dr) ∙ there)) ∙ one)
root_none rows kind root r at own out (further {b = b} {r = q} here e there between rest) same =
    let qr : q ≡ r = same_Some q r (sym here ∙ ap (slice_get rows) same ∙ at) in
    root_none rows kind root r at own out rest (sym e ∙ ap (λ (x : Row). x.scope) qr ∙ own)

pub counts_root : (rows : List Row) (kind : NameKind) (k : ℕ) (r : Row) → slice_get rows k ≡ Some r → r.scope ≡ k → is_of kind r ≡ false → (d : ℕ) → (None ≡ Some d) ↔ CountsFor rows kind k d
counts_root rows kind k r at own out d = (λ e. absurd (none_some d e), λ c. absurd (root_none rows kind k r at own out c refl))

pub counts_none : (rows : List Row) (kind : NameKind) (k b : ℕ) (r s : Row) → slice_get rows k ≡ Some r → r.scope ≡ b → slice_get rows b ≡ Some s → is_of kind s ≡ false → is_between kind s ≡ false → (d : ℕ) → (None ≡ Some d) ↔ CountsFor rows kind k d
counts_none rows kind k b r s at own block out none d = (λ e. absurd (none_some d e), λ c. absurd (by_none rows kind k b r s at own block out none d c))

pub both_ways : {A B C : Type 0} → (A ↔ B) → (B ↔ C) → A ↔ C
both_ways f g = (λ a. g.0 (f.0 a), λ c. f.1 (g.1 c))
