-- A statement that gives an item has one among those that statements give.
use Rattle.std.proofs.Common.{◌⊎◌, inl, inr, ◌≡◌, ℕ, zero, suc, ◌+◌, true, List, [], ◌∷◌, length, Option, Some, refl, sym, ◌∙◌, ap, subst}
use Rattle.std.specs.List.{Contains, slice_get}
use Rattle.std.proofs.lemmas.Bool.{false≢true}
use Rattle.std.proofs.lemmas.Option.{same_Some}
use Rattle.yv_link_scopes.specs.Files.{Briefs}
use Rattle.yv_link_scopes.specs.Rows.{Row}
use Rattle.yv_expand.specs.Tree.{Item, Tree as Expansion, all_of, count, item, join, item_list, none}
use Rattle.yv_expand_statements.specs.declared.origin.Origin.{Origin}
use Rattle.yv_expand_statements.specs.declared.origin.Origin.TheVariants.{Statement}
use Rattle.yv_expand.specs.Expands.{Expands}
use Rattle.yv_expand_statements.specs.StatementBlocks.{is_node_or_uses}
use Rattle.yv_expand.specs.Expands.Expands.{nothing, other, node, operation, uses}
use Rattle.yv_expand_tree.proofs.NodePositions.{in_second}
use Rattle.yv_expand_laws.proofs.FoundItems.{not_none}
use Rattle.yv_expand_laws.proofs.FrameSequences.{nothing_stands}
use Rattle.yv_expand_laws.proofs.BlockNodes.{first_or}

-- a statement has an item among those that statements give
abbrev pub HasTop : ℕ → Expansion → Type 0
HasTop j none = ⊥
HasTop j (item o below behind) = (o ≡ Statement j) ⊎ HasTop j behind

pub expands_top : {files : Briefs} {rows : List Row} {numbers : List ℕ} {t : Expansion} → Expands files rows numbers t → (j : ℕ) (r : Row) → Contains numbers j → slice_get rows j ≡ Some r → is_node_or_uses r ≡ true → HasTop j t
expands_top nothing j r there at is = absurd (nothing_stands j there)
expands_top {rows = rows} (other {k = k} {r = q} {others = others} at_k isnt E) j r there at is = elim (first_or k others j there) [
  | inl same ↦ absurd (false≢true (sym isnt ∙ (ap is_node_or_uses (same_Some q r (sym at_k ∙ (ap (slice_get rows) same ∙ at))) ∙ is)))
  | inr h ↦ expands_top E j r h at is
]
expands_top (node {k = k} {others = others} at_k is_k no_operation none_meant B E) j r there at is = elim (first_or k others j there) [
  | inl same ↦ inl (ap (λ (n : ℕ). Statement n) same)
  | inr h ↦ inr (expands_top E j r h at is)
]
expands_top (operation {k = k} {others = others} at_k is_k I O E) j r there at is = elim (first_or k others j there) [
  | inl same ↦ inl (ap (λ (n : ℕ). Statement n) same)
  | inr h ↦ inr (expands_top E j r h at is)
]
expands_top (uses {k = k} {others = others} at_k is_k meant C G E) j r there at is = elim (first_or k others j there) [
  | inl same ↦ inl (ap (λ (n : ℕ). Statement n) same)
  | inr h ↦ inr (expands_top E j r h at is)
]

joined_first : (j : ℕ) (t u : Expansion) → HasTop j t → HasTop j (join t u)
joined_first j none u h = absurd h
joined_first j (item o below behind) u (inl same) = inl same
joined_first j (item o below behind) u (inr h) = inr (joined_first j behind u h)

pub joined_second : (j : ℕ) (t u : Expansion) → HasTop j u → HasTop j (join t u)
joined_second j none u h = h
joined_second j (item o below behind) u h = inr (joined_second j behind u h)

pub all_have : (j : ℕ) (ts : List Expansion) (k : ℕ) (t : Expansion) → slice_get ts k ≡ Some t → HasTop j t → HasTop j (all_of ts)
all_have j [] k t at h = absurd (not_none at)
all_have j (u ∷ ts) zero t at h = joined_first j u (all_of ts) (subst (HasTop j) (sym (same_Some u t at)) h)
all_have j (u ∷ ts) (suc k) t at h = joined_second j u (all_of ts) (all_have j ts k t at h)

pub listed_has : (j : ℕ) (parent : Option ℕ) (n : ℕ) (t : Expansion) → HasTop j t → (i : ℕ) × (slice_get (item_list parent n t) i ≡ Some (record { origin = Statement j; parent = parent }))
listed_has j parent n none h = absurd h
listed_has j parent n (item o below behind) (inl same) = (0, ap (λ (z : Origin). Some (let y : Item = record { origin = z; parent = parent } in y)) same)
listed_has j parent n (item o below behind) (inr h) =
    let r = listed_has j parent (n + 1 + count below) behind h in (
      suc (length (item_list (Some n) (n + 1) below) + r.0),
      in_second (item_list (Some n) (n + 1) below) (item_list parent (n + 1 + count below) behind) (length (item_list (Some n) (n + 1) below) + r.0) r.0
          (record { origin = Statement j; parent = parent }) refl r.1,
    )
