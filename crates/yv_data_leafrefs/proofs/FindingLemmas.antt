-- What a walk finds, by one thing that is met after another.
use Rattle.std.proofs.Common.{◌≡◌, ℕ, ◌+◌, ◌-◌, ◌⊎◌, inl, inr, List, [], ◌∷◌, ◌++◌, length, Option, refl, sym, ap, subst, ◌∙◌, append_assoc, append-nil, arith}
use Rattle.std.specs.List.{slice_set}
use Rattle.std.proofs.Math.Seq.{set-append_seam}
use Rattle.std.proofs.lemmas.Grind.{flat_map-append}
use Rattle.serde_json.specs.Data.{Members, object}
use Rattle.yv_values.specs.Values.{Val}
use Rattle.yv_nodes.specs.Link.{is_target, Link, link_in}
use Rattle.yv_nodes.specs.Rows.{Rows}
use Rattle.yv_nodes.specs.Tree.{Forest}
use Rattle.yv_nodes.specs.declared.node.NodeId.{NodeId}
use Rattle.yv_data_leafrefs.specs.Findings.{end_object, Findings, Finds, first_of, Gains, Indexes, IsKept, IsUsed, TargetValue, kept_at, kept_if, kept_in, met_in, LeafrefValue, notes_at, notes_in, only_used, open_object, Position, position_at, positions_at, positions_in, second_of, Spreads, TargetDefault, used_at, used_if, used_in, Uses, value_notes, with_last}
use Rattle.yv_data_leafrefs.specs.InUse.{in_use, value_of}
use Rattle.yv_data_leafrefs.specs.Meetings.{count_entered, found_of, Meeting, stand, at_value, at_node, Node, Spot, WrittenValue}
use Rattle.yv_data_leafrefs.specs.References.{number_of}
use Rattle.yv_data_leafrefs.proofs.IndexAnswers.{from_head, join_length, move, positions_length}

kept_left : (xs ys : List TargetValue) (n : ℕ) (v : Val) (p : ℕ) → IsKept xs n v p → IsKept (xs ++ ys) n v p
kept_left [] ys n v p h = absurd h
kept_left (x ∷ xs) ys n v p (inl e) = inl e
kept_left (x ∷ xs) ys n v p (inr h) = inr (kept_left xs ys n v p h)

kept_right : (xs ys : List TargetValue) (n : ℕ) (v : Val) (p : ℕ) → IsKept ys n v p → IsKept (xs ++ ys) n v p
kept_right [] ys n v p h = h
kept_right (x ∷ xs) ys n v p h = inr (kept_right xs ys n v p h)

kept_split : (xs ys : List TargetValue) (n : ℕ) (v : Val) (p : ℕ) → IsKept (xs ++ ys) n v p → IsKept xs n v p ⊎ IsKept ys n v p
kept_split [] ys n v p h = inr h
kept_split (x ∷ xs) ys n v p (inl e) = inl (inl e)
kept_split (x ∷ xs) ys n v p (inr h) = elim (kept_split xs ys n v p h) [ inl a ↦ inl (inr a) | inr b ↦ inr b ]

used_left : (xs ys : List TargetDefault) (n p : ℕ) → IsUsed xs n p → IsUsed (xs ++ ys) n p
used_left [] ys n p h = absurd h
used_left (x ∷ xs) ys n p (inl e) = inl e
used_left (x ∷ xs) ys n p (inr h) = inr (used_left xs ys n p h)

used_right : (xs ys : List TargetDefault) (n p : ℕ) → IsUsed ys n p → IsUsed (xs ++ ys) n p
used_right [] ys n p h = h
used_right (x ∷ xs) ys n p h = inr (used_right xs ys n p h)

used_split : (xs ys : List TargetDefault) (n p : ℕ) → IsUsed (xs ++ ys) n p → IsUsed xs n p ⊎ IsUsed ys n p
used_split [] ys n p h = inr h
used_split (x ∷ xs) ys n p (inl e) = inl (inl e)
used_split (x ∷ xs) ys n p (inr h) = elim (used_split xs ys n p h) [ inl a ↦ inl (inr a) | inr b ↦ inr b ]

gains_none : (is : Indexes) → Gains is is []
gains_none is = record { each = λ n v p. (λ h. inl h, λ h. elim h [ inl a ↦ a | inr b ↦ absurd b ]) }

gains_more : (a b c : Indexes) (xs ys : List TargetValue) → Gains a b xs → Gains b c ys → Gains a c (xs ++ ys)
gains_more a b c xs ys g h = record {
  each = λ n v p. (
    λ k. elim ((h.each n v p).0 k) [
      | inl m ↦ elim ((g.each n v p).0 m) [ inl o ↦ inl o | inr o ↦ inr (kept_left xs ys n v p o) ]
      | inr m ↦ inr (kept_right xs ys n v p m)
    ],
    λ k. elim k [
      | inl o ↦ (h.each n v p).1 (inl ((g.each n v p).1 (inl o)))
      | inr m ↦ elim (kept_split xs ys n v p m) [ inl o ↦ (h.each n v p).1 (inl ((g.each n v p).1 (inr o))) | inr o ↦ (h.each n v p).1 (inr o) ]
    ],
  );
}

spreads_none : (us : Uses) → Spreads us us []
spreads_none us = record { each = λ n p. (λ h. inl h, λ h. elim h [ inl a ↦ a | inr b ↦ absurd b ]) }

spreads_more : (a b c : Uses) (xs ys : List TargetDefault) → Spreads a b xs → Spreads b c ys → Spreads a c (xs ++ ys)
spreads_more a b c xs ys g h = record {
  each = λ n p. (
    λ k. elim ((h.each n p).0 k) [
      | inl m ↦ elim ((g.each n p).0 m) [ inl o ↦ inl o | inr o ↦ inr (used_left xs ys n p o) ]
      | inr m ↦ inr (used_right xs ys n p m)
    ],
    λ k. elim k [
      | inl o ↦ (h.each n p).1 (inl ((g.each n p).1 (inl o)))
      | inr m ↦ elim (used_split xs ys n p m) [ inl o ↦ (h.each n p).1 (inl ((g.each n p).1 (inr o))) | inr o ↦ (h.each n p).1 (inr o) ]
    ],
  );
}

pub nothing_met : (s : Rows) (a : Findings) → Finds a a (met_in s [])
nothing_met s a = record { indexes = gains_none a.indexes; uses = spreads_none a.uses; positions = sym (append-nil a.positions); notes = sym (append-nil a.notes) }

pub met_behind : (s : Rows) (a b c : Findings) (xs ys : List Meeting) → Finds a b (met_in s xs) → Finds b c (met_in s ys) → Finds a c (met_in s (xs ++ ys))
met_behind s a b c xs ys g h =
    let links = link_in s.links in
    record {
      indexes = subst (λ (ks : List TargetValue). Gains a.indexes c.indexes ks) (sym (flat_map-append (kept_at (is_target s.links)) xs ys))
          (gains_more a.indexes b.indexes c.indexes (kept_in (is_target s.links) xs) (kept_in (is_target s.links) ys) g.indexes h.indexes);
      uses = subst (λ (us : List TargetDefault). Spreads a.uses c.uses us) (sym (flat_map-append (used_at (is_target s.links)) xs ys))
          (spreads_more a.uses b.uses c.uses (used_in (is_target s.links) xs) (used_in (is_target s.links) ys) g.uses h.uses);
      positions = h.positions ∙ ap (λ x. x ++ positions_in ys) g.positions ∙ append_assoc a.positions (positions_in xs) (positions_in ys)
          ∙ ap (λ x. a.positions ++ x) (sym (flat_map-append positions_at xs ys));
      notes = h.notes ∙ ap (λ x. x ++ notes_in links ys) g.notes ∙ append_assoc a.notes (notes_in links xs) (notes_in links ys)
          ∙ ap (λ x. a.notes ++ x) (sym (flat_map-append (notes_at links) xs ys));
    }

-- ---- one thing that is met

pub value_met : (s : Rows) (m : WrittenValue) (v : Option Val) → value_of m.label m.found ≡ v → met_in s (at_value m ∷ [])
    ≡ record {
      kept = kept_if (is_target s.links m.node.0) m.node.0 (first_of m.spot.around) v;
      used = [];
      positions = [];
      notes = value_notes (link_in s.links m.node.0) (first_of m.spot.around) m.node.0 (number_of m.before) v;
    }
value_met s m v e =
    let here : ℕ = first_of m.spot.around in
    let link : Option Link = link_in s.links m.node.0 in
    ap (λ (ks : List TargetValue). record { kept = ks; used = []; positions = []; notes = notes_in (link_in s.links) (at_value m ∷ []) })
    (append-nil (kept_at (is_target s.links) (at_value m)) ∙ ap (λ (x : Option Val). kept_if (is_target s.links m.node.0) m.node.0 here x) e)
    ∙ ap (λ (ns : List LeafrefValue). record { kept = kept_if (is_target s.links m.node.0) m.node.0 here v; used = []; positions = []; notes = ns })
    (append-nil (notes_at (link_in s.links) (at_value m)) ∙ ap (λ (x : Option Val). value_notes link here m.node.0 (number_of m.before) x) e)

pub default_met : (s : Rows) (m : Node) → met_in s (at_node m ∷ [])
    ≡ only_used (used_if (is_target s.links m.node.0) m.node.0 (first_of m.spot.around) (in_use m.label.defined.kind m.label m.scope (found_of m)))
default_met s m = ap only_used (append-nil (used_at (is_target s.links) (at_node m)))

-- ---- an object that is entered, walked over and left

pub object_met : (s : Rows) (a b c d : Findings) (n : NodeId) (item : Option ℕ) (spot : Spot) (ts : Forest) (ms : Members) (inside : List Meeting)
    → b.positions ≡ a.positions ++ open_object (second_of spot.around) n.0 item ∷ [] → b.indexes ≡ a.indexes → b.uses ≡ a.uses → b.notes ≡ a.notes
    → Finds b c (met_in s inside)
    → d.positions ≡ end_object c.positions (length a.positions) → d.indexes ≡ c.indexes → d.uses ≡ c.uses → d.notes ≡ c.notes
    → Finds a d (met_in s (stand (record { node = n; item = item; spot = spot; last = length a.positions + count_entered inside; trees = ts; found = object ms }) ∷ inside))
object_met s a b c d n item spot ts ms inside entering same_indexes same_uses same_notes h leaving last_indexes last_uses last_notes =
    let k = length a.positions in
    let own : Position = open_object (second_of spot.around) n.0 item in
    let ps : List Position = positions_in inside in
    let ks : List TargetValue = kept_in (is_target s.links) inside in
    let us : List TargetDefault = used_in (is_target s.links) inside in
    let all : c.positions ≡ a.positions ++ own ∷ ps = h.positions ∙ ap (λ xs. xs ++ ps) entering ∙ move a.positions ps own in
    let many : length ps ≡ count_entered inside = positions_length inside in
    let size : length (a.positions ++ own ∷ ps) ≡ k + (1 + count_entered inside) = join_length a.positions (own ∷ ps) k (1 + count_entered inside) refl (omega (arith, many)) in
    let last : length (a.positions ++ own ∷ ps) - 1 ≡ k + count_entered inside = omega (arith, size) in
    let here : position_at (a.positions ++ own ∷ ps) k ≡ own = from_head a.positions ps own k refl in
    record {
      indexes = subst (λ x. Gains x d.indexes ks) same_indexes (subst (λ x. Gains b.indexes x ks) (sym last_indexes) h.indexes);
      uses = subst (λ x. Spreads x d.uses us) same_uses (subst (λ x. Spreads b.uses x us) (sym last_uses) h.uses);
      positions = leaving ∙ ap (λ (xs : List Position). end_object xs k) all
          ∙ ap (λ (o : Position). slice_set (a.positions ++ own ∷ ps) k (with_last o (length (a.positions ++ own ∷ ps) - 1))) here
          ∙ ap (λ (j : ℕ). slice_set (a.positions ++ own ∷ ps) k (with_last own j)) last
          ∙ set-append_seam a.positions own ps (with_last own (k + count_entered inside));
      notes = last_notes ∙ h.notes ∙ ap (λ xs. xs ++ notes_in (link_in s.links) inside) same_notes;
    }
