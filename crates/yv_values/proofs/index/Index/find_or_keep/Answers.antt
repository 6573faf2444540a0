use Rattle.std.proofs.Common.{◌≡◌, ◌∷◌, [], ◌∙◌, List, ℕ, unwrap_or, ap, subst, arith}
use Rattle.std.specs.BTreeMap.{insert_entry}
use Rattle.std.specs.BTreeMap.Entry.{map_with_value, entry_value}
use Rattle.yv_values.specs.InnerKeys.{key_of}
use Rattle.yv_values.specs.InnerPlaces.{AreApart, pairs_of}
use Rattle.yv_values.specs.Pairs.{Adds}
use Rattle.yv_values.specs.Places.{IsLeastPlace}
use Rattle.yv_values.specs.declared.key.Key.{Key}
use Rattle.yv_values.specs.InnerKeys.{key_cmp}
use Rattle.yv_values.proofs.Keys.{looked_up_apart, looked_up_known, looked_up_new}
use Rattle.yv_values.proofs.index.Index.find_or_keep.Goals as goal

pub invariant_of-self-then-len-count : goal.invariant_of-self-then-len-count
invariant_of-self-then-len-count c =
    let h = c.in_ok-self-inside.ensures in
    let w = c.or_insert.result.now in
    let o = entry_value c.in_ok-self-inside.field-0 in
    let new = (map_with_value c.in_ok-self-inside.field-0 w).entries in
    let is : new ≡ insert_entry key_cmp c.self.inside.places.entries c.into_key.result (unwrap_or o (c.args.place ∷ [])) =
    h.update.1 w ∙ ap (insert_entry key_cmp c.self.inside.places.entries c.into_key.result) (c.or_insert.ensures.value ∙ ap (unwrap_or o) c.one-first.ensures) in
    subst AreApart (grind arith) (looked_up_apart c.into_key.result c.args.place c.self.inside.places.entries new c.self.invariant o h.value is (λ s. h.keys_stay s w))

pub invariant_of-self-2 : goal.invariant_of-self-2
invariant_of-self-2 c =
    let h = c.in_ok-self-inside.ensures in
    let w = c.or_insert.result.now in
    let o = entry_value c.in_ok-self-inside.field-0 in
    let new = (map_with_value c.in_ok-self-inside.field-0 w).entries in
    let is : new ≡ insert_entry key_cmp c.self.inside.places.entries c.into_key.result (unwrap_or o (c.args.place ∷ [])) =
    h.update.1 w ∙ ap (insert_entry key_cmp c.self.inside.places.entries c.into_key.result) (c.or_insert.ensures.value ∙ ap (unwrap_or o) c.one-first.ensures) in
    subst AreApart (grind arith) (looked_up_apart c.into_key.result c.args.place c.self.inside.places.entries new c.self.invariant o h.value is (λ s. h.keys_stay s w))

pub returns-then-len-count-clause-least : goal.returns-then-len-count-clause-least
returns-then-len-count-clause-least c =
    let h = c.in_ok-self-inside.ensures in
    let w = c.or_insert.result.now in
    let o = entry_value c.in_ok-self-inside.field-0 in
    let new = (map_with_value c.in_ok-self-inside.field-0 w).entries in
    let is : new ≡ insert_entry key_cmp c.self.inside.places.entries c.into_key.result (unwrap_or o (c.args.place ∷ [])) =
    h.update.1 w ∙ ap (insert_entry key_cmp c.self.inside.places.entries c.into_key.result) (c.or_insert.ensures.value ∙ ap (unwrap_or o) c.one-first.ensures) in
    rw (← c.self.view_is, ← c.into_key.ensures) (looked_up_known c.into_key.result c.args.place c.self.inside.places.entries new c.self.invariant o c.least-least.result h.value is (λ s. h.keys_stay s w) (h.len w) (grind (arith, h.len w))
    (subst (λ (ps : List ℕ). IsLeastPlace ps c.least-least.result) (c.or_insert.ensures.value ∙ ap (unwrap_or o) c.one-first.ensures) c.least-least.ensures)).0

pub returns-then-len-count-clause-keeps : goal.returns-then-len-count-clause-keeps
returns-then-len-count-clause-keeps c =
    let h = c.in_ok-self-inside.ensures in
    let w = c.or_insert.result.now in
    let o = entry_value c.in_ok-self-inside.field-0 in
    let new = (map_with_value c.in_ok-self-inside.field-0 w).entries in
    let is : new ≡ insert_entry key_cmp c.self.inside.places.entries c.into_key.result (unwrap_or o (c.args.place ∷ [])) =
    h.update.1 w ∙ ap (insert_entry key_cmp c.self.inside.places.entries c.into_key.result) (c.or_insert.ensures.value ∙ ap (unwrap_or o) c.one-first.ensures) in
    subst (λ (xs : List (Key × List ℕ)). pairs_of xs ≡ c.args.self.now) {x = new} {y = c.self-3-1.given.0.entries} (grind arith) ((looked_up_known c.into_key.result c.args.place c.self.inside.places.entries new c.self.invariant o c.least-least.result h.value is (λ s. h.keys_stay s w) (h.len w) (grind (arith, h.len w))
    (subst (λ (ps : List ℕ). IsLeastPlace ps c.least-least.result) (c.or_insert.ensures.value ∙ ap (unwrap_or o) c.one-first.ensures) c.least-least.ensures)).1 ∙ c.self.view_is)

pub returns-clause-least : goal.returns-clause-least
returns-clause-least c =
    let h = c.in_ok-self-inside.ensures in
    let w = c.or_insert.result.now in
    let o = entry_value c.in_ok-self-inside.field-0 in
    let new = (map_with_value c.in_ok-self-inside.field-0 w).entries in
    let is : new ≡ insert_entry key_cmp c.self.inside.places.entries c.into_key.result (unwrap_or o (c.args.place ∷ [])) =
    h.update.1 w ∙ ap (insert_entry key_cmp c.self.inside.places.entries c.into_key.result) (c.or_insert.ensures.value ∙ ap (unwrap_or o) c.one-first.ensures) in
    rw (← c.self.view_is, ← c.into_key.ensures) (looked_up_new c.into_key.result c.args.place c.self.inside.places.entries new c.self.invariant o h.value is (h.len w) (λ same. c.if-len-count.false (grind (arith, same)))).0

pub returns-clause-keeps : goal.returns-clause-keeps
returns-clause-keeps c =
    let h = c.in_ok-self-inside.ensures in
    let w = c.or_insert.result.now in
    let o = entry_value c.in_ok-self-inside.field-0 in
    let new = (map_with_value c.in_ok-self-inside.field-0 w).entries in
    let is : new ≡ insert_entry key_cmp c.self.inside.places.entries c.into_key.result (unwrap_or o (c.args.place ∷ [])) =
    h.update.1 w ∙ ap (insert_entry key_cmp c.self.inside.places.entries c.into_key.result) (c.or_insert.ensures.value ∙ ap (unwrap_or o) c.one-first.ensures) in
    rw (← c.self.view_is, ← c.into_key.ensures) (subst (λ (xs : List (Key × List ℕ)). Adds (pairs_of c.self.inside.places.entries) (pairs_of xs) (key_of c.into_key.result) c.args.place) {x = new} {y = c.self-3-1.given.0.entries} (grind arith) (looked_up_new c.into_key.result c.args.place c.self.inside.places.entries new c.self.invariant o h.value is (h.len w) (λ same. c.if-len-count.false (grind (arith, same)))).1)
