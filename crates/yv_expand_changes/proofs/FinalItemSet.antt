-- The items of the final tree as a set.
use Rattle.std.proofs.Common.{◌≡◌, ℕ, ◌+◌, ◌<◌, ◌==◌, ◌⊎◌, inl, inr, Bool, true, false, cond, List, [], length, Some, refl, sym, ◌∙◌, ap, arith, eqb-true, eq-eqb, below_more}
use Rattle.std.specs.Bool.{one_answer}
use Rattle.std.specs.Ordering.{nat_cmp, is_eq}
use Rattle.std.specs.declared.cmp.Ordering.TheVariants.{Equal}
use Rattle.std.specs.Cmp.{Equal-is, nat_cmp_is}
use Rattle.std.specs.BTreeMap.{is_at}
use Rattle.std.specs.List.{list_any, slice_get}
use Rattle.std.specs.BTreeSet.{BTreeSet, UpdatesBy, contains}
use Rattle.std.proofs.lemmas.Map.Lookups.{exact_unsigned}
use Rattle.std.proofs.lemmas.Option.{same_Some, slice_get_within}
use Rattle.yv_expand_rounds.specs.declared.row.ItemRow.{ItemRow}
use Rattle.yv_expand_changes.specs.Refusals.{IsThere}
use Rattle.yv_expand_changes.specs.InnerRefusals.{AreItems}

is_eq_nat : (a b : ℕ) → is_eq (nat_cmp a b) ≡ (a == b)
is_eq_nat a b = one_answer (is_eq (nat_cmp a b)) (a == b)
    (λ h. exact_unsigned a b ((Equal-is (nat_cmp a b)).0 h), λ e. (Equal-is (nat_cmp a b)).1 (sym (nat_cmp_is a b Equal e)))
    (λ h. eqb-true a b h, λ e. eq-eqb a b e)

-- one number more
entered : (old new : BTreeSet ℕ) (n : ℕ) → UpdatesBy nat_cmp (nat_cmp n) old new true → (number : ℕ) → contains nat_cmp new number ≡ cond (n == number) true (contains nat_cmp old number)
entered old new n u number = u.0 number ∙ ap (λ b. cond b true (contains nat_cmp old number)) (is_eq_nat n number)

either : (b old : Bool) → cond b true old ≡ true → (b ≡ true) ⊎ (old ≡ true)
either true old h = inl refl
either false old h = inr h

kept : (b old : Bool) → old ≡ true → cond b true old ≡ true
kept true old h = refl
kept false old h = h

none_in : (set : BTreeSet ℕ) (number : ℕ) → set.keys ≡ [] → contains nat_cmp set number ≡ false
none_in set number e = ap (list_any (is_at (nat_cmp number))) e

module _ (tree : List ItemRow) where
  -- the numbers of the first items
  pub record Entered (k : ℕ) (items : BTreeSet ℕ) : Type 0 where
    pub there : (item : ℕ) → contains nat_cmp items item ≡ true → IsThere tree item
    pub all : (place : ℕ) → place < k → (x : ItemRow) → slice_get tree place ≡ Some x → contains nat_cmp items x.number ≡ true

  pub entered_none : (items : BTreeSet ℕ) → items.keys ≡ [] → Entered 0 items
  entered_none items empty = record {
    there = λ item h. absurd (let bad : true ≡ false = sym h ∙ none_in items item empty in cc);
    all = λ place lt x at. absurd (omega (arith, lt));
  }

  pub entered_more : (k : ℕ) (x : ItemRow) (old new : BTreeSet ℕ) → slice_get tree k ≡ Some x → UpdatesBy nat_cmp (nat_cmp x.number) old new true → Entered k old → Entered (k + 1) new
  entered_more k x old new at u before = record {
    there = λ item h. elim (either (x.number == item) (contains nat_cmp old item) (sym (entered old new x.number u item) ∙ h)) [
      | inl e ↦ record { place = k; row = x; at = at; is = eqb-true x.number item e }
      | inr e ↦ before.there item e
    ];
    all = below_more (λ place. (y : ItemRow) → slice_get tree place ≡ Some y → contains nat_cmp new y.number ≡ true) k
        (λ place lt y there. entered old new x.number u y.number ∙ kept (x.number == y.number) (contains nat_cmp old y.number) (before.all place lt y there))
        (λ y there.
        let same : x ≡ y = same_Some x y (sym at ∙ there) in
        entered old new x.number u y.number
        ∙ ap (λ b. cond b true (contains nat_cmp old y.number)) (eq-eqb x.number y.number (ap (λ (z : ItemRow). z.number) same)));
  }

  pub entered_all : (k : ℕ) (items : BTreeSet ℕ) → k ≡ length tree → Entered k items → AreItems items tree
  entered_all k items e before = record {
    there = before.there;
    all = λ item h.
        ap (contains nat_cmp items) (sym h.is)
        ∙ before.all h.place (let w = slice_get_within tree h.place h.row h.at in omega (arith, w, e)) h.row h.at;
  }
