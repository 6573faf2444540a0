-- Numbers that lead to one another.
use Rattle.std.proofs.Common.{◌≡◌, ◌≢◌, ◌⊎◌, inl, inr, ℕ, ◌+◌, ◌-◌, ◌≤◌, ◌<◌, Bool, true, false, nat_lt, if◌then◌else◌, List, [], ◌∷◌, length, set, drop, get_or, Option, Some, None, refl, sym, ◌∙◌, ap, subst, arith, eq-eqb}
use Rattle.std.proofs.lemmas.Bool.{ne_eqb, cases_eq, cases_lt}
use Rattle.std.proofs.lemmas.List.{length-set, get_or-set_same, get_or-set_other, drop_more, drop_all}
use Rattle.std.proofs.lemmas.Option.{same_Some}
use Rattle.yv_base_tables.specs.Families.{is_place, numbers_from}
use Rattle.yv_base_tables.specs.InnerChains.{Leads, AreChains, Links}
use Rattle.yv_base_tables.specs.declared.chains.Chains.{Chains}

-- how far it is from the next one to the end
abbrev pub left : ℕ → Option ℕ → ℕ
left count None = 0
left count (Some k) = count - k

pub leads_lower : (next : List (Option ℕ)) (a b : ℕ) (first : Option ℕ) (ks : List ℕ) → b ≤ a → Leads next a first ks → Leads next b first ks
leads_lower next a b first [] l h = h
leads_lower next a b first (k ∷ ks) l h = (h.0, omega (arith, l, h.1), h.2, h.3)

-- a lower number may lead elsewhere
pub leads_set : (next : List (Option ℕ)) (a i : ℕ) (v first : Option ℕ) (ks : List ℕ) → i < a → Leads next a first ks → Leads (set next i v) a first ks
leads_set next a i v first [] l h = h
leads_set next a i v first (k ∷ ks) l h =
    let ne : k ≢ i = omega (arith, l, h.1) in
    let low : i < k + 1 = omega (arith, l, h.1) in
    let rest : Leads (set next i v) (k + 1) (get_or next k None) ks = leads_set next (k + 1) i v (get_or next k None) ks low h.3 in
    (h.0, h.1, omega (arith, h.2, length-set next i v), subst (λ (o : Option ℕ). Leads (set next i v) (k + 1) o ks) (sym (get_or-set_other next i k v None ne)) rest)

-- they lead to one list
pub leads_one : (next : List (Option ℕ)) (a b : ℕ) (first : Option ℕ) (ks ls : List ℕ) → Leads next a first ks → Leads next b first ls → ks ≡ ls
leads_one next a b first [] [] h g = refl
leads_one next a b first [] (l ∷ ls) h g = absurd (let bad : None ≡ Some l = sym h ∙ g.0 in cc)
leads_one next a b first (k ∷ ks) [] h g = absurd (let bad : None ≡ Some k = sym g ∙ h.0 in cc)
leads_one next a b first (k ∷ ks) (l ∷ ls) h g =
    let same : k ≡ l = same_Some k l (sym h.0 ∙ g.0) in
    let there : Leads next (l + 1) (get_or next k None) ls = subst (λ (m : ℕ). Leads next (l + 1) (get_or next m None) ls) (sym same) g.3 in
    ap (λ m. m ∷ ks) same ∙ ap (λ m. l ∷ m) (leads_one next (k + 1) (l + 1) (get_or next k None) ks ls h.3 there)

pub lt_yes : (a b : ℕ) → a < b → nat_lt a b ≡ true
lt_yes a b h = grind arith

pub lt_no : (a b : ℕ) → b ≤ a → nat_lt a b ≡ false
lt_no a b h = grind arith

from_here : (places : List (Option ℕ)) (k p : ℕ) → k < length places → numbers_from p k (drop k places) ≡ numbers_from p k (get_or places k None ∷ drop (k + 1) places)
from_here places k p h = ap (numbers_from p k) (drop_more places k None h)

-- none is linked
pub none_linked : (places : List (Option ℕ)) (count from : ℕ) (chains : Chains) → length places ≤ from → length chains.firsts.items ≡ count → length chains.next.items ≡ length places → ((p : ℕ) → p < count → get_or chains.firsts.items p None ≡ None) → AreChains places count from chains
none_linked places count from chains past firsts nexts none = record {
  firsts = firsts;
  nexts = nexts;
  leads = λ p h. subst (λ (l : List (Option ℕ)). Leads chains.next.items from (get_or chains.firsts.items p None) (numbers_from p from l)) (sym (drop_all from places past)) (none p h);
}

module _ (places : List (Option ℕ)) (count k : ℕ) (old new : Chains) (was : AreChains places count (k + 1) old) (within : k < length places) where
  -- one without a place
  same : (p : ℕ) → p < count → is_place p (get_or places k None) ≡ false → new.firsts.items ≡ old.firsts.items → new.next.items ≡ old.next.items → Leads new.next.items k (get_or new.firsts.items p None) (numbers_from p k (drop k places))
  same p h other firsts next =
      let list : numbers_from p k (drop k places) ≡ numbers_from p (k + 1) (drop (k + 1) places) =
      from_here places k p within ∙ ap (λ (b : Bool). if b then k ∷ numbers_from p (k + 1) (drop (k + 1) places) else numbers_from p (k + 1) (drop (k + 1) places)) other in
      let before : Leads old.next.items k (get_or old.firsts.items p None) (numbers_from p (k + 1) (drop (k + 1) places)) = leads_lower old.next.items (k + 1) k _ _ (omega arith) (was.leads p h) in
      subst (λ (l : List ℕ). Leads new.next.items k (get_or new.firsts.items p None) l) (sym list)
      (subst (λ (l : List (Option ℕ)). Leads l k (get_or new.firsts.items p None) (numbers_from p (k + 1) (drop (k + 1) places))) (sym next)
      (subst (λ (l : List (Option ℕ)). Leads old.next.items k (get_or l p None) (numbers_from p (k + 1) (drop (k + 1) places))) (sym firsts) before))

  kept : new.firsts.items ≡ old.firsts.items → new.next.items ≡ old.next.items → ((p : ℕ) → p < count → is_place p (get_or places k None) ≡ false) → AreChains places count k new
  kept firsts next other = record {
    firsts = ap length firsts ∙ was.firsts;
    nexts = ap length next ∙ was.nexts;
    leads = λ p h. same p h (other p h) firsts next;
  }

  -- one with this place
  put : (q : ℕ) → get_or places k None ≡ Some q → q < count → new.next.items ≡ set old.next.items k (get_or old.firsts.items q None) → new.firsts.items ≡ set old.firsts.items q (Some k) → AreChains places count k new
  put q here l next firsts =
      let room : k < length old.next.items = omega (arith, within, was.nexts) in
      record {
        firsts = ap length firsts ∙ length-set old.firsts.items q (Some k) ∙ was.firsts;
        nexts = ap length next ∙ length-set old.next.items k (get_or old.firsts.items q None) ∙ was.nexts;
        leads = λ p h. by p h (cases_eq p q);
      }
    where
      moved : (p : ℕ) (first : Option ℕ) (ks : List ℕ) → Leads old.next.items (k + 1) first ks → Leads new.next.items (k + 1) first ks
      moved p first ks h = subst (λ (l : List (Option ℕ)). Leads l (k + 1) first ks) (sym next) (leads_set old.next.items (k + 1) k (get_or old.firsts.items q None) first ks (omega arith) h)

      by : (p : ℕ) → p < count → (p ≡ q) ⊎ (p ≢ q) → Leads new.next.items k (get_or new.firsts.items p None) (numbers_from p k (drop k places))
      by p h (inl e) =
          let test : is_place p (get_or places k None) ≡ true = ap (is_place p) here ∙ eq-eqb q p (sym e) in
          let list : numbers_from p k (drop k places) ≡ k ∷ numbers_from p (k + 1) (drop (k + 1) places) =
          from_here places k p within ∙ ap (λ (b : Bool). if b then k ∷ numbers_from p (k + 1) (drop (k + 1) places) else numbers_from p (k + 1) (drop (k + 1) places)) test in
          let first : get_or new.firsts.items p None ≡ Some k =
          ap (λ l. get_or l p None) firsts ∙ ap (λ m. get_or (set old.firsts.items q (Some k)) m None) e ∙ get_or-set_same old.firsts.items q (Some k) None (omega (arith, l, was.firsts)) in
          let then_old : get_or new.next.items k None ≡ get_or old.firsts.items p None =
          ap (λ l. get_or l k None) next ∙ get_or-set_same old.next.items k (get_or old.firsts.items q None) None (omega (arith, within, was.nexts)) ∙ ap (λ m. get_or old.firsts.items m None) (sym e) in
          let rest : Leads new.next.items (k + 1) (get_or new.next.items k None) (numbers_from p (k + 1) (drop (k + 1) places)) =
          subst (λ (o : Option ℕ). Leads new.next.items (k + 1) o (numbers_from p (k + 1) (drop (k + 1) places))) (sym then_old) (moved p (get_or old.firsts.items p None) (numbers_from p (k + 1) (drop (k + 1) places)) (was.leads p h)) in
          let long : k < length new.next.items = omega (arith, ap length next, length-set old.next.items k (get_or old.firsts.items q None), within, was.nexts) in
          subst (λ (ks : List ℕ). Leads new.next.items k (get_or new.firsts.items p None) ks) (sym list) (first, omega arith, long, rest)
      by p h (inr ne) =
          let test : is_place p (get_or places k None) ≡ false = ap (is_place p) here ∙ ne_eqb q p (λ e. ne (sym e)) in
          let list : numbers_from p k (drop k places) ≡ numbers_from p (k + 1) (drop (k + 1) places) =
          from_here places k p within ∙ ap (λ (b : Bool). if b then k ∷ numbers_from p (k + 1) (drop (k + 1) places) else numbers_from p (k + 1) (drop (k + 1) places)) test in
          let first : get_or new.firsts.items p None ≡ get_or old.firsts.items p None = ap (λ l. get_or l p None) firsts ∙ get_or-set_other old.firsts.items q p (Some k) None ne in
          subst (λ (ks : List ℕ). Leads new.next.items k (get_or new.firsts.items p None) ks) (sym list)
          (subst (λ (o : Option ℕ). Leads new.next.items k o (numbers_from p (k + 1) (drop (k + 1) places))) (sym first)
          (leads_lower new.next.items (k + 1) k _ _ (omega arith) (moved p (get_or old.firsts.items p None) (numbers_from p (k + 1) (drop (k + 1) places)) (was.leads p h))))

  -- one more number
  pub linked_more : (o : Option ℕ) → get_or places k None ≡ o → Links k o old new → AreChains places count k new
  linked_more None here now = kept now.firsts now.next (λ p h. ap (is_place p) here)
  linked_more (Some q) here now = elim (cases_lt q count) [
    | inl l ↦
        let test : nat_lt q (length old.firsts.items) ≡ true = lt_yes q (length old.firsts.items) (omega (arith, l, was.firsts)) in
        put q here l
        (now.next ∙ ap (λ (b : Bool). if b then set old.next.items k (get_or old.firsts.items q None) else old.next.items) test)
        (now.firsts ∙ ap (λ (b : Bool). if b then set old.firsts.items q (Some k) else old.firsts.items) test)
    | inr g ↦
        let test : nat_lt q (length old.firsts.items) ≡ false = lt_no q (length old.firsts.items) (omega (arith, g, was.firsts)) in
        kept (now.firsts ∙ ap (λ (b : Bool). if b then set old.firsts.items q (Some k) else old.firsts.items) test)
        (now.next ∙ ap (λ (b : Bool). if b then set old.next.items k (get_or old.firsts.items q None) else old.next.items) test)
        (λ p h. ap (is_place p) here ∙ ne_eqb q p (λ e. omega (arith, e, g, h)))
  ]

-- the first of these, and those behind it
pub leads_here : (next : List (Option ℕ)) (a : ℕ) (first : Option ℕ) (k : ℕ) (ks : List ℕ) → first ≡ Some k → Leads next a first ks → (k < length next) × (ls : List ℕ) × (ks ≡ k ∷ ls) × Leads next (k + 1) (get_or next k None) ls
leads_here next a first k [] e h = absurd (let bad : Some k ≡ None = sym e ∙ h in cc)
leads_here next a first k (l ∷ ls) e h =
    let same : l ≡ k = same_Some l k (sym h.0 ∙ e) in
    (omega (arith, same, h.2), ls, ap (λ m. m ∷ ls) same, subst (λ (m : ℕ). Leads next (m + 1) (get_or next m None) ls) same h.3)

pub leads_none : (next : List (Option ℕ)) (a : ℕ) (first : Option ℕ) (ks : List ℕ) → first ≡ None → Leads next a first ks → ks ≡ []
leads_none next a first [] e h = refl
leads_none next a first (k ∷ ks) e h = absurd (let bad : Some k ≡ None = sym h.0 ∙ e in cc)

-- what is left falls
pub leads_fall : (next : List (Option ℕ)) (a k : ℕ) (o : Option ℕ) (ks : List ℕ) → k < length next → a ≡ k + 1 → Leads next a o ks → left (length next) o < left (length next) (Some k)
leads_fall next a k None ks l e h = omega (arith, l)
leads_fall next a k (Some m) [] l e h = absurd (let bad : Some m ≡ None = h in cc)
leads_fall next a k (Some m) (j ∷ js) l e h =
    let same : m ≡ j = same_Some m j h.0 in
    omega (arith, same, h.1, h.2, e, l)
