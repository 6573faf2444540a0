-- What an index knows, item by item.
use Rattle.std.proofs.Common.{◌≡◌, ℕ, ◌+◌, ◌⊎◌, Bool, true, false, cond, List, [], ◌∷◌, ◌++◌, length, Option, Some, None, Ok, refl, sym, ap, subst, ◌∙◌, inl, inr, arith}
use Rattle.std.proofs.lemmas.Option.{same_Some}
use Rattle.serde_json.specs.Data.{Data}
use Rattle.yv_values.specs.Pairs.{Pair, Keeps, IsLeast, Adds, AddsIfNone}
use Rattle.yv_values.specs.Values.{Val}
use Rattle.yv_validate.specs.InnerMemory.{Remembers, Tells}
use Rattle.yv_validate.specs.Repeats.{first_same, is_the, repeat_of_tuple}
use Rattle.yv_values.proofs.SameValues.{same_values-Decides}

-- the first of two, where there is one
abbrev or_next : Option ℕ → Option ℕ → Option ℕ
or_next None b = b
or_next (Some a) b = Some a

-- this number, where it is the same
abbrev numbered : Bool → ℕ → Option ℕ
numbered b n = cond b (Some n) None

or_none : (x : Option ℕ) → or_next x None ≡ x
or_none None = refl
or_none (Some n) = refl

choose : (b : Bool) (from : ℕ) (x y z : Option ℕ) → x ≡ or_next y z → cond b (Some from) x ≡ or_next (cond b (Some from) y) z
choose true from x y z h = refl
choose false from x y z h = h

-- with one item more
first_more : (f : Data → Option (List Val)) (vs : List Val) (from : ℕ) (before : List Data) (d : Data)
    → first_same f vs from (before ++ d ∷ []) ≡ or_next (first_same f vs from before) (numbered (is_the vs (f d)) (from + length before))
first_more f vs from [] d = ap (λ n. numbered (is_the vs (f d)) n) (omega arith)
first_more f vs from (e ∷ es) d =
    choose (is_the vs (f e)) from (first_same f vs (from + 1) (es ++ d ∷ [])) (first_same f vs (from + 1) es) (numbered (is_the vs (f d)) (from + length (e ∷ es)))
    (first_more f vs (from + 1) es d
    ∙ ap (λ n. or_next (first_same f vs (from + 1) es) (numbered (is_the vs (f d)) n)) (let same : from + 1 + length es ≡ from + length (e ∷ es) = omega arith in same))

none_first : (x : Option ℕ) → ((q : ℕ) → x ≡ Some q → ⊥) → x ≡ None
none_first None h = refl
none_first (Some q) h = absurd (h q refl)

-- where a key is first is its least place
pub first_found : (is : List Pair) (f : Data → Option (List Val)) (before : List Data) (vs : List Val) (first : Option ℕ) → Remembers is f before → IsLeast is vs first → first ≡ first_same f vs 1 before
first_found is f before vs None r h = sym (none_first (first_same f vs 1 before) (λ q e. h q ((r.each vs q).1 e)))
first_found is f before vs (Some p) r h = sym ((r.each vs p).0 h.0)

-- an item by which no tuple is first
same_more : (is : List Pair) (f : Data → Option (List Val)) (before : List Data) (d : Data)
    → ((vs : List Val) → or_next (first_same f vs 1 before) (numbered (is_the vs (f d)) (1 + length before)) ≡ first_same f vs 1 before)
    → Remembers is f before → Remembers is f (before ++ d ∷ [])
same_more is f before d same r =
    record {
      each = λ vs q.
          let all : first_same f vs 1 (before ++ d ∷ []) ≡ first_same f vs 1 before = first_more f vs 1 before d ∙ same vs in
          (λ k. all ∙ (r.each vs q).0 k, λ e. (r.each vs q).1 (sym all ∙ e));
    }

nothing_more : (is : List Pair) (f : Data → Option (List Val)) (before : List Data) (d : Data) → Remembers is f before → f d ≡ None → Remembers is f (before ++ d ∷ [])
nothing_more is f before d r e =
    same_more is f before d
    (λ vs. ap (λ (o : Option (List Val)). or_next (first_same f vs 1 before) (numbered (is_the vs o) (1 + length before))) e ∙ or_none (first_same f vs 1 before)) r

known : (b : Bool) (x : Option ℕ) (n p : ℕ) → (b ≡ true → x ≡ Some p) → or_next x (numbered b n) ≡ x
known true x n p h = ap (λ (o : Option ℕ). or_next o (Some n)) (h refl) ∙ sym (h refl)
known false x n p h = or_none x

-- the tuple is one of those that stand already
known_more : (is : List Pair) (f : Data → Option (List Val)) (before : List Data) (d : Data) (key : List Val) (p : ℕ) → Remembers is f before → f d ≡ Some key → Keeps is key p → Remembers is f (before ++ d ∷ [])
known_more is f before d key p r e k =
    same_more is f before d
    (λ vs. known (is_the vs (f d)) (first_same f vs 1 before) (1 + length before) p
    (λ b. (r.each vs p).0 (subst (λ ws. Keeps is ws p) (sym ((same_values-Decides vs key).0 (sym (ap (is_the vs) e) ∙ b))) k))) r

split : (x : Option ℕ) (b : Bool) (n q : ℕ) → or_next x (numbered b n) ≡ Some q → (x ≡ Some q) ⊎ ((b ≡ true) × (n ≡ q))
split (Some p) b n q e = inl e
split None true n q e = inr (refl, same_Some n q e)
split None false n q e = absurd (cc)

new_more : (is new : List Pair) (f : Data → Option (List Val)) (before : List Data) (d : Data) (key : List Val) (place : ℕ) → length before + 1 ≡ place
    → Remembers is f before → f d ≡ Some key → ((q : ℕ) → Keeps is key q → ⊥) → Adds is new key place → Remembers new f (before ++ d ∷ [])
new_more is new f before d key place at r e none adds =
    let last : ℕ = 1 + length before in
    let here : last ≡ place = omega (arith, at) in
    record {
      each = λ vs q. (
        λ k. first_more f vs 1 before d ∙ elim ((adds vs q).0 k) [
          | inl a ↦ ap (λ (o : Option ℕ). or_next o (numbered (is_the vs (f d)) last)) ((r.each vs q).0 a)
          | inr b ↦
              ap (λ (o : Option ℕ). or_next o (numbered (is_the vs (f d)) last))
              (none_first (first_same f vs 1 before) (λ p g. none p (subst (λ ws. Keeps is ws p) b.0 ((r.each vs p).1 g))))
              ∙ ap (λ (c : Bool). numbered c last) (ap (is_the vs) e ∙ (same_values-Decides vs key).1 b.0)
              ∙ ap (λ (n : ℕ). Some n) (here ∙ sym b.1)
        ],
        λ g. elim (split (first_same f vs 1 before) (is_the vs (f d)) last q (sym (first_more f vs 1 before d) ∙ g)) [
          | inl a ↦ (adds vs q).1 (inl ((r.each vs q).1 a))
          | inr b ↦ (adds vs q).1 (inr ((same_values-Decides vs key).0 (sym (ap (is_the vs) e) ∙ b.0), sym b.1 ∙ here))
        ],
      );
    }

pub tells_none : (is : List Pair) (place : ℕ) → Tells is is None place None
tells_none is place = record { same = λ f before d r e. sym (ap (repeat_of_tuple f before) e); next = λ f before d at r e. nothing_more is f before d r e }

pub tells_some : (is new : List Pair) (key : List Val) (first : Option ℕ) (place : ℕ) → IsLeast is key first → AddsIfNone (Ok first) is new key place → Tells is new (Some key) place first
tells_some is new key None place least adds =
    record {
      same = λ f before d r e. first_found is f before key None r least ∙ sym (ap (repeat_of_tuple f before) e);
      next = λ f before d at r e. new_more is new f before d key place at r e least adds;
    }
tells_some is new key (Some p) place least adds =
    record {
      same = λ f before d r e. first_found is f before key (Some p) r least ∙ sym (ap (repeat_of_tuple f before) e);
      next = λ f before d at r e. rw adds (known_more is f before d key p r e least.0);
    }

pub nothing_yet : (f : Data → Option (List Val)) → Remembers [] f []
nothing_yet f = record { each = λ vs q. (λ k. absurd k, λ e. absurd (cc)) }
