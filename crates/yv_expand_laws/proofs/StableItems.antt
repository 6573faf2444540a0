-- What items show where others change.
use Rattle.std.proofs.Common.{◌⊎◌, inl, inr, ◌≡◌, ℕ, ◌+◌, ◌<◌, ◌≤◌, ◌||◌, Bool, true, false, List, ◌++◌, refl, sym, subst}
use Rattle.std.specs.List.{Contains}
use Rattle.std.proofs.lemmas.Bool.{false≢true}
use Rattle.std.proofs.lemmas.List.Elements.{Contains-append_cases}
use Rattle.yv_expand_rounds.specs.Groups.{Groups, members_of}
use Rattle.yv_expand_definition.specs.Nodes.{Forest, join}
use Rattle.yv_expand_laws.specs.Order.{comes_before}
use Rattle.yv_expand_laws.specs.Shows.{Ascend, Items, Orders, Shows, Stand}
use Rattle.yv_expand_laws.specs.Shows.Ascend.{no_items, one_more}
use Rattle.yv_expand_laws.specs.Shows.Stand.{no_items as none_stand, not_a_node, shown_node}
use Rattle.yv_expand_laws.proofs.FoundItems.{there_first, there_later}

-- groups that are the same below all that is owned show the same
pub stands_on : (old new : Groups) {its : Items} {owns : ℕ → Bool} {items : List ℕ} {f : Forest}
    → ((i : ℕ) → owns i ≡ true → members_of new (i + 1) ≡ members_of old (i + 1)) → Stand its old owns items f → Stand its new owns items f
stands_on old new same none_stand = none_stand
stands_on old new same (not_a_node has no_node rest) = not_a_node has no_node (stands_on old new same rest)
stands_on old new {its = its} same (shown_node {i = i} {items = items} low rest is_node s o below behind) =
    shown_node low rest is_node s (subst (λ ms. Orders its.given (Contains ms) items) (sym (same i s.has)) o)
    (stands_on old new (λ j h. same j (s.below_in j h)) below) (stands_on old new (λ j h. same j (s.behind_in j h)) behind)

abbrev pub either : (a b : ℕ → Bool) → ℕ → Bool
either a b x = a x || b x

pub or_left : (a b : Bool) → a ≡ true → (a || b) ≡ true
or_left true b e = refl
or_left false b e = absurd (false≢true e)

pub or_right : (a b : Bool) → b ≡ true → (a || b) ≡ true
or_right true b e = refl
or_right false b e = e

pub or_cases : (a b : Bool) → (a || b) ≡ true → (a ≡ true) ⊎ (b ≡ true)
or_cases true b e = inl refl
or_cases false b e = inr e

pub or_none : (a b : Bool) → a ≡ false → b ≡ false → (a || b) ≡ false
or_none true b e f = e
or_none false b e f = f

-- one's items behind another's
pub stands_joined : {its : Items} {groups : Groups} {first second : ℕ → Bool} {items others : List ℕ} {f g : Forest} → ((x : ℕ) → first x ≡ true → second x ≡ false)
    → Stand its groups first items f → Stand its groups second others g → Stand its groups (either first second) (items ++ others) (join f g)
stands_joined {its = its} {groups = groups} {first = first} {second = second} apart none_stand q = owns_more q
  where
    owns_more : {items : List ℕ} {h : Forest} → Stand its groups second items h → Stand its groups (either first second) items h
    owns_more none_stand = none_stand
    owns_more (not_a_node {i = i} has no_node rest) = not_a_node (or_right (first i) (second i) has) no_node (owns_more rest)
    owns_more (shown_node {i = i} low rest is_node s o below behind) =
        shown_node low rest is_node (record {
          has = or_right (first i) (second i) s.has;
          below_in = λ x h. or_right (first x) (second x) (s.below_in x h);
          behind_in = λ x h. or_right (first x) (second x) (s.behind_in x h);
          apart = s.apart;
          not_below = s.not_below;
          not_behind = s.not_behind;
        }) o below behind
stands_joined {first = first} {second = second} apart (not_a_node {i = i} has no_node rest) q = not_a_node (or_left (first i) (second i) has) no_node (stands_joined apart rest q)
stands_joined {first = first} {second = second} apart (shown_node {i = i} low rest is_node s o below behind) q =
    shown_node low (either rest second) is_node (record {
      has = or_left (first i) (second i) s.has;
      below_in = λ x h. or_left (first x) (second x) (s.below_in x h);
      behind_in = λ x h. elim (or_cases (rest x) (second x) h) [ inl a ↦ or_left (first x) (second x) (s.behind_in x a) | inr b ↦ or_right (first x) (second x) b ];
      apart = λ x h. or_none (rest x) (second x) (s.apart x h) (apart x (s.below_in x h));
      not_below = s.not_below;
      not_behind = or_none (rest i) (second i) s.not_behind (apart i s.has);
    }) o below (stands_joined (λ x h. apart x (s.behind_in x h)) behind q)

-- what is owned may be more
pub stands_wider : {its : Items} {groups : Groups} {owns more : ℕ → Bool} {items : List ℕ} {f : Forest} → ((x : ℕ) → owns x ≡ true → more x ≡ true)
    → Stand its groups owns items f → Stand its groups more items f
stands_wider wide none_stand = none_stand
stands_wider wide (not_a_node {i = i} has no_node rest) = not_a_node (wide i has) no_node (stands_wider wide rest)
stands_wider wide (shown_node {i = i} low rest is_node s o below behind) =
    shown_node low rest is_node (record {
      has = wide i s.has;
      below_in = λ x h. wide x (s.below_in x h);
      behind_in = λ x h. wide x (s.behind_in x h);
      apart = s.apart;
      not_below = s.not_below;
      not_behind = s.not_behind;
    }) o below behind

pub ascend_joined : {given : ℕ → Bool} {xs ys : List ℕ} → Ascend given xs → Ascend given ys
    → ((i j : ℕ) → Contains xs i → Contains ys j → comes_before given i j ≡ true) → Ascend given (xs ++ ys)
ascend_joined no_items q less = q
ascend_joined {ys = ys} (one_more {i = i} {others = others} first rest) q less =
    one_more (λ j h. elim (Contains-append_cases others ys j h) [ inl a ↦ first j a | inr b ↦ less i j (there_first i others) b ])
    (ascend_joined rest q (λ a b ha hb. less a b (there_later i a others ha) hb))

-- the frame: what stands elsewhere is shown as before
pub shows_on : {its : Items} {f : Forest} (old new : Groups) (g lo hi : ℕ) → ((i : ℕ) → lo ≤ i → i < hi → members_of new (i + 1) ≡ members_of old (i + 1))
    → ((i : ℕ) → lo ≤ i → i < hi → Contains (members_of new g) i → Contains (members_of old g) i)
    → ((i : ℕ) → lo ≤ i → i < hi → Contains (members_of old g) i → Contains (members_of new g) i) → Shows its old g lo hi f → Shows its new g lo hi f
shows_on old new g lo hi same back on s = record {
  items = s.items;
  owns = s.owns;
  bounds = s.bounds;
  orders = record {
    ascend = s.orders.ascend;
    all = λ i w. s.orders.all i (back i w.1.0 w.1.1 w.0, w.1);
    only = λ i h. (let w = s.orders.only i h in (on i w.1.0 w.1.1 w.0, w.1));
  };
  stand = stands_on old new (λ i h. same i (s.bounds i h).0 (s.bounds i h).1) s.stand;
}
