-- What augments of modules give to one node stands in one order, in whichever round they are
-- applied.
use Rattle.std.proofs.lemmas.Bool.{ltb-true, lt-ltb, le-ltb}
use Rattle.std.proofs.Common.{◌≡◌, ℕ, ◌<◌, ◌∙◌, ap, sym, refl, arith, Bool, true, false, nat_lt, if◌then◌else◌, Option, Some, None}
use Rattle.yv_expand_definition.specs.Nodes.{Forest, Node, none, node, nodes_given, insert, is_later, join}
use Rattle.yv_expand_definition.proofs.Unique.{apart}

-- nodes that an augment gave
abbrev pub AllBy : (augment : ℕ) → Forest → Type 0
AllBy a none = Unit {0}
AllBy a (node g below behind) = (g.giver ≡ Some a) × AllBy a behind

pub given_all : (a : ℕ) (f : Forest) → AllBy a (nodes_given a f)
given_all a none = tt
given_all a (node g below behind) = (refl, given_all a behind)

pub put : (a : ℕ) (nodes : Forest) (g : Node) (below behind : Forest) (b : Bool) → is_later a g.giver ≡ b → insert a nodes (node g below behind)
    ≡ (if b then join nodes (node g below behind) else node g below (insert a nodes behind))
put a nodes g below behind b is =
    ap (λ (x : Bool). if x then join nodes (node g below behind) else node g below (insert a nodes behind)) is

joined_none : (f : Forest) → join f none ≡ f
joined_none none = refl
joined_none (node g below behind) = ap (λ x. node g below x) (joined_none behind)

module _ (a b : ℕ) (less : nat_lt a b ≡ true) (not_less : nat_lt b a ≡ false) (wider : (c : ℕ) → nat_lt b c ≡ true → nat_lt a c ≡ true) where
  -- an augment's nodes stand behind an earlier one's
  pub insert_behind : (ys xs f : Forest) → AllBy a xs → insert b ys (join xs f) ≡ join xs (insert b ys f)
  insert_behind ys none f all = refl
  insert_behind ys (node g below behind) f (is, all) =
      put b ys g below (join behind f) false (ap (is_later b) is ∙ not_less) ∙ ap (λ x. node g below x) (insert_behind ys behind f all)

  -- and an earlier one's stand in front
  pub insert_before : (xs ys f : Forest) → AllBy b ys → insert a xs f ≡ join xs f → insert a xs (join ys f) ≡ join xs (join ys f)
  insert_before xs none f all is = is
  insert_before xs (node g below behind) f (by, all) is = put a xs g below (join behind f) true (ap (is_later a) by ∙ less)

  later_both : (giver : Option ℕ) → is_later b giver ≡ true → is_later a giver ≡ true
  later_both None is = is
  later_both (Some c) is = wider c is

  pub one_order : (xs ys f : Forest) → AllBy a xs → AllBy b ys → insert a xs (insert b ys f) ≡ insert b ys (insert a xs f)
  one_order xs ys none first second =
      let low : insert a xs ys ≡ join xs ys =
      ap (insert a xs) (sym (joined_none ys)) ∙ (insert_before xs ys none second (sym (joined_none xs)) ∙ ap (join xs) (joined_none ys)) in
      low ∙ (sym (insert_behind ys xs none first) ∙ ap (insert b ys) (joined_none xs))
  one_order xs ys (node g below behind) first second = by (is_later a g.giver) (is_later b g.giver) refl refl (one_order xs ys behind first second)
    where
      by : (p q : Bool) → is_later a g.giver ≡ p → is_later b g.giver ≡ q
          → insert a xs (insert b ys behind) ≡ insert b ys (insert a xs behind)
          → insert a xs (insert b ys (node g below behind)) ≡ insert b ys (insert a xs (node g below behind))
      by false false no_a no_b rest =
          ap (insert a xs) (put b ys g below behind false no_b)
          ∙ (put a xs g below (insert b ys behind) false no_a
          ∙ (ap (λ x. node g below x) rest
          ∙ (sym (put b ys g below (insert a xs behind) false no_b) ∙ ap (insert b ys) (sym (put a xs g below behind false no_a)))))
      by true false is_a no_b rest =
          ap (insert a xs) (put b ys g below behind false no_b)
          ∙ (put a xs g below (insert b ys behind) true is_a
          ∙ (ap (join xs) (sym (put b ys g below behind false no_b))
          ∙ (sym (insert_behind ys xs (node g below behind) first) ∙ ap (insert b ys) (sym (put a xs g below behind true is_a)))))
      by true true is_a is_b rest =
          ap (insert a xs) (put b ys g below behind true is_b)
          ∙ (insert_before xs ys (node g below behind) second (put a xs g below behind true is_a)
          ∙ (ap (join xs) (sym (put b ys g below behind true is_b))
          ∙ (sym (insert_behind ys xs (node g below behind) first) ∙ ap (insert b ys) (sym (put a xs g below behind true is_a)))))
      by false true no_a is_b rest = absurd (apart no_a (later_both g.giver is_b))

-- two augments of one node come to one order, whichever is applied first
pub in_one_order : (a b : ℕ) → a < b → (xs ys f : Forest)
    → insert a (nodes_given a xs) (insert b (nodes_given b ys) f) ≡ insert b (nodes_given b ys) (insert a (nodes_given a xs) f)
in_one_order a b less xs ys f =
    one_order a b (lt-ltb a b less) (le-ltb b a (omega (arith, less)))
    (λ c is. (let more : b < c = ltb-true b c is in lt-ltb a c (omega (arith, less, more)))) (nodes_given a xs) (nodes_given b ys) f (given_all a xs) (given_all b ys)
