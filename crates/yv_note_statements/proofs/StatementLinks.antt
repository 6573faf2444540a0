-- Lists of items, made from the last item to the first.
use Rattle.std.proofs.Common.{◌≡◌, ℕ, ◌+◌, ◌<◌, ◌≤◌, List, Option, None, Some, cond, length, get_or, drop, map, ◌∙◌, ap, sym, subst, inl, inr, arith}
use Rattle.std.proofs.Math.Nat.{eq-or-lt_of_le}
use Rattle.std.proofs.lemmas.List.{drop_more, get_or-map, length-map}
use Rattle.yv_note_statements.specs.Lists.{Puts, first_at, first_of, is_in, next_at, next_of}
use Rattle.yv_note_statements.specs.declared.links.Links.{Links}

-- the links between items from one on
pub record AreLinked (lists : List (Option ℕ)) (links : Links) (from : ℕ) : Type 0 where
  pub within : from ≤ length lists
  pub long_first : length links.first.items ≡ length lists
  pub long_next : length links.next.items ≡ length lists
  pub firsts : (list : ℕ) → list < length lists → first_at links list ≡ first_of list (drop from lists) from
  pub nexts : (item list : ℕ) → from ≤ item → item < length lists → get_or lists item None ≡ Some list
      → list < length lists → next_at links item ≡ next_of list lists item

-- the first item of a list from an item on: that item, or one after it
pub first_of-more : (lists : List (Option ℕ)) (item list : ℕ) → item < length lists
    → first_of list (drop item lists) item
    ≡ cond (is_in list (get_or lists item None)) (Some item) (first_of list (drop (item + 1) lists) (item + 1))
first_of-more lists item list h = ap (λ (rest : List (Option ℕ)). first_of list rest item) (drop_more lists item None h)

-- one item more
pub linked-more : (lists : List (Option ℕ)) (old new : Links) (from item : ℕ) → from ≡ item + 1
    → AreLinked lists old from → Puts (get_or lists item None) item old new → AreLinked lists new item
linked-more lists old new from item e linked puts =
    let inside : item < length lists = omega (arith, linked.within) in
    record {
      within = omega arith;
      long_first = puts.as_many ∙ linked.long_first;
      long_next = puts.as_many_next ∙ linked.long_next;
      firsts = λ list h.
          let here = puts.firsts list (omega (arith, linked.long_first)) in
          let before = linked.firsts list h in
          let more = first_of-more lists item list inside in
          cc;
      nexts = λ k list low high own h.
          elim (eq-or-lt_of_le low) [
            | inr after ↦ puts.others k (λ same. omega arith) ∙ linked.nexts k list (omega arith) high own h
            | inl same ↦
                let before = linked.firsts list h in
                let own_here : get_or lists item None ≡ Some list = cc in
                let here = puts.nexts list own_here (omega (arith, linked.long_first)) in
                cc
          ];
    }

-- the same, where the lists are those of entries
pub linked-entry : {X : Type 0} (f : X → Option ℕ) (xs : List X) (d : X) (old new : Links) (from item : ℕ)
    → from ≡ item + 1 → AreLinked (map f xs) old from → Puts (f (get_or xs item d)) item old new
    → AreLinked (map f xs) new item
linked-entry f xs d old new from item e linked puts =
    let inside : item < length xs = omega (arith, linked.within, length-map xs f) in
    let P : Option ℕ → Type 0 = λ list. Puts list item old new in
    linked-more (map f xs) old new from item e linked (subst P (sym (get_or-map f xs item d None inside)) puts)
