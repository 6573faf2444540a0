-- The tokens of a predicate that are left, by how far it is read.
use Rattle.std.proofs.Common.{◌≡◌, ℕ, true, List, [], ◌∷◌}
use Rattle.std.specs.Prelude.{codes}
use Rattle.yv_text_if_feature.specs.Names.{is_name}
use Rattle.yv_text_instance.specs.Predicates.{is_position, IsQuoted, ArePredicateTokens}
use Rattle.yv_text_instance.specs.Predicates as made
use Rattle.yv_text_instance.specs.declared.state.State.{State}
use Rattle.yv_text_instance.specs.declared.state.State.TheVariants.{Predicate, AfterKey, Value, Closing}

pub data Left : State → List (List ℕ) → Type 0 where
  position : {w : List ℕ} {ts : List (List ℕ)} → is_position w ≡ true → Left Closing ts → Left Predicate (w ∷ ts)
  itself : {ts : List (List ℕ)} → Left AfterKey ts → Left Predicate (codes "." ∷ ts)
  key : {w : List ℕ} {ts : List (List ℕ)} → is_name w ≡ true → Left AfterKey ts → Left Predicate (w ∷ ts)
  equals : {ts : List (List ℕ)} → Left Value ts → Left AfterKey (codes "=" ∷ ts)
  value : {w : List ℕ} {ts : List (List ℕ)} → IsQuoted w → Left Closing ts → Left Value (w ∷ ts)
  end : Left Closing []

pub all_from : {ts : List (List ℕ)} → Left Predicate ts → ArePredicateTokens ts
all_from (position is end) = made.position is
all_from (itself (equals (value q end))) = made.value q
all_from (key is (equals (value q end))) = made.key is q

pub left_all : {ts : List (List ℕ)} → ArePredicateTokens ts → Left Predicate ts
left_all (made.position is) = position is end
left_all (made.value q) = itself (equals (value q end))
left_all (made.key is q) = key is (equals (value q end))
