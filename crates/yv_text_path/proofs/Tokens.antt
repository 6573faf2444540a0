-- The tokens of a predicate that are left, by how far it is read.
use Rattle.std.proofs.Common.{◌≡◌, ℕ, true, List, [], ◌∷◌}
use Rattle.std.specs.Prelude.{codes}
use Rattle.yv_text_if_feature.specs.Names.{is_name}
use Rattle.yv_text_path.specs.Predicates.{AreNameTokens, AreUpTokens, AreKeyTokens}
use Rattle.yv_text_path.specs.Predicates as made
use Rattle.yv_text_path.specs.declared.state.State.{State}
use Rattle.yv_text_path.specs.declared.state.State.TheVariants.{Key, AfterKey, Function, Opening, Closing, FirstSlash, FirstDots, InnerDots, InnerUpOrName, InnerName, AfterInnerName}

-- the tokens that are left, and the names among them
pub data Left : State → List (List ℕ) → List (List ℕ) → Type 0 where
  key : {name : List ℕ} {ts ns : List (List ℕ)} → is_name name ≡ true → Left AfterKey ts ns → Left Key (name ∷ ts) (name ∷ ns)
  equals : {ts ns : List (List ℕ)} → Left Function ts ns → Left AfterKey (codes "=" ∷ ts) ns
  function : {ts ns : List (List ℕ)} → Left Opening ts ns → Left Function (codes "current" ∷ ts) ns
  opening : {ts ns : List (List ℕ)} → Left Closing ts ns → Left Opening (codes "(" ∷ ts) ns
  closing : {ts ns : List (List ℕ)} → Left FirstSlash ts ns → Left Closing (codes ")" ∷ ts) ns
  first_slash : {ts ns : List (List ℕ)} → Left FirstDots ts ns → Left FirstSlash (codes "/" ∷ ts) ns
  first_dots : {ts ns : List (List ℕ)} → Left InnerDots ts ns → Left FirstDots (codes ".." ∷ ts) ns
  up : {ts ns : List (List ℕ)} → Left InnerUpOrName ts ns → Left InnerDots (codes "/" ∷ ts) ns
  dots : {ts ns : List (List ℕ)} → Left InnerDots ts ns → Left InnerUpOrName (codes ".." ∷ ts) ns
  first_name : {name : List ℕ} {ts ns : List (List ℕ)} → is_name name ≡ true → Left AfterInnerName ts ns → Left InnerUpOrName (name ∷ ts) (name ∷ ns)
  name : {name : List ℕ} {ts ns : List (List ℕ)} → is_name name ≡ true → Left AfterInnerName ts ns → Left InnerName (name ∷ ts) (name ∷ ns)
  slash : {ts ns : List (List ℕ)} → Left InnerName ts ns → Left AfterInnerName (codes "/" ∷ ts) ns
  end : Left AfterInnerName [] []

-- ### from what is left

names_from : {ts ns : List (List ℕ)} → Left InnerName ts ns → AreNameTokens ts ns
names_from (name is end) = made.last_name is
names_from (name is (slash l)) = made.more_names is (names_from l)

up_from : {ts ns : List (List ℕ)} → Left InnerUpOrName ts ns → AreUpTokens (codes ".." ∷ codes "/" ∷ ts) ns
up_from (dots (up l)) = made.up_again (up_from l)
up_from (first_name is end) = made.up_once (made.last_name is)
up_from (first_name is (slash l)) = made.up_once (made.more_names is (names_from l))

pub key_from : {ts ns : List (List ℕ)} → Left Key ts ns → AreKeyTokens ts ns
key_from (key is (equals (function (opening (closing (first_slash (first_dots (up l)))))))) = made.key is (up_from l)

-- ### to what is left

left_names : {ts ns : List (List ℕ)} → AreNameTokens ts ns → Left InnerName ts ns
left_names (made.last_name is) = name is end
left_names (made.more_names is more) = name is (slash (left_names more))

left_first : {ts ns : List (List ℕ)} → AreNameTokens ts ns → Left InnerUpOrName ts ns
left_first (made.last_name is) = first_name is end
left_first (made.more_names is more) = first_name is (slash (left_names more))

left_up : {ts ns : List (List ℕ)} → AreUpTokens ts ns → Left InnerUpOrName ts ns
left_up (made.up_once more) = dots (up (left_first more))
left_up (made.up_again more) = dots (up (left_up more))

left_dots : {ts ns : List (List ℕ)} → AreUpTokens ts ns → Left FirstDots ts ns
left_dots (made.up_once more) = first_dots (up (left_first more))
left_dots (made.up_again more) = first_dots (up (left_up more))

pub left_key : {ts ns : List (List ℕ)} → AreKeyTokens ts ns → Left Key ts ns
left_key (made.key is more) = key is (equals (function (opening (closing (first_slash (left_dots more))))))
