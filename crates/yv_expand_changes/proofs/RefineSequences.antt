-- What is known of sequences of refines, and of the items that they change.
use Rattle.std.proofs.Common.{◌≡◌, ℕ, zero, suc, ◌+◌, ◌<◌, ◌&&◌, Bool, true, List, [], ◌∷◌, ◌++◌, length, map, take, drop, get_or, Option, Some, None, IfSome, refl, sym, ap, ◌∙◌, arith}
use Rattle.std.specs.List.{list_all, slice_get}
use Rattle.std.proofs.Math.ListN.{get_or-map}
use Rattle.std.proofs.Math.Seq.{drop-nil}
use Rattle.std.proofs.lemmas.List.{get_or-take, map-append, take_more}
use Rattle.std.proofs.lemmas.Option.{same_Some}
use Rattle.yv_link_scopes.specs.Files.{Files}
use Rattle.yv_expand.specs.Tree.{Item}
use Rattle.yv_base_graph.specs.Marks.{is_marked}
use Rattle.yv_expand_uses.specs.declared.spot.Spot.{Spot}
use Rattle.yv_expand_refines.specs.Changes.{ChangesView, each, sequence_at}
use Rattle.yv_expand_refines.proofs.ItemRefines.{each_at}
use Rattle.yv_node_properties.specs.Marks.{over, silent, stated_of}
use Rattle.yv_node_properties.specs.Properties.{last_said, said_at}
use Rattle.yv_node_properties.specs.declared.properties.StatedProperties.{StatedProperties}
use Rattle.yv_expand_changes.specs.IfFeatures.{is_on_with, item_marks}
use Rattle.yv_expand_changes.specs.Properties.{said_of, said_of_all}
use Rattle.yv_expand_changes.specs.InnerProperties.{said_by_refines}
use Rattle.yv_expand_changes.specs.InnerSequences.{known_of}
use Rattle.yv_expand_changes.proofs.StatementReadings.{next_value}
use Rattle.yv_expand_changes.proofs.PropertyOverrides.{over_again, over_silent}

module _ {Y : Type 0} (f : List ℕ → Y) (sequences : List (List ℕ)) where
  -- what is known of each sequence by its refines
  pub known_all : (o : Option ℕ) (none : Y) → none ≡ f [] → known_of (map f sequences) o none ≡ f (sequence_at sequences o)
  known_all None none is = is
  known_all (Some n) none is = ap (get_or (map f sequences) n) is ∙ get_or-map f sequences n []

  -- the same of a sequence before this one, where those before it are known
  pub known_before : (known : List Y) (n : ℕ) (front : Option ℕ) (none : Y) → none ≡ f [] → IfSome front (λ k. k < n) → known ≡ map f (take n sequences)
      → known_of known front none ≡ f (sequence_at sequences front)
  known_before known n None none is before are = is
  known_before known n (Some k) none is before are =
      ap (λ ys. get_or ys k none) are ∙ ap (get_or (map f (take n sequences)) k) is ∙ get_or-map f (take n sequences) k []
      ∙ ap f (get_or-take n sequences k [] before)

  -- one sequence more
  pub known_more : (n : ℕ) (y : Y) (old new : List Y) → n < length sequences → y ≡ f (get_or sequences n []) → new ≡ old ++ y ∷ []
      → old ≡ map f (take n sequences) → new ≡ map f (take (n + 1) sequences)
  known_more n y old new lt is now before =
      now ∙ ap (λ ys. ys ++ y ∷ []) before ∙ ap (λ v. map f (take n sequences) ++ v ∷ []) is
      ∙ sym (map-append f (take n sequences) (get_or sequences n [] ∷ [])) ∙ ap (map f) (sym (take_more sequences n [] lt))

-- what several refines say, and then others
pub said_on : (files : Files) → (stated_of (last_said files []) ≡ stated_of silent)
    → ((n : ℕ) (ns : List ℕ) → stated_of (last_said files (n ∷ ns)) ≡ over (stated_of (last_said files ns)) (stated_of (said_at files n)))
    → (front run : List ℕ) → over (said_by_refines files run) (said_by_refines files front) ≡ said_by_refines files (front ++ run)
said_on files none more [] run = ap (over (said_by_refines files run)) none ∙ over_silent (said_by_refines files run)
said_on files none more (n ∷ ns) run =
    ap (over (said_by_refines files run)) (more n ns)
    ∙ sym (over_again (said_by_refines files run) (said_by_refines files ns) (stated_of (said_at files n)))
    ∙ ap (λ s. over s (stated_of (said_at files n))) (said_on files none more ns run)
    ∙ sym (more n (ns ++ run))

-- what is told of items one by one, each with the refines that change it
module _ {X Y : Type 0} (told : X → List ℕ → Y) (all : List X → List (List ℕ) → List Y)
    (past : (x : X) (xs : List X) → all (x ∷ xs) [] ≡ told x [] ∷ all xs [])
    (first : (x : X) (xs : List X) (c : List ℕ) (cs : List (List ℕ)) → all (x ∷ xs) (c ∷ cs) ≡ told x c ∷ all xs cs) where
  told_rest : (xs : List X) (cs : List (List ℕ)) (n : ℕ) (x : X) → slice_get xs n ≡ Some x
      → all (drop n xs) (drop n cs) ≡ told x (get_or cs n []) ∷ all (drop (suc n) xs) (drop (suc n) cs)
  told_rest [] cs n x at = absurd (let bad : None ≡ Some x = at in cc)
  told_rest (y ∷ xs) [] zero x at = past y xs ∙ ap (λ v. told v [] ∷ all xs []) (same_Some y x at)
  told_rest (y ∷ xs) (c ∷ cs) zero x at = first y xs c cs ∙ ap (λ v. told v c ∷ all xs cs) (same_Some y x at)
  told_rest (y ∷ xs) [] (suc n) x at = ap (all (drop n xs)) (sym (drop-nil n)) ∙ told_rest xs [] n x at
  told_rest (y ∷ xs) (c ∷ cs) (suc n) x at = told_rest xs cs n x at

  pub told_more : (xs : List X) (c : ChangesView) (n : ℕ) (x : X) (y : Y) (old new : List Y) → slice_get xs n ≡ Some x
      → y ≡ told x (sequence_at c.sequences (get_or c.of n None)) → new ≡ old ++ y ∷ [] → old ++ all (drop n xs) (drop n (each c)) ≡ all xs (each c)
      → new ++ all (drop (n + 1) xs) (drop (n + 1) (each c)) ≡ all xs (each c)
  told_more xs c n x y old new at is now before =
      let next : n + 1 ≡ suc n = omega arith in
      next_value old new (all (drop (n + 1) xs) (drop (n + 1) (each c))) (all xs (each c)) y (told x (get_or (each c) n [])) now (is ∙ ap (told x) (sym (each_at c n)))
      (ap (λ k. old ++ told x (get_or (each c) n []) ∷ all (drop k xs) (drop k (each c))) next
      ∙ ap (λ l. old ++ l) (sym (told_rest xs (each c) n x at))
      ∙ before)

module _ (statements : List Bool) (ss : List Spot) (c : ChangesView) where
  -- the mark of one item more
  pub marks_next : (known : List Bool) (o : Option ℕ) (n : ℕ) (s : Spot) (m : Bool) (old new : List Bool) → slice_get ss n ≡ Some s
      → m ≡ (is_marked statements s.statement && known_of known o true) → known ≡ map (list_all (is_marked statements)) c.sequences → o ≡ get_or c.of n None
      → new ≡ old ++ m ∷ [] → old ++ item_marks statements (drop n ss) (drop n (each c)) ≡ item_marks statements ss (each c)
      → new ++ item_marks statements (drop (n + 1) ss) (drop (n + 1) (each c)) ≡ item_marks statements ss (each c)
  marks_next known o n s m old new at is are place now before =
      told_more (is_on_with statements) (item_marks statements) (λ x xs. refl) (λ x xs ns cs. refl) ss c n s m old new at
      (is
      ∙ ap (λ (b : Bool). is_marked statements s.statement && b)
      (ap (λ (ms : List Bool). known_of ms o true) are ∙ known_all (list_all (is_marked statements)) c.sequences o true refl
      ∙ ap (λ (p : Option ℕ). list_all (is_marked statements) (sequence_at c.sequences p)) place))
      now before

module _ (files : Files) (xs : List Item) (c : ChangesView) where
  -- what is said of one item more
  pub said_of_next : (o : Option ℕ) (n : ℕ) (x : Item) (s : StatedProperties) (old new : List StatedProperties) → slice_get xs n ≡ Some x
      → s ≡ said_of files x (sequence_at c.sequences o) → o ≡ get_or c.of n None
      → new ≡ old ++ s ∷ [] → old ++ said_of_all files (drop n xs) (drop n (each c)) ≡ said_of_all files xs (each c)
      → new ++ said_of_all files (drop (n + 1) xs) (drop (n + 1) (each c)) ≡ said_of_all files xs (each c)
  said_of_next o n x s old new at is place now before =
      told_more (said_of files) (said_of_all files) (λ y ys. refl) (λ y ys ns cs. refl) xs c n x s old new at
      (is ∙ ap (λ (p : Option ℕ). said_of files x (sequence_at c.sequences p)) place)
      now before
