-- What files expand to refuses refines and augments, and nothing else.
use Rattle.std.proofs.Common.{◌⊎◌, inl, inr, ◌≡◌, ℕ, Bool, true, false, List, [], ◌∷◌, ◌++◌, map, refl}
use Rattle.std.specs.List.{All, Contains}
use Rattle.std.proofs.lemmas.List.Elements.{All-append, All-cons, All-contains, All-nil, All-push}
use Rattle.yv_text_statement.specs.declared.refusal.Code.{Code}
use Rattle.yv_text_statement.specs.declared.refusal.Code.TheVariants as code
use Rattle.yv_link_scopes.specs.Files.{Files}
use Rattle.yv_link_scopes.specs.RowList.{rows_of}
use Rattle.yv_expand_definition.specs.Expansion.{Expand, Tops}
use Rattle.yv_expand_definition.specs.Expansion.Tops.{no_files, one_more as one_file_more}
use Rattle.yv_expand_definition.specs.Gives.{AugmentsGive, Gives, Product, RefinesGive, Wrong, add_refusal, both, judge, takes_block}
use Rattle.yv_expand_definition.specs.Gives.Gives.{no_statements, other, one_node, operation, uses}
use Rattle.yv_expand_definition.specs.Gives.AugmentsGive.{none_left as no_augments, adds, without_target as leads_to_none}
use Rattle.yv_expand_definition.specs.Gives.RefinesGive.{none_left as no_refines, changes, unfit, without_target as means_none}
use Rattle.yv_expand_definition.specs.Rounds.{Round, Rounds}
use Rattle.yv_expand_definition.specs.Rounds.Round.{none_left as none_waits, adds as is_applied, without_target as is_lost, waits}
use Rattle.yv_expand_definition.specs.Rounds.Rounds.{last as last_round, one_more as one_round_more}
use Rattle.yv_expand_laws.specs.Refines.{IsOfRefine}

-- a refusal of an augment: for its target, or for what it adds
abbrev pub IsOfAugment : Wrong → Type 0
IsOfAugment e = (e.code ≡ code.AugmentTarget) ⊎ (e.code ≡ code.BadAugment)

abbrev pub IsOfEither : Wrong → Type 0
IsOfEither e = IsOfRefine e ⊎ IsOfAugment e

abbrev AreOfEither : Product → Type 0
AreOfEither m = All IsOfEither m.wrong

both_are : (m n : Product) → AreOfEither m → AreOfEither n → AreOfEither (both m n)
both_are m n p q = All-append IsOfEither m.wrong n.wrong p q

one_more_is : (c : Code) (k : ℕ) (m : Product) → AreOfEither m → IsOfEither (record { code = c; statement = k }) → AreOfEither (add_refusal c k m)
one_more_is c k m all is = All-push IsOfEither m.wrong (record { code = c; statement = k }) all is

judged : (b : Bool) (a : ℕ) (m : Product) → AreOfEither m → AreOfEither (judge b a m)
judged true a m all = all
judged false a m all = one_more_is code.BadAugment a m all (inr (inr refl))

never : (waiting : List ℕ) → All IsOfEither (map (λ a. record { code = code.AugmentTarget; statement = a }) waiting)
never [] = All-nil IsOfEither
never (a ∷ others) =
    All-cons IsOfEither (record { code = code.AugmentTarget; statement = a }) (map (λ a. record { code = code.AugmentTarget; statement = a }) others)
    (inr (inl refl)) (never others)

module _ (files : Files) where
  refines_are : {module_file : ℕ} {ks : List ℕ} {m n : Product} → RefinesGive files module_file ks m n → AreOfEither m → AreOfEither n
  refines_are no_refines all = all
  refines_are (changes means fit others) all = refines_are others all
  refines_are (unfit {k = k} {m = m} means fit others) all = refines_are others (one_more_is code.BadRefine k m all (inl (inr refl)))
  refines_are (means_none {k = k} {m = m} means others) all = refines_are others (one_more_is code.RefineTarget k m all (inl (inl refl)))

  mutual
    gives_are : {module_file : ℕ} {under ks : List ℕ} {m : Product} → Gives files module_file under ks m → AreOfEither m
    gives_are no_statements = All-nil IsOfEither
    gives_are (other is item others) = gives_are others
    gives_are (one_node {below = below} {behind = behind} is item o u kd block others) =
        All-append IsOfEither below.wrong behind.wrong (gives_are block) (gives_are others)
    gives_are (operation {input = input} {output = output} {behind = behind} is item o u kd input_gives output_gives others) =
        All-append IsOfEither (input.wrong ++ output.wrong) behind.wrong
        (All-append IsOfEither input.wrong output.wrong (gives_are input_gives) (gives_are output_gives)) (gives_are others)
    gives_are (uses {given = given} {behind = behind} is item u refers copies refined augmented others) =
        both_are given behind (augments_are augmented (refines_are refined (gives_are copies))) (gives_are others)

    augments_are : {module_file : ℕ} {under ks : List ℕ} {m n : Product} → AugmentsGive files module_file under ks m n → AreOfEither m → AreOfEither n
    augments_are no_augments all = all
    augments_are (adds {a = a} {m = m} {block = block} {there = there} {target = target} gives reaches others) all =
        augments_are others
        (judged (takes_block (rows_of files) a target.kind) a (record { nodes = there; wrong = m.wrong ++ block.wrong })
        (All-append IsOfEither m.wrong block.wrong all (gives_are gives)))
    augments_are (leads_to_none {a = a} {m = m} misses others) all =
        augments_are others (one_more_is code.AugmentTarget a m all (inr (inl refl)))

  round_is : {waiting still : List ℕ} {m n : Product} → Round files waiting m still n → AreOfEither m → AreOfEither n
  round_is none_waits all = all
  round_is (is_applied {a = a} {m = m} {block = block} {there = there} {target = target} own gives reaches others) all =
      round_is others
      (judged (takes_block (rows_of files) a target.kind) a (record { nodes = there; wrong = m.wrong ++ block.wrong })
      (All-append IsOfEither m.wrong block.wrong all (gives_are gives)))
  round_is (is_lost {a = a} {m = m} own leads misses others) all = round_is others (one_more_is code.AugmentTarget a m all (inr (inl refl)))
  round_is (waits own nowhere others) all = round_is others all

  rounds_are : {waiting : List ℕ} {m n : Product} → Rounds files waiting m n → AreOfEither m → AreOfEither n
  rounds_are (last_round {waiting = waiting} {m = m} round) all =
      All-append IsOfEither m.wrong (map (λ a. record { code = code.AugmentTarget; statement = a }) waiting) all (never waiting)
  rounds_are (one_round_more round less others) all = rounds_are others (round_is round all)

  tops_are : {order : List ℕ} {m : Product} → Tops files order m → AreOfEither m
  tops_are no_files = All-nil IsOfEither
  tops_are (one_file_more {m = m} {behind = behind} gives others) = both_are m behind (gives_are gives) (tops_are others)

  -- each refusal is one of a refine or of an augment
  pub refused_is : (marks : List Bool) (order : List ℕ) (m : Product) → Expand files marks order m → (e : Wrong) → Contains m.wrong e → IsOfEither e
  refused_is marks order m expand e there = All-contains IsOfEither m.wrong e (rounds_are expand.rounds (tops_are expand.tops)) there
