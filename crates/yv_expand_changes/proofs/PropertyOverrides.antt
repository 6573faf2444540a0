-- What is said by several statements, one after the other.
use Rattle.std.proofs.Common.{◌≡◌, ℕ, Bool, true, false, List, [], ◌∷◌, ◌++◌, ◌+◌, take, Option, Some, None, refl, sym, ◌∙◌, ap}
use Rattle.std.specs.Prelude.{◌||◌}
use Rattle.std.specs.List.{slice_get}
use Rattle.std.specs.Option.{option_or}
use Rattle.yv_link_scopes.specs.Files.{Files}
use Rattle.yv_link_scopes.proofs.Firsts.{take_next}
use Rattle.yv_text_statement.specs.Tree.{Tree}
use Rattle.yv_node_properties.specs.Marks.{over, silent, stated_of}
use Rattle.yv_node_properties.specs.Properties.{last_said, said_at, substatements_of}
use Rattle.yv_node_properties.specs.Statements.{file_at, no_statement, statement_at}
use Rattle.yv_node_properties.specs.declared.properties.StatedProperties.{StatedProperties}

or_none : {A : Type 0} (o : Option A) → option_or o None ≡ o
or_none None = refl
or_none (Some x) = refl

or_again : {A : Type 0} (a b c : Option A) → option_or (option_or a b) c ≡ option_or a (option_or b c)
or_again None b c = refl
or_again (Some x) b c = refl

either_false : (b : Bool) → (b || false) ≡ b
either_false true = refl
either_false false = refl

either_again : (a b c : Bool) → ((a || b) || c) ≡ (a || (b || c))
either_again true b c = refl
either_again false b c = refl

-- nothing was said before
pub over_silent : (a : StatedProperties) → over a (stated_of silent) ≡ a
over_silent a = λ i. record {
  config = or_none a.config i;
  mandatory = or_none a.mandatory i;
  presence = either_false a.presence i;
  min = or_none a.min i;
}

pub over_again : (a b c : StatedProperties) → over (over a b) c ≡ over a (over b c)
over_again a b c = λ i. record {
  config = or_again a.config b.config c.config i;
  mandatory = or_again a.mandatory b.mandatory c.mandatory i;
  presence = either_again a.presence b.presence c.presence i;
  min = or_again a.min b.min c.min i;
}

module _ (files : Files) (more : (n : ℕ) (ns : List ℕ) → stated_of (last_said files (n ∷ ns)) ≡ over (stated_of (last_said files ns)) (stated_of (said_at files n))) where
  -- one statement more, behind the others
  last_more : (n : ℕ) (ns : List ℕ) → stated_of (last_said files (ns ++ n ∷ [])) ≡ over (stated_of (said_at files n)) (stated_of (last_said files ns))
  last_more n [] = sym (over_silent (stated_of (said_at files n)))
  last_more n (k ∷ ns) =
      more k (ns ++ n ∷ [])
      ∙ ap (λ s. over s (stated_of (said_at files k))) (last_more n ns)
      ∙ over_again (stated_of (said_at files n)) (stated_of (last_said files ns)) (stated_of (said_at files k))
      ∙ ap (over (stated_of (said_at files n))) (sym (more k ns))

-- no statement says nothing
pub none_said : (files : Files) (number : ℕ) → statement_at files number ≡ no_statement → stated_of silent ≡ stated_of (said_at files number)
none_said files number none = ap (λ (t : Tree). stated_of (substatements_of (file_at files number) t)) (sym none)

-- one statement more of a list
pub said_next : (files : Files) → ((n : ℕ) (ns : List ℕ) → stated_of (last_said files (n ∷ ns)) ≡ over (stated_of (last_said files ns)) (stated_of (said_at files n)))
    → (numbers : List ℕ) (i n : ℕ) (here old new : StatedProperties) → slice_get numbers i ≡ Some n → here ≡ stated_of (said_at files n) → new ≡ over here old
    → old ≡ stated_of (last_said files (take i numbers)) → new ≡ stated_of (last_said files (take (i + 1) numbers))
said_next files more numbers i n here old new at is now before =
    now ∙ ap (λ s. over s old) is ∙ ap (over (stated_of (said_at files n))) before ∙ sym (last_more files more n (take i numbers))
    ∙ ap (λ l. stated_of (last_said files l)) (sym (take_next numbers i n at))
