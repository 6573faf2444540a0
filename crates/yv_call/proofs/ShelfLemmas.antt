-- Documents that are put on a shelf one by one.
use Rattle.std.proofs.Common.{arith, ◌≡◌, ◌∙◌, ℕ, ◌+◌, ◌<◌, List, [], ◌∷◌, ◌++◌, Bool, true, false, Option, Some, cond, length, map, option_map, get_or, take, refl, sym, ap, subst}
use Rattle.std.proofs.lemmas.List.{length-map, length-take-le, map_more, map_push, take-map}
use Rattle.yv_call.specs.Documents.{AreNamed}
use Rattle.yv_call.specs.InnerShelf.{Keeps}

-- a choice of what is found
pub found_of : {X Y : Type 0} (f : X → Y) (b : Bool) (x : X) (o : Option X)
    → option_map f (cond b (Some x) o) ≡ cond b (Some (f x)) (option_map f o)
found_of f true x o = refl
found_of f false x o = refl

-- what is found by one table is found by another that has all that the first has
pub named_still : (old new : List ℕ → Option (List ℕ)) (names documents : List (List ℕ))
    → ((n x : List ℕ) → old n ≡ Some x → new n ≡ Some x)
    → AreNamed old names documents → AreNamed new names documents
named_still old new [] [] still are = refl
named_still old new [] (d ∷ ds) still are = absurd (cc)
named_still old new (n ∷ ns) [] still are = absurd (cc)
named_still old new (n ∷ ns) (d ∷ ds) still are =
    let here : old n ≡ Some d = cc in
    let there : map old ns ≡ map Some ds = cc in
    let now : new n ≡ Some d = still n d here in
    let rest : map new ns ≡ map Some ds = named_still old new ns ds still there in
    cc

-- one more name
pub named_next : (lookup : List ℕ → Option (List ℕ)) (names documents : List (List ℕ))
    (name document : List ℕ) → AreNamed lookup names documents → lookup name ≡ Some document
    → AreNamed lookup (names ++ name ∷ []) (documents ++ document ∷ [])
named_next lookup names documents name document are has =
    map_push lookup names name ∙ ap (λ l. l ++ lookup name ∷ []) are
    ∙ ap (λ o. map Some documents ++ o ∷ []) has ∙ sym (map_push Some documents document)

-- one name less
pub named_before : (lookup : List ℕ → Option (List ℕ)) (names documents : List (List ℕ))
    (name document : List ℕ) → length names ≡ length documents
    → AreNamed lookup (names ++ name ∷ []) (documents ++ document ∷ [])
    → AreNamed lookup names documents × (lookup name ≡ Some document)
named_before lookup [] [] name document same are = (refl, cc)
named_before lookup [] (d ∷ ds) name document same are = absurd (cc)
named_before lookup (n ∷ ns) [] name document same are = absurd (cc)
named_before lookup (n ∷ ns) (d ∷ ds) name document same are =
    let lengths : length ns ≡ length ds = cc in
    let here : lookup n ≡ Some d = cc in
    let there : AreNamed lookup (ns ++ name ∷ []) (ds ++ document ∷ []) = cc in
    let before = named_before lookup ns ds name document lengths there in
    let rest : map lookup ns ≡ map Some ds = before.0 in
    (cc, before.1)

-- the first names have their documents, if all have
pub named_first : (lookup : List ℕ → Option (List ℕ)) (names documents : List (List ℕ)) (i : ℕ)
    → AreNamed lookup names documents → AreNamed lookup (take i names) (take i documents)
named_first lookup names documents i are =
    sym (take-map lookup i names) ∙ ap (take i) are ∙ take-map Some i documents

-- as many names as documents
pub named_lengths : (lookup : List ℕ → Option (List ℕ)) (names documents : List (List ℕ))
    → AreNamed lookup names documents → length names ≡ length documents
named_lengths lookup names documents are =
    sym (length-map names lookup) ∙ ap length are ∙ length-map documents Some

module _ {X Y : Type 0} (f : X → List ℕ) (g : Y → List ℕ) (names : List X) (documents : List Y)
    (i : ℕ) (d : X) (e : Y) (name document : List ℕ) (within : i < length names)
    (there : i < length documents) (is_name : name ≡ f (get_or names i d))
    (is_document : document ≡ g (get_or documents i e)) where
  abbrev Before : (List ℕ → Option (List ℕ)) → Type 0
  Before lookup = AreNamed lookup (map f (take i names)) (map g (take i documents))

  abbrev After : (List ℕ → Option (List ℕ)) → Type 0
  After lookup = AreNamed lookup (map f (take (i + 1) names)) (map g (take (i + 1) documents))

  more_names : map f (take (i + 1) names) ≡ map f (take i names) ++ name ∷ []
  more_names = map_more f names i d within ∙ ap (λ n. map f (take i names) ++ n ∷ []) (sym is_name)

  more_documents : map g (take (i + 1) documents) ≡ map g (take i documents) ++ document ∷ []
  more_documents =
      map_more g documents i e there
      ∙ ap (λ n. map g (take i documents) ++ n ∷ []) (sym is_document)

  lengths_before : length (map f (take i names)) ≡ length (map g (take i documents))
  lengths_before =
      length-map (take i names) f ∙ length-take-le i names (omega arith)
      ∙ sym (length-map (take i documents) g ∙ length-take-le i documents (omega arith))

  -- one more name has its document
  pub named_more : (old new : List ℕ → Option (List ℕ)) (kept : Bool) → kept ≡ true
      → Keeps name document old new kept → Before old → After new
  named_more old new kept is keeps are =
      let held : Keeps name document old new true =
      subst (λ b. Keeps name document old new b) is keeps in
      let next = named_next new (map f (take i names)) (map g (take i documents)) name document
      (named_still old new (map f (take i names)) (map g (take i documents)) held.1 are) held.0 in
      subst (λ ns. AreNamed new ns (map g (take (i + 1) documents))) (sym more_names)
      (subst (λ ds. AreNamed new (map f (take i names) ++ name ∷ []) ds) (sym more_documents) next)

  -- what a look-up gives that gives one more name its document
  before_more : (lookup : List ℕ → Option (List ℕ)) → After lookup
      → Before lookup × (lookup name ≡ Some document)
  before_more lookup are =
      named_before lookup (map f (take i names)) (map g (take i documents)) name document
      lengths_before
      (subst (λ ds. AreNamed lookup (map f (take i names) ++ name ∷ []) ds) more_documents
      (subst (λ ns. AreNamed lookup ns (map g (take (i + 1) documents))) more_names are))

  -- what is on the shelf is what each look-up gives
  pub forced_more : (old new : List ℕ → Option (List ℕ)) (kept : Bool) → kept ≡ true
      → Keeps name document old new kept
      → ((lookup : List ℕ → Option (List ℕ)) → Before lookup
      → (n x : List ℕ) → old n ≡ Some x → lookup n ≡ Some x)
      → (lookup : List ℕ → Option (List ℕ)) → After lookup
      → (n x : List ℕ) → new n ≡ Some x → lookup n ≡ Some x
  forced_more old new kept is keeps forced lookup are n x has =
      let held : Keeps name document old new true =
      subst (λ b. Keeps name document old new b) is keeps in
      let before = before_more lookup are in
      held.2 n x has lookup (forced lookup before.0) before.1

  -- no look-up gives all names their documents, if this one has another
  pub none_named : (old new : List ℕ → Option (List ℕ)) (kept : Bool) → kept ≡ false
      → Keeps name document old new kept
      → ((lookup : List ℕ → Option (List ℕ)) → Before lookup
      → (n x : List ℕ) → old n ≡ Some x → lookup n ≡ Some x)
      → (lookup : List ℕ → Option (List ℕ)) → AreNamed lookup (map f names) (map g documents) → ⊥
  none_named old new kept is keeps forced lookup are =
      let clash : Keeps name document old new false =
      subst (λ b. Keeps name document old new b) is keeps in
      let first : After lookup =
      subst (λ ns. AreNamed lookup ns (map g (take (i + 1) documents))) (take-map f (i + 1) names)
      (subst (λ ds. AreNamed lookup (take (i + 1) (map f names)) ds) (take-map g (i + 1) documents)
      (named_first lookup (map f names) (map g documents) (i + 1) are)) in
      let before = before_more lookup first in
      let other : lookup name ≡ Some clash.0 = forced lookup before.0 name clash.0 clash.1 in
      let same : clash.0 ≡ document = cc in
      clash.2 same
