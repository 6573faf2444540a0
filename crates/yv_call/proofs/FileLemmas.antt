-- Files that are given one by one.
use Rattle.std.proofs.Common.{arith, ◌≡◌, ◌∙◌, ℕ, ◌+◌, ◌<◌, List, [], ◌∷◌, ◌++◌, get_or, length, map, take, refl, sym, ap}
use Rattle.std.proofs.lemmas.List.{length-map, length-take-le, map_more}
use Rattle.yv_base_streams.specs.Files.{File}
use Rattle.yv_call.specs.GivenFiles.{file_named, files_named}

-- one more file
pub files_next : (names given : List (List ℕ)) (name bytes : List ℕ) → length names ≡ length given
    → files_named (names ++ name ∷ []) (given ++ bytes ∷ [])
    ≡ files_named names given ++ file_named name bytes ∷ []
files_next [] [] name bytes same = refl
files_next [] (g ∷ gs) name bytes same = absurd (cc)
files_next (n ∷ ns) [] name bytes same = absurd (cc)
files_next (n ∷ ns) (g ∷ gs) name bytes same =
    let lengths : length ns ≡ length gs = cc in
    ap (λ l. file_named n g ∷ l) (files_next ns gs name bytes lengths)

-- the same for the next one of a list
pub files_more : {X Y : Type 0} (f : X → List ℕ) (g : Y → List ℕ) (names : List X)
    (given : List Y) (i : ℕ) (d : X) (e : Y) (name bytes : List ℕ) (old new : List File) (file : File)
    → i < length names → length names ≡ length given
    → name ≡ f (get_or names i d) → bytes ≡ g (get_or given i e) → file ≡ file_named name bytes
    → new ≡ old ++ file ∷ [] → old ≡ files_named (map f (take i names)) (map g (take i given))
    → new ≡ files_named (map f (take (i + 1) names)) (map g (take (i + 1) given))
files_more f g names given i d e name bytes old new file within same is_name is_bytes is more are =
    let there : i < length given = omega arith in
    let lengths : length (map f (take i names)) ≡ length (map g (take i given)) =
    length-map (take i names) f ∙ length-take-le i names (omega arith)
    ∙ sym (length-map (take i given) g ∙ length-take-le i given (omega arith)) in
    more ∙ ap (λ l. l ++ file ∷ []) are
    ∙ ap (λ x. files_named (map f (take i names)) (map g (take i given)) ++ x ∷ []) is
    ∙ sym (files_next (map f (take i names)) (map g (take i given)) name bytes lengths)
    ∙ ap (λ l. files_named (map f (take i names) ++ name ∷ []) l)
    (ap (λ n. map g (take i given) ++ n ∷ []) is_bytes ∙ sym (map_more g given i e there))
    ∙ ap (λ l. files_named l (map g (take (i + 1) given)))
    (ap (λ n. map f (take i names) ++ n ∷ []) is_name ∙ sym (map_more f names i d within))
