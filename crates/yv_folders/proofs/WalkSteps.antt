-- What a walk through a folder keeps.
use Rattle.std.proofs.Common.{◌≡◌, ◌+◌, ◌<◌, ◌≤◌, true, [], ◌∷◌, ◌++◌, All, length, string_bytes, sym, subst, ap, arith}
use Rattle.std.proofs.lemmas.List.{length-append}
use Rattle.std.proofs.lemmas.List.Elements.{All-push}
use Rattle.std.specs.declared.alloc.Global.{Global}
use Rattle.std.specs.declared.string.String.{String}
use Rattle.yv_folders.specs.declared.folder_walk.Walk.{Walk}
use Rattle.yv_folders.specs.InnerWalk.{Keeps}
use Rattle.yv_folders.specs.Paths.{is_listed}

-- a file was added, for which there was room
pub file_added : (old new : Walk) (path : String Global) → new.name ≡ old.name
    → new.room ≡ old.room → new.paths.items ≡ old.paths.items ++ path ∷ []
    → is_listed old.name.now (string_bytes path) ≡ true → length old.paths.items < old.room
    → Keeps old new
file_added old new path name room items listed fits =
    let P : String Global → Type 0 = λ p. is_listed new.name.now (string_bytes p) ≡ true in
    let one : length (old.paths.items ++ path ∷ []) ≡ length old.paths.items + 1 =
    length-append old.paths.items (path ∷ []) in
    let at_name : is_listed new.name.now (string_bytes path) ≡ true =
    subst (λ n. is_listed n.now (string_bytes path) ≡ true) (sym name) listed in
    record {
      name = ap (λ n. n.now) name;
      room = room;
      walk = λ w. record {
        few = subst (λ xs. length xs ≤ new.room) (sym items)
            (subst (λ r. length (old.paths.items ++ path ∷ []) ≤ r) (sym room) (omega arith));
        listed = subst (λ xs. All P xs) (sym items)
            (All-push P old.paths.items path
            (subst (λ n. All (λ p. is_listed n.now (string_bytes p) ≡ true) old.paths.items)
            (sym name) w.listed) at_name);
      };
    }
