use Rattle.std.proofs.Common.{◌∙◌, ℕ, List, Option, Some, None, map, string_bytes, ap, subst, arith}
use Rattle.std.specs.Option.{option_map}
use Rattle.std.specs.declared.vec.Vec.{Vec}
use Rattle.std.specs.declared.alloc.Global.{Global}
use Rattle.std.proofs.lemmas.List.{length-map, map-append}
use Rattle.yv_base_streams.specs.Files.{File, file_of}
use Rattle.yv_search.specs.Listing.{ListedFile, folder_of, files_of}
use Rattle.yv_search.specs.Search.{Shelf, Gives}
use Rattle.yv_search.specs.InnerIndex.{listed_of}
use Rattle.yv_search.specs.InnerSearch.{Finds}
use Rattle.yv_search.specs.InnerGather.{Takes}
use Rattle.yv_search.specs.declared.index.File.{File as FileValue}
use Rattle.yv_search.proofs.Gatherings.{underway, gathered, too_many, missing, way_on}
use Rattle.yv_search.proofs.file_search.gather.Goals as goal

pub loop-files-init : goal.loop-files-init
loop-files-init g c =
    underway (files_of (map folder_of c.args.listing.now)) (g.S.Shelf.shelf c.args.shelf.now) (map file_of c.args.named.items) (map file_of c.deref.result.now) c.take_all.new.search
    (ap (map file_of) c.deref.ensures.value) (c.in_ok-take_all.ensures (files_of (map folder_of c.args.listing.now)) c.in_ok-search.ensures)

pub returns-in_default : goal.returns-in_default
returns-in_default g c =
    let listing : List ListedFile = files_of (map folder_of c.args.listing.now) in
    gathered listing (g.S.Shelf.shelf c.args.shelf.now) (g.S.Shelf.shelf c.loop-files.shelf) (map file_of c.args.named.items) (map file_of c.loop-files.files.items) c.loop-files.search c.next.new.self c.loop-files.invariant
    (λ s at. subst (λ (o : Option FileValue). Finds listing s c.next.new.self (option_map listed_of o)) c.in_default.is (c.in_ok-found.ensures listing s at))

pub returns-then-len-ge-MOST_FILES : goal.returns-then-len-ge-MOST_FILES
returns-then-len-ge-MOST_FILES g c =
    let listing : List ListedFile = files_of (map folder_of c.args.listing.now) in
    too_many listing (g.S.Shelf.shelf c.args.shelf.now) (g.S.Shelf.shelf c.loop-files.shelf) (map file_of c.args.named.items) (map file_of c.loop-files.files.items) c.loop-files.search c.next.new.self (listed_of c.in-Some.found) c.loop-files.invariant
    (λ s at. subst (λ (o : Option FileValue). Finds listing s c.next.new.self (option_map listed_of o)) c.in-Some.is (c.in_ok-found.ensures listing s at))
    (omega (arith, c.if-len-ge-MOST_FILES.true, c.len.ensures, length-map c.loop-files.files.items file_of))

pub returns-in_default-2 : goal.returns-in_default-2
returns-in_default-2 g c =
    let listing : List ListedFile = files_of (map folder_of c.args.listing.now) in
    let now : Shelf = g.S.Shelf.shelf c.loop-files.shelf in
    let none : Gives now c.as_str.result.now None = subst (λ (o : Option (Vec ℕ Global)). Gives now c.as_str.result.now (option_map (λ (v : Vec ℕ Global). v.items) o)) c.in_default-2.is c.in_ok-bytes.ensures.gives in
    missing listing (g.S.Shelf.shelf c.args.shelf.now) now (map file_of c.args.named.items) (map file_of c.loop-files.files.items) c.loop-files.search c.next.new.self (listed_of c.in-Some.found) (string_bytes c.in_ok-name.name) c.loop-files.invariant
    (λ s at. subst (λ (o : Option FileValue). Finds listing s c.next.new.self (option_map listed_of o)) c.in-Some.is (c.in_ok-found.ensures listing s at))
    c.in_ok-name.ensures (subst (λ (n : List ℕ). Gives now n None) c.as_str.ensures.value none)

pub loop-files-preserved : goal.loop-files-preserved
loop-files-preserved g c =
    let listing : List ListedFile = files_of (map folder_of c.args.listing.now) in
    let now : Shelf = g.S.Shelf.shelf c.loop-files.shelf in
    let file : File = record { name = string_bytes c.in_ok-name.name; bytes = c.in-Some-2.bytes.items } in
    let some : Gives now c.as_str.result.now (Some file.bytes) = subst (λ (o : Option (Vec ℕ Global)). Gives now c.as_str.result.now (option_map (λ (v : Vec ℕ Global). v.items) o)) c.in-Some-2.is c.in_ok-bytes.ensures.gives in
    way_on listing (g.S.Shelf.shelf c.args.shelf.now) now (g.S.Shelf.shelf c.fetch.new.self) (map file_of c.args.named.items) (map file_of c.loop-files.files.items) (map file_of c.push.new.self.items) c.loop-files.search c.next.new.self c.take.new.search (listed_of c.in-Some.found) file c.loop-files.invariant
    (λ s at. subst (λ (o : Option FileValue). Finds listing s c.next.new.self (option_map listed_of o)) c.in-Some.is (c.in_ok-found.ensures listing s at))
    c.in_ok-name.ensures (subst (λ (n : List ℕ). Gives now n (Some file.bytes)) c.as_str.ensures.value some) c.in_ok-bytes.ensures.same
    (λ s at. subst (λ (bs : List ℕ). Takes listing s (record { name = file.name; bytes = bs }) c.take.new.search) c.deref-in-loop-files.ensures.value (c.in_ok-take.ensures listing s file.name at))
    (ap (map file_of) c.in_ok-push.ensures.items ∙ map-append file_of c.loop-files.files.items _)
