use Rattle.std.proofs.Common.{rules, ◌≡◌, ◌∙◌, ℕ, List, Some, string_bytes, map, ap, sym}
use Rattle.std.specs.List.{slice_get}
use Rattle.std.specs.Option.{option_map}
use Rattle.std.proofs.lemmas.Option.{slice_get-map}
use Rattle.yv_search.specs.Listing.{ListedFile, folder_of, files_in}
use Rattle.yv_search.specs.InnerIndex.{group_of}
use Rattle.yv_search.proofs.ListSteps.{get_map}
use Rattle.yv_search.proofs.Groups.{file_more}
use Rattle.yv_search.proofs.index.Index.add_folder.Goals as goal

pub loop-path-preserved : goal.loop-path-preserved
loop-path-preserved c = λ q.
    let listed : List ℕ → ListedFile = λ path. record { folder = c.args.number; folder_name = string_bytes c.args.folder.now.name; path = path } in
    let x : ListedFile = record { folder = c.args.number; folder_name = c.as_str.result.now; path = c.as_str-in-loop-path.result.now } in
    let same : listed (string_bytes c.path-item.result) ≡ x = λ i. record { folder = c.args.number; folder_name = sym c.as_str.ensures.value i; path = sym c.as_str-in-loop-path.ensures.value i } in
    let at : slice_get (files_in c.args.number (folder_of c.args.folder.now)) c.loop-path.path-index ≡ Some x =
    slice_get-map listed (map string_bytes c.args.folder.now.paths.items) c.loop-path.path-index
    ∙ ap (option_map listed) (get_map string_bytes c.args.folder.now.paths.items c.loop-path.path-index c.path-item.result (search rules) (search rules))
    ∙ ap (λ (y : ListedFile). Some y) same in
    file_more q (files_in c.args.number (folder_of c.args.folder.now)) c.loop-path.path-index x (group_of c.args.self.now q) (group_of c.loop-path.self q) (group_of c.add_file.new.self q) at (c.loop-path.invariant q) (c.in_ok-add_file.ensures q)
