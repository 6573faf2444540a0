use Rattle.std.proofs.Common.{◌≡◌, ◌&&◌, ◌||◌, not, Bool, true, false, Option, Some, None, codes, refl, sym, ◌∙◌, if◌then◌else◌}
use Rattle.std.specs.List.{slice_get}
use Rattle.std.specs.Option.{option_and_then}
use Rattle.std.specs.Str.{bytes_eq}
use Rattle.std.proofs.lemmas.Bool.{false≢true}
use Rattle.yv_text_statement.specs.Tree.{Head}
use Rattle.yv_link_scopes.specs.Files.{Brief, Briefs, file_named, has_word}
use Rattle.yv_link_scopes.specs.Rows.{Row, row, name_in}
use Rattle.yv_link_scopes.specs.Views.{files_in}
use Rattle.yv_link_modules.specs.Links.{is_link, wrong_at}
use Rattle.yv_link_modules.proofs.links.is_wrong_link.Goals as goal

-- what names no file isn't wrong
not_wrong : (h : Head) (own target : Option Brief) → is_link h ≡ false → wrong_at h own target ≡ false
not_wrong h None target n = refl
not_wrong h (Some own) None n = refl
not_wrong h (Some own) (Some f) n = by (has_word (codes "import") h) (has_word (codes "include") h) (has_word (codes "belongs-to") h) n
  where
    by : (a b c : Bool) → (a || (b || c)) ≡ false → (if b then (f.is_module || not (bytes_eq f.module_name own.module_name)) else ((a || (b || c)) && not f.is_module)) ≡ false
    by true b c e = absurd (false≢true (sym e))
    by false true c e = absurd (false≢true (sym e))
    by false false true e = absurd (false≢true (sym e))
    by false false false e = refl

pub returns-then-not-is_link : goal.returns-then-not-is_link
returns-then-not-is_link c =
    let files : Briefs = files_in c.args.rows.now in
    let r : Row = row c.args.entry.now in
    sym (not_wrong r.head (slice_get files r.file) (option_and_then (λ m. slice_get files m) (file_named files (name_in r))) (sym c.is_link.ensures ∙ c.if-not-is_link.true))
