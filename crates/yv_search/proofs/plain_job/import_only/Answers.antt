use Rattle.std.proofs.Common.{◌∙◌, ℕ, List, Bool, Option, map, drop, string_bytes, sym, ap, subst}
use Rattle.yv_base_streams.specs.Files.{File, file_of}
use Rattle.yv_source.specs.File.{File as Text}
use Rattle.yv_text_statement.specs.Tree.{Tree}
use Rattle.yv_search.specs.Roles.{IsTestOfRequired}
use Rattle.yv_search.specs.PlainJob.{with_modules}
use Rattle.yv_search.specs.InnerRoles.{is_required}
use Rattle.yv_search.specs.InnerPlainJob.{AreTexts}
use Rattle.yv_search.proofs.plain_job.import_only.Goals as goal

pub returns : goal.returns
returns c =
    let files : List File = map file_of c.args.files.now in
    let given : List (List ℕ) = map string_bytes c.args.given.now in
    let test : List ℕ → Bool = is_required c.in_ok-requirements.requirements in
    record {
      roots = c.in_ok-roots.roots.items;
      are = c.in_ok-roots.ensures files (subst (λ (ts : List (Option Text)). AreTexts files ts) (sym c.deref.ensures.value) c.in_ok-texts.ensures);
      is_required = test;
      tells = subst (λ (rs : List (Option Tree)). IsTestOfRequired (record { roots = rs; named = c.args.named; import_only = given }) test) c.deref-2.ensures.value c.in_ok-requirements.ensures;
      names_are = c.in_ok-names.ensures ∙ ap (with_modules test given) (c.roots_after.ensures ∙ ap (drop c.args.named) c.deref-3.ensures.value);
    }
