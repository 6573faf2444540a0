use Rattle.std.proofs.Common.{◌∙◌, sym, ap, subst, map, take, ◌+◌, Bor, List, [], ◌∷◌, ℕ, rules, add-one}
use Rattle.std.specs.List.{AllZip}
use Rattle.std.proofs.lemmas.List.{map-append}
use Rattle.yv_job.specs.Names.{IsEntry}
use Rattle.yv_text_statement.specs.Selection.{Entry, entry_of}
use Rattle.yv_job.proofs.NameLemmas.{zip_at, zip_more}
use Rattle.yv_job.proofs.names.entries.Goals as goal

pub returns-in_default : goal.returns-in_default
returns-in_default c es z =
    let now = λ (p : Bor (List ℕ)). p.now in
    let r = zip_at now IsEntry c.args.parts.now es c.loop-part.part-index (record { ref_ptr = (0, 0); now = [] }) (search rules) z in
    (rw c.in_default.is at c.in_ok-entry.ensures) r.0 r.1

pub loop-part-preserved : goal.loop-part-preserved
loop-part-preserved c =
    let now = λ (p : Bor (List ℕ)). p.now in
    let R = λ (p : Bor (List ℕ)) (e : Entry). IsEntry p.now e in
    let one = zip_more now IsEntry c.args.parts.now _ c.loop-part.part-index (record { ref_ptr = (0, 0); now = [] }) (entry_of c.in-Some.entry) (search rules) c.loop-part.invariant (rw c.in-Some.is at c.in_ok-entry.ensures) in
    let e = ap (map entry_of) c.in_ok-push.ensures.items ∙ map-append entry_of c.loop-part.entries.items (c.in-Some.entry ∷ []) in
    subst (AllZip R (take (c.loop-part.part-index + 1) c.args.parts.now)) (sym e) (rw add-one one)
