use Rattle.std.proofs.Common.{ℕ, List, ◌∷◌, map, refl, string_bytes, subst}
use Rattle.std.specs.declared.result.Result.TheVariants.{Err, Ok}
use Rattle.yv_batch.specs.SourceStore.{Opens}
use Rattle.yv_batch.specs.SourcesLeft.{part_left, part_name, sources_left}
use Rattle.yv_batch.proofs.SourceLemmas.{not_opened, opened}
use Rattle.yv_batch.proofs.sources.Sources.open.Goals as goal

pub returns-in-Err-clause-steps : goal.returns-in-Err-clause-steps
returns-in-Err-clause-steps g c = λ done.
    let s = c.args.self.now in
    let contents = g.O.Opener.contents s.opener in
    let new = g.O.Opener.contents c.open.new.self in
    let opens = subst (λ (n : List ℕ). Opens g.R.Read.remaining contents new n (Err c.in-Err.fault)) c.as_str.ensures.value c.in-Err.ensures in
    not_opened g.R.Read.remaining s.kind s.has_lost contents new (g.F.Files.files s.files) (string_bytes c.args.name) (map string_bytes s.names.items) (part_left g.R.Read.remaining (g.F.Files.files s.files) s.part) c.in-Err.fault
    record { line = _; content = c.content_of.result } done opens c.content_of.ensures.lost c.content_of.ensures.unread refl

pub returns-in-Ok-clause-steps : goal.returns-in-Ok-clause-steps
returns-in-Ok-clause-steps g c = λ done.
    let s = c.args.self.now in
    let contents = g.O.Opener.contents s.opener in
    let others = g.O.Opener.contents c.open.new.self in
    let name = string_bytes c.args.name in
    let here = c.begin.new.self in
    let opens = subst (λ (n : List ℕ). Opens g.R.Read.remaining contents others n (Ok c.in-Ok.reader)) c.as_str.ensures.value c.in-Ok.ensures in
    opened g.R.Read.remaining s.kind s.has_lost contents others (g.F.Files.files s.files) name (name ∷ map string_bytes s.names.items) c.in-Ok.reader (part_left g.R.Read.remaining (g.F.Files.files s.files) s.part)
    (sources_left g.R.Read.remaining g.O.Opener.contents g.F.Files.files here) (part_left g.R.Read.remaining (g.F.Files.files here.files) here.part) (part_name here.part) c.begin.result opens (λ has. c.begin.ensures.steps done has)
