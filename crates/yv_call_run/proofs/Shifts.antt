-- What a run writes to a writer that holds nothing.
use Rattle.std.proofs.Common.{◌≡◌, ℕ, List, [], ◌++◌, Bool, Option, None, Some, take, refl, ap}
use Rattle.yv_base_streams.specs.Files.{File}
use Rattle.yv_batch.specs.AskedDocument.{AskedDocument}
use Rattle.yv_call_run.proofs.BatchShifts.{answers_from}
use Rattle.yv_call_run.specs.Performs.{DoesAction, RunsCommand, RunsRules}
use Rattle.yv_job.specs.Jobs.{Task}
use Rattle.yv_job.specs.Requests.{ActionAsked, ChecksAll, Does, Lints, Lists, RequestAsked}
use Rattle.yv_lint.specs.declared.rule.Rule.{Rule}
use Rattle.yv_run.specs.Batches.{RunsAll, refused, answered}
use Rattle.yv_run.specs.Output.{Page}
use Rattle.yv_run.specs.Runs.{Writes, all, front}
use Rattle.yv_run.specs.declared.status.Status.{Status}
use Rattle.yv_run.specs.declared.whole_run.RunEnd.{RunEnd}

-- what was appended, of which this holds where the writer held nothing
abbrev pub Shifted : (before : List ℕ) → (new : Option (List ℕ)) → (Option (List ℕ) → Type 0)
    → Type 0
Shifted before new Runs = (output : List ℕ) × (new ≡ Some (before ++ output)) × Runs (Some output)

module _ (before : List ℕ) where
  writes_from : (p : Page) (status : Status) (new : Option (List ℕ))
      → Writes p status (Some before) new → Shifted before new (Writes p status (Some []))
  writes_from p status None (all a h) = absurd a
  writes_from p status None (front count a h) = absurd a
  writes_from p status (Some after) (all a h) = (p.text, ap Some a, all refl h)
  writes_from p status (Some after) (front count a h) =
      (take count p.text, ap Some a, front count refl h)

  command_from : (task : Task) (files : List File) (document : List ℕ) (run : RunEnd)
      (new : Option (List ℕ)) → RunsCommand task files document run (Some before) new
      → Shifted before new (RunsCommand task files document run (Some []))
  command_from task files document run new (rest, r) =
      let w = writes_from _ run.status new r.runs.writes in (
        w.0,
        w.1,
        (
          rest,
          record {
            runs = record {
              given = r.runs.given;
              gives = r.runs.gives;
              compiled = r.runs.compiled;
              compiles = r.runs.compiles;
              consumed = r.runs.consumed;
              writes = w.2;
            };
            noted = r.noted;
          },
        ),
      )

  all_from : (task : Task) (files : List File) (run : RunEnd) (is_over : Bool)
      (unread rest : Option (List AskedDocument)) (new : Option (List ℕ))
      → RunsAll task files run is_over unread rest (Some before) new
      → Shifted before new (RunsAll task files run is_over unread rest (Some []))
  all_from task files run is_over unread rest new (refused r compiles writes noted) =
      let w = writes_from _ run.status new writes in
      (w.0, w.1, refused r compiles w.2 noted)
  all_from task files run is_over unread rest new (answered s compiles answers noted) =
      let w = answers_from _ _ _ answers.end unread rest before new answers.answers in (
        w.0,
        w.1,
        answered s compiles (record {
          end = answers.end;
          answers = w.2;
          ends = answers.ends;
          over = answers.over;
        }) noted,
      )

  rules_from : (task : Task) (files : List File) (rules : List Rule) (run : RunEnd)
      (new : Option (List ℕ)) → RunsRules task files rules run (Some before) new
      → Shifted before new (RunsRules task files rules run (Some []))
  rules_from task files rules run new (asked, is, r) =
      let w = writes_from _ run.status new r.writes in (
        w.0,
        w.1,
        (
          asked,
          is,
          record {
            found = r.found;
            lints = r.lints;
            writes = w.2;
            noted = r.noted;
          },
        ),
      )

  -- what an action writes
  pub action_from : (action : ActionAsked) (asked : RequestAsked) (files : List File)
      (documents : List (List ℕ)) (run : RunEnd) (new : Option (List ℕ))
      → DoesAction action asked files documents run (Some before) new
      → Shifted before new (DoesAction action asked files documents run (Some []))
  action_from Lists asked files documents run new does = absurd does
  action_from (Does command) asked files documents run new does =
      command_from _ files _ run new does
  action_from (ChecksAll names) asked files documents run new (is_over, rest, r) =
      let w = all_from _ files run is_over _ rest new r in
      (w.0, w.1, (is_over, rest, w.2))
  action_from (Lints rules) asked files documents run new does =
      rules_from _ files rules run new does
