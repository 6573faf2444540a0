use Rattle.std.proofs.Common.{◌≡◌, ℕ, Some, refl}
use Rattle.yv_validate.proofs.NoteGrowth.{noted_more}
use Rattle.yv_validate.proofs.notes.Notes.keep.Goals as goal

pub returns : goal.returns
returns c = λ s. record {
  each = λ n named. noted_more s c.args.self.now.values c.insert.new.self c.args.id.0 (Some c.args.value) (Some c.args.value) (λ m e. refl) (λ x. refl)
      c.in_ok-insert.ensures.updates n;
}
