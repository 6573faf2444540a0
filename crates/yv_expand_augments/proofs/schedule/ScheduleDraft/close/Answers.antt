use Rattle.std.proofs.Common.{◌≡◌, ◌∷◌, [], List, Some, None, true, false, ap, sym, subst, ◌∙◌}
use Rattle.std.specs.List.{slice_get}
use Rattle.std.specs.declared.alloc.Global.{Global}
use Rattle.std.specs.declared.vec.Vec.{Vec}
use Rattle.yv_expand_augments.specs.InnerSchedule.{AreIdle}
use Rattle.yv_expand_augments.specs.declared.schedule.AddressedAugment.{AddressedAugment}
use Rattle.yv_expand_augments.specs.declared.schedule.Stretch.{Stretch}
use Rattle.yv_expand_augments.proofs.AugmentSchedule.{ended_within, none_idle, none_in, stretch_done}
use Rattle.yv_expand_augments.proofs.schedule.ScheduleDraft.close.Goals as goal

pub returns-clause-ends : goal.returns-clause-ends
returns-clause-ends c = λ w statement module_file count next is ended. (
    let x : Stretch = record { idle = c.replace-idle.result; giving = c.args.giving } in
    stretch_done w statement module_file count next c.args.self.now x c.push.new.self.items c.in_ok-push.ensures.items
    (ap (λ (v : Vec AddressedAugment Global). v.items) c.replace-idle.ensures.value) is ended)

pub returns-clause-gathers : goal.returns-clause-gathers
returns-clause-gathers c = λ w statement module_file count next is ended. (
    let x : Stretch = record { idle = c.replace-idle.result; giving = c.args.giving } in
    let empty : c.replace-idle.new.dest.items ≡ [] = ap (λ (v : Vec AddressedAugment Global). v.items) c.replace-idle.ensures.after ∙ c.new.ensures.items in
    record {
      from = next;
      done = stretch_done w statement module_file count next c.args.self.now x c.push.new.self.items c.in_ok-push.ensures.items
          (ap (λ (v : Vec AddressedAugment Global). v.items) c.replace-idle.ensures.value) is ended;
      idle = subst (AreIdle w statement module_file next next) (sym empty) (none_idle w statement module_file next (ended_within w statement module_file count next c.args.giving is.idle.within ended));
      all = [] ∷ [];
      tree = c.in_ok-self.ensures;
      known = λ n h. absurd (let bad : true ≡ false = sym h ∙ none_in c.new-3.result n c.new-3.ensures.empty in cc);
      passed = λ k x f at refused. absurd (let bad : None ≡ Some x = ap (λ (l : List AddressedAugment). slice_get l k) (sym empty) ∙ at in cc);
      code = λ l e. absurd (let bad : None ≡ Some l = e in cc);
    })
