use Rattle.std.proofs.Common.{◌∙◌, sym}
use Rattle.yv_schema.proofs.ImplementedModules.{matched, named_here, named_past}
use Rattle.yv_schema.proofs.module_names.ModuleNames.name.Goals as goal

pub returns-in-Some : goal.returns-in-Some
returns-in-Some c = λ files are.
    let named = named_here files c.deref.result.now c.args.module_file c.in-Some.name.now (rw c.deref.ensures.value are.names) c.in-Some.ensures.lookup.3.0 c.in-Some.ensures.lookup.1 in
    matched c.clone.result _ _ _ c.clone.ensures.cases (λ copy same. same ∙ named)

pub returns-in-None : goal.returns-in-None
returns-in-None c = λ files are.
    let none = named_past files c.deref.result.now c.args.module_file (rw c.deref.ensures.value are.names) c.in-None.ensures.lookup.3 in
    matched c.clone-in-None.result _ _ _ c.clone-in-None.ensures.cases (λ copy same. same ∙ are.none ∙ sym none)
