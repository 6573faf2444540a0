-- What is still to come, over several steps that fetch at most one document.
use Rattle.std.proofs.Common.{◌∙◌, List, refl, sym, subst}
use Rattle.std.specs.declared.option.Option.{Option}
use Rattle.std.specs.declared.option.Option.TheVariants.{None, Some}
use Rattle.yv_batch.specs.AskedDocument.{AskedDocument}
use Rattle.yv_batch.specs.InnerSupply.{IsSame}
use Rattle.yv_batch.specs.Supply.{Takes}

pub same_both : (a b c : Option (List AskedDocument)) → IsSame a b → IsSame b c → IsSame a c
same_both None b c p q = tt
same_both (Some xs) None c p q = absurd p
same_both (Some xs) (Some ys) None p q = absurd q
same_both (Some xs) (Some ys) (Some zs) p q = p ∙ q

pub same_start : (a : Option (List AskedDocument)) → IsSame a a
same_start None = tt
same_start (Some xs) = refl

-- after steps that fetched nothing
pub takes_after : (a b c : Option (List AskedDocument)) (fetched : Option AskedDocument) → IsSame a b → Takes b c fetched → Takes a c fetched
takes_after None b c fetched p q = tt
takes_after (Some xs) None c fetched p q = absurd p
takes_after (Some xs) (Some ys) c fetched p q = subst (λ (l : List AskedDocument). Takes (Some l) c fetched) (sym p) q
