use Rattle.std.proofs.Common.{◌∙◌, Option, sym, subst}
use Rattle.zst_plan.specs.Places.{FindAlike}
use Rattle.zst_plan.specs.Sources.{NamesSource}
use Rattle.zst_plan.specs.declared.source.Source.{Source}
use Rattle.zst_plan.proofs.BeginHeader.{full_flags, with_clone, without_clone}
use Rattle.zst_plan.proofs.plan.flags_of.Goals as goal
use Rattle.zst_plan.proofs.AlikeAnswers.{none_alike, some_alike}

pub returns-then-is_elsewhere : goal.returns-then-is_elsewhere
returns-then-is_elsewhere c = λ to from names alike.
    let found = some_alike NamesSource c.in-Some.source from (subst (λ (o : Option Source). FindAlike NamesSource o from) c.in-Some.is alike) in
    rw found.1 (with_clone to found.0 (sym (c.is_elsewhere.ensures found.0 to found.2 names) ∙ c.if-is_elsewhere.true))

pub returns-else-is_elsewhere : goal.returns-else-is_elsewhere
returns-else-is_elsewhere c = λ to from names alike.
    let found = some_alike NamesSource c.in-Some.source from (subst (λ (o : Option Source). FindAlike NamesSource o from) c.in-Some.is alike) in
    rw found.1 (without_clone to found.0 (sym (c.is_elsewhere.ensures found.0 to found.2 names) ∙ c.if-is_elsewhere.false))

pub returns-in-None : goal.returns-in-None
returns-in-None c = λ to from names alike.
    rw (none_alike NamesSource from (subst (λ (o : Option Source). FindAlike NamesSource o from) c.in-None.is alike)) (full_flags to)
