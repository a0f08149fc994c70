use Rattle.std.proofs.Common.{◌∙◌, Option, sym, subst, refl}
use Rattle.zst_plan.specs.Places.{FindAlike, StandsAt}
use Rattle.zst_plan.specs.Plans.{IsFrom}
use Rattle.zst_plan.specs.Sources.{IsSource}
use Rattle.zst_plan.specs.declared.source.Source.{Source}
use Rattle.zst_plan.proofs.BeginHeader.{flags_are}
use Rattle.zst_plan.proofs.SendPlans.{from_none, names_alike}
use Rattle.zst_plan.proofs.send.plan_of.Goals as goal
use Rattle.zst_plan.proofs.AlikeAnswers.{none_alike, some_alike}

pub returns-in-None-clause-plan : goal.returns-in-None-clause-plan
returns-in-None-clause-plan c = λ rows pool sent at names from list kind.
    let none = none_alike (IsSource rows pool) sent.source (subst (λ (o : Option Source). FindAlike (IsSource rows pool) o sent.source) c.in-None.is from) in
    record {
      snapshot = at;
      source = subst (IsFrom rows pool _) (sym none) (from_none rows pool _ refl refl refl refl);
      redaction = list;
      flags = c.flags_of.ensures sent.snapshot sent.source names (names_alike rows pool c.args.source.now sent.source from) ∙ flags_are sent;
      kind = kind;
    }

pub returns-in-Some-clause-plan : goal.returns-in-Some-clause-plan
returns-in-Some-clause-plan c = λ rows pool sent at names from list kind.
    let found = some_alike (IsSource rows pool) c.in-Some.source sent.source (subst (λ (o : Option Source). FindAlike (IsSource rows pool) o sent.source) c.in-Some.is from) in
    record {
      snapshot = subst (λ place. StandsAt rows.snapshots pool.snapshots place sent.snapshot) (sym c.with_source.ensures.same.snapshot) at;
      source = subst (IsFrom rows pool c.with_source.result) (sym found.1) (c.with_source.ensures.from rows pool found.0 found.2);
      redaction = subst (λ place. FindAlike (StandsAt rows.bookmarks pool.bookmarks) place sent.redaction) (sym c.with_source.ensures.same.redaction) list;
      flags = c.with_source.ensures.same.flags ∙ c.flags_of.ensures sent.snapshot sent.source names (names_alike rows pool c.args.source.now sent.source from) ∙ flags_are sent;
      kind = kind;
    }
