use Rattle.std.proofs.Common.{None}
use Rattle.std.proofs.lemmas.Result.{on_ok_weaker, IfErr-weaker}
use Rattle.zst_names.specs.Names.{IsComponent, StopsAt}
use Rattle.zst_names.specs.Rest.{IsRest}
use Rattle.zst_names.specs.declared.scan.Position.TheVariants.{InComponent}
use Rattle.zst_names.proofs.Front.{component_start, stops_alike}
use Rattle.zst_names.proofs.scan.check_component.Goals as goal

pub returns-clause-found : goal.returns-clause-found
returns-clause-found c = on_ok_weaker c.walk.result (component_start c.args.bytes.now).1 c.walk.ensures.found

pub returns-clause-exact : goal.returns-clause-exact
returns-clause-exact c = λ h. c.walk.ensures.exact ((component_start c.args.bytes.now).0 h)

pub returns-clause-cause : goal.returns-clause-cause
returns-clause-cause c =
    IfErr-weaker c.walk.result _ (λ fault. StopsAt IsComponent c.args.bytes.now fault.place)
    (λ fault h. stops_alike (IsRest None (InComponent 0) 0) IsComponent component_start c.args.bytes.now fault.place h) c.walk.ensures.cause
