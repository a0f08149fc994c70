use Rattle.std.proofs.lemmas.Result.{on_ok_weaker, IfErr-weaker}
use Rattle.zst_names.specs.Names.{IsName, StopsAt}
use Rattle.zst_names.specs.Rest.{IsRest}
use Rattle.zst_names.specs.declared.scan.Position.TheVariants.{InDataset}
use Rattle.zst_names.proofs.Front.{start, stops_alike}
use Rattle.zst_names.proofs.scan.scan.Goals as goal

pub returns-clause-found : goal.returns-clause-found
returns-clause-found c = on_ok_weaker c.walk.result (start c.args.mark c.args.text.now).1 c.walk.ensures.found

pub returns-clause-exact : goal.returns-clause-exact
returns-clause-exact c = λ h. c.walk.ensures.exact ((start c.args.mark c.args.text.now).0 h)

pub returns-clause-cause : goal.returns-clause-cause
returns-clause-cause c =
    IfErr-weaker c.walk.result _ (λ fault. StopsAt (IsName c.args.mark) c.args.text.now fault.place)
    (λ fault h. stops_alike (IsRest c.args.mark (InDataset 1 0) 0) (IsName c.args.mark) (start c.args.mark) c.args.text.now fault.place h) c.walk.ensures.cause
