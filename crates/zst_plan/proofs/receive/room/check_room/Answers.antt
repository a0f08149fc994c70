use Rattle.std.proofs.Common.{◌≡◌, ◌∙◌, ◌+◌, length, refl, sym, ap, subst}
use Rattle.zst_model.specs.declared.refusals.faults.Quantity.TheVariants as quantities
use Rattle.zst_model.specs.pools.Step.{count_datasets}
use Rattle.zst_model.proofs.Results.{err_is}
use Rattle.zst_plan.specs.Places.{Judges}
use Rattle.zst_plan.specs.RecvPlan.{if_room, if_within, new_datasets}
use Rattle.zst_plan.proofs.ReceiveChecks.{room_is, snapshots_are_counted}
use Rattle.zst_plan.proofs.receive.room.check_room.Goals as goal
use Rattle.zst_dir.proofs.NamedRows.{partials_are_counted}

pub returns-in_err-check_within : goal.returns-in_err-check_within
returns-in_err-check_within c = λ pool rest are.
    let target = c.args.target.now in
    let partials = length c.partials.result.now + 1 in
    let datasets = count_datasets pool + new_datasets target pool in
    let snapshots = length pool.snapshots + (length pool.partials + 1) in
    let room = room_is target pool rest partials datasets snapshots (ap (λ n. n + 1) (ap length c.partials.ensures ∙ partials_are_counted c.args.dir.now pool are)) refl refl in
    subst (Judges (if_room target pool rest) rest) (sym (err_is c.from_residual.result c.in_err-check_within.field-0.0 c.from_residual.ensures.1))
    (room ∙ c.in_err-check_within.ensures (if_within quantities.Datasets 256 datasets (if_within quantities.Snapshots 1024 snapshots rest)))

pub returns-in_err-check_within-2 : goal.returns-in_err-check_within-2
returns-in_err-check_within-2 c = λ pool rest are.
    let target = c.args.target.now in
    let partials = length c.partials.result.now + 1 in
    let datasets = c.count_datasets.result + c.new_datasets.result in
    let snapshots = length pool.snapshots + (length pool.partials + 1) in
    let room = room_is target pool rest partials datasets snapshots (ap (λ n. n + 1) (ap length c.partials.ensures ∙ partials_are_counted c.args.dir.now pool are))
    (ap (λ n. n + c.new_datasets.result) (c.count_datasets.ensures.many pool are) ∙ ap (λ n. count_datasets pool + n) (c.new_datasets.ensures.new pool are)) refl in
    subst (Judges (if_room target pool rest) rest) (sym (err_is c.from_residual-in_err-check_within-2.result c.in_err-check_within-2.field-0.0 c.from_residual-in_err-check_within-2.ensures.1))
    (room ∙ c.in_ok-check_within.ensures (if_within quantities.Datasets 256 datasets (if_within quantities.Snapshots 1024 snapshots rest))
    ∙ c.in_err-check_within-2.ensures (if_within quantities.Snapshots 1024 snapshots rest))

pub returns : goal.returns
returns c = λ pool rest are.
    let target = c.args.target.now in
    let partials = length c.partials.result.now + 1 in
    let datasets = c.count_datasets.result + c.new_datasets.result in
    let snapshots = length c.snapshots.result.now + partials in
    let counted : partials ≡ length pool.partials + 1 = ap (λ n. n + 1) (ap length c.partials.ensures ∙ partials_are_counted c.args.dir.now pool are) in
    let room = room_is target pool rest partials datasets snapshots counted
    (ap (λ n. n + c.new_datasets.result) (c.count_datasets.ensures.many pool are) ∙ ap (λ n. count_datasets pool + n) (c.new_datasets.ensures.new pool are))
    (ap (λ n. n + partials) (ap length c.snapshots.ensures ∙ snapshots_are_counted c.args.dir.now pool are) ∙ ap (λ n. length pool.snapshots + n) counted) in
    subst (λ d. Judges d rest c.check_within-3.result)
    (sym (room ∙ c.in_ok-check_within.ensures (if_within quantities.Datasets 256 datasets (if_within quantities.Snapshots 1024 snapshots rest))
    ∙ c.in_ok-check_within-2.ensures (if_within quantities.Snapshots 1024 snapshots rest)))
    (c.check_within-3.ensures rest)
