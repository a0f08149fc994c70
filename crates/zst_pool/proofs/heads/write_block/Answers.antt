use Rattle.std.proofs.Common.{rules, ℕ, sym, subst, ◌+◌, inl, false}
use Rattle.zst_block.specs.IoStates.{io_of}
use Rattle.zst_model.specs.pools.Pool.{Pool}
use Rattle.zst_model.specs.pools.Step.{written, on_head}
use Rattle.zst_model.proofs.Results.{err_is}
use Rattle.zst_pool.specs.Cost.{write_cost}
use Rattle.zst_image.specs.Bodies.{free_by}
use Rattle.zst_pool.specs.declared.fault.PoolFault.TheVariants.{Plan}
use Rattle.zst_pool.specs.Damage.{OfHead, block_damage}
use Rattle.zst_pool.specs.Heads.{Works}
use Rattle.zst_objset.specs.OrMemory.{stop_of}
use Rattle.zst_pool.proofs.BlockCosts.{block_is}
use Rattle.zst_pool.proofs.CommandRuns.{changed_head, runs_head, runs_planned}
use Rattle.zst_pool.proofs.PoolsAtRest.{ready_after, rest_named}
use Rattle.zst_pool.proofs.PlanLemmas.{written_apart, head_apart, head_limits, plans_apart, plans_refused}
use Rattle.zst_pool.proofs.heads.write_block.Goals as goal

pub commit_head-requires-clause-ready : goal.commit_head-requires-clause-ready
commit_head-requires-clause-ready g c =
    ready_after (g.D.Disk.state c.args.io.now.disk.now) (g.D.Disk.state c.change_block-changed.new.io.disk.now) c.args.io.now.space c.change_block-changed.new.io.space c.args.kept.now.body c.requires.begins.space (let taken = c.change_block-changed.ensures.works in taken.2.fills) c.requires.begins.ready

pub returns : goal.returns
returns g c = record {
  does = record {
    runs =
        let make = λ (pool : Pool). written pool c.args.object c.args.index c.args.bytes.now in
        runs_head (λ pool. on_head c.args.name.now pool (make pool)) (write_cost c.args.name.now c.args.object) c.args.kept.now c.args.name.now (block_damage (g.D.Disk.state c.args.io.now.disk.now)) (io_of c.args.io.now) (io_of c.change_block-changed.new.io) c.in_ok-set.set c.change_block-changed.result c.commit_head.result
        c.requires.begins.space c.in_ok-set.ensures.there c.change_block-changed.ensures.damaged c.commit_head.ensures.honest c.commit_head.ensures.refuses.damaged
        (c.commit_head.ensures.ran c.args.io.now.disk.now c.args.io.now.failed c.args.io.now.checksum_errors c.args.io.now.disk.ghost_name make (write_cost c.args.name.now c.args.object)
        (changed_head c.args.kept.now c.args.name.now make (write_cost c.args.name.now c.args.object) (io_of c.args.io.now) (io_of c.change_block-changed.new.io) c.requires.begins.space c.next_number-number.ensures c.in_ok-set.ensures.finds.judged c.change_block-changed.ensures.changed
        c.change_block-changed.ensures.works
        (λ pool head told holds finds.
        subst (λ (n : ℕ). Works 1 n (io_of c.args.io.now) (io_of c.change_block-changed.new.io) (stop_of c.change_block-changed.result))
        (sym (block_is c.args.name.now c.args.object pool head finds)) (c.change_block-changed.ensures.exact head told holds))));
    plans =
        let kept = c.args.kept.now in
        let name = c.args.name.now in
        let make = λ (pool : Pool). written pool c.args.object c.args.index c.args.bytes.now in
        let changed = c.change_block-changed in
        plans_apart (λ pool. on_head name pool (make pool)) 0 (c.args.index + 1) false kept c.commit_head.result
        (λ pool named. head_apart kept.dir name pool c.in_ok-set.set (make pool) (written_apart pool c.args.object c.args.index c.args.bytes.now) (c.in_ok-set.ensures.finds.judged pool named.are_named))
        (λ fault is. head_limits 0 (c.args.index + 1) false kept.body changed.result changed.ensures.limits fault (c.commit_head.ensures.refuses.last fault is));
    partials = c.commit_head.ensures.partials;
  };
}

pub returns-in_err-set : goal.returns-in_err-set
returns-in_err-set g c = record {
  does = record {
    runs =
        let make = λ (pool : Pool). written pool c.args.object c.args.index c.args.bytes.now in
        let plan = c.in_err-set.field-0.0 in
        let space = free_by c.args.kept.now.body in
        runs_planned (λ pool. on_head c.args.name.now pool (make pool)) (write_cost c.args.name.now c.args.object) (OfHead c.args.kept.now.dir c.args.name.now (block_damage (g.D.Disk.state c.args.io.now.disk.now) space)) c.args.kept.now plan (err_is c.from_residual.result (Plan plan) c.from_residual.ensures.1) c.requires.begins.space c.requires.begins.ready
        (λ running rested.
        let named = rest_named (g.D.Disk.state c.args.io.now.disk.now) c.args.kept.now running rested in
        c.in_err-set.ensures.finds.judged running named.are_named (make running));
    plans =
        let make = λ (pool : Pool). written pool c.args.object c.args.index c.args.bytes.now in
        let fault = c.in_err-set.field-0.0 in
        plans_refused (λ pool. on_head c.args.name.now pool (make pool)) 0 (c.args.index + 1) false c.args.kept.now fault (err_is c.from_residual.result (Plan fault) c.from_residual.ensures.1) (inl c.in_err-set.ensures.finds.rows)
        (λ pool named. c.in_err-set.ensures.finds.judged pool named.are_named (make pool));
    partials = search rules;
  };
}
