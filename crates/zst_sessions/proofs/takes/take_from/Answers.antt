use Rattle.std.proofs.Common.{◌≡◌, ℕ, List, ◌++◌, length, take, drop, Err, inl, inr, refl, ap, sym, subst, ◌∙◌}
use Rattle.std.proofs.Math.Seq.{take-append_seam}
use Rattle.std.proofs.lemmas.List.{length-take-le}
use Rattle.zst_outside.specs.Images.{DiskState}
use Rattle.zst_space.specs.FreeSectors.{FreeSectors}
use Rattle.zst_block.specs.Blocks.{Has}
use Rattle.zst_block.specs.IoStates.{blocks_of, disk_of}
use Rattle.zst_image.specs.Bodies.{free_by}
use Rattle.zst_image.specs.declared.pool_state.PoolState.{PoolState}
use Rattle.zst_send.specs.Sends.{SendsFrom, TakesFrom}
use Rattle.std.proofs.lemmas.Result.{err_from_is_err_and}
use Rattle.zst_pool.proofs.PoolsAtRest.{free_by_fits}
use Rattle.zst_pool.specs.declared.fault.PoolFault.{PoolFault}
use Rattle.zst_sessions.proofs.ReadPools.{looks_unmoved}
use Rattle.zst_sessions.proofs.takes.take_from.Goals as goal

pub renew-requires : goal.renew-requires
renew-requires g c = record { fits = free_by_fits (g.D.Disk.state c.args.pool.now.io.disk.now) c.args.pool.now.kept.body (c.requires.ready c.if-pool.false) }

pub returns-in_err-renew-clause-takes : goal.returns-in_err-renew-clause-takes
returns-in_err-renew-clause-takes g c = λ sent start given left honest works from.
    let p = err_from_is_err_and c.from_residual.result c.from_residual.ensures.1 in
    inr (p.1 ∙ ap (λ (f : PoolFault). Err f) p.2, refl)

pub returns-in_err-renew-clause-pool : goal.returns-in_err-renew-clause-pool
returns-in_err-renew-clause-pool g c =
    let p = err_from_is_err_and c.from_residual.result c.from_residual.ensures.1 in
    rw (p.1, p.2) (looks_unmoved c.args.pool.now c.renew.new.self c.in_err-renew.ensures.unchanged c.if-pool.false)

pub returns-clause-takes : goal.returns-clause-takes
returns-clause-takes g c = λ sent start given left honest works from.
    let count = c.args.count in
    let front : List ℕ = take count c.args.room.now in
    let space : c.renew.new.self.io.space ≡ free_by c.args.pool.now.kept.body = c.in_ok-renew.ensures.space in
    let disk : disk_of c.renew.new.self.io ≡ disk_of c.args.pool.now.io = ap (g.D.Disk.state) c.renew.ensures.disk.now in
    let before : SendsFrom (blocks_of c.renew.new.self.io) c.args.send.now sent start given left =
    subst (λ (s : FreeSectors). SendsFrom (Has (disk_of c.renew.new.self.io).seen s) c.args.send.now sent start given left) (sym space)
    (subst (λ (d : DiskState). SendsFrom (Has d.seen (free_by c.args.pool.now.kept.body)) c.args.send.now sent start given left) (sym disk) from) in
    let took = c.take.ensures.takes_from sent start given left honest before in
    let after : c.take.new.pool.io.space ≡ free_by c.take.new.pool.kept.body =
    c.take.ensures.pool.looks.space ∙ space ∙ ap (λ (k : PoolState). free_by k.body) (sym (c.take.ensures.pool.kept ∙ c.renew.ensures.kept)) in
    let long : length c.take.new.into ≡ count = c.take.ensures.into.long ∙ length-take-le count c.args.room.now c.requires.count in
    let given_all : take count (c.take.new.into ++ drop count c.args.room.now) ≡ c.take.new.into =
    ap (λ (n : ℕ). take n (c.take.new.into ++ drop count c.args.room.now)) (sym long) ∙ take-append_seam c.take.new.into (drop count c.args.room.now) in
    let over = subst (λ (s : FreeSectors). TakesFrom (Has (disk_of c.take.new.pool.io).seen s) c.take.new.self sent start given left c.take.new.into c.take.result) after took in
    inl (subst (λ (bytes : List ℕ). TakesFrom (Has (disk_of c.take.new.pool.io).seen (free_by c.take.new.pool.kept.body)) c.take.new.self sent start given left bytes c.take.result) (sym given_all) over)
