use Rattle.std.specs.Prelude.{None, IfErr}
use Rattle.std.proofs.Common.{rules, ◌≡◌, [], refl, ap, subst, arith}
use Rattle.std.proofs.lemmas.Result.{IfOk-weaker, err_from_is_err_and}
use Rattle.zst_outside.specs.Images.{DiskState, Leaves}
use Rattle.zst_space.specs.FreeSectors.{FreeSectors}
use Rattle.zst_block.specs.IoStates.{IsHonest, disk_of, io_of}
use Rattle.zst_uber.specs.DiskCalls.{HasDiskCause}
use Rattle.zst_uber.specs.Slots.{latest}
use Rattle.zst_image.specs.Bodies.{Body}
use Rattle.zst_image.specs.Commits.{OldOrNext, Ready, Stays}
use Rattle.zst_image.specs.Reads.{new_pool}
use Rattle.zst_image.specs.declared.commit_fault.CommitFault.TheVariants.{DiskFault}
use Rattle.zst_image.specs.declared.pool_state.PoolState.{PoolState}
use Rattle.zst_image.proofs.CreateAnswers.{NextIs-new, CreateAnswers-made, IfOk-commit, IfOk-made, RefusedLeaves-reads, create-moments, create-refused, made-cause, never-full, new-made}
use Rattle.zst_image.proofs.pool_state.PoolState.create.Goals as goal

pub new-io-requires : goal.new-io-requires
new-io-requires g c =
    let start : FreeSectors = record { end = 8; sectors = c.args.sectors; free = [] } in
    let space : c.new-space.result ≡ start = rw (c.new-space.ensures, c.new.ensures.items) refl in
    rw space (record { extents = record { end = omega (arith, c.requires.sectors.0); extents = omega arith }; sectors = omega (arith, c.if-bytes-sectors.false, c.bytes.ensures, c.find_none.ensures.reads.reads.size) })

pub answer-requires : goal.answer-requires
answer-requires g c =
    let start : FreeSectors = record { end = 8; sectors = c.args.sectors; free = [] } in
    let space : c.new-io.result.space ≡ start = rw (c.new-io.ensures.space, c.new-space.ensures, c.new.ensures.items) refl in
    never-full c.new-io.result.space c.commit_dir-made.new.io.space c.args.sectors c.new-2.result c.commit_dir-made.result space c.new-2.ensures c.requires.sectors.0 c.commit_dir-made.ensures.takes

pub returns-clause-answer : goal.returns-clause-answer
returns-clause-answer g c = λ told.
    let here : IsHonest c.commit_dir-made.new.io = search (rules, told) in
    let old = g.D.Disk.state c.args.disk.now in
    let none : latest old.seen ≡ None = c.in_ok-find_none.ensures.answer (subst (λ (d : DiskState). d.honest) (ap g.D.Disk.state c.new-io.ensures.disk) (c.commit_dir-made.ensures.disk.honest here)) in
    CreateAnswers-made old.size (latest old.seen) c.args.sectors c.commit_dir-made.result c.answer.result none (λ few. omega (arith, few, c.if-bytes-sectors.false, c.bytes.ensures, c.find_none.ensures.reads.reads.size)) c.answer.ensures

pub returns-clause-made : goal.returns-clause-made
returns-clause-made g c = λ tight told.
    let here : IsHonest c.commit_dir-made.new.io = search (rules, told) in
    let next = NextIs-new {tight = tight} _ c.unborn.result c.new-2.result c.args.id c.requires.id (ap (λ (b : Body). b.uber.id) c.unborn.ensures) (ap (λ (b : Body). b.uber.number) c.unborn.ensures) c.new-2.ensures in
    let over = c.commit_dir-made.ensures.over tight _ here next in
    let made = IfOk-made _ c.commit_dir-made.result c.answer.result c.answer.ensures (IfOk-commit _ _ c.commit_dir-made.result over.answer) in
    search (rules, made)

pub returns-clause-ready : goal.returns-clause-ready
returns-clause-ready g c =
    let last = disk_of c.commit_dir-made.new.io in
    let made = IfOk-weaker c.commit_dir-made.result _ (λ (kept : PoolState). Ready last kept.body) (λ kept is. is.ready) c.commit_dir-made.ensures.made in
    let ready = IfOk-made (λ (kept : PoolState). Ready last kept.body) c.commit_dir-made.result c.answer.result c.answer.ensures made in
    search (rules, ready)

pub returns-clause-moments : goal.returns-clause-moments
returns-clause-moments g c = λ tight told.
    let here : IsHonest c.commit_dir-made.new.io = search (rules, told) in
    let old = g.D.Disk.state c.args.disk.now in
    let next = NextIs-new {tight = tight} _ c.unborn.result c.new-2.result c.args.id c.requires.id (ap (λ (b : Body). b.uber.id) c.unborn.ensures) (ap (λ (b : Body). b.uber.number) c.unborn.ensures) c.new-2.ensures in
    let over = c.commit_dir-made.ensures.over tight _ here next in
    let moments = subst (λ (d : DiskState). Leaves d (disk_of c.commit_dir-made.new.io) (OldOrNext tight c.new-io.result.space d (new_pool c.args.id))) (ap g.D.Disk.state c.new-io.ensures.disk) over.moments in
    create-moments old _ _ _ c.new-io.result.space _ (search rules) c.find_none.ensures.reads.reads moments

pub returns-in_err-find_none-clause-refused : goal.returns-in_err-find_none-clause-refused
returns-in_err-find_none-clause-refused g c =
    let p = err_from_is_err_and c.from_residual.result c.from_residual.ensures.1 in
    rw (p.1, p.2) (RefusedLeaves-reads (g.D.Disk.state c.args.disk.now) _ _ c.find_none.ensures.reads.reads)

pub returns-clause-refused : goal.returns-clause-refused
returns-clause-refused g c =
    let refused = subst (λ (d : DiskState). IfErr c.commit_dir-made.result (Stays (latest (disk_of c.commit_dir-made.new.io).seen ≡ latest d.seen))) (ap g.D.Disk.state c.new-io.ensures.disk) c.commit_dir-made.ensures.refused.refused in
    create-refused (g.D.Disk.state c.args.disk.now) _ (disk_of c.commit_dir-made.new.io) _ c.commit_dir-made.result c.answer.result (search rules) c.answer.ensures c.find_none.ensures.reads.reads refused

pub returns-clause-cause : goal.returns-clause-cause
returns-clause-cause g c =
    let committed = subst (λ (d : DiskState). HasDiskCause DiskFault d.faults (disk_of c.commit_dir-made.new.io).faults c.commit_dir-made.result) (ap g.D.Disk.state c.new-io.ensures.disk) c.commit_dir-made.ensures.cause in
    let cause = made-cause _ _ _ c.commit_dir-made.result c.answer.result c.answer.ensures c.find_none.ensures.reads.cause.later committed in
    search (rules, cause)

pub returns-clause-new : goal.returns-clause-new
returns-clause-new g c =
    let commit = c.commit_dir-made.ensures in
    let start : FreeSectors = record { end = 8; sectors = c.args.sectors; free = [] } in
    let space : c.new-io.result.space ≡ start = rw (c.new-io.ensures.space, c.new-space.ensures, c.new.ensures.items) refl in
    IfOk-made _ c.commit_dir-made.result c.answer.result c.answer.ensures
    (new-made c.args.sectors (io_of c.new-io.result) (io_of c.commit_dir-made.new.io) c.unborn.result c.new-2.result c.commit_dir-made.result space c.new-2.ensures c.requires.sectors.0 commit.takes commit.made)

pub returns-in_err-find_none-clause-answer : goal.returns-in_err-find_none-clause-answer
returns-in_err-find_none-clause-answer g c = search rules

pub returns-in_err-find_none-clause-made : goal.returns-in_err-find_none-clause-made
returns-in_err-find_none-clause-made g c = search rules

pub returns-in_err-find_none-clause-new : goal.returns-in_err-find_none-clause-new
returns-in_err-find_none-clause-new g c = search rules

pub returns-in_err-find_none-clause-ready : goal.returns-in_err-find_none-clause-ready
returns-in_err-find_none-clause-ready g c = search rules

pub returns-in_err-find_none-clause-moments : goal.returns-in_err-find_none-clause-moments
returns-in_err-find_none-clause-moments g c = search rules

pub returns-in_err-find_none-clause-cause : goal.returns-in_err-find_none-clause-cause
returns-in_err-find_none-clause-cause g c = search rules

pub returns-in_err-find_none-clause-honest : goal.returns-in_err-find_none-clause-honest
returns-in_err-find_none-clause-honest g c = search rules

pub returns-clause-honest : goal.returns-clause-honest
returns-clause-honest g c = search rules
