-- What a feed has once its piece was read.
use Rattle.std.proofs.Common.{◌≡◌, ◌++◌, ◌||◌, Bool, true, false, Ok, Err, sym, ap, ◌∙◌, subst, arith, []}
use Rattle.std.specs.Prelude.{ℕ, List, OnErr, OnOk, Result, is_err, ◌+◌, ◌<◌, ◌≤◌, length}
use Rattle.std.proofs.lemmas.Bool.{false_from_ne_true}
use Rattle.zst_space.specs.FreeSectors.{FreeSectors}
use Rattle.zst_reader.specs.StandsFor.{StandsFor}
use Rattle.zst_record.specs.Heads.{Covered}
use Rattle.zst_outside.specs.Images.{DiskState}
use Rattle.zst_block.specs.Blocks.{FillsFree, KeepsBlocks, SparesTaken}
use Rattle.zst_block.specs.IoCalls.{HasCause, fails, is_damage}
use Rattle.zst_image.specs.Bodies.{free_by}
use Rattle.zst_image.specs.Commits.{HasItsExtents}
use Rattle.zst_image.proofs.Growth.{HasItsExtents-kept}
use Rattle.zst_image.specs.declared.pool_state.PoolState.{PoolState}
use Rattle.zst_pool.specs.Calls.{CanCommit, IsCallFull}
use Rattle.zst_pool.proofs.PoolsAtRest.{commit_still}
use Rattle.zst_recv.specs.Faults.{stop_of}
use Rattle.zst_recv.specs.Damage.{ComesFrom}
use Rattle.zst_recv.specs.Stages.{StageFits, waits_at, fed_of}
use Rattle.zst_recv.proofs.FeedEnds.{live_fits, fits_within}
use Rattle.zst_recv.proofs.KeptBlocks.{keeps_behind}
use Rattle.zst_recv.proofs.SetOrigins.{comes_renewed, keeps_spared, keeps_written}
use Rattle.zst_recv.proofs.recv.Recv.feed.Given.{Over}
use Rattle.zst_recv.proofs.AnsweredFaults.{still_idle}
use Rattle.zst_recv.proofs.recv.Recv.feed.Goals.{After-read}
use Rattle.zst_reader.specs.InputReads.{stream_limit}
use Rattle.zst_model.specs.declared.refusals.plan_fault.PlanFault.{PlanFault}
use Rattle.zst_pool.specs.declared.fault.PoolFault.TheVariants as pools
use Rattle.zst_recv.specs.declared.fault.RecvFault.TheVariants as faults
use Rattle.zst_stream.specs.Reading.{reading}
use Rattle.zst_recv.specs.Costs.{PieceIsShort, Spends, records_behind}
use Rattle.zst_recv.specs.Plans.{RefusesOne}
use Rattle.zst_recv.proofs.CostLemmas.{short_put}

-- what a result that is no error comes with, and what an error does
pub at_ok : {T E P : Type 0} (result : Result T E) → is_err result ≡ false → OnOk result P → P
at_ok (Ok value) is holds = holds
at_ok (Err error) is holds = absurd (cc is)

pub at_err : {T E P : Type 0} (result : Result T E) → is_err result ≡ true → OnErr result P → P
at_err (Ok value) is holds = absurd (cc is)
at_err (Err error) is holds = holds

-- there was memory for the free extents: what the body leaves free is free
pub renewed : (g : Over) (c : After-read g) → c.renew.new.self.io.space ≡ free_by c.args.pool.now.kept.body
renewed g c = at_ok c.renew.result (sym c.is_err.ensures.value ∙ c.if-is_err.false) c.renew.ensures.space

-- what was read can be committed
pub can_commit : (g : Over) (c : After-read g) → CanCommit (g.D.Disk.state c.read.new.io.disk.now) c.read.new.io.space c.renew.new.self.kept.body
can_commit g c =
    commit_still (g.D.Disk.state c.renew.new.self.io.disk.now) (g.D.Disk.state c.read.new.io.disk.now) c.renew.new.self.io.space c.read.new.io.space c.renew.new.self.kept (at_ok c.renew.result (sym c.is_err.ensures.value ∙ c.if-is_err.false) (c.renew.ensures.works (c.requires.ready c.if-pool.false)))
    c.read.ensures.writes.fills.fills c.read.new.io.fits c.read.ensures.writes.fills.sectors

-- what was read can be committed for the target
pub read_fits : (g : Over) (c : After-read g) → StageFits c.renew.new.self.kept.dir c.args.self.now.ask.target c.read.new.batch.stage
read_fits g c =
    let recv = c.args.self.now in
    let fits = live_fits c.args.pool.now.kept.dir recv.ask.target recv.stage c.requires.live c.requires.recv.stage in
    c.read.ensures.gathers.fits
    (subst (λ (k : PoolState). StageFits k.dir recv.ask.target c.new-batch.result.stage) (sym c.renew.ensures.kept)
    (subst (StageFits c.args.pool.now.kept.dir recv.ask.target) (sym (c.new-batch.ensures.stage ∙ c.replace.ensures.value)) fits))

-- the disk failed only where the reading says so
pub read_failed : (g : Over) (c : After-read g) → c.read.new.io.failed ≡ fails (stop_of c.read.result)
read_failed g c = c.read.ensures.writes.fills.failed ∙ ap (λ (b : Bool). b || fails (stop_of c.read.result)) (c.renew.ensures.disk.failed ∙ c.if-pool.false)

-- and a block that was found damaged is counted only where it says so
pub read_told : (g : Over) (c : After-read g) → is_damage (stop_of c.read.result) ≡ false → c.read.new.io.checksum_errors ≡ c.args.pool.now.io.checksum_errors
read_told g c whole = c.read.ensures.writes.fills.told whole ∙ c.renew.ensures.disk.checksum_errors

-- where the disk failed its count of faults rose
pub read_cause : (g : Over) (c : After-read g) → HasCause (g.D.Disk.state c.args.pool.now.io.disk.now).faults (g.D.Disk.state c.read.new.io.disk.now).faults (stop_of c.read.result)
read_cause g c =
    subst (λ (n : ℕ). HasCause n (g.D.Disk.state c.read.new.io.disk.now).faults (stop_of c.read.result)) (ap (λ (d : g.row.D.Denot). (g.D.Disk.state d).faults) c.renew.ensures.disk.now) c.read.ensures.writes.fills.cause

pub read_honest : (g : Over) (c : After-read g) → (g.D.Disk.state c.read.new.io.disk.now).honest → (g.D.Disk.state c.args.pool.now.io.disk.now).honest
read_honest g c told = subst (λ (d : g.row.D.Denot). (g.D.Disk.state d).honest) c.renew.ensures.disk.now (c.read.ensures.writes.fills.fills.honest told)

pub read_same : (g : Over) (c : After-read g) → c.read.new.io.disk.ghost_name ≡ c.args.pool.now.io.disk.ghost_name
read_same g c = c.read.ensures.writes.fills.same ∙ c.renew.ensures.disk.same

-- blocks alone were written, into sectors that the body leaves free
pub read_fills : (g : Over) (c : After-read g) → FillsFree (g.D.Disk.state c.args.pool.now.io.disk.now) (free_by c.args.pool.now.kept.body) (g.D.Disk.state c.read.new.io.disk.now) c.read.new.io.space
read_fills g c =
    let two = g.D.Disk.state c.read.new.io.disk.now in
    let free = free_by c.args.pool.now.kept.body in
    subst (λ (d : DiskState). FillsFree d free two c.read.new.io.space) (ap (λ (d : g.row.D.Denot). g.D.Disk.state d) c.renew.ensures.disk.now)
    (subst (λ (s : FreeSectors). FillsFree (g.D.Disk.state c.renew.new.self.io.disk.now) s two c.read.new.io.space) (renewed g c) c.read.ensures.writes.fills.fills)

-- so each block that stood still does, where a commit behind them left it
pub read_stood : (g : Over) (c : After-read g) (now : DiskState) → KeepsBlocks (g.D.Disk.state c.read.new.io.disk.now).seen c.read.new.io.space now.seen c.read.new.io.space
    → KeepsBlocks (g.D.Disk.state c.args.pool.now.io.disk.now).seen (free_by c.args.pool.now.kept.body) now.seen (free_by c.args.pool.now.kept.body)
read_stood g c now keeps = keeps_written (g.D.Disk.state c.args.pool.now.io.disk.now) (g.D.Disk.state c.read.new.io.disk.now) (free_by c.args.pool.now.kept.body) c.read.new.io.space now.seen (read_fills g c) keeps

-- and so do the free extents of the body
pub read_extents : (g : Over) (c : After-read g) → HasItsExtents (g.D.Disk.state c.args.pool.now.io.disk.now) c.args.pool.now.kept.body → HasItsExtents (g.D.Disk.state c.read.new.io.disk.now) c.renew.new.self.kept.body
read_extents g c has =
    let old = g.D.Disk.state c.args.pool.now.io.disk.now in
    let now = g.D.Disk.state c.read.new.io.disk.now in
    let body = c.args.pool.now.kept.body in
    let fills = read_fills g c in
    subst (λ (k : PoolState). HasItsExtents now k.body) (sym c.renew.ensures.kept) (HasItsExtents-kept old now body (keeps_spared (free_by body) old.seen now.seen fills.seen) has)

-- a record was taken only behind BEGIN
pub taken_begun : (g : Over) (c : After-read g) → c.read.new.batch.taken ≡ true → waits_at c.read.new.batch.stage ≡ false
taken_begun g c taken =
    let batch = c.read.new.batch in
    false_from_ne_true (waits_at batch.stage) (λ waits. let both : true ≡ false = sym taken ∙ still_idle batch c.new-batch.result c.read.ensures.gathers.waits c.new-batch.ensures.taken waits in cc both)

-- so the blocks that were there still are behind its commit, or where nothing was committed
pub put_blocks : (g : Over) (c : After-read g) (now : g.row.D.Denot) (after : PoolState) → (c.read.new.batch.taken ≡ false → (now ≡ c.read.new.io.disk.now) × (after ≡ c.renew.new.self.kept))
    → (c.read.new.batch.taken ≡ true → KeepsBlocks (g.D.Disk.state c.read.new.io.disk.now).seen c.read.new.io.space (g.D.Disk.state now).seen (free_by after.body))
    → KeepsBlocks (g.D.Disk.state c.args.pool.now.io.disk.now).seen (free_by c.args.pool.now.kept.body) (g.D.Disk.state now).seen (free_by after.body)
put_blocks g c now after idle moved =
    keeps_behind (g.D.Disk.state c.args.pool.now.io.disk.now) (g.D.Disk.state c.read.new.io.disk.now) (g.D.Disk.state now) (free_by c.args.pool.now.kept.body) c.read.new.io.space (free_by after.body) c.read.new.batch.taken (read_fills g c)
    (λ none. let same = idle none in (ap (λ (d : g.row.D.Denot). g.D.Disk.state d) same.0, ap (λ (k : PoolState). free_by k.body) (same.1 ∙ c.renew.ensures.kept))) moved

-- the batch began where the receive stood
pub began_at : (g : Over) (c : After-read g) → c.new-batch.result.stage ≡ c.args.self.now.stage
began_at g c = c.new-batch.ensures.stage ∙ c.replace.ensures.value

-- and its set comes from the one that the receive had
pub read_comes : (g : Over) (c : After-read g) (text : List ℕ) (handed : List Covered) → StandsFor c.args.self.now.reader text handed → (g.D.Disk.state c.read.new.io.disk.now).honest
    → ComesFrom c.args.pool.now.kept.dir c.args.self.now.ask (text ++ c.args.piece.now) (SparesTaken (free_by c.args.pool.now.kept.body) (g.D.Disk.state c.args.pool.now.io.disk.now).seen) (g.D.Disk.state c.args.pool.now.io.disk.now).size c.args.self.now.stage
    (SparesTaken c.read.new.io.space (g.D.Disk.state c.read.new.io.disk.now).seen) c.read.new.batch.stage
read_comes g c text handed stands honest =
    let two = g.D.Disk.state c.read.new.io.disk.now in
    comes_renewed (g.D.Disk.state c.args.pool.now.io.disk.now) (g.D.Disk.state c.renew.new.self.io.disk.now) c.renew.new.self.io.space c.args.pool.now.kept c.renew.new.self.kept c.args.self.now.ask (text ++ c.args.piece.now) c.new-batch.result.stage c.args.self.now.stage
    (SparesTaken c.read.new.io.space two.seen) c.read.new.batch.stage (ap (λ (d : g.row.D.Denot). g.D.Disk.state d) c.renew.ensures.disk.now) (renewed g c) c.renew.ensures.kept (began_at g c) ((c.read.ensures.leaves text handed stands).comes honest)

-- a piece whose commit found no room is short of it
pub short_by : (g : Over) (c : After-read g) (text : List ℕ) (handed : List Covered) (need largest : ℕ) (after last : FreeSectors) → StandsFor c.args.self.now.reader text handed → IsCallFull c.read.new.io.space after c.renew.new.self.kept.dir need largest → last ≡ after
    → PieceIsShort (records_behind handed (text ++ c.args.piece.now)) c.args.pool.now.kept last need largest
short_by g c text handed need largest after last stands full same =
    let records = records_behind handed (text ++ c.args.piece.now) in
    let kept = c.args.pool.now.kept in
    let spends = subst (λ (s : FreeSectors). Spends records s c.read.new.io.space (stop_of c.read.result)) (renewed g c) (c.read.ensures.spends text handed stands) in
    subst (λ (s : FreeSectors). PieceIsShort records kept s need largest) (sym same)
    (short_put records kept c.read.new.io.space after (stop_of c.read.result) need largest spends (subst (λ (k : PoolState). IsCallFull c.read.new.io.space after k.dir need largest) c.renew.ensures.kept full))

-- a piece that is read makes the stream no longer than one may be
pub not_long : (g : Over) (c : After-read g) → stream_limit < fed_of c.args.self.now + length c.args.piece.now → ⊥
not_long g c more =
    let within = fits_within c.args.pool.now.kept.dir c.args.self.now c.requires.recv in
    omega (arith, c.if-piece-started.false, c.pushed-started.ensures, within, more)

-- where BEGIN is covered, and its plan refuses the pool, that is what the reading answers, and the batch still waits
pub planned_so : (g : Over) (c : After-read g) (text : List ℕ) (handed : List Covered) (fault : PlanFault) → StandsFor c.args.self.now.reader text handed → waits_at c.args.self.now.stage ≡ true → (reading text).covered ≡ []
    → length (text ++ c.args.piece.now) ≤ stream_limit → RefusesOne c.args.pool.now.kept.dir c.args.self.now.ask (text ++ c.args.piece.now) fault
    → (c.read.result ≡ Err (faults.Pool (pools.Plan fault))) × (waits_at c.read.new.batch.stage ≡ true)
planned_so g c text handed fault stands waits none within refuses =
    let at : waits_at c.new-batch.result.stage ≡ true = ap waits_at (c.new-batch.ensures.stage ∙ c.replace.ensures.value) ∙ waits in
    let here = subst (λ (k : PoolState). RefusesOne k.dir c.args.self.now.ask (text ++ c.args.piece.now) fault) (sym c.renew.ensures.kept) refuses in
    ((c.read.ensures.texts text handed stands).planned fault at none within here, (c.read.ensures.leaves text handed stands).refused fault at none here)
