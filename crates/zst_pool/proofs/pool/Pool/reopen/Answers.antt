use Rattle.std.specs.Prelude.{Bool, Result, Ok, Err, IfOk, OnErr}
use Rattle.std.proofs.Common.{◌≡◌, ◌∙◌, ap, refl, subst}
use Rattle.zst_image.specs.declared.pool_state.PoolState.{PoolState}
use Rattle.zst_image.specs.declared.open_fault.OpenFault.{OpenFault}
use Rattle.zst_image.specs.declared.open_fault.OpenFault.TheVariants.{DiskFault}
use Rattle.zst_image.specs.OpenAnswers.{GivesPool, OpenAnswers}
use Rattle.zst_image.specs.Commits.{Ready}
use Rattle.zst_image.specs.Bodies.{free_by}
use Rattle.zst_image.specs.Reads.{Rests}
use Rattle.zst_pool.specs.ReopenedPools.{failed_after}
use Rattle.zst_pool.proofs.PoolsAtRest.{commit_next_of, rests_opened}
use Rattle.zst_pool.proofs.pool.Pool.reopen.Goals as goal

pub returns-in-Ok-clause-rests : goal.returns-in-Ok-clause-rests
returns-in-Ok-clause-rests g c = λ tight body rows pool told reads.
    let opened = c.open_on-opened.ensures in
    let here = g.D.Disk.state c.open_on-opened.new.io.disk.now in
    let there : GivesPool body rows (Ok c.in-Ok.kept) = subst (GivesPool body rows) c.in-Ok.is (opened.opens.there tight body rows pool told reads) in
    let rests = subst (λ (r : Result PoolState OpenFault). IfOk r (λ (kept : PoolState). Rests tight here kept.body rows pool)) c.in-Ok.is (opened.rests tight body rows pool told reads) in
    rests_opened here c.in-Ok.kept rows pool rests there.1

pub returns-in-Ok-clause-opens : goal.returns-in-Ok-clause-opens
returns-in-Ok-clause-opens g c = record {
  there = λ tight body rows pool told reads. subst (GivesPool body rows) c.in-Ok.is (c.open_on-opened.ensures.opens.there tight body rows pool told reads);
  answer = λ told. subst (OpenAnswers (g.D.Disk.state c.args.self.now.io.disk.now)) c.in-Ok.is (c.open_on-opened.ensures.opens.answer told);
}

pub returns-in-Err-clause-opens : goal.returns-in-Err-clause-opens
returns-in-Err-clause-opens g c = record {
  there = λ tight body rows pool told reads. subst (GivesPool body rows) c.in-Err.is (c.open_on-opened.ensures.opens.there tight body rows pool told reads);
  answer = λ told. subst (OpenAnswers (g.D.Disk.state c.args.self.now.io.disk.now)) c.in-Err.is (c.open_on-opened.ensures.opens.answer told);
}

pub returns-in-Ok-clause-reopens : goal.returns-in-Ok-clause-reopens
returns-in-Ok-clause-reopens g c =
    let opened = c.open_on-opened in
    let here = g.D.Disk.state opened.new.io.disk.now in
    let ready = subst (λ (r : Result PoolState OpenFault). IfOk r (λ (kept : PoolState). Ready here kept.body)) c.in-Ok.is opened.ensures.ready in
    let free = subst (λ (r : Result PoolState OpenFault). IfOk r (λ (kept : PoolState). opened.new.io.space ≡ free_by kept.body)) c.in-Ok.is opened.ensures.space in
    record {
      works = commit_next_of here opened.new.io.space c.in-Ok.kept.body free ready;
      space = free;
      synced = opened.ensures.synced (λ is. cc (is, c.in-Ok.is));
      kept = tt;
      same_space = tt;
      failed = c.failed_after-self.ensures ∙ ap (failed_after opened.new.io.failed) c.in-Ok.is;
      checksum_errors = opened.ensures.checksum_errors;
      reads = opened.ensures.reads.reads;
      cause = record { later = opened.ensures.reads.cause.later; fault = λ is. absurd (cc (is)) };
      same = opened.ensures.same;
    }

pub returns-in-Err-clause-reopens : goal.returns-in-Err-clause-reopens
returns-in-Err-clause-reopens g c =
    let opened = c.open_on-opened in
    let fault = c.in-Err.fault in
    record {
      works = tt;
      space = tt;
      synced = tt;
      kept = refl;
      same_space = subst (λ (r : Result PoolState OpenFault). OnErr r (opened.new.io.space ≡ c.args.self.now.io.space)) c.in-Err.is opened.ensures.same_space;
      failed = c.failed_after-self.ensures ∙ ap (failed_after opened.new.io.failed) c.in-Err.is ∙ ap (λ (failed : Bool). failed_after failed (Err fault)) opened.ensures.failed;
      checksum_errors = opened.ensures.checksum_errors;
      reads = opened.ensures.reads.reads;
      cause = record { later = opened.ensures.reads.cause.later; fault = λ is. let disk : fault ≡ DiskFault = cc (is) in opened.ensures.reads.cause.fault (c.in-Err.is ∙ ap (λ (f : OpenFault). Err f) disk) };
      same = opened.ensures.same;
    }
