use Rattle.std.proofs.Common.{rules, ◌≡◌, ◌∙◌, ◌≤◌, ⊎_elim, sym, refl}
use Rattle.std.specs.Prelude.{Ok}
use Rattle.zst_block.proofs.BlocksLaws.{IsBlock-length}
use Rattle.zst_block.proofs.Cached.{block_bytes, compared_answer, compared_gives, Contains-Keeps, kept_looked, named_node}
use Rattle.zst_block.proofs.block_reads.load.Goals as goal

pub returns-then-ptr-ne8192-clause-there : goal.returns-then-ptr-ne8192-clause-there
returns-then-ptr-ne8192-clause-there g c = λ bytes honest has long.
    let stated : c.args.ptr.length ≡ 8192 = sym (IsBlock-length _ c.args.ptr bytes has.block) ∙ long in
    absurd (c.if-ptr-ne8192.true stated)

pub invariant_of-io : goal.invariant_of-io
invariant_of-io g c = record { fits = c.args.io.now.fits; told = c.args.io.now.told; behind = c.args.io.now.behind }

pub invariant_of-io-then-is_kept : goal.invariant_of-io-then-is_kept
invariant_of-io-then-is_kept g c =
    let was = kept_looked c.args.io.now.cache c.is_kept.new.cache c.args.ptr.sector c.is_kept.result c.is_kept.ensures.order c.is_kept.ensures.same in
    record {
      fits = c.args.io.now.fits;
      told = λ honest sector bytes is. c.args.io.now.told honest sector bytes (was sector bytes is);
      behind = λ sector bytes is. c.args.io.now.behind sector bytes (was sector bytes is);
    }

pub returns-then-is_kept-clause-answer : goal.returns-then-is_kept-clause-answer
returns-then-is_kept-clause-answer g c = λ honest stated.
    let told = c.args.io.now.told honest c.args.ptr.sector c.is_kept.new.into (c.if-is_kept.ensures.given refl) in
    compared_answer _ _ c.args.ptr c.is_kept.new.into c.compare-outcome.result (g.met.D.Disk.seen_size c.args.io.now.disk.now) (rw c.bytes.ensures at (c.if-is_kept.ensures.placed refl))
    (named_node _ c.args.ptr c.is_kept.new.into stated told) (rw c.as_slice.ensures.bytes at c.compare-outcome.ensures)

pub returns-then-is_kept-clause-there : goal.returns-then-is_kept-clause-there
returns-then-is_kept-clause-there g c = λ bytes honest has long.
    let stated : c.args.ptr.length ≡ 8192 = search rules in
    let told = c.args.io.now.told honest c.args.ptr.sector c.is_kept.new.into (c.if-is_kept.ensures.given refl) in
    compared_gives _ c.args.ptr c.is_kept.new.into bytes c.compare-outcome.result (named_node _ c.args.ptr c.is_kept.new.into stated told) has.block (rw c.as_slice.ensures.bytes at c.compare-outcome.ensures)

pub returns-then-is_kept-clause-block : goal.returns-then-is_kept-clause-block
returns-then-is_kept-clause-block g c = λ honest.
    let answer = returns-then-is_kept-clause-answer g c honest (search rules) in
    search (rules, answer)

pub returns-then-is_kept-clause-damaged : goal.returns-then-is_kept-clause-damaged
returns-then-is_kept-clause-damaged g c = λ honest.
    let answer = returns-then-is_kept-clause-answer g c honest (search rules) in
    search (rules, answer)

pub invariant_of-io-then-ptr-ge8 : goal.invariant_of-io-then-ptr-ge8
invariant_of-io-then-ptr-ge8 g c =
    let was = kept_looked c.args.io.now.cache c.is_kept.new.cache c.args.ptr.sector c.is_kept.result c.is_kept.ensures.order c.is_kept.ensures.same in
    let read = c.read-outcome.ensures in
    let stated : c.args.ptr.length ≡ 8192 = search rules in
    let ok : c.read-outcome.result ≡ Ok tt = search rules in
    let from : 8 ≤ c.args.ptr.sector = search rules in
    let one = Contains-Keeps c.is_kept.new.cache c.keep.new.self c.args.ptr.sector c.read-outcome.new.self c.keep.ensures in
    record {
      fits = rw read.reads.size c.args.io.now.fits;
      told = λ honest sector bytes is. ⊎_elim
          (λ put. rw (read.reads.seen, put.0, put.1) (block_bytes _ _ c.args.ptr c.read-outcome.new.self c.read-outcome.result ok stated (read.answer honest)))
          (λ before. rw read.reads.seen (c.args.io.now.told (read.reads.honest honest) sector bytes (was sector bytes before))) (one sector bytes is);
      behind = λ sector bytes is. ⊎_elim (λ put. rw put.0 from) (λ before. c.args.io.now.behind sector bytes (was sector bytes before)) (one sector bytes is);
    }

pub invariant_of-io-else-ptr-ge8 : goal.invariant_of-io-else-ptr-ge8
invariant_of-io-else-ptr-ge8 g c =
    let was = kept_looked c.args.io.now.cache c.is_kept.new.cache c.args.ptr.sector c.is_kept.result c.is_kept.ensures.order c.is_kept.ensures.same in
    let reads = c.read-outcome.ensures.reads in
    record {
      fits = rw reads.size c.args.io.now.fits;
      told = λ honest sector bytes is. rw reads.seen (c.args.io.now.told (reads.honest honest) sector bytes (was sector bytes is));
      behind = λ sector bytes is. c.args.io.now.behind sector bytes (was sector bytes is);
    }

pub invariant_of-io-else-eq : goal.invariant_of-io-else-eq
invariant_of-io-else-eq g c =
    let was = kept_looked c.args.io.now.cache c.is_kept.new.cache c.args.ptr.sector c.is_kept.result c.is_kept.ensures.order c.is_kept.ensures.same in
    let reads = c.read-outcome.ensures.reads in
    record {
      fits = rw reads.size c.args.io.now.fits;
      told = λ honest sector bytes is. rw reads.seen (c.args.io.now.told (reads.honest honest) sector bytes (was sector bytes is));
      behind = λ sector bytes is. c.args.io.now.behind sector bytes (was sector bytes is);
    }
