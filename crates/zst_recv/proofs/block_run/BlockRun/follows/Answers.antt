use Rattle.std.proofs.Common.{◌≡◌, ℕ, ◌+◌, ◌*◌, [], ◌∷◌, ◌++◌, length, length-append, sym, ap, ◌∙◌, subst, arith}
use Rattle.zst_record.specs.Heads.{covered_of}
use Rattle.zst_recv.specs.PutOffWrites.{bytes_of}
use Rattle.zst_recv.specs.WriteRuns.{IsBlockWrite}
use Rattle.zst_recv.proofs.WriteRuns.{block_write, bytes_long, write_between, writes_at, writes_more}
use Rattle.zst_recv.proofs.block_run.BlockRun.follows.Goals as goal

pub returns : goal.returns
returns c =
    let old = c.args.self.now in
    let new = c.push.new.self in
    let one = covered_of c.args.covered.now in
    let w = c.in-Write in
    let next = c.if-not-is_next.ensures in
    let write = block_write one w.object w.type_ w.offset w.length w.to old.size (old.first + old.count) w.is c.requires.covered.payload next.long_is next.offset_is in
    let same = c.push.ensures.same in
    record {
      joins = record {
        put_off = λ yes records put.
            let counts = put.count_is in
            let wide : length (bytes_of old) ≡ length records * old.size = bytes_long old ∙ (old.may.run.long_is ∙ ap (λ (n : ℕ). n * old.size) (sym counts)) in
            let mine = subst (λ (n : ℕ). IsBlockWrite n old.size (old.first + old.count) one.payload one) next.object_is write in
            let all = writes_more old.object old.size old.first (old.first + old.count) (bytes_of old) one.payload records one (omega (arith, counts)) wide put.writes mine in
            record {
              writes = writes_at (records ++ one ∷ []) (sym same.object_is) (sym same.size_is) (sym same.first_is) (sym c.push.ensures.bytes) all;
              count_is = length-append records (one ∷ []) ∙ (let more = c.push.ensures.count in omega (arith, counts, more));
            };
        stays = λ no. absurd (cc no);
        some = λ yes. next.some;
        same = same;
        between = λ yes. write_between w.object old.size (old.first + old.count) one.payload one write;
      };
    }
