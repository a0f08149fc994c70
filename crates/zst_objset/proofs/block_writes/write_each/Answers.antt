use Rattle.std.proofs.Common.{ℕ, ◌*◌, ◌/◌, ◌+◌, ◌-◌, ◌≡◌, ◌∙◌, ◌<◌, ap, refl, arith, ◌≤◌, take, drop, length, subst, List, rules}
use Rattle.std.proofs.lemmas.Result.{err_from_is_err_and}
use Rattle.std.proofs.Math.Nat.{mul-le-mul_right}
use Rattle.zst_block.specs.IoStates.{blocks_of}
use Rattle.zst_block.specs.declared.ptr.Ptr.{Ptr}
use Rattle.zst_block.proofs.BlocksLaws.{KeepsBlocks-fills}
use Rattle.zst_block.proofs.IoCallLemmas.{Works-more, Works-then}
use Rattle.zst_objset.proofs.RunLaws.{block_is, block_long, so_far_more}
use Rattle.zst_objset.proofs.block_writes.write_each.Goals as goal

sectors : (k size count : ℕ) (bytes : List ℕ) → k < count → length bytes ≡ count * size → length (take ((k + 1) * size - k * size) (drop (k * size) bytes)) / 512 ≡ size / 512
sectors k size count bytes less long = ap (λ (n : ℕ). n / 512) (ap length (block_is k size bytes) ∙ block_long k size count bytes less long)

pub returns-in_err-ptr-clause-works : goal.returns-in_err-ptr-clause-works
returns-in_err-ptr-clause-works g c =
    let inside : c.loop-k.k < length c.args.into.now = omega (arith, c.loop-k-test.true, c.loop-k.invariant.long) in
    let is = sectors c.loop-k.k c.args.size (length c.args.into.now) c.args.bytes.now inside c.requires.long in
    let some : (c.loop-k.k + 1) * (c.args.size / 512) ≤ length c.args.into.now * (c.args.size / 512) = mul-le-mul_right (c.args.size / 512) (omega arith) in
    let p = err_from_is_err_and c.from_residual.result c.from_residual.ensures.1 in
    rw (p.1, p.2) (Works-more (omega (arith, some)) (Works-then c.loop-k.invariant.works (rw is at c.in_err-ptr.ensures.block.works)))

pub loop-k-preserved : goal.loop-k-preserved
loop-k-preserved g c =
    let inside : c.loop-k.k < length c.args.into.now = omega (arith, c.loop-k-test.true, c.loop-k.invariant.long) in
    let is = sectors c.loop-k.k c.args.size (length c.args.into.now) c.args.bytes.now inside c.requires.long in
    record {
      written = so_far_more _ (blocks_of c.write.new.io) (KeepsBlocks-fills _ _ _ _ c.in_ok-ptr.ensures.block.works.fills) c.args.number c.args.size c.args.index c.args.bytes.now c.loop-k.into c.loop-k.k _ (omega (arith, inside, c.loop-k.invariant.long)) c.loop-k.invariant.written
          (record {
            index_is = refl;
            block = (ap (λ (ptr : Ptr). ptr.kind) c.in_ok-ptr.ensures.block.pointer, subst (blocks_of c.write.new.io c.in_ok-ptr.ptr) (block_is c.loop-k.k c.args.size c.args.bytes.now) c.in_ok-ptr.ensures.block.wrote);
            dated = ap (λ (ptr : Ptr). ptr.number) c.in_ok-ptr.ensures.block.pointer;
          });
      long = search rules;
      works = Works-more (omega arith) (Works-then c.loop-k.invariant.works (rw is at c.in_ok-ptr.ensures.block.works));
    }
