use Rattle.std.proofs.Common.{rules, ◌≡◌, ℕ, List, length, take, arith, ap, subst, sym, ◌∙◌}
use Rattle.zst_space.specs.FreeSectors.{FreeSectors}
use Rattle.zst_block.specs.Blocks.{Has}
use Rattle.zst_block.specs.IoStates.{blocks_of, disk_of}
use Rattle.zst_objset.proofs.LeafLaws.{look_on}
use Rattle.zst_block.proofs.BlocksLaws.{IsBlock-length}
use Rattle.std.proofs.lemmas.List.{places, with_items_is}
use Rattle.std.proofs.lemmas.Result.{err_from_is_err_and}
use Rattle.zst_tree.specs.Damage.{IsSeen}
use Rattle.zst_send.proofs.BlockDamage.{load_told}
use Rattle.zst_send.proofs.BufferReads.{reads_long}
use Rattle.zst_send.proofs.block_buffer.BlockBuffer.load.Goals as goal

pub returns-then-ptr-gt-LONGEST_PAYLOAD-clause-there : goal.returns-then-ptr-gt-LONGEST_PAYLOAD-clause-there
returns-then-ptr-gt-LONGEST_PAYLOAD-clause-there g c = λ bytes honest loaded there less.
    let long : length bytes ≡ c.args.ptr.now.length = IsBlock-length _ c.args.ptr.now bytes there.block in
    absurd (omega (arith, long, less, c.if-ptr-gt-LONGEST_PAYLOAD.true))

pub returns-in_err-read_front-clause-there : goal.returns-in_err-read_front-clause-there
returns-in_err-read_front-clause-there g c = λ bytes honest loaded there less.
    let p = err_from_is_err_and c.from_residual.result c.from_residual.ensures.1 in
    rw (p.1, p.2) (c.in_err-read_front.ensures.there bytes honest there)

pub returns-clause-there : goal.returns-clause-there
returns-clause-there g c = λ bytes honest loaded there less.
    ap (λ (l : List ℕ). take c.args.ptr.now.length l) (with_items_is c.args.self.now.bytes c.read_front.new.into (search (rules, places))) ∙ c.in_ok-read_front.ensures.there bytes honest there

pub returns-clause-loaded : goal.returns-clause-loaded
returns-clause-loaded g c = λ bytes honest loaded there.
    let ptr = c.args.ptr.now in
    let read = c.read_front.new.into in
    let here = subst (blocks_of c.args.io.now ptr) (sym (c.in_ok-read_front.ensures.there bytes honest there)) there in
    subst (λ (l : List ℕ). blocks_of c.read_front.new.io ptr (take ptr.length l)) (sym (with_items_is c.args.self.now.bytes read (search (rules, places))))
    (look_on (λ (seen : List ℕ) (space : FreeSectors). Has seen space ptr (take ptr.length read)) c.in_ok-read_front.ensures.looks.looks here)

pub returns-then-ptr-gt-LONGEST_PAYLOAD-clause-reads : goal.returns-then-ptr-gt-LONGEST_PAYLOAD-clause-reads
returns-then-ptr-gt-LONGEST_PAYLOAD-clause-reads g c = reads_long _ _ c.args.ptr.now c.args.self.now _ c.of_layout.ensures c.if-ptr-gt-LONGEST_PAYLOAD.true c.requires.buffer

pub returns-in_err-read_front-clause-reads : goal.returns-in_err-read_front-clause-reads
returns-in_err-read_front-clause-reads g c =
    let p = err_from_is_err_and c.from_residual.result c.from_residual.ensures.1 in
    rw (p.1, p.2) (record {
      looks = c.in_err-read_front.ensures.looks.looks;
      calls = c.in_err-read_front.ensures.looks.calls;
      damaged = λ honest. load_told (IsSeen (disk_of c.args.io.now).seen) (disk_of c.args.io.now).size c.args.ptr.now _ (c.in_err-read_front.ensures.damaged honest);
      buffer_fits = record {
        long = ap (λ (l : List ℕ). length l) (with_items_is c.args.self.now.bytes c.read_front.new.into (search (rules, places))) ∙ c.in_err-read_front.ensures.long ∙ ap (λ (l : List ℕ). length l) c.as_mut_slice.ensures.value ∙ c.requires.buffer.long;
        held = tt;
      };
    })

pub returns-clause-reads : goal.returns-clause-reads
returns-clause-reads g c = record {
  looks = c.in_ok-read_front.ensures.looks.looks;
  calls = c.in_ok-read_front.ensures.looks.calls;
  damaged = λ honest. tt;
  buffer_fits = record {
    long = ap (λ (l : List ℕ). length l) (with_items_is c.args.self.now.bytes c.read_front.new.into (search (rules, places))) ∙ c.in_ok-read_front.ensures.long ∙ ap (λ (l : List ℕ). length l) c.as_mut_slice.ensures.value ∙ c.requires.buffer.long;
    held = (omega (arith, c.if-ptr-gt-LONGEST_PAYLOAD.false), c.in_ok-read_front.ensures.whole);
  };
}
