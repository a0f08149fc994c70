use Rattle.std.proofs.Common.{rules, ℕ, ◌+◌, List, ◌++◌, ap, ◌∙◌, arith}
use Rattle.std.specs.Prelude.{None}
use Rattle.std.proofs.lemmas.Result.{err_from_is_err_and}
use Rattle.zst_space.specs.FreeSectors.{FreeSectors}
use Rattle.zst_block.specs.Blocks.{Has}
use Rattle.zst_block.specs.IoStates.{blocks_of}
use Rattle.zst_block.proofs.IoCallLemmas.{Looks-none, Looks-then}
use Rattle.zst_objset.specs.Sets.{SetHolds}
use Rattle.zst_objset.proofs.LeafLaws.{look_on}
use Rattle.zst_listing.proofs.DnodeLines.{line_added, walk_ends}
use Rattle.zst_listing.proofs.ObjectWalk.{all_lines, lines_from, next_small, number_there}
use Rattle.zst_listing.proofs.objects.list_objects.Goals as goal

pub loop-lines-init : goal.loop-lines-init
loop-lines-init g c = record {
  some = omega arith;
  number = number_there;
  told = λ state honest holds. ap (λ (l : List (List ℕ)). l ++ lines_from state 1) c.new-lines.ensures.items ∙ all_lines state;
  looks = Looks-none _;
}

pub overflow_add-from : goal.overflow_add-from
overflow_add-from g c =
    let ranges = rw c.in-Some.is at c.in_ok-number.ensures.ranges in
    search (rules, next_small c.in-Some.number ranges.1)

pub loop-lines-preserved : goal.loop-lines-preserved
loop-lines-preserved g c =
    let was = c.loop-lines.invariant in
    let ranges = rw c.in-Some.is at c.in_ok-number.ensures.ranges in
    let looks = c.in_ok-number.ensures.looks in
    record {
      some = omega arith;
      number = let less = ranges.1 in omega arith;
      told = λ state honest holds.
          let kept = look_on (λ (seen : List ℕ) (space : FreeSectors). SetHolds (Has seen space) c.args.set.now state) was.looks holds in
          let found = rw c.in-Some.is at (c.in_ok-number.ensures.found state honest kept) in
          ap (λ (l : List (List ℕ)). l ++ lines_from state (c.in-Some.number + 1)) c.in_ok-push_line.ensures
          ∙ line_added _ _ state c.loop-lines.lines.items c.loop-lines.from c.in-Some.number c.in-Some.dnode found ranges.2 ranges.1 (was.told state (looks.reads.honest honest) holds);
      looks = Looks-then {stop = None} was.looks looks;
    }

pub returns-in_err-number-clause-told : goal.returns-in_err-number-clause-told
returns-in_err-number-clause-told g c = λ state honest holds.
    let p = err_from_is_err_and c.from_residual.result c.from_residual.ensures.1 in
    let kept = look_on (λ (seen : List ℕ) (space : FreeSectors). SetHolds (Has seen space) c.args.set.now state) c.loop-lines.invariant.looks holds in
    rw (p.1, p.2) (c.in_err-number.ensures.found state honest kept)

pub returns-clause-told : goal.returns-clause-told
returns-clause-told g c = λ state honest holds.
    let was = c.loop-lines.invariant in
    let kept = look_on (λ (seen : List ℕ) (space : FreeSectors). SetHolds (Has seen space) c.args.set.now state) was.looks holds in
    let found = rw c.in_default.is at (c.in_ok-number.ensures.found state honest kept) in
    c.new.ensures ∙ walk_ends (blocks_of c.next_object.new.io) state c.loop-lines.lines.items c.loop-lines.from found (was.told state (c.in_ok-number.ensures.looks.reads.honest honest) holds)
