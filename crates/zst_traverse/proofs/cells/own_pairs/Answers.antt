use Rattle.std.proofs.Common.{ℕ, ◌+◌, ◌^◌, ◌≤◌, List, subst, arith}
use Rattle.std.specs.Prelude.{Option, None, Some, IfNone, IfSome}
use Rattle.std.proofs.lemmas.Result.{err_from_is_err_and}
use Rattle.zst_space.specs.FreeSectors.{FreeSectors}
use Rattle.zst_block.specs.Blocks.{Has}
use Rattle.zst_block.specs.IoStates.{IsHonest, blocks_of, disk_of}
use Rattle.zst_dnode.specs.Dnode.{DnodeFits}
use Rattle.zst_dnode.specs.declared.dnode.Dnode.{Dnode}
use Rattle.zst_model.specs.states.State.{index_bound}
use Rattle.zst_tree.proofs.Damage.{seen_before}
use Rattle.zst_tree.specs.Damage.{HangsIn, IsSeen, MayHave}
use Rattle.zst_tree.specs.Indices.{Delivers}
use Rattle.zst_tree.specs.declared.tree.ObjSet.{ObjSet}
use Rattle.zst_objset.proofs.LeafLaws.{look_back, look_on}
use Rattle.zst_objset.specs.Damage.{StandsIn}
use Rattle.zst_objset.specs.Dnodes.{DnodeIn, IsThereIn, outside}
use Rattle.zst_traverse.specs.Cells.{choice_with}
use Rattle.zst_traverse.specs.Runs.{FindsPairs}
use Rattle.zst_traverse.specs.StandingEntries.{RunStands}
use Rattle.zst_traverse.specs.declared.pairs.Run.{Run}
use Rattle.zst_traverse.proofs.LeafLooks.{if_ok}
use Rattle.zst_traverse.specs.WalkCalls.{IsOfWalk}
use Rattle.zst_traverse.proofs.NextCells.{no_pair_of, nothing_at, runs_fit, there_of}
use Rattle.zst_tree.proofs.StepLooks.{InSteps-more, InSteps-then}
use Rattle.zst_traverse.proofs.cells.own_pairs.Given as given
use Rattle.zst_traverse.proofs.cells.own_pairs.Goals as goal
use Rattle.zst_model.specs.fields.Lists.{has_pair}

pub returns-in_err-dnode_in : goal.returns-in_err-dnode_in
returns-in_err-dnode_in g c =
    let p = err_from_is_err_and c.from_residual.result c.from_residual.ensures.1 in
    rw (p.1, p.2) (record {
      found = λ snap honest lawful is. c.in_err-dnode_in.ensures.found snap (has_pair c.args.withheld.now) honest is;
      ranges = tt;
      of_walk = λ set honest hangs. record { stands = tt; damaged = (c.in_err-dnode_in.ensures.of_walk set honest hangs).damaged };
      steps = record { looks = InSteps-more (omega arith) c.in_err-dnode_in.ensures.looks; none = tt };
    })

pub returns-in-Some-clause-found : goal.returns-in-Some-clause-found
returns-in-Some-clause-found g c = λ snap honest lawful is.
    let was = c.next_pairs.ensures.steps.looks.by_steps.looks.reads.honest honest in
    let looks = c.in_ok-dnode_in.ensures.looks.by_steps.looks in
    let found = subst (λ (found : Option Dnode). DnodeIn (blocks_of c.args.io.now) (outside (has_pair c.args.withheld.now) (blocks_of c.args.io.now)) snap c.args.point.object found) c.in-Some.is (c.in_ok-dnode_in.ensures.found snap (has_pair c.args.withheld.now) was is) in
    let on = look_on (λ (seen : List ℕ) (space : FreeSectors). IsThereIn (Has seen space) (outside (has_pair c.args.withheld.now) (Has seen space)) snap c.args.point.object c.in-Some.dnode) looks (there_of _ _ snap c.args.point.object c.in-Some.dnode found) in
    look_back (λ (seen : List ℕ) (space : FreeSectors). Delivers (FindsPairs (Has seen space) snap (choice_with c.args.source c.args.listed.now c.args.withheld.now) c.args.point) c.next_pairs.result) looks (c.next_pairs.ensures.found snap honest lawful on)

pub returns-in-Some-clause-ranges : goal.returns-in-Some-clause-ranges
unfolding index_bound
returns-in-Some-clause-ranges g c =
    let fits : DnodeFits c.in-Some.dnode = subst (λ (found : Option Dnode). IfSome found DnodeFits) c.in-Some.is c.in_ok-dnode_in.ensures.ranges in
    runs_fit c.in-Some.dnode.end (2 ^ 43) fits.end c.next_pairs.result c.next_pairs.ensures.ranges

-- the dnode that is read may stand in the set
dnode_there : (g : given.Over) (c : goal.After-next_pairs g) (set : ObjSet) → IsHonest c.next_pairs.new.io → HangsIn (MayHave (IsSeen (disk_of c.args.io.now).seen)) set.tree c.args.leaf.now.ptr
    → StandsIn (IsSeen (disk_of c.dnode_in.new.io).seen) set c.in-Some.dnode
dnode_there g c set honest hangs =
    let was = c.next_pairs.ensures.steps.looks.by_steps.looks.reads.honest honest in
    look_on (λ (seen : List ℕ) (space : FreeSectors). StandsIn (IsSeen seen) set c.in-Some.dnode) c.in_ok-dnode_in.ensures.looks.by_steps.looks
    (subst (λ (found : Option Dnode). IfSome found (StandsIn (IsSeen (disk_of c.args.io.now).seen) set)) c.in-Some.is (c.in_ok-dnode_in.ensures.of_walk set was hangs).stands)

pub returns-in-Some-clause-of_walk : goal.returns-in-Some-clause-of_walk
returns-in-Some-clause-of_walk g c = λ set honest hangs.
    seen_before c.in_ok-dnode_in.ensures.looks.by_steps.looks (λ (seen : List ℕ) (size : ℕ). IsOfWalk seen size set c.next_pairs.result (λ images found. IfSome found (RunStands images set))) (c.next_pairs.ensures.of_walk set honest (dnode_there g c set honest hangs))

pub returns-in-None : goal.returns-in-None
returns-in-None g c = record {
  found = λ snap honest lawful is i past.
      let has = blocks_of c.args.io.now in
      no_pair_of snap (choice_with c.args.source c.args.listed.now c.args.withheld.now) c.args.point.object
      (nothing_at has (outside (has_pair c.args.withheld.now) has) snap c.args.point.object
      (subst (λ (found : Option Dnode). DnodeIn has (outside (has_pair c.args.withheld.now) has) snap c.args.point.object found) c.in-None.is (c.in_ok-dnode_in.ensures.found snap (has_pair c.args.withheld.now) honest is))) i;
  ranges = tt;
  of_walk = λ set honest hangs. record { stands = tt; damaged = tt };
  steps = record { looks = InSteps-more (omega arith) c.in_ok-dnode_in.ensures.looks; none = omega (arith, c.in_ok-dnode_in.ensures.looks.few) };
}

-- what is so where nothing is found
none_later : (P Q : Type 0) → (P → Q) → (found : Option Run) → IfNone found P → IfNone found Q
none_later P Q more None is = more is
none_later P Q more (Some run) is = tt

pub returns-in-Some-clause-steps : goal.returns-in-Some-clause-steps
returns-in-Some-clause-steps g c =
    let read = c.in_ok-dnode_in.ensures.looks in
    let more = read.few in
    record {
      looks = InSteps-then (omega arith) read c.next_pairs.ensures.steps.looks;
      none = if_ok (λ found. IfNone found (c.next_pairs.new.steps ≤ c.dnode_in.new.steps + 13)) (λ found. IfNone found (c.next_pairs.new.steps ≤ c.args.steps.now + 14))
          (none_later _ _ (λ few. omega (arith, few, more))) c.next_pairs.result c.next_pairs.ensures.steps.none;
    }

pub dnode_in-requires : goal.dnode_in-requires
dnode_in-requires g c = record { number = c.requires.object }
