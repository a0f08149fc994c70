use Rattle.std.proofs.Common.{ℕ, List, subst, arith}
use Rattle.std.specs.Prelude.{IfSome, Option, Some}
use Rattle.std.proofs.lemmas.Result.{err_from_is_err_and}
use Rattle.zst_space.specs.FreeSectors.{FreeSectors}
use Rattle.zst_block.specs.Blocks.{Has}
use Rattle.zst_block.specs.IoStates.{blocks_of, disk_of}
use Rattle.zst_dnode.specs.Dnode.{DnodeFits}
use Rattle.zst_dnode.specs.declared.dnode.Dnode.{Dnode}
use Rattle.zst_model.specs.fields.Lists.{has_pair}
use Rattle.zst_objset.proofs.LeafLaws.{look_back, look_on}
use Rattle.zst_objset.specs.Damage.{IfDamage, StandsIn}
use Rattle.zst_tree.specs.Damage.{IsSeen}
use Rattle.zst_tree.proofs.Damage.{seen_before}
use Rattle.zst_traverse.specs.Damage.{IsDamagedCell}
use Rattle.zst_objset.specs.Dnodes.{outside}
use Rattle.zst_objset.specs.Sets.{SetHoldsBut}
use Rattle.zst_traverse.specs.Leaves.{HoldsLeaf}
use Rattle.zst_traverse.specs.ListedNumbers.{FindsObject}
use Rattle.zst_traverse.proofs.ListedNumbers.{dates_next, found_bound, no_object, object_next, past_number}
use Rattle.zst_tree.proofs.StepLooks.{BySteps-then}
use Rattle.zst_traverse.proofs.listed.next_listed.Goals as goal

pub returns-in_err-by_date-clause-found : goal.returns-in_err-by_date-clause-found
returns-in_err-by_date-clause-found g c = λ snap honest held.
    let p = err_from_is_err_and c.from_residual.result c.from_residual.ensures.1 in
    rw (p.1, p.2) (c.in_err-by_date.ensures.found snap (has_pair c.args.withheld.now) honest held)

pub returns-in_err-by_date-clause-few : goal.returns-in_err-by_date-clause-few
returns-in_err-by_date-clause-few g c = λ snap honest held included.
    let few = c.in_err-by_date.ensures.few snap (has_pair c.args.withheld.now) honest held in
    omega (arith, few)

pub loop-number-init : goal.loop-number-init
loop-number-init g c = record {
  from_on = omega arith;
  some = c.requires.leaf.from.0;
  none = λ snap honest held k over under. absurd (omega arith);
  first = λ snap honest held. c.in_ok-by_date.ensures.found snap (has_pair c.args.withheld.now) honest held;
  stands = λ honest hangs. (c.in_ok-by_date.ensures.of_walk honest hangs).stands;
  few = λ snap honest held included. c.in_ok-by_date.ensures.few snap (has_pair c.args.withheld.now) honest held;
  looks = c.in_ok-by_date.ensures.looks;
}

pub returns-in_err-dnode-clause-found : goal.returns-in_err-dnode-clause-found
returns-in_err-dnode-clause-found g c = λ snap honest held.
    let on = look_on (λ (seen : List ℕ) (space : FreeSectors). SetHoldsBut (Has seen space) (has_pair c.args.withheld.now) c.args.set.now snap) c.loop-number.invariant.looks.looks held.holds in
    let p = err_from_is_err_and c.from_residual-in_err-dnode.result c.from_residual-in_err-dnode.ensures.1 in
    rw (p.1, p.2) (c.in_err-dnode.ensures.found snap honest on)

pub returns-in_err-dnode-clause-few : goal.returns-in_err-dnode-clause-few
returns-in_err-dnode-clause-few g c = λ snap honest held included.
    let few = c.loop-number.invariant.few snap (c.in_err-dnode.ensures.looks.by_steps.looks.reads.honest honest) held included in
    let more = c.in_err-dnode.ensures.looks.few in
    omega (arith, few, more)

pub returns-in-Some-2-clause-found : goal.returns-in-Some-2-clause-found
returns-in-Some-2-clause-found g c = λ snap honest held.
    let pairs = has_pair c.args.withheld.now in
    let was = c.in_ok-dnode.ensures.looks.by_steps.looks.reads.honest honest in
    let invariant = c.loop-number.invariant in
    let on = look_on (λ (seen : List ℕ) (space : FreeSectors). SetHoldsBut (Has seen space) pairs c.args.set.now snap) invariant.looks.looks held.holds in
    let has = blocks_of c.loop-number.io in
    let found = subst (λ (found : Option Dnode). FindsObject has (outside pairs has) snap c.args.listed.now c.args.withheld.now c.in-Some.number found) c.in-Some-2.is (c.in_ok-dnode.ensures.found snap honest on) in
    let back = look_back (λ (seen : List ℕ) (space : FreeSectors). FindsObject (Has seen space) (outside pairs (Has seen space)) snap c.args.listed.now c.args.withheld.now c.in-Some.number (Some c.in-Some-2.dnode)) invariant.looks.looks found in
    let fits : DnodeFits c.in-Some-2.dnode = subst (λ (found : Option Dnode). IfSome found DnodeFits) c.in-Some-2.is c.in_ok-dnode.ensures.ranges in
    let first = c.in-Some.ensures.first in
    let at = first.from_on in
    let under = first.under in
    let bound = found_bound c.args.from c.in_ok-by_date.by_date c.in_ok-by_date.ensures.ranges in
    let below = c.first_found-below.ensures in
    let some = invariant.some in
    object_next _ _ snap c.args.source c.args.listed.now c.args.withheld.now c.args.from c.loop-number.at c.first_found-below.result c.in_ok-by_date.by_date (invariant.first snap was held) below invariant.from_on (invariant.none snap was held)
    c.in-Some.number first c.in-Some-2.dnode (omega (arith, at, some)) (omega (arith, under, bound, below)) fits.end back

pub returns-in-Some-2-clause-looks : goal.returns-in-Some-2-clause-looks
returns-in-Some-2-clause-looks g c = BySteps-then c.loop-number.invariant.looks c.in_ok-dnode.ensures.looks.by_steps

pub returns-in-Some-2-clause-few : goal.returns-in-Some-2-clause-few
returns-in-Some-2-clause-few g c = λ snap honest held included.
    let few = c.loop-number.invariant.few snap (c.in_ok-dnode.ensures.looks.by_steps.looks.reads.honest honest) held included in
    let more = c.in_ok-dnode.ensures.looks.few in
    omega (arith, few, more)

pub loop-number-preserved : goal.loop-number-preserved
loop-number-preserved g c =
    let pairs = has_pair c.args.withheld.now in
    let was = c.loop-number.invariant in
    let looks = c.in_ok-dnode.ensures.looks.by_steps.looks in
    let first = c.in-Some.ensures.first in
    let at = first.from_on in
    let below = c.first_found-below.ensures in
    record {
      from_on = omega (arith, at, was.from_on);
      some = omega arith;
      none = λ snap honest held k over under.
          let then = looks.reads.honest honest in
          let on = look_on (λ (seen : List ℕ) (space : FreeSectors). SetHoldsBut (Has seen space) pairs c.args.set.now snap) was.looks.looks held.holds in
          let has = blocks_of c.loop-number.io in
          let found = subst (λ (found : Option Dnode). FindsObject has (outside pairs has) snap c.args.listed.now c.args.withheld.now c.in-Some.number found) c.in-None.is (c.in_ok-dnode.ensures.found snap honest on) in
          past_number _ _ snap c.args.source c.args.listed.now c.args.withheld.now c.args.from c.loop-number.at c.first_found-below.result c.in_ok-by_date.by_date (was.first snap then held) below was.from_on (was.none snap then held)
          c.in-Some.number first found k over under;
      first = λ snap honest held. was.first snap (looks.reads.honest honest) held;
      stands = λ honest hangs. was.stands (looks.reads.honest honest) hangs;
      few = λ snap honest held included.
          let then = looks.reads.honest honest in
          let leaf : HoldsLeaf (blocks_of c.args.io.now) (outside pairs (blocks_of c.args.io.now)) c.args.set.now snap c.args.leaf.now = record { holds = held.tight.holds; stands = held.leaf_is.stands } in
          let on = look_on (λ (seen : List ℕ) (space : FreeSectors). SetHoldsBut (Has seen space) pairs c.args.set.now snap) was.looks.looks leaf.holds in
          let has = blocks_of c.loop-number.io in
          let found = subst (λ (found : Option Dnode). FindsObject has (outside pairs has) snap c.args.listed.now c.args.withheld.now c.in-Some.number found) c.in-None.is (c.in_ok-dnode.ensures.found snap honest on) in
          absurd (no_object _ _ snap c.args.source c.args.listed.now c.args.withheld.now c.args.from c.loop-number.at c.first_found-below.result c.in_ok-by_date.by_date (was.first snap then leaf) below was.from_on (was.none snap then leaf)
          c.in-Some.number first included found);
      looks = BySteps-then was.looks c.in_ok-dnode.ensures.looks.by_steps;
    }

pub returns-clause-found : goal.returns-clause-found
returns-clause-found g c = λ snap honest held.
    let was = c.loop-number.invariant in
    let none = rw c.in_default.is at c.next_of.ensures.first in
    dates_next _ _ snap c.args.source c.args.listed.now c.args.withheld.now c.args.from c.loop-number.at c.first_found-below.result c.in_ok-by_date.by_date (was.first snap honest held) c.first_found-below.ensures was.from_on (was.none snap honest held) none

pub returns-clause-few : goal.returns-clause-few
returns-clause-few g c = λ snap honest held included.
    let few = c.loop-number.invariant.few snap honest held included in
    omega (arith, few)

pub returns-in_err-by_date-clause-looks : goal.returns-in_err-by_date-clause-looks
returns-in_err-by_date-clause-looks g c =
    let p = err_from_is_err_and c.from_residual.result c.from_residual.ensures.1 in
    rw (p.1, p.2) c.in_err-by_date.ensures.looks

pub returns-in_err-dnode-clause-looks : goal.returns-in_err-dnode-clause-looks
returns-in_err-dnode-clause-looks g c =
    let p = err_from_is_err_and c.from_residual-in_err-dnode.result c.from_residual-in_err-dnode.ensures.1 in
    rw (p.1, p.2) (BySteps-then c.loop-number.invariant.looks c.in_err-dnode.ensures.looks.by_steps)

pub returns-clause-looks : goal.returns-clause-looks
returns-clause-looks g c = c.loop-number.invariant.looks

pub returns-in_err-by_date-clause-of_walk : goal.returns-in_err-by_date-clause-of_walk
returns-in_err-by_date-clause-of_walk g c = λ honest hangs.
    let p = err_from_is_err_and c.from_residual.result c.from_residual.ensures.1 in
    rw (p.1, p.2) (record { stands = tt; damaged = (c.in_err-by_date.ensures.of_walk honest hangs).damaged })

pub returns-in_err-dnode-clause-of_walk : goal.returns-in_err-dnode-clause-of_walk
returns-in_err-dnode-clause-of_walk g c = λ honest hangs.
    let p = err_from_is_err_and c.from_residual-in_err-dnode.result c.from_residual-in_err-dnode.ensures.1 in
    rw (p.1, p.2) (record {
      stands = tt;
      damaged = seen_before c.loop-number.invariant.looks.looks (λ (seen : List ℕ) (size : ℕ). IfDamage c.in_err-dnode.field-0.0 (IsDamagedCell (IsSeen seen) size c.args.set.now)) (c.in_err-dnode.ensures.of_walk honest).damaged;
    })

pub returns-in-Some-2-clause-of_walk : goal.returns-in-Some-2-clause-of_walk
returns-in-Some-2-clause-of_walk g c = λ honest hangs. record {
  stands = seen_before c.loop-number.invariant.looks.looks (λ (seen : List ℕ) (size : ℕ). StandsIn (IsSeen seen) c.args.set.now c.in-Some-2.dnode)
      (subst (λ (found : Option Dnode). IfSome found (StandsIn (IsSeen (disk_of c.loop-number.io).seen) c.args.set.now)) c.in-Some-2.is (c.in_ok-dnode.ensures.of_walk honest).stands);
  damaged = tt;
}

pub returns-clause-of_walk : goal.returns-clause-of_walk
returns-clause-of_walk g c = λ honest hangs. record { stands = c.loop-number.invariant.stands honest hangs; damaged = tt }
