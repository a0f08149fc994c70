use Rattle.std.proofs.Common.{inl, inr, ◌+◌, ◌≤◌, ⊎_elim, ℕ, List, subst, arith}
use Rattle.std.proofs.lemmas.Bool.{cases_lt}
use Rattle.std.proofs.lemmas.Result.{err_from_is_err_and}
use Rattle.zst_space.specs.FreeSectors.{FreeSectors}
use Rattle.zst_block.specs.Blocks.{Has}
use Rattle.zst_block.specs.IoStates.{blocks_of, disk_of}
use Rattle.zst_model.specs.states.State.{number_bound}
use Rattle.zst_tree.specs.Damage.{IsSeen}
use Rattle.zst_objset.proofs.LeafLaws.{look_back, look_on}
use Rattle.zst_objset.specs.Sets.{SetHoldsBut}
use Rattle.zst_traverse.specs.Cells.{choice_after, IsNextNumberIn}
use Rattle.zst_traverse.specs.Leaves.{Advances, AheadFits, EndsAll, EndsLeaf, IfNothing, ShowsAhead}
use Rattle.zst_traverse.specs.StandingEntries.{AheadStands, FoundStands}
use Rattle.zst_traverse.specs.Damage.{IsDamagedCell}
use Rattle.zst_objset.specs.Damage.{IfDamage}
use Rattle.zst_tree.proofs.Damage.{seen_before}
use Rattle.zst_objset.specs.TightSets.{SetIsTightIn}
use Rattle.zst_traverse.specs.declared.leaves.WalkStep.{WalkStep}
use Rattle.zst_traverse.specs.declared.leaves.WalkStep.TheVariants as ahead
use Rattle.zst_traverse.proofs.Numbers.{ahead_behind}
use Rattle.zst_traverse.proofs.LeafLooks.{number_fits}
use Rattle.zst_tree.proofs.StepLooks.{BySteps-then}
use Rattle.zst_traverse.proofs.number_search.next_number.Goals as goal
use Rattle.zst_objset.specs.Dnodes.{outside}

pub look-requires : goal.look-requires
look-requires g c = record { leaf = c.requires.leaf }

pub returns-in_err-found-clause-found : goal.returns-in_err-found-clause-found
returns-in_err-found-clause-found g c = λ snap pairs honest held.
    let p = err_from_is_err_and c.from_residual.result c.from_residual.ensures.1 in
    rw (p.1, p.2) (c.in_err-found.ensures.shows snap pairs honest held.stands)

pub returns-in_err-found-clause-looks : goal.returns-in_err-found-clause-looks
returns-in_err-found-clause-looks g c =
    let p = err_from_is_err_and c.from_residual.result c.from_residual.ensures.1 in
    rw (p.1, p.2) c.in_err-found.ensures.looks.by_steps

pub returns-in_err-found-clause-few : goal.returns-in_err-found-clause-few
returns-in_err-found-clause-few g c = λ snap pairs honest held. omega (arith, c.in_err-found.ensures.looks.few)

pub returns-in-Next-clause-found : goal.returns-in-Next-clause-found
returns-in-Next-clause-found g c = λ snap pairs honest held.
    let has = blocks_of c.args.io.now in
    subst (λ (shown : WalkStep). ShowsAhead has (outside pairs has) snap (choice_after c.args.source) c.args.from shown) c.in-Next.is (c.in_ok-found.ensures.shows snap pairs honest held.stands)

pub returns-in-Next-clause-looks : goal.returns-in-Next-clause-looks
returns-in-Next-clause-looks g c = c.in_ok-found.ensures.looks.by_steps

pub returns-in-Next-clause-few : goal.returns-in-Next-clause-few
returns-in-Next-clause-few g c = λ snap pairs honest held. omega (arith, c.in_ok-found.ensures.looks.few)

pub loop-at-init : goal.loop-at-init
loop-at-init g c =
    let on = subst (λ (shown : WalkStep). AheadFits c.args.from shown) c.in-Nothing.is c.in_ok-found.ensures.ranges in
    let has = blocks_of c.args.io.now in
    record {
      from_on = omega (arith, on);
      some = omega (arith, on, c.requires.leaf.from.0);
      none = λ snap pairs honest held.
          subst (λ (shown : WalkStep). ShowsAhead has (outside pairs has) snap (choice_after c.args.source) c.args.from shown) c.in-Nothing.is (c.in_ok-found.ensures.shows snap pairs honest held.stands);
      few = λ snap pairs honest held.
          let tightly = c.in_ok-found.ensures.tightly snap pairs honest held.leaf_is in
          inl (subst EndsLeaf c.in-Nothing.is tightly.ends, subst (IfNothing (c.look.new.steps ≤ c.args.steps.now + 1)) c.in-Nothing.is tightly.few);
      looks = c.in_ok-found.ensures.looks.by_steps;
    }

pub returns-in-Next-clause-of_walk : goal.returns-in-Next-clause-of_walk
returns-in-Next-clause-of_walk g c = λ honest hangs. record {
  stands = subst (λ (shown : WalkStep). AheadStands (IsSeen (disk_of c.args.io.now).seen) c.args.set.now shown) c.in-Next.is (c.in_ok-found.ensures.of_walk c.args.set.now honest hangs).stands;
  damaged = tt;
}

pub returns-in_err-found-clause-of_walk : goal.returns-in_err-found-clause-of_walk
returns-in_err-found-clause-of_walk g c = λ honest hangs.
    let p = err_from_is_err_and c.from_residual.result c.from_residual.ensures.1 in
    rw (p.1, p.2) (record { stands = tt; damaged = (c.in_err-found.ensures.of_walk c.args.set.now honest hangs).damaged })

pub returns-in_err-found-2-clause-of_walk : goal.returns-in_err-found-2-clause-of_walk
returns-in_err-found-2-clause-of_walk g c = λ honest hangs.
    let p = err_from_is_err_and c.from_residual-in_err-found-2.result c.from_residual-in_err-found-2.ensures.1 in
    rw (p.1, p.2) (record {
      stands = tt;
      damaged = seen_before c.loop-at.invariant.looks.looks (λ (seen : List ℕ) (size : ℕ). IfDamage c.in_err-found-2.field-0.0 (IsDamagedCell (IsSeen seen) size c.args.set.now)) (c.in_err-found-2.ensures.of_walk honest).damaged;
    })

pub returns-in-Next-2-clause-of_walk : goal.returns-in-Next-2-clause-of_walk
returns-in-Next-2-clause-of_walk g c = λ honest hangs. record {
  stands = seen_before c.loop-at.invariant.looks.looks (λ (seen : List ℕ) (size : ℕ). FoundStands (IsSeen seen) c.args.set.now c.in-Next-2.found)
      (subst (λ (shown : WalkStep). AheadStands (IsSeen (disk_of c.loop-at.io).seen) c.args.set.now shown) c.in-Next-2.is (c.in_ok-found-2.ensures.of_walk honest).stands);
  damaged = tt;
}

pub returns-clause-of_walk : goal.returns-clause-of_walk
returns-clause-of_walk g c = λ honest hangs. record { stands = tt; damaged = tt }

pub returns-in_err-found-2-clause-found : goal.returns-in_err-found-2-clause-found
returns-in_err-found-2-clause-found g c = λ snap pairs honest held.
    let p = err_from_is_err_and c.from_residual-in_err-found-2.result c.from_residual-in_err-found-2.ensures.1 in
    let on = look_on (λ (seen : List ℕ) (space : FreeSectors). SetHoldsBut (Has seen space) pairs c.args.set.now snap) c.loop-at.invariant.looks.looks held.holds in
    rw (p.1, p.2) (c.in_err-found-2.ensures.shows snap pairs honest on)

pub returns-in_err-found-2-clause-few : goal.returns-in_err-found-2-clause-few
returns-in_err-found-2-clause-few g c = λ snap pairs honest held.
    let more = c.in_err-found-2.ensures.looks.few in
    ⊎_elim (λ early. omega (arith, early.1, more)) (λ ended. absurd (omega (arith, ended.0, c.loop-at-test.true)))
    (c.loop-at.invariant.few snap pairs (c.in_err-found-2.ensures.looks.by_steps.looks.reads.honest honest) held)

pub returns-in-Next-2-clause-found : goal.returns-in-Next-2-clause-found
returns-in-Next-2-clause-found g c = λ snap pairs honest held.
    let was = c.in_ok-found-2.ensures.looks.by_steps.looks.reads.honest honest in
    let on = look_on (λ (seen : List ℕ) (space : FreeSectors). SetHoldsBut (Has seen space) pairs c.args.set.now snap) c.loop-at.invariant.looks.looks held.holds in
    let shown = subst (λ (shown : WalkStep). ShowsAhead (blocks_of c.loop-at.io) (outside pairs (blocks_of c.loop-at.io)) snap (choice_after c.args.source) c.loop-at.at shown) c.in-Next-2.is (c.in_ok-found-2.ensures.shows snap pairs honest on) in
    let back = look_back (λ (seen : List ℕ) (space : FreeSectors). IsNextNumberIn (Has seen space) (outside pairs (Has seen space)) snap (choice_after c.args.source) c.loop-at.at c.in-Next-2.found) c.loop-at.invariant.looks.looks shown in
    ahead_behind _ _ snap c.args.source c.args.from c.loop-at.at (ahead.Next c.in-Next-2.found) c.loop-at.invariant.from_on (c.loop-at.invariant.none snap pairs was held) back

pub returns-in-Next-2-clause-few : goal.returns-in-Next-2-clause-few
returns-in-Next-2-clause-few g c = λ snap pairs honest held.
    let more = c.in_ok-found-2.ensures.looks.few in
    ⊎_elim (λ early. omega (arith, early.1, more)) (λ ended. absurd (omega (arith, ended.0, c.loop-at-test.true)))
    (c.loop-at.invariant.few snap pairs (c.in_ok-found-2.ensures.looks.by_steps.looks.reads.honest honest) held)

pub loop-at-preserved : goal.loop-at-preserved
loop-at-preserved g c = record {
  from_on = let on = subst (λ (shown : WalkStep). Advances c.loop-at.at shown) c.in-Nothing-2.is c.in_ok-found-2.ensures.goes_on in omega (arith, on, c.loop-at.invariant.from_on);
  some = let on = subst (λ (shown : WalkStep). Advances c.loop-at.at shown) c.in-Nothing-2.is c.in_ok-found-2.ensures.goes_on in omega (arith, on, c.loop-at.invariant.some);
  none = λ snap pairs honest held k over under.
      let was = c.in_ok-found-2.ensures.looks.by_steps.looks.reads.honest honest in
      let on = look_on (λ (seen : List ℕ) (space : FreeSectors). SetHoldsBut (Has seen space) pairs c.args.set.now snap) c.loop-at.invariant.looks.looks held.holds in
      let shown = subst (λ (shown : WalkStep). ShowsAhead (blocks_of c.loop-at.io) (outside pairs (blocks_of c.loop-at.io)) snap (choice_after c.args.source) c.loop-at.at shown) c.in-Nothing-2.is (c.in_ok-found-2.ensures.shows snap pairs honest on) in
      ⊎_elim (λ before. c.loop-at.invariant.none snap pairs was held k over before) (λ behind. shown k behind under) (cases_lt k c.loop-at.at);
  few = λ snap pairs honest held.
      let more = c.in_ok-found-2.ensures.looks.few in
      let was = c.in_ok-found-2.ensures.looks.by_steps.looks.reads.honest honest in
      let on = look_on (λ (seen : List ℕ) (space : FreeSectors). SetIsTightIn (Has seen space) (outside pairs (Has seen space)) c.args.set.now snap) c.loop-at.invariant.looks.looks held.tight in
      ⊎_elim
      (λ early. inr (subst EndsAll c.in-Nothing-2.is (c.in_ok-found-2.ensures.ends snap pairs honest on early.0), omega (arith, early.1, more)))
      (λ ended. absurd (omega (arith, ended.0, c.loop-at-test.true)))
      (c.loop-at.invariant.few snap pairs was held);
  looks = BySteps-then c.loop-at.invariant.looks c.in_ok-found-2.ensures.looks.by_steps;
}

pub returns-clause-found : goal.returns-clause-found
unfolding number_bound
returns-clause-found g c = λ snap pairs honest held k over under.
    c.loop-at.invariant.none snap pairs honest held k over (omega arith)

pub returns-clause-few : goal.returns-clause-few
returns-clause-few g c = λ snap pairs honest held.
    ⊎_elim (λ early. omega (arith, early.1)) (λ ended. omega (arith, ended.1))
    (c.loop-at.invariant.few snap pairs honest held)

pub returns-in_err-found-2-clause-looks : goal.returns-in_err-found-2-clause-looks
returns-in_err-found-2-clause-looks g c =
    let p = err_from_is_err_and c.from_residual-in_err-found-2.result c.from_residual-in_err-found-2.ensures.1 in
    rw (p.1, p.2) (BySteps-then c.loop-at.invariant.looks c.in_err-found-2.ensures.looks.by_steps)

pub returns-in-Next-2-clause-looks : goal.returns-in-Next-2-clause-looks
returns-in-Next-2-clause-looks g c = BySteps-then c.loop-at.invariant.looks c.in_ok-found-2.ensures.looks.by_steps

pub returns-clause-looks : goal.returns-clause-looks
returns-clause-looks g c = c.loop-at.invariant.looks

pub loop-at-smaller : goal.loop-at-smaller
loop-at-smaller g c =
    let on = subst (λ (shown : WalkStep). Advances c.loop-at.at shown) c.in-Nothing-2.is c.in_ok-found-2.ensures.goes_on in
    omega (arith, on)

pub returns-in-Next-2-clause-ranges : goal.returns-in-Next-2-clause-ranges
returns-in-Next-2-clause-ranges g c =
    let at = subst (λ (shown : WalkStep). Advances c.loop-at.at shown) c.in-Next-2.is c.in_ok-found-2.ensures.goes_on in
    number_fits c.args.from c.loop-at.at c.loop-at.invariant.from_on c.in-Next-2.found at
