use Rattle.std.proofs.lemmas.Result.{err_from_is_err_and}
use Rattle.std.proofs.Common.{ℕ, ◌+◌, ◌-◌, ◌*◌, ◌<◌, ◌≤◌, List, subst, arith}
use Rattle.zst_space.specs.FreeSectors.{FreeSectors}
use Rattle.zst_block.specs.Blocks.{Has}
use Rattle.zst_block.specs.IoStates.{IsHonest, blocks_of, disk_of}
use Rattle.zst_dnode.specs.declared.slot.Slot.TheVariants as slots
use Rattle.zst_tree.proofs.Damage.{seen_before}
use Rattle.zst_tree.proofs.Results.{delivers_if}
use Rattle.zst_tree.specs.Damage.{HangsIn, IsSeen, MayHave}
use Rattle.zst_tree.specs.declared.tree.ObjSet.{ObjSet}
use Rattle.zst_tree.specs.Indices.{Delivers}
use Rattle.zst_objset.proofs.LeafLaws.{look_back, look_on}
use Rattle.zst_objset.specs.Damage.{HasSlot, StandsIn}
use Rattle.zst_objset.specs.Dnodes.{IsThereIn, outside}
use Rattle.zst_traverse.specs.Cells.{choice_after}
use Rattle.zst_traverse.specs.Leaves.{ShowsAhead, StandsFor}
use Rattle.zst_traverse.specs.Slots.{GlanceFits, HasGlance, ShowsLate}
use Rattle.zst_traverse.specs.StandingEntries.{AheadStands}
use Rattle.zst_traverse.specs.WalkCalls.{IsOfWalk}
use Rattle.zst_traverse.specs.declared.slots.Glance.{Glance}
use Rattle.zst_traverse.proofs.Damage.{dnode_stands, lacking_cell, leaf_told}
use Rattle.zst_traverse.proofs.LeafLooks.{advanced_fits, advanced_on, gone_shown, if_nothing, late_shown, next_tightly, not_lacking, nothing_shown, object_shown, ObjectShown}
use Rattle.zst_model.specs.states.DatedState.{DatedState}
use Rattle.zst_traverse.proofs.leaves.look.Given as given
use Rattle.zst_tree.proofs.StepLooks.{InSteps-more, InSteps-none, InSteps-then}
use Rattle.zst_traverse.proofs.leaves.look.Goals as goal
use Rattle.zst_model.specs.sends.Inclusion.{Pairs}

pub returns-in-None-clause-shows : goal.returns-in-None-clause-shows
returns-in-None-clause-shows g c = λ snap pairs honest stands.
    absurd (not_lacking _ _ pairs snap c.args.source c.args.from c.args.leaf.now c.requires.leaf c.if-leaf-eq0.false c.load_leaf.new.io.node stands (c.in_ok-load_leaf.ensures.loaded honest) c.in-None.ensures.none)

pub returns-in-Some-Nothing : goal.returns-in-Some-Nothing
returns-in-Some-Nothing g c = record {
  shows = λ snap pairs honest stands.
      nothing_shown _ _ pairs snap c.args.source c.args.from c.args.leaf.now c.requires.leaf c.if-leaf-eq0.false c.load_leaf.new.io.node stands (c.in_ok-load_leaf.ensures.loaded honest)
      (λ held spells. subst (λ (seen : Glance). ShowsLate held c.args.source c.args.leaf.now.index (c.args.from - 16 * c.args.leaf.now.index) seen) c.in-Some-Nothing.field-0-is (c.in-Some-Nothing.ensures.shows held spells));
  ranges = c.requires.leaf.from.2;
  goes_on = λ before. before;
  of_walk = λ set honest hangs. record { stands = tt; damaged = tt };
  tightly = λ snap pairs honest held. record {
    ends = omega arith;
    few = c.in_ok-load_leaf.ensures.looks.few;
    late = λ late start.
        late_shown _ _ pairs snap c.args.source c.args.from c.args.leaf.now c.requires.leaf c.if-leaf-eq0.false c.load_leaf.new.io.node held.stands (c.in_ok-load_leaf.ensures.loaded honest) late start
        (λ held spells. subst (λ (seen : Glance). ShowsLate held c.args.source c.args.leaf.now.index (c.args.from - 16 * c.args.leaf.now.index) seen) c.in-Some-Nothing.field-0-is (c.in-Some-Nothing.ensures.shows held spells));
  };
  looks = InSteps-more (omega arith) c.in_ok-load_leaf.ensures.looks;
}

pub returns-in-Some-Absent-clause-shows : goal.returns-in-Some-Absent-clause-shows
returns-in-Some-Absent-clause-shows g c = λ snap pairs honest stands.
    gone_shown _ _ pairs snap c.args.source c.args.from c.args.leaf.now c.requires.leaf c.if-leaf-eq0.false c.load_leaf.new.io.node stands (c.in_ok-load_leaf.ensures.loaded honest) c.in-Some-Absent.first c.in-Some-Absent.count
    (λ held spells. subst (λ (seen : Glance). ShowsLate held c.args.source c.args.leaf.now.index (c.args.from - 16 * c.args.leaf.now.index) seen) c.in-Some-Absent.field-0-is (c.in-Some-Absent.ensures.shows held spells))

-- the object that is judged, as the loaded leaf shows it
object_there : (g : given.Over) (c : goal.After-judged g) (snap : DatedState) (pairs : Pairs) → IsHonest c.judged.new.io → StandsFor (blocks_of c.args.io.now) (outside pairs (blocks_of c.args.io.now)) snap c.args.leaf.now
    → ObjectShown (disk_of c.args.io.now).seen c.args.io.now.space pairs snap c.args.leaf.now c.args.source c.args.from c.in-Some-There.place c.in-Some-There.dnode
object_there g c snap pairs honest stands =
    object_shown _ _ pairs snap c.args.source c.args.from c.args.leaf.now c.requires.leaf c.if-leaf-eq0.false c.load_leaf.new.io.node stands (c.in_ok-load_leaf.ensures.loaded (c.judged.ensures.looks.by_steps.looks.reads.honest honest)) c.in-Some-There.place c.in-Some-There.dnode
    (λ held spells. subst (λ (seen : Glance). ShowsLate held c.args.source c.args.leaf.now.index (c.args.from - 16 * c.args.leaf.now.index) seen) c.in-Some-There.field-0-is (c.in-Some-There.ensures.shows held spells))

pub returns-in-Some-There-clause-shows : goal.returns-in-Some-There-clause-shows
returns-in-Some-There-clause-shows g c = λ snap pairs honest stands.
    let number = 16 * c.args.leaf.now.index + c.in-Some-There.place in
    let looks = c.in_ok-load_leaf.ensures.looks.by_steps.looks in
    let shown = object_there g c snap pairs honest stands in
    let on = look_on (λ (seen : List ℕ) (space : FreeSectors). IsThereIn (Has seen space) (outside pairs (Has seen space)) snap number c.in-Some-There.dnode) looks shown.there in
    let back = look_back (λ (seen : List ℕ) (space : FreeSectors). Delivers (ShowsAhead (Has seen space) (outside pairs (Has seen space)) snap (choice_after c.args.source) number) c.judged.result) looks (c.judged.ensures.shows snap pairs honest on) in
    delivers_if _ _ c.judged.result shown.behind back

-- the dnode that is judged may stand in the set
dnode_there : (g : given.Over) (c : goal.After-judged g) (set : ObjSet) → IsHonest c.judged.new.io → HangsIn (MayHave (IsSeen (disk_of c.args.io.now).seen)) set.tree c.args.leaf.now.ptr
    → StandsIn (IsSeen (disk_of c.load_leaf.new.io).seen) set c.in-Some-There.dnode
dnode_there g c set honest hangs =
    let loaded = c.in_ok-load_leaf.ensures.loaded (c.judged.ensures.looks.by_steps.looks.reads.honest honest) in
    let dnode = c.in-Some-There.dnode in
    let has : (c.in-Some-There.place < 16) × HasSlot c.load_leaf.new.io.node c.in-Some-There.place (slots.There dnode) = subst (λ (seen : Glance). HasGlance c.load_leaf.new.io.node seen) c.in-Some-There.field-0-is c.in-Some-There.ensures.stands in
    let stands = dnode_stands (IsSeen (disk_of c.args.io.now).seen) set c.args.leaf.now.ptr c.load_leaf.new.io.node c.in-Some-There.place dnode hangs loaded c.if-leaf-eq0.false
    has.0 has.1 in
    look_on (λ (seen : List ℕ) (space : FreeSectors). StandsIn (IsSeen seen) set dnode) c.in_ok-load_leaf.ensures.looks.by_steps.looks stands

pub returns-then-leaf-eq0-clause-of_walk : goal.returns-then-leaf-eq0-clause-of_walk
returns-then-leaf-eq0-clause-of_walk g c = λ set honest hangs. record { stands = c.in_hole.ensures.stands _ set; damaged = tt }

pub returns-in-Some-There-clause-of_walk : goal.returns-in-Some-There-clause-of_walk
returns-in-Some-There-clause-of_walk g c = λ set honest hangs.
    seen_before c.in_ok-load_leaf.ensures.looks.by_steps.looks (λ (seen : List ℕ) (size : ℕ). IsOfWalk seen size set c.judged.result (λ images. AheadStands images set)) (c.judged.ensures.of_walk set honest (dnode_there g c set honest hangs))

pub returns-in-Some-There-clause-tightly : goal.returns-in-Some-There-clause-tightly
returns-in-Some-There-clause-tightly g c = λ snap pairs honest held.
    let shown = object_there g c snap pairs honest held.stands in
    let on = look_on (λ (seen : List ℕ) (space : FreeSectors). IsThereIn (Has seen space) (outside pairs (Has seen space)) snap (16 * c.args.leaf.now.index + c.in-Some-There.place) c.in-Some-There.dnode) c.in_ok-load_leaf.ensures.looks.by_steps.looks shown.there in
    next_tightly c.judged.result (c.judged.ensures.next snap pairs honest on (shown.tight held.tight) shown.late)

pub returns-in-Some-There-clause-looks : goal.returns-in-Some-There-clause-looks
returns-in-Some-There-clause-looks g c = InSteps-then (omega arith) c.in_ok-load_leaf.ensures.looks c.judged.ensures.looks

pub returns-then-leaf-eq0-clause-looks : goal.returns-then-leaf-eq0-clause-looks
returns-then-leaf-eq0-clause-looks g c = InSteps-none _ _

pub returns-then-leaf-eq0-clause-ranges : goal.returns-then-leaf-eq0-clause-ranges
returns-then-leaf-eq0-clause-ranges g c = c.in_hole.ensures.passes.ranges

pub returns-then-leaf-eq0-clause-tightly : goal.returns-then-leaf-eq0-clause-tightly
returns-then-leaf-eq0-clause-tightly g c = λ snap pairs honest held. record {
  ends = c.in_hole.ensures.passes.ends;
  few = if_nothing _ c.in_hole.result (omega arith);
  late = λ late start. c.in_hole.ensures.passes.late late (omega (arith, start, c.requires.leaf.index)) (omega (arith, start, c.requires.leaf.count.0));
}

pub returns-in_err-load_leaf-clause-ranges : goal.returns-in_err-load_leaf-clause-ranges
returns-in_err-load_leaf-clause-ranges g c =
    let p = err_from_is_err_and c.from_residual.result c.from_residual.ensures.1 in
    rw p.1 tt

pub returns-in_err-load_leaf-clause-goes_on : goal.returns-in_err-load_leaf-clause-goes_on
returns-in_err-load_leaf-clause-goes_on g c = λ before.
    let p = err_from_is_err_and c.from_residual.result c.from_residual.ensures.1 in
    rw p.1 tt

pub returns-in_err-load_leaf-clause-of_walk : goal.returns-in_err-load_leaf-clause-of_walk
returns-in_err-load_leaf-clause-of_walk g c = λ set honest hangs.
    let p = err_from_is_err_and c.from_residual.result c.from_residual.ensures.1 in
    let disk = disk_of c.args.io.now in
    rw (p.1, p.2) (record { stands = tt; damaged = leaf_told (IsSeen disk.seen) disk.size set c.args.leaf.now.ptr hangs c.in_err-load_leaf.field-0.0 (c.in_err-load_leaf.ensures.damaged honest) })

pub returns-in_err-load_leaf-clause-tightly : goal.returns-in_err-load_leaf-clause-tightly
returns-in_err-load_leaf-clause-tightly g c = λ snap pairs honest held.
    let p = err_from_is_err_and c.from_residual.result c.from_residual.ensures.1 in
    rw p.1 (next_tightly _ tt)

pub returns-in_err-load_leaf-clause-looks : goal.returns-in_err-load_leaf-clause-looks
returns-in_err-load_leaf-clause-looks g c =
    let p = err_from_is_err_and c.from_residual.result c.from_residual.ensures.1 in
    rw (p.1, p.2) (InSteps-more (omega arith) c.in_err-load_leaf.ensures.looks)

pub returns-in-None-clause-ranges : goal.returns-in-None-clause-ranges
returns-in-None-clause-ranges g c = tt

pub returns-in-None-clause-goes_on : goal.returns-in-None-clause-goes_on
returns-in-None-clause-goes_on g c = λ before. tt

pub returns-in-None-clause-of_walk : goal.returns-in-None-clause-of_walk
returns-in-None-clause-of_walk g c = λ set honest hangs. record {
  stands = tt;
  damaged = rw c.of_layout.ensures (lacking_cell _ _ set c.args.leaf.now.ptr c.load_leaf.new.io.node hangs (c.in_ok-load_leaf.ensures.loaded honest) c.in-None.ensures.none);
}

pub returns-in-None-clause-tightly : goal.returns-in-None-clause-tightly
returns-in-None-clause-tightly g c = λ snap pairs honest held. next_tightly _ tt

pub returns-in-Some-Absent-clause-of_walk : goal.returns-in-Some-Absent-clause-of_walk
returns-in-Some-Absent-clause-of_walk g c = λ set honest hangs. record { stands = tt; damaged = tt }

pub returns-in-Some-Absent-clause-looks : goal.returns-in-Some-Absent-clause-looks
returns-in-Some-Absent-clause-looks g c = InSteps-more (omega arith) c.in_ok-load_leaf.ensures.looks

pub returns-in-Some-Absent-clause-tightly : goal.returns-in-Some-Absent-clause-tightly
returns-in-Some-Absent-clause-tightly g c = λ snap pairs honest held. next_tightly _ tt

pub load_leaf-requires : goal.load_leaf-requires
load_leaf-requires g c = record { index = c.requires.leaf.index }

pub in_hole-requires : goal.in_hole-requires
in_hole-requires g c =
    let leaf = c.requires.leaf in
    record { leaf = record { index = leaf.index; count = leaf.count.1; from = (leaf.from.0, leaf.from.1, omega (arith, leaf.from.2, leaf.count.0), omega (arith, leaf.from.2, leaf.index)) } }

pub glance_at-requires : goal.glance_at-requires
glance_at-requires g c = record { leaf = c.requires.leaf.index; from = omega (arith, c.requires.leaf.from.2) }

-- the number that is judged is at or after the one from which the look goes on
place_from : (g : given.Over) (c : goal.After-judged g) → c.args.from ≤ 16 * c.args.leaf.now.index + c.in-Some-There.place
place_from g c =
    let fits = subst (GlanceFits c.args.leaf.now.index (c.args.from - 16 * c.args.leaf.now.index)) c.in-Some-There.field-0-is c.in-Some-There.ensures.ranges in
    omega (arith, fits.0, c.requires.leaf.from.1)

pub returns-in-Some-There-clause-ranges : goal.returns-in-Some-There-clause-ranges
returns-in-Some-There-clause-ranges g c = advanced_fits c.args.from _ (place_from g c) c.judged.result c.judged.ensures.goes_on

pub returns-in-Some-There-clause-goes_on : goal.returns-in-Some-There-clause-goes_on
returns-in-Some-There-clause-goes_on g c = λ before. advanced_on c.args.from _ (place_from g c) c.judged.result c.judged.ensures.goes_on
