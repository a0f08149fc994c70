use Rattle.std.proofs.Common.{ℕ, ◌/◌, List, subst, arith}
use Rattle.std.specs.Prelude.{IfSome, Option, Some}
use Rattle.std.proofs.lemmas.Result.{err_from_is_err_and}
use Rattle.zst_space.specs.FreeSectors.{FreeSectors}
use Rattle.zst_block.specs.Blocks.{Has}
use Rattle.zst_block.specs.IoStates.{blocks_of, disk_of}
use Rattle.zst_dnode.specs.declared.dnode.Dnode.{Dnode}
use Rattle.zst_model.specs.fields.Lists.{has_pair}
use Rattle.zst_objset.proofs.LeafLaws.{look_back, look_on}
use Rattle.zst_objset.specs.Damage.{IfDamage, StandsIn}
use Rattle.zst_tree.specs.Damage.{HangsIn, IsSeen, MayHave}
use Rattle.zst_tree.proofs.Damage.{seen_before}
use Rattle.zst_traverse.specs.Damage.{IsDamagedCell}
use Rattle.zst_traverse.proofs.Damage.{named_told}
use Rattle.zst_objset.specs.Dnodes.{DnodeIn, outside}
use Rattle.zst_traverse.proofs.HeldLeaves.{own_leaf}
use Rattle.zst_traverse.proofs.ListedNumbers.{none_told, object_told, object_unlisted}
use Rattle.zst_tree.proofs.StepLooks.{InSteps-more, InSteps-then}
use Rattle.zst_traverse.proofs.listed.listed_object.Goals as goal

pub returns-in_err-leaf-clause-found : goal.returns-in_err-leaf-clause-found
returns-in_err-leaf-clause-found g c = λ snap honest holds.
    let p = err_from_is_err_and c.from_residual.result c.from_residual.ensures.1 in
    rw (p.1, p.2) (c.in_err-leaf.ensures.shows holds.map honest holds.tree)

pub returns-in_err-dnode_in-clause-found : goal.returns-in_err-dnode_in-clause-found
returns-in_err-dnode_in-clause-found g c = λ snap honest holds.
    let pairs = has_pair c.args.withheld.now in
    let was = c.in_err-dnode_in.ensures.looks.by_steps.looks.reads.honest honest in
    let on = own_leaf c.in_ok-leaf.ensures.looks.by_steps.looks pairs c.args.set.now snap (c.args.number / 16) c.in_ok-leaf.leaf c.in_ok-leaf.ensures.index holds (c.in_ok-leaf.ensures.shows holds.map was holds.tree) (omega (arith, c.requires.number.1)) in
    let p = err_from_is_err_and c.from_residual-in_err-dnode_in.result c.from_residual-in_err-dnode_in.ensures.1 in
    rw (p.1, p.2) (c.in_err-dnode_in.ensures.found snap pairs honest on)

pub returns-in-None-clause-found : goal.returns-in-None-clause-found
returns-in-None-clause-found g c = λ snap honest holds.
    let pairs = has_pair c.args.withheld.now in
    let was = c.in_ok-dnode_in.ensures.looks.by_steps.looks.reads.honest honest in
    let on = own_leaf c.in_ok-leaf.ensures.looks.by_steps.looks pairs c.args.set.now snap (c.args.number / 16) c.in_ok-leaf.leaf c.in_ok-leaf.ensures.index holds (c.in_ok-leaf.ensures.shows holds.map was holds.tree) (omega (arith, c.requires.number.1)) in
    let has = blocks_of c.leaf_at.new.io in
    none_told has (outside pairs has) snap c.args.listed.now c.args.withheld.now c.args.number
    (subst (λ (found : Option Dnode). DnodeIn has (outside pairs has) snap c.args.number found) c.in-None.is (c.in_ok-dnode_in.ensures.found snap pairs honest on))

pub returns-then-is_listed-clause-found : goal.returns-then-is_listed-clause-found
returns-then-is_listed-clause-found g c = λ snap honest holds.
    let pairs = has_pair c.args.withheld.now in
    let was = c.in_ok-dnode_in.ensures.looks.by_steps.looks.reads.honest honest in
    let on = own_leaf c.in_ok-leaf.ensures.looks.by_steps.looks pairs c.args.set.now snap (c.args.number / 16) c.in_ok-leaf.leaf c.in_ok-leaf.ensures.index holds (c.in_ok-leaf.ensures.shows holds.map was holds.tree) (omega (arith, c.requires.number.1)) in
    let has = blocks_of c.leaf_at.new.io in
    let found = subst (λ (found : Option Dnode). DnodeIn has (outside pairs has) snap c.args.number found) c.in-Some.is (c.in_ok-dnode_in.ensures.found snap pairs honest on) in
    let back = look_back (λ (seen : List ℕ) (space : FreeSectors). DnodeIn (Has seen space) (outside pairs (Has seen space)) snap c.args.number (Some c.in-Some.dnode)) c.in_ok-leaf.ensures.looks.by_steps.looks found in
    object_told _ _ snap c.args.listed.now c.args.withheld.now c.args.number c.in-Some.dnode back (c.is_listed.ensures.some c.if-is_listed.true)

pub returns-else-is_listed-clause-found : goal.returns-else-is_listed-clause-found
returns-else-is_listed-clause-found g c = λ snap honest holds.
    let pairs = has_pair c.args.withheld.now in
    let was = c.in_ok-dnode_in.ensures.looks.by_steps.looks.reads.honest honest in
    let on = own_leaf c.in_ok-leaf.ensures.looks.by_steps.looks pairs c.args.set.now snap (c.args.number / 16) c.in_ok-leaf.leaf c.in_ok-leaf.ensures.index holds (c.in_ok-leaf.ensures.shows holds.map was holds.tree) (omega (arith, c.requires.number.1)) in
    let has = blocks_of c.leaf_at.new.io in
    let found = subst (λ (found : Option Dnode). DnodeIn has (outside pairs has) snap c.args.number found) c.in-Some.is (c.in_ok-dnode_in.ensures.found snap pairs honest on) in
    object_unlisted has (outside pairs has) snap c.args.listed.now c.args.withheld.now c.args.number c.in-Some.dnode found (c.is_listed.ensures.none c.if-is_listed.false)

pub returns-then-is_listed-clause-looks : goal.returns-then-is_listed-clause-looks
returns-then-is_listed-clause-looks g c = InSteps-then (omega arith) c.in_ok-leaf.ensures.looks c.in_ok-dnode_in.ensures.looks

pub returns-else-is_listed-clause-looks : goal.returns-else-is_listed-clause-looks
returns-else-is_listed-clause-looks g c = InSteps-then (omega arith) c.in_ok-leaf.ensures.looks c.in_ok-dnode_in.ensures.looks

pub returns-in_err-leaf-clause-looks : goal.returns-in_err-leaf-clause-looks
returns-in_err-leaf-clause-looks g c =
    let p = err_from_is_err_and c.from_residual.result c.from_residual.ensures.1 in
    rw (p.1, p.2) (InSteps-more (omega arith) c.in_err-leaf.ensures.looks)

pub returns-in_err-dnode_in-clause-looks : goal.returns-in_err-dnode_in-clause-looks
returns-in_err-dnode_in-clause-looks g c =
    let p = err_from_is_err_and c.from_residual-in_err-dnode_in.result c.from_residual-in_err-dnode_in.ensures.1 in
    rw (p.1, p.2) (InSteps-then (omega arith) c.in_ok-leaf.ensures.looks c.in_err-dnode_in.ensures.looks)

pub returns-in-None-clause-looks : goal.returns-in-None-clause-looks
returns-in-None-clause-looks g c = InSteps-then (omega arith) c.in_ok-leaf.ensures.looks c.in_ok-dnode_in.ensures.looks

pub returns-in_err-leaf-clause-of_walk : goal.returns-in_err-leaf-clause-of_walk
returns-in_err-leaf-clause-of_walk g c = λ honest.
    let p = err_from_is_err_and c.from_residual.result c.from_residual.ensures.1 in
    let disk = disk_of c.args.io.now in
    rw (p.1, p.2) (record { stands = tt; damaged = named_told (IsSeen disk.seen) disk.size c.args.set.now c.in_err-leaf.field-0.0 (c.in_err-leaf.ensures.damaged honest) })

pub returns-in_err-dnode_in-clause-of_walk : goal.returns-in_err-dnode_in-clause-of_walk
returns-in_err-dnode_in-clause-of_walk g c = λ honest.
    let p = err_from_is_err_and c.from_residual-in_err-dnode_in.result c.from_residual-in_err-dnode_in.ensures.1 in
    let looks = c.in_ok-leaf.ensures.looks.by_steps.looks in
    let was = c.in_err-dnode_in.ensures.looks.by_steps.looks.reads.honest honest in
    let on = look_on (λ (seen : List ℕ) (space : FreeSectors). HangsIn (MayHave (IsSeen seen)) c.args.set.now.tree c.in_ok-leaf.leaf.ptr) looks (c.in_ok-leaf.ensures.hangs was) in
    rw (p.1, p.2) (record {
      stands = tt;
      damaged = seen_before looks (λ (seen : List ℕ) (size : ℕ). IfDamage c.in_err-dnode_in.field-0.0 (IsDamagedCell (IsSeen seen) size c.args.set.now)) (c.in_err-dnode_in.ensures.of_walk c.args.set.now honest on).damaged;
    })

pub returns-in-None-clause-of_walk : goal.returns-in-None-clause-of_walk
returns-in-None-clause-of_walk g c = λ honest. record { stands = tt; damaged = tt }

pub returns-then-is_listed-clause-of_walk : goal.returns-then-is_listed-clause-of_walk
returns-then-is_listed-clause-of_walk g c = λ honest.
    let looks = c.in_ok-leaf.ensures.looks.by_steps.looks in
    let was = c.in_ok-dnode_in.ensures.looks.by_steps.looks.reads.honest honest in
    let on = look_on (λ (seen : List ℕ) (space : FreeSectors). HangsIn (MayHave (IsSeen seen)) c.args.set.now.tree c.in_ok-leaf.leaf.ptr) looks (c.in_ok-leaf.ensures.hangs was) in
    record {
      stands = seen_before looks (λ (seen : List ℕ) (size : ℕ). StandsIn (IsSeen seen) c.args.set.now c.in-Some.dnode)
          (subst (λ (found : Option Dnode). IfSome found (StandsIn (IsSeen (disk_of c.leaf_at.new.io).seen) c.args.set.now)) c.in-Some.is (c.in_ok-dnode_in.ensures.of_walk c.args.set.now honest on).stands);
      damaged = tt;
    }

pub returns-else-is_listed-clause-of_walk : goal.returns-else-is_listed-clause-of_walk
returns-else-is_listed-clause-of_walk g c = λ honest. record { stands = tt; damaged = tt }
