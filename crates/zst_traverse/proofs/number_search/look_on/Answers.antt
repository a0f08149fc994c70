use Rattle.std.proofs.Common.{◌≡◌, ℕ, ◌/◌, ◌^◌, ◌<◌, ◌≤◌, true, List, subst, arith}
use Rattle.std.specs.Prelude.{IfSome, Option}
use Rattle.std.proofs.lemmas.Result.{err_from_is_err_and}
use Rattle.zst_space.specs.FreeSectors.{FreeSectors}
use Rattle.zst_block.specs.Blocks.{Has}
use Rattle.zst_block.specs.IoStates.{IsHonest, blocks_of, disk_of}
use Rattle.zst_objset.specs.Damage.{IfDamage}
use Rattle.zst_tree.specs.Damage.{HangsIn, IsSeen, MayHave}
use Rattle.zst_tree.proofs.Damage.{seen_before}
use Rattle.zst_traverse.specs.Damage.{IsDamagedCell}
use Rattle.zst_traverse.specs.StandingEntries.{AheadStands}
use Rattle.zst_traverse.proofs.Damage.{named_told, node_told}
use Rattle.zst_traverse.specs.WalkCalls.{IsOfWalk}
use Rattle.zst_block.specs.declared.ptr.Ptr.{Ptr}
use Rattle.zst_block.proofs.IoCallLemmas.{Looks-then}
use Rattle.zst_model.specs.sends.Inclusion.{is_after}
use Rattle.zst_tree.proofs.Results.{delivers_if}
use Rattle.zst_tree.specs.Lookups.{Shows}
use Rattle.zst_tree.specs.Indices.{Delivers, Map, TreeIs}
use Rattle.zst_objset.proofs.LeafLaws.{look_back, look_on}
use Rattle.zst_traverse.specs.Cells.{choice_after, NoNumber}
use Rattle.zst_traverse.specs.Dates.{FindsLate, IsFirstLate}
use Rattle.zst_traverse.specs.Leaves.{EndsAll, IsNext, ShowsAhead}
use Rattle.zst_traverse.proofs.HeldLeaves.{leaf_held, tight_leaf_held}
use Rattle.zst_traverse.proofs.LeafLooks.{if_ok, next_all, passes_from}
use Rattle.zst_traverse.proofs.Numbers.{ahead_behind, leaves_early}
use Rattle.zst_tree.proofs.StepLooks.{InSteps-more, InSteps-then}
use Rattle.zst_traverse.proofs.number_search.look_on.Given as given
use Rattle.zst_traverse.proofs.number_search.look_on.Goals as goal
use Rattle.zst_objset.specs.Dnodes.{outside}

pub returns-in_err-next_late-clause-shows : goal.returns-in_err-next_late-clause-shows
returns-in_err-next_late-clause-shows g c = λ snap pairs honest holds.
    let p = err_from_is_err_and c.from_residual.result c.from_residual.ensures.1 in
    rw (p.1, p.2) (c.in_err-next_late.ensures.late holds.map honest holds.tree)

pub returns-in_err-leaf-in-Some-clause-shows : goal.returns-in_err-leaf-in-Some-clause-shows
returns-in_err-leaf-in-Some-clause-shows g c = λ snap pairs honest holds.
    let p = err_from_is_err_and c.from_residual-in_err-leaf-in-Some.result c.from_residual-in_err-leaf-in-Some.ensures.1 in
    let tree = look_on (λ (seen : List ℕ) (space : FreeSectors). TreeIs (Has seen space) c.args.set.now.tree holds.map) c.in_ok-next_late.ensures.looks.by_steps.looks holds.tree in
    rw (p.1, p.2) (c.in_err-leaf-in-Some.ensures.shows holds.map honest tree)

pub returns-in-None-clause-shows : goal.returns-in-None-clause-shows
returns-in-None-clause-shows g c = λ snap pairs honest holds k over under.
    leaves_early _ _ snap c.args.source c.args.set.now holds c.args.from (2 ^ 44) c.requires.from.0 (omega arith)
    (subst (λ (found : Option ℕ). FindsLate holds.map c.args.source (c.args.from / 16) (2 ^ 44) found) c.in-None.is (c.in_ok-next_late.ensures.late holds.map honest holds.tree)) k over (omega arith)

-- the first late leaf, and what the look-up of it shows
leaf_found : (g : given.Over) (c : goal.After-look g) (map : Map) → IsHonest c.look.new.io → TreeIs (blocks_of c.args.io.now) c.args.set.now.tree map
    → IsFirstLate map c.args.source (c.args.from / 16) (2 ^ 44) c.in-Some.index × Shows map c.in-Some.index (c.in_ok-leaf-in-Some.leaf.ptr, c.in_ok-leaf-in-Some.leaf.count)
leaf_found g c map honest tree =
    let there = c.look.ensures.looks.by_steps.looks.reads.honest honest in
    let was = c.in_ok-leaf-in-Some.ensures.looks.by_steps.looks.reads.honest there in
    let on = look_on (λ (seen : List ℕ) (space : FreeSectors). TreeIs (Has seen space) c.args.set.now.tree map) c.in_ok-next_late.ensures.looks.by_steps.looks tree in (
      subst (λ (found : Option ℕ). FindsLate map c.args.source (c.args.from / 16) (2 ^ 44) found) c.in-Some.is (c.in_ok-next_late.ensures.late map was tree),
      c.in_ok-leaf-in-Some.ensures.shows map there on,
    )

pub returns-in_ok-leaf-in-Some-clause-shows : goal.returns-in_ok-leaf-in-Some-clause-shows
returns-in_ok-leaf-in-Some-clause-shows g c = λ snap pairs honest holds.
    let index = c.in-Some.index in
    let found = leaf_found g c holds.map honest holds.tree in
    let looks = Looks-then c.in_ok-next_late.ensures.looks.by_steps.looks c.in_ok-leaf-in-Some.ensures.looks.by_steps.looks in
    let held = leaf_held looks pairs c.args.set.now snap index c.in_ok-leaf-in-Some.leaf c.in_ok-leaf-in-Some.ensures.index holds found.1 in
    let back = look_back (λ (seen : List ℕ) (space : FreeSectors). Delivers (ShowsAhead (Has seen space) (outside pairs (Has seen space)) snap (choice_after c.args.source) c.max.result) c.look.result) looks (c.look.ensures.shows snap pairs honest held.stands) in
    let under : index < 2 ^ 44 = found.0.under in
    let none : NoNumber snap (choice_after c.args.source) c.args.from c.max.result = λ k over less.
    leaves_early _ _ snap c.args.source c.args.set.now holds c.args.from index c.requires.from.0 (omega arith) found.0.none_before k over (omega arith) in
    delivers_if _ _ c.look.result (λ shown. ahead_behind _ _ snap c.args.source c.args.from c.max.result shown (omega arith) none) back

pub returns-in_ok-leaf-in-Some-clause-ends : goal.returns-in_ok-leaf-in-Some-clause-ends
returns-in_ok-leaf-in-Some-clause-ends g c = λ snap pairs honest tight start.
    let index = c.in-Some.index in
    let leaf = c.in_ok-leaf-in-Some.leaf in
    let found = leaf_found g c tight.holds.map honest tight.holds.tree in
    let looks = Looks-then c.in_ok-next_late.ensures.looks.by_steps.looks c.in_ok-leaf-in-Some.ensures.looks.by_steps.looks in
    let under : index < 2 ^ 44 = found.0.under in
    let from_on : c.args.from / 16 ≤ index = found.0.from_on in
    let index_is : leaf.index ≡ index = c.in_ok-leaf-in-Some.ensures.index in
    let held = tight_leaf_held looks pairs c.args.set.now snap index leaf index_is tight under found.1 in
    let some : 0 < leaf.count = found.1.some in
    let same : tight.holds.map index ≡ leaf.ptr = found.1.same index (omega arith) (omega arith) under in
    let late : is_after c.args.source leaf.ptr.number ≡ true = subst (λ (p : Ptr). is_after c.args.source p.number ≡ true) same found.0.late in
    if_ok IsNext EndsAll next_all c.look.result ((c.look.ensures.tightly snap pairs honest held.leaf_is).late late (omega arith))

pub look-requires : goal.look-requires
look-requires g c =
    let range : (c.args.from / 16 ≤ c.in-Some.index) × (c.in-Some.index < 2 ^ 44) = subst (λ (found : Option ℕ). IfSome found (λ first. (c.args.from / 16 ≤ first) × (first < 2 ^ 44))) c.in-Some.is c.in_ok-next_late.ensures.range in
    let at : c.in_ok-leaf-in-Some.leaf.index ≡ c.in-Some.index = c.in_ok-leaf-in-Some.ensures.index in
    let count = c.in_ok-leaf-in-Some.ensures.range in
    record { leaf = record { index = omega (arith, at, range.1); count = (count.0, omega (arith, at, count.1)); from = (omega arith, omega (arith, at), omega (arith, at, range.0)) } }

pub returns-in_ok-leaf-in-Some-clause-looks : goal.returns-in_ok-leaf-in-Some-clause-looks
returns-in_ok-leaf-in-Some-clause-looks g c = InSteps-then {more = 21} (omega arith) c.in_ok-next_late.ensures.looks (InSteps-then (omega arith) c.in_ok-leaf-in-Some.ensures.looks c.look.ensures.looks)

pub returns-in_err-next_late-clause-goes_on : goal.returns-in_err-next_late-clause-goes_on
returns-in_err-next_late-clause-goes_on g c =
    let p = err_from_is_err_and c.from_residual.result c.from_residual.ensures.1 in
    rw p.1 tt

pub returns-in_err-next_late-clause-of_walk : goal.returns-in_err-next_late-clause-of_walk
returns-in_err-next_late-clause-of_walk g c = λ honest.
    let p = err_from_is_err_and c.from_residual.result c.from_residual.ensures.1 in
    let disk = disk_of c.args.io.now in
    rw (p.1, p.2) (record { stands = tt; damaged = node_told (IsSeen disk.seen) disk.size c.args.set.now c.in_err-next_late.field-0.0 (c.in_err-next_late.ensures.damaged honest) })

pub returns-in_err-next_late-clause-ends : goal.returns-in_err-next_late-clause-ends
returns-in_err-next_late-clause-ends g c = λ snap pairs honest tight whole.
    let p = err_from_is_err_and c.from_residual.result c.from_residual.ensures.1 in
    rw p.1 tt

pub returns-in_err-next_late-clause-looks : goal.returns-in_err-next_late-clause-looks
returns-in_err-next_late-clause-looks g c =
    let p = err_from_is_err_and c.from_residual.result c.from_residual.ensures.1 in
    rw (p.1, p.2) (InSteps-more (omega arith) c.in_err-next_late.ensures.looks)

pub returns-in-None-clause-of_walk : goal.returns-in-None-clause-of_walk
returns-in-None-clause-of_walk g c = λ honest. record { stands = tt; damaged = tt }

pub returns-in-None-clause-looks : goal.returns-in-None-clause-looks
returns-in-None-clause-looks g c = InSteps-more (omega arith) c.in_ok-next_late.ensures.looks

pub returns-in_ok-leaf-in-Some-clause-goes_on : goal.returns-in_ok-leaf-in-Some-clause-goes_on
returns-in_ok-leaf-in-Some-clause-goes_on g c =
    let range : (c.args.from / 16 ≤ c.in-Some.index) × (c.in-Some.index < 2 ^ 44) = subst (λ (found : Option ℕ). IfSome found (λ first. (c.args.from / 16 ≤ first) × (first < 2 ^ 44))) c.in-Some.is c.in_ok-next_late.ensures.range in
    let at : c.in_ok-leaf-in-Some.leaf.index ≡ c.in-Some.index = c.in_ok-leaf-in-Some.ensures.index in
    passes_from c.args.from c.max.result (omega arith) c.look.result c.look.ensures.ranges (c.look.ensures.goes_on (omega (arith, at, range.0)))

pub returns-in_err-leaf-in-Some-clause-goes_on : goal.returns-in_err-leaf-in-Some-clause-goes_on
returns-in_err-leaf-in-Some-clause-goes_on g c =
    let p = err_from_is_err_and c.from_residual-in_err-leaf-in-Some.result c.from_residual-in_err-leaf-in-Some.ensures.1 in
    rw p.1 tt

pub returns-in_err-leaf-in-Some-clause-of_walk : goal.returns-in_err-leaf-in-Some-clause-of_walk
returns-in_err-leaf-in-Some-clause-of_walk g c = λ honest.
    let p = err_from_is_err_and c.from_residual-in_err-leaf-in-Some.result c.from_residual-in_err-leaf-in-Some.ensures.1 in
    let fault = c.in_err-leaf-in-Some.field-0.0 in
    let disk = disk_of c.next_late.new.io in
    rw (p.1, p.2) (record {
      stands = tt;
      damaged = seen_before c.in_ok-next_late.ensures.looks.by_steps.looks (λ (seen : List ℕ) (size : ℕ). IfDamage fault (IsDamagedCell (IsSeen seen) size c.args.set.now))
          (named_told (IsSeen disk.seen) disk.size c.args.set.now fault (c.in_err-leaf-in-Some.ensures.damaged honest));
    })

pub returns-in_ok-leaf-in-Some-clause-of_walk : goal.returns-in_ok-leaf-in-Some-clause-of_walk
returns-in_ok-leaf-in-Some-clause-of_walk g c = λ honest.
    let there = c.look.ensures.looks.by_steps.looks.reads.honest honest in
    let found = c.in_ok-leaf-in-Some.ensures.looks.by_steps.looks in
    let on = look_on (λ (seen : List ℕ) (space : FreeSectors). HangsIn (MayHave (IsSeen seen)) c.args.set.now.tree c.in_ok-leaf-in-Some.leaf.ptr) found (c.in_ok-leaf-in-Some.ensures.hangs there) in
    seen_before (Looks-then c.in_ok-next_late.ensures.looks.by_steps.looks found) (λ (seen : List ℕ) (size : ℕ). IsOfWalk seen size c.args.set.now c.look.result (λ images. AheadStands images c.args.set.now)) (c.look.ensures.of_walk c.args.set.now honest on)

pub returns-in_err-leaf-in-Some-clause-ends : goal.returns-in_err-leaf-in-Some-clause-ends
returns-in_err-leaf-in-Some-clause-ends g c = λ snap pairs honest tight whole.
    let p = err_from_is_err_and c.from_residual-in_err-leaf-in-Some.result c.from_residual-in_err-leaf-in-Some.ensures.1 in
    rw p.1 tt

pub returns-in_err-leaf-in-Some-clause-looks : goal.returns-in_err-leaf-in-Some-clause-looks
returns-in_err-leaf-in-Some-clause-looks g c =
    let p = err_from_is_err_and c.from_residual-in_err-leaf-in-Some.result c.from_residual-in_err-leaf-in-Some.ensures.1 in
    rw (p.1, p.2) (InSteps-then (omega arith) c.in_ok-next_late.ensures.looks c.in_err-leaf-in-Some.ensures.looks)

pub next_late-requires-clause-levels : goal.next_late-requires-clause-levels
next_late-requires-clause-levels g c = c.requires.levels

pub leaf_at-requires-clause-levels : goal.leaf_at-requires-clause-levels
leaf_at-requires-clause-levels g c = c.requires.levels
