use Rattle.std.proofs.Common.{ℕ, ◌+◌, ◌*◌, ◌≤◌, List, Err, subst, arith}
use Rattle.std.specs.Prelude.{None}
use Rattle.std.proofs.lemmas.Result.{err_from_is_err_and}
use Rattle.zst_space.specs.FreeSectors.{FreeSectors}
use Rattle.zst_block.specs.Blocks.{Has}
use Rattle.zst_block.specs.IoStates.{blocks_of, disk_of}
use Rattle.zst_block.proofs.IoCallLemmas.{Looks-then}
use Rattle.zst_tree.proofs.Damage.{seen_before}
use Rattle.zst_tree.specs.Damage.{HangsIn, IsSeen, MayHave}
use Rattle.zst_tree.specs.Indices.{TreeIs}
use Rattle.zst_objset.proofs.LeafLaws.{look_on}
use Rattle.zst_objset.proofs.SearchLaws.{leaf_shown}
use Rattle.zst_objset.specs.Damage.{IfDamaged}
use Rattle.zst_objset.specs.Sets.{LeafIs}
use Rattle.zst_compare.specs.Agreement.{ComparesLeaves}
use Rattle.zst_compare.specs.Damage.{IsDamagedIn, IsDamagedInLeaf, OfEither}
use Rattle.zst_compare.proofs.Holes.{holes_late, holes_shown}
use Rattle.zst_compare.proofs.LeafSlots.{leaf_within}
use Rattle.zst_compare.proofs.Told.{damaged_up, either_up}
use Rattle.zst_compare.proofs.sets.compare_step.Goals.{else-now-eq0-via-then-now-eq0+else-now-number, else-now-eq0-via-else-now-eq0}
use Rattle.zst_compare.proofs.sets.compare_step.Goals as goal

pub returns-in_err-now-clause-compared : goal.returns-in_err-now-clause-compared
returns-in_err-now-clause-compared g c = λ was now honest held holds.
    let p = err_from_is_err_and c.from_residual.result c.from_residual.ensures.1 in
    rw (p.1, p.2) (c.in_err-now.ensures.shows held.map honest held.tree)

pub returns-then-now-number-clause-compared : goal.returns-then-now-number-clause-compared
returns-then-now-number-clause-compared g c = λ was now honest held holds.
    holes_late c.args.number c.args.index (c.args.index + c.in_ok-now.count) was now c.in_ok-now.now c.if-now-number.true
    (holes_shown (blocks_of c.args.io.now) c.args.later.now now held c.args.index c.in_ok-now.count (c.args.index + c.in_ok-now.count) c.in_ok-now.now c.if-now-eq0.true (omega arith) (c.in_ok-now.ensures.shows held.map honest held.tree))

pub returns-in_err-was-clause-compared : goal.returns-in_err-was-clause-compared
returns-in_err-was-clause-compared g c = λ was now honest held holds.
    let p = err_from_is_err_and c.from_residual-in_err-was.result c.from_residual-in_err-was.ensures.1 in
    let tree = look_on {stop = None} (λ (seen : List ℕ) (space : FreeSectors). TreeIs (Has seen space) c.args.earlier.now.tree holds.map) c.in_ok-now.ensures.looks holds.tree in
    rw (p.1, p.2) (c.in_err-was.ensures.shows holds.map honest tree)

pub returns-then-was-eq0-clause-compared : goal.returns-then-was-eq0-clause-compared
returns-then-was-eq0-clause-compared g c = λ was now honest held holds.
    let below = c.args.index + c.min.result in
    let early : c.in_ok-now.now.number ≤ c.args.number = elim c.else-now-eq0.branch [
      | else-now-eq0-via-then-now-eq0+else-now-number w ↦ w.if-now-number.false
      | else-now-eq0-via-else-now-eq0 w ↦ absurd (w.if-now-eq0.false c.if-now-eq0-2.true)
    ] in
    let shown = c.in_ok-now.ensures.shows held.map (c.in_ok-was.ensures.looks.reads.honest honest) held.tree in
    let tree = look_on {stop = None} (λ (seen : List ℕ) (space : FreeSectors). TreeIs (Has seen space) c.args.earlier.now.tree holds.map) c.in_ok-now.ensures.looks holds.tree in
    c.compare_holes.ensures.compared c.args.number was now early
    (holes_shown (blocks_of c.args.io.now) c.args.later.now now held c.args.index c.in_ok-now.count below c.in_ok-now.now c.if-now-eq0-2.true (omega arith) shown)
    (holes_shown (blocks_of c.args.io.now) c.args.earlier.now was holds c.args.index c.in_ok-was.run' below c.in_ok-was.was' c.if-was-eq0.true (omega arith) (c.in_ok-was.ensures.shows holds.map honest tree))

pub returns-in_err-place-clause-compared : goal.returns-in_err-place-clause-compared
returns-in_err-place-clause-compared g c = λ was now honest held holds.
    let p = err_from_is_err_and c.from_residual-in_err-place.result c.from_residual-in_err-place.ensures.1 in
    let first = c.in_ok-now.ensures.looks in
    let second = c.in_ok-was.ensures.looks in
    let at_second = c.in_err-place.ensures.looks.reads.honest honest in
    let shown = c.in_ok-now.ensures.shows held.map (second.reads.honest at_second) held.tree in
    let tree = look_on {stop = None} (λ (seen : List ℕ) (space : FreeSectors). TreeIs (Has seen space) c.args.earlier.now.tree holds.map) first holds.tree in
    let new = look_on {stop = None} (λ (seen : List ℕ) (space : FreeSectors). LeafIs (Has seen space) now c.args.index c.in_ok-now.now) (Looks-then {stop = None} first second)
    (leaf_shown _ c.args.later.now now held c.args.index c.in_ok-now.count c.in_ok-now.now c.requires.index shown) in
    let old = look_on {stop = None} (λ (seen : List ℕ) (space : FreeSectors). LeafIs (Has seen space) was c.args.index c.in_ok-was.was') (Looks-then {stop = None} first second)
    (leaf_shown _ c.args.earlier.now was holds c.args.index c.in_ok-was.run' c.in_ok-was.was' c.requires.index (c.in_ok-was.ensures.shows holds.map at_second tree)) in
    rw (p.1, p.2) (c.in_err-place.ensures.compared was now honest holds.lawful held.lawful new old)

pub returns-in_err-place-clause-damaged : goal.returns-in_err-place-clause-damaged
returns-in_err-place-clause-damaged g c = λ honest.
    let p = err_from_is_err_and c.from_residual-in_err-place.result c.from_residual-in_err-place.ensures.1 in
    let first = c.in_ok-now.ensures.looks in
    let second = c.in_ok-was.ensures.looks in
    let at_second = c.in_err-place.ensures.looks.reads.honest honest in
    let images = IsSeen (disk_of c.args.io.now).seen in
    let size = (disk_of c.args.io.now).size in
    let new = c.in_ok-now.now in
    let old = c.in_ok-was.was' in
    let hangs = seen_before {stop = None} first (λ (seen : List ℕ) (size : ℕ). HangsIn (MayHave (IsSeen seen)) c.args.earlier.now.tree old) (c.in_ok-was.ensures.hangs at_second) in
    let told = seen_before {stop = None} (Looks-then {stop = None} first second)
    (λ (seen : List ℕ) (size : ℕ). IfDamaged {T = Unit {0}} (Err c.in_err-place.field-0.0) (OfEither (IsDamagedInLeaf (IsSeen seen) size new) (IsDamagedInLeaf (IsSeen seen) size old)))
    (c.in_err-place.ensures.damaged honest) in
    let up = either_up (IsDamagedInLeaf images size new) (IsDamagedInLeaf images size old) (IsDamagedIn images size c.args.later.now) (IsDamagedIn images size c.args.earlier.now)
    (leaf_within images size c.args.later.now new (c.in_ok-now.ensures.hangs (second.reads.honest at_second))) (leaf_within images size c.args.earlier.now old hangs) in
    rw (p.1, p.2) (damaged_up {T = Unit {0}} (OfEither (IsDamagedInLeaf images size new) (IsDamagedInLeaf images size old)) (OfEither (IsDamagedIn images size c.args.later.now) (IsDamagedIn images size c.args.earlier.now))
    (Err c.in_err-place.field-0.0) up told)

pub returns-in-Some-clause-compared : goal.returns-in-Some-clause-compared
returns-in-Some-clause-compared g c = λ was now honest held holds.
    let first = c.in_ok-now.ensures.looks in
    let second = c.in_ok-was.ensures.looks in
    let at_second = c.in_ok-place.ensures.looks.reads.honest honest in
    let shown = c.in_ok-now.ensures.shows held.map (second.reads.honest at_second) held.tree in
    let tree = look_on {stop = None} (λ (seen : List ℕ) (space : FreeSectors). TreeIs (Has seen space) c.args.earlier.now.tree holds.map) first holds.tree in
    let new = look_on {stop = None} (λ (seen : List ℕ) (space : FreeSectors). LeafIs (Has seen space) now c.args.index c.in_ok-now.now) (Looks-then {stop = None} first second)
    (leaf_shown _ c.args.later.now now held c.args.index c.in_ok-now.count c.in_ok-now.now c.requires.index shown) in
    let old = look_on {stop = None} (λ (seen : List ℕ) (space : FreeSectors). LeafIs (Has seen space) was c.args.index c.in_ok-was.was') (Looks-then {stop = None} first second)
    (leaf_shown _ c.args.earlier.now was holds c.args.index c.in_ok-was.run' c.in_ok-was.was' c.requires.index (c.in_ok-was.ensures.shows holds.map at_second tree)) in
    subst (ComparesLeaves c.args.number was now (16 * c.args.index) (16 * c.args.index + 16)) c.in-Some.is (c.in_ok-place.ensures.compared was now honest holds.lawful held.lawful new old)

pub returns-in-None-clause-compared : goal.returns-in-None-clause-compared
returns-in-None-clause-compared g c = λ was now honest held holds.
    let first = c.in_ok-now.ensures.looks in
    let second = c.in_ok-was.ensures.looks in
    let at_second = c.in_ok-place.ensures.looks.reads.honest honest in
    let shown = c.in_ok-now.ensures.shows held.map (second.reads.honest at_second) held.tree in
    let tree = look_on {stop = None} (λ (seen : List ℕ) (space : FreeSectors). TreeIs (Has seen space) c.args.earlier.now.tree holds.map) first holds.tree in
    let new = look_on {stop = None} (λ (seen : List ℕ) (space : FreeSectors). LeafIs (Has seen space) now c.args.index c.in_ok-now.now) (Looks-then {stop = None} first second)
    (leaf_shown _ c.args.later.now now held c.args.index c.in_ok-now.count c.in_ok-now.now c.requires.index shown) in
    let old = look_on {stop = None} (λ (seen : List ℕ) (space : FreeSectors). LeafIs (Has seen space) was c.args.index c.in_ok-was.was') (Looks-then {stop = None} first second)
    (leaf_shown _ c.args.earlier.now was holds c.args.index c.in_ok-was.run' c.in_ok-was.was' c.requires.index (c.in_ok-was.ensures.shows holds.map at_second tree)) in
    let agree = subst (ComparesLeaves c.args.number was now (16 * c.args.index) (16 * c.args.index + 16)) c.in-None.is (c.in_ok-place.ensures.compared was now honest holds.lawful held.lawful new old) in
    λ k is start under. agree k is start (omega (arith, under))
