use Rattle.std.proofs.Common.{◌≡◌, ℕ, ◌*◌, List, subst, arith, rules}
use Rattle.std.specs.Prelude.{None}
use Rattle.std.proofs.lemmas.Result.{err_from_is_err_and}
use Rattle.zst_space.specs.FreeSectors.{FreeSectors}
use Rattle.zst_block.specs.Blocks.{Has}
use Rattle.zst_block.specs.IoStates.{blocks_of, disk_of}
use Rattle.zst_block.proofs.IoCallLemmas.{Looks-then}
use Rattle.zst_tree.specs.Indices.{TreeIs}
use Rattle.zst_objset.proofs.LeafLaws.{look_on}
use Rattle.zst_objset.specs.Sets.{SetHolds}
use Rattle.zst_compare.specs.Agreement.{ComparesStep}
use Rattle.zst_compare.proofs.Agreement.{agrees_all}
use Rattle.zst_compare.proofs.LeafSlots.{between_then}
use Rattle.zst_compare.proofs.SharedLeaves.{same_agree, shared_agree}
use Rattle.zst_compare.proofs.Sharing.{Has-one}
use Rattle.zst_compare.proofs.sets.compare_sets.Goals as goal

pub returns-then-eq-clause-compared : goal.returns-then-eq-clause-compared
returns-then-eq-clause-compared g c = λ was now honest held holds.
    let same : c.args.later.now ≡ c.args.earlier.now = search rules in
    same_agree (blocks_of c.args.io.now) (Has-one (disk_of c.args.io.now).seen c.args.io.now.space) c.args.number c.args.later.now c.args.earlier.now was now same held holds

pub returns-in_err-shared-clause-compared : goal.returns-in_err-shared-clause-compared
returns-in_err-shared-clause-compared g c = λ was now honest held holds.
    let p = err_from_is_err_and c.from_residual.result c.from_residual.ensures.1 in
    let looks = c.loop-index.invariant.looks in
    let first = look_on {stop = None} (λ (seen : List ℕ) (space : FreeSectors). TreeIs (Has seen space) c.args.later.now.tree held.map) looks held.tree in
    let second = look_on {stop = None} (λ (seen : List ℕ) (space : FreeSectors). TreeIs (Has seen space) c.args.earlier.now.tree holds.map) looks holds.tree in
    rw (p.1, p.2) (c.in_err-shared.ensures.shared held.map holds.map honest first second)

pub returns-then-shared-ge-TREE_INDEX_BOUND-clause-compared : goal.returns-then-shared-ge-TREE_INDEX_BOUND-clause-compared
returns-then-shared-ge-TREE_INDEX_BOUND-clause-compared g c = λ was now honest held holds.
    let looks = c.loop-index.invariant.looks in
    let first = look_on {stop = None} (λ (seen : List ℕ) (space : FreeSectors). TreeIs (Has seen space) c.args.later.now.tree held.map) looks held.tree in
    let second = look_on {stop = None} (λ (seen : List ℕ) (space : FreeSectors). TreeIs (Has seen space) c.args.earlier.now.tree holds.map) looks holds.tree in
    let shared = shared_agree (blocks_of c.args.io.now) (Has-one (disk_of c.args.io.now).seen c.args.io.now.space) c.args.number c.args.later.now c.args.earlier.now was now c.loop-index.index c.in_ok-shared.shared held holds
    (c.in_ok-shared.ensures.shared held.map holds.map honest first second) in
    agrees_all c.args.number was now (16 * c.in_ok-shared.shared) (omega arith)
    (between_then c.args.number was now 0 (16 * c.loop-index.index) (16 * c.in_ok-shared.shared) (c.loop-index.invariant.agree was now (c.in_ok-shared.ensures.looks.reads.honest honest) held holds) shared)

pub returns-in_err-below-clause-compared : goal.returns-in_err-below-clause-compared
returns-in_err-below-clause-compared g c = λ was now honest held holds.
    let p = err_from_is_err_and c.from_residual-in_err-below.result c.from_residual-in_err-below.ensures.1 in
    let looks = Looks-then {stop = None} c.loop-index.invariant.looks c.in_ok-shared.ensures.looks in
    let first = look_on {stop = None} (λ (seen : List ℕ) (space : FreeSectors). SetHolds (Has seen space) c.args.later.now now) looks held in
    let second = look_on {stop = None} (λ (seen : List ℕ) (space : FreeSectors). SetHolds (Has seen space) c.args.earlier.now was) looks holds in
    rw (p.1, p.2) (c.in_err-below.ensures.compared was now honest first second)

-- the numbers below the shared leaves agree, those in them do, and those of the step
pub loop-index-preserved : goal.loop-index-preserved
loop-index-preserved g c = record {
  agree = λ was now honest held holds.
      let at_shared = c.in_ok-below.ensures.looks.reads.honest honest in
      let looks = c.loop-index.invariant.looks in
      let later = look_on {stop = None} (λ (seen : List ℕ) (space : FreeSectors). TreeIs (Has seen space) c.args.later.now.tree held.map) looks held.tree in
      let earlier = look_on {stop = None} (λ (seen : List ℕ) (space : FreeSectors). TreeIs (Has seen space) c.args.earlier.now.tree holds.map) looks holds.tree in
      let read = Looks-then {stop = None} c.loop-index.invariant.looks c.in_ok-shared.ensures.looks in
      let first = look_on {stop = None} (λ (seen : List ℕ) (space : FreeSectors). SetHolds (Has seen space) c.args.later.now now) read held in
      let second = look_on {stop = None} (λ (seen : List ℕ) (space : FreeSectors). SetHolds (Has seen space) c.args.earlier.now was) read holds in
      let shared = shared_agree (blocks_of c.args.io.now) (Has-one (disk_of c.args.io.now).seen c.args.io.now.space) c.args.number c.args.later.now c.args.earlier.now was now c.loop-index.index c.in_ok-shared.shared held holds
      (c.in_ok-shared.ensures.shared held.map holds.map at_shared later earlier) in
      let before = between_then c.args.number was now 0 (16 * c.loop-index.index) (16 * c.in_ok-shared.shared) (c.loop-index.invariant.agree was now (c.in_ok-shared.ensures.looks.reads.honest at_shared) held holds) shared in
      let step = subst (ComparesStep c.args.number was now (16 * c.in_ok-shared.shared)) c.in-Agrees.is (c.in_ok-below.ensures.compared was now honest first second) in
      between_then c.args.number was now 0 (16 * c.in_ok-shared.shared) (16 * c.in-Agrees.below) before step;
  looks = Looks-then {stop = None} c.loop-index.invariant.looks (Looks-then {stop = None} c.in_ok-shared.ensures.looks c.in_ok-below.ensures.looks);
}

pub returns-in-Differs-clause-compared : goal.returns-in-Differs-clause-compared
returns-in-Differs-clause-compared g c = λ was now honest held holds.
    let looks = Looks-then {stop = None} c.loop-index.invariant.looks c.in_ok-shared.ensures.looks in
    let first = look_on {stop = None} (λ (seen : List ℕ) (space : FreeSectors). SetHolds (Has seen space) c.args.later.now now) looks held in
    let second = look_on {stop = None} (λ (seen : List ℕ) (space : FreeSectors). SetHolds (Has seen space) c.args.earlier.now was) looks holds in
    subst (ComparesStep c.args.number was now (16 * c.in_ok-shared.shared)) c.in-Differs.is (c.in_ok-below.ensures.compared was now honest first second)

pub returns-clause-compared : goal.returns-clause-compared
returns-clause-compared g c = λ was now honest held holds.
    agrees_all c.args.number was now (16 * c.loop-index.index) (omega arith) (c.loop-index.invariant.agree was now honest held holds)
