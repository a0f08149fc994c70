use Rattle.std.proofs.Common.{◌≡◌, ℕ, ◌+◌, ◌<◌, List, sym, ◌∙◌, arith}
use Rattle.std.specs.Prelude.{None}
use Rattle.std.proofs.lemmas.Bool.{false≢true}
use Rattle.std.proofs.lemmas.Result.{err_from_is_err_and}
use Rattle.zst_space.specs.FreeSectors.{FreeSectors}
use Rattle.zst_block.specs.Blocks.{Has}
use Rattle.zst_block.specs.IoStates.{IoState, IsHonest, blocks_of}
use Rattle.zst_block.specs.IoCalls.{Looks}
use Rattle.zst_block.specs.declared.ptr.Ptr.{Ptr}
use Rattle.zst_model.specs.states.State.{Content, index_bound}
use Rattle.zst_tree.specs.Indices.{TreeIs}
use Rattle.zst_tree.proofs.LoadedNodes.{there_after}
use Rattle.zst_compare.specs.Contents.{ContentIs}
use Rattle.zst_compare.proofs.KeptRuns.{content_in, late_kept, run_kept, run_other}
use Rattle.zst_compare.proofs.trees.compare_run.Goals as goal
use Rattle.zst_compare.proofs.trees.compare_run.Goals.{else-was-now-via-then-was-now+in_ok-same_content+else-branch, else-was-now-via-else-was-now}

-- a pointer stands for its content after two reads too
content_on : {old mid new : IoState} → Looks old mid None → Looks mid new None → (size : ℕ) (ptr : Ptr) (content : Content) → ContentIs (Has old.disk.seen old.space) size ptr content → ContentIs (Has new.disk.seen new.space) size ptr content
content_on {old} {mid} {new} first second size ptr content is =
    there_after second (λ (seen : List ℕ) (s : FreeSectors). ContentIs (Has seen s) size ptr content) (there_after first (λ (seen : List ℕ) (s : FreeSectors). ContentIs (Has seen s) size ptr content) is)

pub returns-in_err-now-clause-compared : goal.returns-in_err-now-clause-compared
returns-in_err-now-clause-compared g c = λ now was now_dates was_dates honest first second.
    let p = err_from_is_err_and c.from_residual.result c.from_residual.ensures.1 in
    rw (p.1, p.2) (c.in_err-now.ensures.shows first.map honest first.tree)

pub returns-then-now-number-clause-compared : goal.returns-then-now-number-clause-compared
returns-then-now-number-clause-compared g c = λ now was now_dates was_dates honest first second.
    late_kept (blocks_of c.args.io.now) c.args.number c.args.later.now c.args.earlier.now now was now_dates was_dates first second
    c.in_ok-now.now c.in_ok-now.count c.args.index c.if-now-number.true (c.in_ok-now.ensures.shows first.map honest first.tree)

pub returns-in_err-was-clause-compared : goal.returns-in_err-was-clause-compared
returns-in_err-was-clause-compared g c = λ now was now_dates was_dates honest first second.
    let p = err_from_is_err_and c.from_residual-in_err-was.result c.from_residual-in_err-was.ensures.1 in
    let on = there_after {stop = None} c.in_ok-now.ensures.looks (λ (seen : List ℕ) (s : FreeSectors). TreeIs (Has seen s) c.args.earlier.now.tree second.map) second.tree in
    rw (p.1, p.2) (c.in_err-was.ensures.shows second.map honest on)

pub returns-in_err-same_content-clause-compared : goal.returns-in_err-same_content-clause-compared
unfolding index_bound
returns-in_err-same_content-clause-compared g c = λ now was now_dates was_dates honest first second.
    let p = err_from_is_err_and c.from_residual-in_err-same_content.result c.from_residual-in_err-same_content.ensures.1 in
    let mid = c.in_err-same_content.ensures.looks.reads.honest honest in
    let index = c.args.index in
    let small : index < index_bound = omega (arith, c.requires.index) in
    let shows = c.in_ok-now.ensures.shows first.map (c.in_ok-was.ensures.looks.reads.honest mid) first.tree in
    let on = there_after {stop = None} c.in_ok-now.ensures.looks (λ (seen : List ℕ) (s : FreeSectors). TreeIs (Has seen s) c.args.earlier.now.tree second.map) second.tree in
    let others = c.in_ok-was.ensures.shows second.map mid on in
    let up = content_on c.in_ok-now.ensures.looks c.in_ok-was.ensures.looks in
    rw (p.1, p.2) (c.in_err-same_content.ensures.same (now index) (was index) honest
    (up c.args.later.now.size c.in_ok-now.now (now index) (content_in (blocks_of c.args.io.now) c.args.later.now now now_dates first c.in_ok-now.now c.in_ok-now.count index small shows))
    (up c.args.earlier.now.size c.in_ok-was.was' (was index) (content_in (blocks_of c.args.io.now) c.args.earlier.now was was_dates second c.in_ok-was.was' c.in_ok-was.run' index small others)))

pub returns-then-branch-clause-compared : goal.returns-then-branch-clause-compared
returns-then-branch-clause-compared g c = λ now was now_dates was_dates honest first second.
    let mid = c.in_ok-same_content.ensures.looks.reads.honest honest in
    let shows = c.in_ok-now.ensures.shows first.map (c.in_ok-was.ensures.looks.reads.honest mid) first.tree in
    let on = there_after {stop = None} c.in_ok-now.ensures.looks (λ (seen : List ℕ) (s : FreeSectors). TreeIs (Has seen s) c.args.earlier.now.tree second.map) second.tree in
    let others = c.in_ok-was.ensures.shows second.map mid on in
    let up = content_on c.in_ok-now.ensures.looks c.in_ok-was.ensures.looks in
    run_kept (blocks_of c.args.io.now) c.args.number c.args.later.now c.args.earlier.now now was now_dates was_dates first second
    c.in_ok-now.now c.in_ok-was.was' c.in_ok-now.count c.in_ok-was.run' c.args.index (c.args.index + c.min.result) (omega (arith, c.min.ensures)) (omega (arith, c.min.ensures)) c.if-was-now.true
    (λ a b one two. (c.in_ok-same_content.ensures.same a b honest (up c.args.later.now.size c.in_ok-now.now a one) (up c.args.earlier.now.size c.in_ok-was.was' b two)).0 c.if-branch.true) shows others

pub returns-clause-compared : goal.returns-clause-compared
unfolding index_bound
returns-clause-compared g c = λ now was now_dates was_dates honest first second.
    let small : c.args.index < index_bound = omega (arith, c.requires.index) in
    let done = λ (mid : IsHonest c.run_at-2.new.io) (other : (a b : Content) → ContentIs (blocks_of c.args.io.now) c.args.later.now.size c.in_ok-now.now a → ContentIs (blocks_of c.args.io.now) c.args.earlier.now.size c.in_ok-was.was' b
    → b ≡ a → c.in_ok-was.was'.number ≡ c.in_ok-now.now.number → ⊥).
    (let on = there_after {stop = None} c.in_ok-now.ensures.looks (λ (seen : List ℕ) (s : FreeSectors). TreeIs (Has seen s) c.args.earlier.now.tree second.map) second.tree in
    run_other (blocks_of c.args.io.now) c.args.number c.args.later.now c.args.earlier.now now was now_dates was_dates first second
    c.in_ok-now.now c.in_ok-was.was' c.in_ok-now.count c.in_ok-was.run' c.args.index small c.if-now-number.false other
    (c.in_ok-now.ensures.shows first.map (c.in_ok-was.ensures.looks.reads.honest mid) first.tree) (c.in_ok-was.ensures.shows second.map mid on)) in
    elim c.else-was-now.branch [
      | else-was-now-via-then-was-now+in_ok-same_content+else-branch w ↦
          let end = rw w.io-is at honest in
          let up = content_on c.in_ok-now.ensures.looks c.in_ok-was.ensures.looks in (
            small,
            done (w.in_ok-same_content.ensures.looks.reads.honest end) (λ a b one two same date. false≢true (sym w.if-branch.false
                ∙ (w.in_ok-same_content.ensures.same a b end (up c.args.later.now.size c.in_ok-now.now a one) (up c.args.earlier.now.size c.in_ok-was.was' b two)).1 same)),
          )
      | else-was-now-via-else-was-now w ↦ (small, done (rw w.io-is at honest) (λ a b one two same date. w.if-was-now.false date))
    ]
