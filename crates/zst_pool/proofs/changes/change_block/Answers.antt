use Rattle.std.specs.Prelude.{Option, Result}
use Rattle.zst_block.specs.declared.fault.BlockFault.{BlockFault}
use Rattle.zst_tree.specs.declared.or_memory.OrMemory.{OrMemory}
use Rattle.zst_objset.specs.declared.fault.ObjFault.{ObjFault}
use Rattle.zst_tree.specs.declared.or_memory.OrMemory.TheVariants.{Memory}
use Rattle.std.proofs.Common.{◌≡◌, inl, inr, ℕ, ◌+◌, ◌/◌, List, length, sym, ap, ◌∙◌, subst, arith}
use Rattle.zst_block.specs.Blocks.{Has, SparesTaken}
use Rattle.zst_model.specs.declared.refusals.refusal.Refusal.{Refusal}
use Rattle.zst_model.specs.pools.Step.{filled, written}
use Rattle.zst_model.specs.states.DatedState.{DatedState, size_at}
use Rattle.zst_model.proofs.Results.{err_is}
use Rattle.zst_objset.specs.Answers.{Changes}
use Rattle.zst_objset.specs.Changes.{block_written}
use Rattle.zst_objset.proofs.LeafLaws.{look_on}
use Rattle.zst_tree.specs.Sets.{SetFits}
use Rattle.zst_image.proofs.OnePool.{SetIs-holds}
use Rattle.zst_pool.proofs.ChangeDates.{changes_known, written_dated}
use Rattle.zst_pool.specs.Faults.{of_set, or_memory}
use Rattle.zst_pool.specs.Heads.{ChangesHead, Works, of_change}
use Rattle.zst_objset.specs.OrMemory.{IfTold, stop_of}
use Rattle.zst_pool.specs.Damage.{block_damage}
use Rattle.zst_image.specs.Reads.{SetIs, bound_of, new_pool}
use Rattle.zst_space.specs.FreeSectors.{FreeSectors}
use Rattle.zst_block.specs.IoStates.{io_of}
use Rattle.zst_block.proofs.IoCallLemmas.{Works-after, Works-looks, Works-more}
use Rattle.zst_tree.specs.Damage.{IsSeen, NamesNode}
use Rattle.zst_objset.specs.Damage.{IsDamagedObject, IsDamagedSet}
use Rattle.zst_pool.proofs.HeadChanges.{filled_length}
use Rattle.zst_pool.proofs.DamageLemmas.{damaged_call, damaged_err}
use Rattle.zst_pool.proofs.Room.{block-sectors}
use Rattle.zst_pool.proofs.SetCalls.{call_changes, call_ok, call_works, stop_same}
use Rattle.zst_pool.proofs.changes.change_block.Given.{Over}
use Rattle.zst_pool.specs.declared.fault.PoolFault.TheVariants.{Plan}
use Rattle.zst_pool.proofs.PlanLemmas.{past_indices}
use Rattle.zst_pool.proofs.changes.change_block.Goals as goal
use Rattle.zst_pool.proofs.changes.change_block.Goals.{After-answer}

pub returns-in_err-size-clause-changed : goal.returns-in_err-size-clause-changed
returns-in_err-size-clause-changed g c = λ tight pool head told number holds.
    let has = Has (g.D.Disk.state c.find_size.new.io.disk.now).seen c.find_size.new.io.space in
    subst (ChangesHead (bound_of tight c.args.number) has c.args.set.now (written pool c.args.object c.args.index c.args.bytes.now head)) (sym (err_is c.from_residual.result c.in_err-size.field-0.0 c.from_residual.ensures.1))
    (c.in_err-size.ensures.found pool c.args.index head told (SetIs-holds (bound_of tight c.args.number) _ c.args.set.now head holds))

pub returns-clause-changed : goal.returns-clause-changed
returns-clause-changed g c = λ tight pool head told number holds.
    let old = g.D.Disk.state c.args.io.now.disk.now in
    let mid = g.D.Disk.state c.find_size.new.io.disk.now in
    let less = c.find_size.new.io.space in
    let has = Has (g.D.Disk.state c.write_block.new.io.disk.now).seen c.write_block.new.io.space in
    let set = c.write_block.new.self in
    let k = c.args.object in
    let i = c.args.index in
    let bytes = c.args.bytes.now in
    let found = c.in_ok-size.ensures.found pool i head (c.write_block.ensures.changes.set.keeps.works.fills.honest told) (SetIs-holds (bound_of tight c.args.number) _ c.args.set.now head holds) in
    let grown = look_on (λ (seen : List ℕ) (space : FreeSectors). SetIs (bound_of tight c.args.number) (Has seen space) c.args.set.now head) c.in_ok-size.ensures.looks holds in
    let block = c.deref.ensures.value ∙ c.in_ok-block.ensures ∙ ap (λ (size : ℕ). filled size bytes) found in
    let same = ap (λ (b : List ℕ). block_written c.args.number k i b head) block
    ∙ ap (λ (n : ℕ). block_written n k i (filled (size_at (head.state k)) bytes) head) (sym number)
    ∙ c.changes_are_commands.ensures.write pool k i bytes head in
    let known = changes_known tight c.args.number (Has mid.seen less) has c.args.set.now set head (block_written c.args.number k i c.deref.result.now head) c.write_block.result
    (c.write_block.ensures.changes.set.changed head told) (c.write_block.ensures.changes.tight head told) (written_dated c.args.number k i c.deref.result.now head) grown in
    let is = subst (λ (r : Result DatedState Refusal). Changes (SetIs (bound_of tight c.args.number) has set) r c.write_block.result) same known in
    call_changes c.write_block.result c.answer.result c.answer.ensures (bound_of tight c.args.number) has set (written pool k i bytes head) is

-- what is taken for the block, of a size that was found
taken : (g : Over) (c : After-answer g) (size : ℕ) → length c.deref.result.now ≡ size → Works 1 (size / 512) (io_of c.args.io.now) (io_of c.write_block.new.io) (stop_of c.answer.result)
taken g c size long =
    subst (λ (n : ℕ). Works 1 (n / 512) (io_of c.args.io.now) (io_of c.write_block.new.io) (stop_of c.answer.result)) long
    (Works-more (omega arith) (Works-after c.in_ok-size.ensures.looks (call_works c.write_block.result c.answer.result c.answer.ensures c.write_block.ensures.changes.set.keeps.works)))

long : (g : Over) (c : After-answer g) → length c.deref.result.now ≡ c.in_ok-size.size
long g c = ap (λ (b : List ℕ). length b) (c.deref.ensures.value ∙ c.in_ok-block.ensures) ∙ filled_length c.in_ok-size.size c.args.bytes.now c.in_ok-size.ensures.room

pub returns-clause-works : goal.returns-clause-works
returns-clause-works g c =
    let at = (goal.at.returns-clause-works g c).After-answer in
    let size = c.in_ok-size.size in
    (size / 512, block-sectors size c.in_ok-size.ensures.size, taken g at size (long g at))

pub returns-clause-exact : goal.returns-clause-exact
returns-clause-exact g c = λ head told holds.
    let at = (goal.at.returns-clause-exact g c).After-answer in
    taken g at (size_at (head.state c.args.object)) (long g at ∙ c.in_ok-size.ensures.found (new_pool 0) c.args.index head (c.write_block.ensures.changes.set.keeps.works.fills.honest told) holds)

pub returns-in_err-size-clause-damaged : goal.returns-in_err-size-clause-damaged
returns-in_err-size-clause-damaged g c = λ told.
    let old = g.D.Disk.state c.args.io.now.disk.now in
    let fault = c.in_err-size.field-0.0 in
    damaged_err (IsDamagedSet (IsSeen old.seen) old.size c.args.set.now) (block_damage old c.args.io.now.space c.args.set.now) (λ sector stated found is. inl is) ℕ fault c.from_residual.result (err_is c.from_residual.result fault c.from_residual.ensures.1) (c.in_err-size.ensures.damaged told)

pub returns-clause-damaged : goal.returns-clause-damaged
returns-clause-damaged g c = λ told.
    let old = g.D.Disk.state c.args.io.now.disk.now in
    let mid = g.D.Disk.state c.find_size.new.io.disk.now in
    let set = c.args.set.now in
    let looks = c.in_ok-size.ensures.looks in
    let over = λ (space : FreeSectors) (seen : List ℕ) (size : ℕ) (sector : ℕ) (stated found : List ℕ). IsDamagedObject (SparesTaken space seen) size NamesNode set sector stated found in
    damaged_call (over c.find_size.new.io.space mid.seen mid.size) (block_damage old c.args.io.now.space set)
    (λ sector stated found is.
    inr (subst (λ (space : FreeSectors). over space old.seen old.size sector stated found) looks.space
    (subst (λ (seen : List ℕ). over c.find_size.new.io.space seen old.size sector stated found) looks.reads.seen
    (subst (λ (size : ℕ). over c.find_size.new.io.space mid.seen size sector stated found) looks.reads.size is))))
    c.write_block.result c.answer.result c.answer.ensures (c.write_block.ensures.changes.set.keeps.damaged told)

pub returns-in_err-size-clause-works : goal.returns-in_err-size-clause-works
returns-in_err-size-clause-works g c =
    let fault = c.in_err-size.field-0.0 in
    let works = λ (stop : Option BlockFault). Works 1 0 (io_of c.args.io.now) (io_of c.find_size.new.io) stop in
    let stop = stop_same ℕ (Unit {0}) fault ∙ ap (λ (r : Result (Unit {0}) (OrMemory ObjFault)). stop_of r) (sym (err_is c.from_residual.result fault c.from_residual.ensures.1)) in
    (0, omega arith, subst works stop (Works-looks c.in_err-size.ensures.looks))

pub returns-in_err-block-clause-works : goal.returns-in_err-block-clause-works
returns-in_err-block-clause-works g c =
    let fell = c.from_residual-in_err-block in
    let works = λ (stop : Option BlockFault). Works 1 0 (io_of c.args.io.now) (io_of c.find_size.new.io) stop in
    let stop = ap (λ (r : Result (Unit {0}) (OrMemory ObjFault)). stop_of r) (sym (err_is fell.result Memory fell.ensures.1)) in
    (0, omega arith, subst works stop (Works-looks c.in_ok-size.ensures.looks))

pub returns-clause-levels : goal.returns-clause-levels
returns-clause-levels g c = call_ok c.write_block.result c.answer.result c.answer.ensures (SetFits c.write_block.new.self) c.write_block.ensures.changes.levels

pub returns-in_err-size-clause-limits : goal.returns-in_err-size-clause-limits
returns-in_err-size-clause-limits g c = λ fault is.
    let fell = c.in_err-size.field-0.0 in
    let told = sym (ap of_change (err_is c.from_residual.result fell c.from_residual.ensures.1)) ∙ is in
    let same : or_memory of_set fell ≡ Plan fault = cc (told) in
    absurd (c.in_err-size.ensures.limits fault same)

pub returns-in_err-block-clause-limits : goal.returns-in_err-block-clause-limits
returns-in_err-block-clause-limits g c = λ fault is.
    let fell = c.from_residual-in_err-block in
    let told = sym (ap of_change (err_is fell.result Memory fell.ensures.1)) ∙ is in
    absurd (cc (told))

pub returns-clause-limits : goal.returns-clause-limits
returns-clause-limits g c = past_indices (c.args.index + 1) c.write_block.result c.answer.ensures c.write_block.ensures.changes.set.keeps.limits

pub returns-in_err-size-clause-exact : goal.returns-in_err-size-clause-exact
returns-in_err-size-clause-exact g c = λ head told holds.
    let fault = c.in_err-size.field-0.0 in
    let block = size_at (head.state c.args.object) / 512 in
    let works = λ (stop : Option BlockFault). Works 1 block (io_of c.args.io.now) (io_of c.find_size.new.io) stop in
    let stop = stop_same ℕ (Unit {0}) fault ∙ ap (λ (r : Result (Unit {0}) (OrMemory ObjFault)). stop_of r) (sym (err_is c.from_residual.result fault c.from_residual.ensures.1)) in
    subst works stop (Works-looks c.in_err-size.ensures.looks)

pub returns-in_err-block-clause-exact : goal.returns-in_err-block-clause-exact
returns-in_err-block-clause-exact g c = λ head told holds.
    let fell = c.from_residual-in_err-block in
    let block = size_at (head.state c.args.object) / 512 in
    let works = λ (stop : Option BlockFault). Works 1 block (io_of c.args.io.now) (io_of c.find_size.new.io) stop in
    let stop = ap (λ (r : Result (Unit {0}) (OrMemory ObjFault)). stop_of r) (sym (err_is fell.result Memory fell.ensures.1)) in
    subst works stop (Works-looks c.in_ok-size.ensures.looks)

pub returns-in_err-block-clause-changed : goal.returns-in_err-block-clause-changed
returns-in_err-block-clause-changed g c = λ tight pool head told number holds.
    let fell = c.from_residual-in_err-block in
    let has = Has (g.D.Disk.state c.find_size.new.io.disk.now).seen c.find_size.new.io.space in
    subst (ChangesHead (bound_of tight c.args.number) has c.args.set.now (written pool c.args.object c.args.index c.args.bytes.now head)) (sym (err_is fell.result Memory fell.ensures.1)) tt

pub returns-in_err-block-clause-damaged : goal.returns-in_err-block-clause-damaged
returns-in_err-block-clause-damaged g c = λ told.
    let fell = c.from_residual-in_err-block in
    let old = g.D.Disk.state c.args.io.now.disk.now in
    subst (λ (r : Result (Unit {0}) (OrMemory ObjFault)). IfTold r (block_damage old c.args.io.now.space c.args.set.now)) (sym (err_is fell.result Memory fell.ensures.1)) tt
