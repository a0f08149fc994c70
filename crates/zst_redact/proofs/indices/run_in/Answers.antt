use Rattle.std.proofs.Common.{◌≡◌, ℕ, ◌==◌, ◌||◌, Bool, true, false, List, ◌∷◌, sym, ◌∙◌, subst}
use Rattle.std.specs.List.{AllZip}
use Rattle.std.proofs.lemmas.Result.{err_from_is_err_and}
use Rattle.zst_space.specs.FreeSectors.{FreeSectors}
use Rattle.zst_block.specs.Blocks.{Has}
use Rattle.zst_block.specs.IoStates.{blocks_of, disk_of}
use Rattle.zst_block.proofs.IoCallLemmas.{Looks-then}
use Rattle.zst_tree.specs.Damage.{IsSeen}
use Rattle.zst_tree.proofs.Damage.{seen_before}
use Rattle.zst_objset.specs.Damage.{IfDamaged, SlotStands, StandsIn}
use Rattle.zst_objset.specs.Dnodes.{SlotIs}
use Rattle.zst_objset.specs.Sets.{SetHolds}
use Rattle.zst_objset.proofs.LeafLaws.{look_on}
use Rattle.zst_redact.specs.Damage.{IsDamagedAmong}
use Rattle.zst_redact.specs.Wanted.{sets_beside}
use Rattle.zst_redact.proofs.Damage.{first_told, set_told}
use Rattle.zst_redact.proofs.Sets.{lawful_at}
use Rattle.zst_redact.proofs.WantedIndices.{absent_none, other_none, own_found}
use Rattle.zst_redact.proofs.indices.run_in.Goals as goal

-- a type of user data is an object's that has it
user_type : (type_ other : ℕ) (user answer : Bool) → type_ ≡ other → answer ≡ (type_ == 19 || type_ == 23) → answer ≡ user → (other == 19 || other == 23) ≡ user
user_type type_ other user answer same is told = subst (λ (t : ℕ). (t == 19 || t == 23) ≡ user) same (sym is ∙ told)

pub returns-in_err-slot-clause-found : goal.returns-in_err-slot-clause-found
returns-in_err-slot-clause-found g c = λ state kept honest hold.
    let p = err_from_is_err_and c.from_residual.result c.from_residual.ensures.1 in
    rw (p.1, p.2) (c.in_err-slot.ensures.found state honest hold.snapshot)

pub returns-in_err-slot-clause-range : goal.returns-in_err-slot-clause-range
returns-in_err-slot-clause-range g c =
    let p = err_from_is_err_and c.from_residual.result c.from_residual.ensures.1 in
    rw p.1 tt

pub returns-in_err-slot-clause-damaged : goal.returns-in_err-slot-clause-damaged
returns-in_err-slot-clause-damaged g c = λ honest.
    let p = err_from_is_err_and c.from_residual.result c.from_residual.ensures.1 in
    let disk = disk_of c.args.io.now in
    let fault = c.in_err-slot.field-0.0 in
    rw (p.1, p.2) (first_told (IsSeen disk.seen) disk.size c.args.snap.now (sets_beside c.args.wanted) fault (set_told (IsSeen disk.seen) disk.size c.args.snap.now fault (c.in_err-slot.ensures.damaged honest)))

pub returns-in_err-slot-clause-looks : goal.returns-in_err-slot-clause-looks
returns-in_err-slot-clause-looks g c =
    let p = err_from_is_err_and c.from_residual.result c.from_residual.ensures.1 in
    rw (p.1, p.2) c.in_err-slot.ensures.looks.looks

pub returns-in-Absent-clause-found : goal.returns-in-Absent-clause-found
returns-in-Absent-clause-found g c = λ state kept honest hold.
    let absent = subst (SlotIs (blocks_of c.slot_at.new.io) state c.args.object) c.in-Absent.is (c.in_ok-slot.ensures.found state honest hold.snapshot) in
    absent_none c.args.wanted state kept c.args.object c.args.from absent.none

pub returns-in-Absent-clause-range : goal.returns-in-Absent-clause-range
returns-in-Absent-clause-range g c = tt

pub returns-in-Absent-clause-damaged : goal.returns-in-Absent-clause-damaged
returns-in-Absent-clause-damaged g c = λ honest. tt

pub returns-in-Absent-clause-looks : goal.returns-in-Absent-clause-looks
returns-in-Absent-clause-looks g c = c.in_ok-slot.ensures.looks.looks

pub returns-then-is_user_data-clause-found : goal.returns-then-is_user_data-clause-found
returns-then-is_user_data-clause-found g c = λ state kept honest hold.
    let was = c.run_from.ensures.looks.reads.honest honest in
    let looks = c.in_ok-slot.ensures.looks.looks in
    let there = subst (SlotIs (blocks_of c.slot_at.new.io) state c.args.object) c.in-There.is (c.in_ok-slot.ensures.found state was hold.snapshot) in
    let user = user_type c.in-There.dnode.type_ there.object.attr.type_ true c.is_user_data.result there.is.type_is c.is_user_data.ensures c.if-is_user_data.true in
    let each = look_on (λ (seen : List ℕ) (space : FreeSectors). AllZip (SetHolds (Has seen space)) (sets_beside c.args.wanted) kept) looks hold.each in
    own_found c.args.wanted state kept c.args.object c.args.from there.object there.there user c.run_from.result
    (c.run_from.ensures.found there.object (state.number_date c.args.object) (state.index_date c.args.object) there.map kept honest (lawful_at state.state hold.snapshot.lawful c.args.object there.object there.there) there.is each)

pub returns-then-is_user_data-clause-range : goal.returns-then-is_user_data-clause-range
returns-then-is_user_data-clause-range g c = c.run_from.ensures.range

pub returns-then-is_user_data-clause-damaged : goal.returns-then-is_user_data-clause-damaged
returns-then-is_user_data-clause-damaged g c = λ honest.
    let was = c.run_from.ensures.looks.reads.honest honest in
    let looks = c.in_ok-slot.ensures.looks.looks in
    let stands = look_on (λ (seen : List ℕ) (space : FreeSectors). StandsIn (IsSeen seen) c.args.snap.now c.in-There.dnode) looks
    (subst (SlotStands (IsSeen (disk_of c.args.io.now).seen) c.args.snap.now) c.in-There.is (c.in_ok-slot.ensures.stands was)) in
    seen_before looks (λ (seen : List ℕ) (size : ℕ). IfDamaged c.run_from.result (IsDamagedAmong (IsSeen seen) size (c.args.snap.now ∷ sets_beside c.args.wanted))) (c.run_from.ensures.damaged c.args.snap.now honest stands)

pub returns-then-is_user_data-clause-looks : goal.returns-then-is_user_data-clause-looks
returns-then-is_user_data-clause-looks g c = Looks-then c.in_ok-slot.ensures.looks.looks c.run_from.ensures.looks

pub returns-else-is_user_data-clause-found : goal.returns-else-is_user_data-clause-found
returns-else-is_user_data-clause-found g c = λ state kept honest hold.
    let there = subst (SlotIs (blocks_of c.slot_at.new.io) state c.args.object) c.in-There.is (c.in_ok-slot.ensures.found state honest hold.snapshot) in
    let other = user_type c.in-There.dnode.type_ there.object.attr.type_ false c.is_user_data.result there.is.type_is c.is_user_data.ensures c.if-is_user_data.false in
    other_none c.args.wanted state kept c.args.object c.args.from there.object there.there other

pub returns-else-is_user_data-clause-range : goal.returns-else-is_user_data-clause-range
returns-else-is_user_data-clause-range g c = tt

pub returns-else-is_user_data-clause-damaged : goal.returns-else-is_user_data-clause-damaged
returns-else-is_user_data-clause-damaged g c = λ honest. tt

pub returns-else-is_user_data-clause-looks : goal.returns-else-is_user_data-clause-looks
returns-else-is_user_data-clause-looks g c = c.in_ok-slot.ensures.looks.looks
