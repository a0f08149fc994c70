use Rattle.std.proofs.Common.{arith, subst, sym, ℕ, List}
use Rattle.std.proofs.lemmas.Result.{err_from_is_err_and}
use Rattle.zst_space.specs.FreeSectors.{FreeSectors}
use Rattle.zst_block.specs.Blocks.{Has}
use Rattle.zst_block.specs.IoStates.{blocks_of}
use Rattle.zst_block.specs.declared.ptr.Ptr.{Ptr}
use Rattle.zst_objset.specs.Sets.{HasSlots, LeafIs}
use Rattle.zst_objset.proofs.LeafLaws.{look_on, look_back}
use Rattle.zst_objset.specs.TightSets.{IsTightLeaf}
use Rattle.zst_objset.proofs.TightLaws.{loaded_tight}
use Rattle.zst_tree.proofs.StepLooks.{AtMost-more, AtMost-none, AtMost-then}
use Rattle.zst_objset.proofs.SetChangeLaws.{most_told}
use Rattle.zst_objset.proofs.leaves.find_slots.Goals as goal

pub returns-then-set-gt7-clause-looks : goal.returns-then-set-gt7-clause-looks
returns-then-set-gt7-clause-looks g c = most_told _ c.of_layout.ensures (AtMost-none _)

pub returns-in_err-was-clause-looks : goal.returns-in_err-was-clause-looks
returns-in_err-was-clause-looks g c =
    let p = err_from_is_err_and c.from_residual.result c.from_residual.ensures.1 in
    rw (p.1, p.2) (AtMost-more (omega arith) c.in_err-was.ensures.looks)

pub returns-in_err-load_slots-clause-looks : goal.returns-in_err-load_slots-clause-looks
returns-in_err-load_slots-clause-looks g c =
    let p = err_from_is_err_and c.from_residual-in_err-load_slots.result c.from_residual-in_err-load_slots.ensures.1 in
    rw (p.1, p.2) (AtMost-then {more = 1} (omega arith) c.in_ok-was.ensures.looks (record { looks = c.in_err-load_slots.ensures.looks; calls = c.in_err-load_slots.ensures.calls }))

pub returns-clause-looks : goal.returns-clause-looks
returns-clause-looks g c = AtMost-then {more = 1} (omega arith) c.in_ok-was.ensures.looks (record { looks = c.in_ok-load_slots.ensures.looks; calls = c.in_ok-load_slots.ensures.calls })

pub returns-in_err-was-clause-slots : goal.returns-in_err-was-clause-slots
returns-in_err-was-clause-slots g c = λ snap honest holds.
    let p = err_from_is_err_and c.from_residual.result c.from_residual.ensures.1 in
    rw (p.1, p.2) (c.in_err-was.ensures.shows holds.map honest holds.tree)

pub returns-in_err-load_slots-clause-slots : goal.returns-in_err-load_slots-clause-slots
returns-in_err-load_slots-clause-slots g c = λ snap honest holds.
    let p = err_from_is_err_and c.from_residual-in_err-load_slots.result c.from_residual-in_err-load_slots.ensures.1 in
    let found = c.in_ok-was.ensures in
    let same = found.shows holds.map (c.load_slots.ensures.looks.reads.honest honest) holds.tree in
    let leaf = look_on (λ (seen : List ℕ) (space : FreeSectors). LeafIs (Has seen space) snap c.args.leaf c.in_ok-was.was') found.looks.looks
    (subst (λ (ptr : Ptr). LeafIs (blocks_of c.args.io.now) snap c.args.leaf ptr) (sym same) (holds.leaves c.args.leaf c.requires.leaf)) in
    rw (p.1, p.2) (c.in_err-load_slots.ensures.slots snap honest leaf)

pub returns-clause-slots : goal.returns-clause-slots
returns-clause-slots g c = λ snap honest holds.
    let found = c.in_ok-was.ensures in
    let same = found.shows holds.map (c.load_slots.ensures.looks.reads.honest honest) holds.tree in
    let leaf = look_on (λ (seen : List ℕ) (space : FreeSectors). LeafIs (Has seen space) snap c.args.leaf c.in_ok-was.was') found.looks.looks
    (subst (λ (ptr : Ptr). LeafIs (blocks_of c.args.io.now) snap c.args.leaf ptr) (sym same) (holds.leaves c.args.leaf c.requires.leaf)) in
    look_back (λ (seen : List ℕ) (space : FreeSectors). HasSlots (Has seen space) snap c.args.leaf c.load_slots.new.io.node) found.looks.looks
    (c.in_ok-load_slots.ensures.slots snap honest leaf)

pub returns-clause-tight : goal.returns-clause-tight
returns-clause-tight g c = λ snap honest tight.
    let found = c.in_ok-was.ensures in
    let has = blocks_of c.args.io.now in
    let same = found.shows tight.holds.map (c.load_slots.ensures.looks.reads.honest honest) tight.holds.tree in
    let leaf = look_on (λ (seen : List ℕ) (space : FreeSectors). LeafIs (Has seen space) snap c.args.leaf c.in_ok-was.was') found.looks.looks
    (subst (λ (ptr : Ptr). LeafIs has snap c.args.leaf ptr) (sym same) (tight.holds.leaves c.args.leaf c.requires.leaf)) in
    let leaf_tight = look_on (λ (seen : List ℕ) (space : FreeSectors). IsTightLeaf (Has seen space) snap c.args.leaf c.in_ok-was.was') found.looks.looks
    (subst (λ (ptr : Ptr). IsTightLeaf has snap c.args.leaf ptr) (sym same) (tight.tight c.args.leaf c.requires.leaf)) in
    loaded_tight _ _ snap c.args.leaf c.in_ok-was.was' _ leaf leaf_tight (c.in_ok-load_slots.ensures.slots snap honest leaf) (c.in_ok-load_slots.ensures.loaded honest)

pub returns-then-set-gt7-clause-levels : goal.returns-then-set-gt7-clause-levels
returns-then-set-gt7-clause-levels g c = tt

pub returns-then-set-gt7-clause-hangs : goal.returns-then-set-gt7-clause-hangs
returns-then-set-gt7-clause-hangs g c = λ honest. tt

pub returns-then-set-gt7-clause-loaded : goal.returns-then-set-gt7-clause-loaded
returns-then-set-gt7-clause-loaded g c = λ honest. tt

pub returns-then-set-gt7-clause-tight : goal.returns-then-set-gt7-clause-tight
returns-then-set-gt7-clause-tight g c = λ snap honest tight. tt

pub leaf_at-requires-clause-index : goal.leaf_at-requires-clause-index
leaf_at-requires-clause-index g c = c.requires.leaf

pub load_slots-requires : goal.load_slots-requires
load_slots-requires g c = record { leaf = c.requires.leaf }

pub returns-in_err-was-clause-levels : goal.returns-in_err-was-clause-levels
returns-in_err-was-clause-levels g c =
    let p = err_from_is_err_and c.from_residual.result c.from_residual.ensures.1 in
    rw p.1 tt

pub returns-in_err-was-clause-hangs : goal.returns-in_err-was-clause-hangs
returns-in_err-was-clause-hangs g c = λ honest.
    let p = err_from_is_err_and c.from_residual.result c.from_residual.ensures.1 in
    rw p.1 tt

pub returns-in_err-was-clause-loaded : goal.returns-in_err-was-clause-loaded
returns-in_err-was-clause-loaded g c = λ honest.
    let p = err_from_is_err_and c.from_residual.result c.from_residual.ensures.1 in
    rw p.1 tt

pub returns-in_err-was-clause-tight : goal.returns-in_err-was-clause-tight
returns-in_err-was-clause-tight g c = λ snap honest tight.
    let p = err_from_is_err_and c.from_residual.result c.from_residual.ensures.1 in
    rw p.1 tt

pub returns-in_err-load_slots-clause-levels : goal.returns-in_err-load_slots-clause-levels
returns-in_err-load_slots-clause-levels g c =
    let p = err_from_is_err_and c.from_residual-in_err-load_slots.result c.from_residual-in_err-load_slots.ensures.1 in
    rw p.1 tt

pub returns-in_err-load_slots-clause-hangs : goal.returns-in_err-load_slots-clause-hangs
returns-in_err-load_slots-clause-hangs g c = λ honest.
    let p = err_from_is_err_and c.from_residual-in_err-load_slots.result c.from_residual-in_err-load_slots.ensures.1 in
    rw p.1 tt

pub returns-in_err-load_slots-clause-loaded : goal.returns-in_err-load_slots-clause-loaded
returns-in_err-load_slots-clause-loaded g c = λ honest.
    let p = err_from_is_err_and c.from_residual-in_err-load_slots.result c.from_residual-in_err-load_slots.ensures.1 in
    rw p.1 tt

pub returns-in_err-load_slots-clause-tight : goal.returns-in_err-load_slots-clause-tight
returns-in_err-load_slots-clause-tight g c = λ snap honest tight.
    let p = err_from_is_err_and c.from_residual-in_err-load_slots.result c.from_residual-in_err-load_slots.ensures.1 in
    rw p.1 tt

pub returns-clause-damaged : goal.returns-clause-damaged
returns-clause-damaged g c = λ honest. tt

pub returns-clause-hangs : goal.returns-clause-hangs
returns-clause-hangs g c = λ honest. c.in_ok-was.ensures.hangs (c.in_ok-load_slots.ensures.looks.reads.honest honest)
