use Rattle.std.proofs.Common.{rules, ℕ, ◌/◌, List, arith}
use Rattle.std.proofs.lemmas.Result.{err_from_is_err_and}
use Rattle.zst_space.specs.FreeSectors.{FreeSectors}
use Rattle.zst_block.specs.Blocks.{Has}
use Rattle.zst_objset.specs.Sets.{HasSlots, LeafIs}
use Rattle.zst_objset.proofs.LeafLaws.{look_on}
use Rattle.zst_objset.proofs.SearchLaws.{from_shown, hole_shown, lacks_none, leaf_shown}
use Rattle.zst_tree.proofs.StepLooks.{AtMost-more, AtMost-none, AtMost-then}
use Rattle.zst_objset.proofs.SetChangeLaws.{most_told}
use Rattle.zst_objset.proofs.searches.look_ahead.Goals as goal

pub returns-then-set-gt7-clause-looks : goal.returns-then-set-gt7-clause-looks
returns-then-set-gt7-clause-looks g c = most_told _ c.of_layout.ensures (AtMost-none _)

pub returns-in_err-was-clause-looks : goal.returns-in_err-was-clause-looks
returns-in_err-was-clause-looks g c =
    let p = err_from_is_err_and c.from_residual.result c.from_residual.ensures.1 in
    rw (p.1, p.2) (AtMost-more (omega arith) c.in_err-was.ensures.looks)

pub returns-then-was-eq0-clause-looks : goal.returns-then-was-eq0-clause-looks
returns-then-was-eq0-clause-looks g c = AtMost-more (omega arith) c.in_ok-was.ensures.looks

pub returns-in_err-load_slots-clause-looks : goal.returns-in_err-load_slots-clause-looks
returns-in_err-load_slots-clause-looks g c =
    let p = err_from_is_err_and c.from_residual-in_err-load_slots.result c.from_residual-in_err-load_slots.ensures.1 in
    rw (p.1, p.2) (AtMost-then {more = 1} (omega arith) c.in_ok-was.ensures.looks (record { looks = c.in_err-load_slots.ensures.looks; calls = c.in_err-load_slots.ensures.calls }))

pub returns-in-Some-clause-looks : goal.returns-in-Some-clause-looks
returns-in-Some-clause-looks g c = AtMost-then {more = 1} (omega arith) c.in_ok-was.ensures.looks (record { looks = c.in_ok-load_slots.ensures.looks; calls = c.in_ok-load_slots.ensures.calls })

pub returns-in-None-clause-looks : goal.returns-in-None-clause-looks
returns-in-None-clause-looks g c = most_told _ c.of_layout-in-None.ensures (AtMost-then {more = 1} (omega arith) c.in_ok-was.ensures.looks (record { looks = c.in_ok-load_slots.ensures.looks; calls = c.in_ok-load_slots.ensures.calls }))

pub returns-in_err-was-clause-shows : goal.returns-in_err-was-clause-shows
returns-in_err-was-clause-shows g c = λ state honest holds.
    let p = err_from_is_err_and c.from_residual.result c.from_residual.ensures.1 in
    rw (p.1, p.2) (c.in_err-was.ensures.shows holds.map honest holds.tree)

pub returns-then-was-eq0-clause-shows : goal.returns-then-was-eq0-clause-shows
returns-then-was-eq0-clause-shows g c = λ state honest holds.
    hole_shown _ c.args.set.now state holds c.args.from c.in_ok-was.count c.in_ok-was.was' c.requires.from.0 c.requires.from.1 (search rules) (c.in_ok-was.ensures.shows holds.map honest holds.tree)

pub returns-in_err-load_slots-clause-shows : goal.returns-in_err-load_slots-clause-shows
returns-in_err-load_slots-clause-shows g c = λ state honest holds.
    let p = err_from_is_err_and c.from_residual-in_err-load_slots.result c.from_residual-in_err-load_slots.ensures.1 in
    let found = c.in_ok-was.ensures in
    rw (p.1, p.2) (c.in_err-load_slots.ensures.slots state honest
    (look_on (λ (seen : List ℕ) (space : FreeSectors). LeafIs (Has seen space) state (c.args.from / 16) c.in_ok-was.was') found.looks.looks
    (leaf_shown _ c.args.set.now state holds (c.args.from / 16) c.in_ok-was.count c.in_ok-was.was' (omega (arith, c.requires.from.1)) (found.shows holds.map (c.in_err-load_slots.ensures.looks.reads.honest honest) holds.tree))))

pub returns-in-None-clause-shows : goal.returns-in-None-clause-shows
returns-in-None-clause-shows g c = λ state honest holds.
    let found = c.in_ok-was.ensures in
    let loaded = c.in_ok-load_slots.ensures.slots state honest
    (look_on (λ (seen : List ℕ) (space : FreeSectors). LeafIs (Has seen space) state (c.args.from / 16) c.in_ok-was.was') found.looks.looks
    (leaf_shown _ c.args.set.now state holds (c.args.from / 16) c.in_ok-was.count c.in_ok-was.was' (omega (arith, c.requires.from.1)) (found.shows holds.map (c.in_ok-load_slots.ensures.looks.reads.honest honest) holds.tree))) in
    absurd (lacks_none _ loaded.slots loaded.spells c.in-None.ensures.none)

pub returns-in-Some-clause-shows : goal.returns-in-Some-clause-shows
returns-in-Some-clause-shows g c = λ state honest holds.
    let found = c.in_ok-was.ensures in
    let loaded = c.in_ok-load_slots.ensures.slots state honest
    (look_on (λ (seen : List ℕ) (space : FreeSectors). LeafIs (Has seen space) state (c.args.from / 16) c.in_ok-was.was') found.looks.looks
    (leaf_shown _ c.args.set.now state holds (c.args.from / 16) c.in_ok-was.count c.in_ok-was.was' (omega (arith, c.requires.from.1)) (found.shows holds.map (c.in_ok-load_slots.ensures.looks.reads.honest honest) holds.tree))) in
    let now = look_on (λ (seen : List ℕ) (space : FreeSectors). HasSlots (Has seen space) state (c.args.from / 16) c.load_slots.new.io.node) c.in_ok-load_slots.ensures.looks loaded in
    from_shown _ state c.args.from c.load_slots.new.io.node now c.in-Some.ahead c.requires.from.0 c.requires.from.1 (c.in-Some.ensures.shows now.slots now.spells)

pub returns-then-set-gt7-clause-ranges : goal.returns-then-set-gt7-clause-ranges
returns-then-set-gt7-clause-ranges g c = tt

pub returns-in_err-was-clause-ranges : goal.returns-in_err-was-clause-ranges
returns-in_err-was-clause-ranges g c =
    let p = err_from_is_err_and c.from_residual.result c.from_residual.ensures.1 in
    rw p.1 tt

pub returns-then-was-eq0-clause-damaged : goal.returns-then-was-eq0-clause-damaged
returns-then-was-eq0-clause-damaged g c = λ honest. tt

pub returns-in_err-load_slots-clause-ranges : goal.returns-in_err-load_slots-clause-ranges
returns-in_err-load_slots-clause-ranges g c =
    let p = err_from_is_err_and c.from_residual-in_err-load_slots.result c.from_residual-in_err-load_slots.ensures.1 in
    rw p.1 tt

pub returns-in-Some-clause-damaged : goal.returns-in-Some-clause-damaged
returns-in-Some-clause-damaged g c = λ honest. tt

pub returns-in-None-clause-ranges : goal.returns-in-None-clause-ranges
returns-in-None-clause-ranges g c = tt
