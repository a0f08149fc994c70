use Rattle.std.proofs.Common.{◌≡◌, ◌+◌, ◌*◌, ◌/◌, ◌^◌, ◌<◌, ℕ, length, sym, ap, ◌∙◌, subst, arith}
use Rattle.std.proofs.lemmas.List.Elements.{All-from_get_or}
use Rattle.zst_block.proofs.IoCallLemmas.{Works-more}
use Rattle.zst_objset.proofs.LeafLaws.{is_number_at}
use Rattle.zst_objset.proofs.RunLaws.{may_write}
use Rattle.zst_objset.proofs.WriteLaws.{block_some}
use Rattle.zst_apply.proofs.RunLaws.{applies_both, applies_one, both, one_works, place_fits, run_of, so_many}
use Rattle.zst_apply.proofs.SetChanges.{fits_then, keeps_by, no_limit}
use Rattle.zst_apply.proofs.SetFaults.{names_told}
use Rattle.std.specs.Prelude.{List}
use Rattle.zst_block.specs.IoStates.{blocks_of}
use Rattle.zst_model.specs.declared.states.item.Change.TheVariants.{Write}
use Rattle.zst_model.specs.declared.states.item.Item.TheVariants.{At}
use Rattle.zst_model.specs.sends.ReceivedRecords.{received}
use Rattle.zst_objset.specs.Sets.{SetHolds}
use Rattle.zst_objset.specs.TightSets.{SetIsTight}
use Rattle.zst_apply.specs.AppliedRecords.{Applies}
use Rattle.zst_apply.proofs.runs.write_run.Goals as goal

pub overflow_mul-index : goal.overflow_mul-index
overflow_mul-index g c =
    let fits = place_fits c.args.size c.args.index c.requires.size (omega (arith, c.requires.run.inside, c.requires.some)) in
    rw c.from.ensures (omega (arith, fits))

pub returns-then-count-eq1-clause-changed : goal.returns-then-count-eq1-clause-changed
returns-then-count-eq1-clause-changed g c = λ records thing state honest holds there size_is long.
    let alone = c.if-count-eq1.true in
    let all = both c.args.number c.args.object c.args.size c.args.index records c.args.bytes.now state state _ _ c.applied_is_state.ensures (is_number_at c.args.object c.requires.object.0 c.requires.object.1) (block_some c.args.size c.requires.size) size_is
    (run_of state c.args.object thing there holds.lawful holds.bounded)
    (may_write c.args.size c.args.index (length records) c.args.bytes.now (c.requires.run.long_is ∙ ap (λ (n : ℕ). n * c.args.size) (sym long)) c.requires.even (rw long c.requires.run.inside) (All-from_get_or (λ byte. byte < 2 ^ 8) c.args.bytes.now 0 (λ k within. (c.type_inv.bytes k).fits))) in
    let has = blocks_of c.write_block.new.io in
    applies_one c.args.number c.args.object c.args.size c.args.index records c.args.bytes.now state all.now (SetHolds has c.write_block.new.set) c.write_block.result (long ∙ alone) (c.requires.run.long_is ∙ ap (λ (n : ℕ). n * c.args.size) alone) all.received_is
    (λ one. subst (λ (n : ℕ). Applies one.0 (SetHolds has c.write_block.new.set) (received c.args.number one.0 (At c.args.object (Write (c.args.index * n) one.1 c.args.bytes.now)) state) c.write_block.result) c.from.ensures
    ((c.write_block.ensures.changed one.1).changed one.0 state honest holds))

pub returns-then-count-eq1-clause-tight : goal.returns-then-count-eq1-clause-tight
returns-then-count-eq1-clause-tight g c = λ records thing state honest tight dated there size_is long.
    let holds = tight.holds in
    let alone = c.if-count-eq1.true in
    let all = both c.args.number c.args.object c.args.size c.args.index records c.args.bytes.now state state _ _ c.applied_is_state.ensures (is_number_at c.args.object c.requires.object.0 c.requires.object.1) (block_some c.args.size c.requires.size) size_is
    (run_of state c.args.object thing there holds.lawful holds.bounded)
    (may_write c.args.size c.args.index (length records) c.args.bytes.now (c.requires.run.long_is ∙ ap (λ (n : ℕ). n * c.args.size) (sym long)) c.requires.even (rw long c.requires.run.inside) (All-from_get_or (λ byte. byte < 2 ^ 8) c.args.bytes.now 0 (λ k within. (c.type_inv.bytes k).fits))) in
    let has = blocks_of c.write_block.new.io in
    applies_one c.args.number c.args.object c.args.size c.args.index records c.args.bytes.now state all.now (SetIsTight has c.write_block.new.set) c.write_block.result (long ∙ alone) (c.requires.run.long_is ∙ ap (λ (n : ℕ). n * c.args.size) alone) all.received_is
    (λ one. subst (λ (n : ℕ). Applies one.0 (SetIsTight has c.write_block.new.set) (received c.args.number one.0 (At c.args.object (Write (c.args.index * n) one.1 c.args.bytes.now)) state) c.write_block.result) c.from.ensures
    ((c.write_block.ensures.changed one.1).tight one.0 state honest tight dated))

pub returns-then-count-eq1-clause-keeps : goal.returns-then-count-eq1-clause-keeps
returns-then-count-eq1-clause-keeps g c =
    let alone = c.if-count-eq1.true in
    let whole : length c.args.bytes.now ≡ c.args.size = c.requires.run.long_is ∙ ap (λ (n : ℕ). n * c.args.size) alone ∙ omega arith in
    let keeps = (c.write_block.ensures.changed 0).keeps in
    record { limits = keeps.limits; unredacted = keeps.unredacted; damaged = keeps.damaged; kept = keeps.kept; works = one_works c.args.size c.args.count (length c.args.bytes.now) alone whole keeps.works }

pub returns-then-count-eq1-clause-trees : goal.returns-then-count-eq1-clause-trees
returns-then-count-eq1-clause-trees g c = (c.write_block.ensures.changed 0).within

pub returns-then-count-eq1-clause-levels : goal.returns-then-count-eq1-clause-levels
returns-then-count-eq1-clause-levels g c = (c.write_block.ensures.changed 0).levels

pub returns-clause-changed : goal.returns-clause-changed
returns-clause-changed g c = λ records thing state honest holds there size_is long.
    let all = both c.args.number c.args.object c.args.size c.args.index records c.args.bytes.now state state _ _ c.applied_is_state.ensures (is_number_at c.args.object c.requires.object.0 c.requires.object.1) (block_some c.args.size c.requires.size) size_is
    (run_of state c.args.object thing there holds.lawful holds.bounded)
    (may_write c.args.size c.args.index (length records) c.args.bytes.now (c.requires.run.long_is ∙ ap (λ (n : ℕ). n * c.args.size) (sym long)) c.requires.even (rw long c.requires.run.inside) (All-from_get_or (λ byte. byte < 2 ^ 8) c.args.bytes.now 0 (λ k within. (c.type_inv.bytes k).fits))) in
    applies_both _ _ _ all.now (so_many c.args.number c.args.object c.args.size c.args.index c.args.count records c.args.bytes.now state all.now long all.written) all.received_is c.write_blocks.result (c.write_blocks.ensures.changes.set.changed state honest holds)

pub returns-clause-tight : goal.returns-clause-tight
returns-clause-tight g c = λ records thing state honest tight dated there size_is long.
    let holds = tight.holds in
    let all = both c.args.number c.args.object c.args.size c.args.index records c.args.bytes.now state state _ _ c.applied_is_state.ensures (is_number_at c.args.object c.requires.object.0 c.requires.object.1) (block_some c.args.size c.requires.size) size_is
    (run_of state c.args.object thing there holds.lawful holds.bounded)
    (may_write c.args.size c.args.index (length records) c.args.bytes.now (c.requires.run.long_is ∙ ap (λ (n : ℕ). n * c.args.size) (sym long)) c.requires.even (rw long c.requires.run.inside) (All-from_get_or (λ byte. byte < 2 ^ 8) c.args.bytes.now 0 (λ k within. (c.type_inv.bytes k).fits))) in
    applies_both _ _ _ all.now (so_many c.args.number c.args.object c.args.size c.args.index c.args.count records c.args.bytes.now state all.now long all.written) all.received_is c.write_blocks.result (c.write_blocks.ensures.changes.tight state honest tight dated)

pub returns-clause-keeps : goal.returns-clause-keeps
returns-clause-keeps g c =
    let result = c.write_blocks.result in
    let keeps = keeps_by result (no_limit result) (names_told _ _ c.args.set.now result) c.write_blocks.ensures.changes.set.keeps in
    record { limits = keeps.limits; unredacted = keeps.unredacted; damaged = keeps.damaged; kept = keeps.kept; works = Works-more (omega arith) keeps.works }

pub returns-clause-trees : goal.returns-clause-trees
returns-clause-trees g c = c.write_blocks.ensures.trees

pub returns-clause-levels : goal.returns-clause-levels
returns-clause-levels g c =
    let wrote = c.write_blocks.ensures.changes in
    fits_then _ _ c.write_blocks.result wrote.set.keeps.kept wrote.levels
