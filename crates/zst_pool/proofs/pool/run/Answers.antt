use Rattle.std.proofs.Common.{[], sym, subst, ◌≡◌, ◌<◌, ℕ, List, length}
use Rattle.zst_block.specs.IoStates.{io_of}
use Rattle.zst_model.specs.declared.pools.command.Command.{Command}
use Rattle.zst_model.specs.declared.pools.command.Command.TheVariants.{Redact, Write}
use Rattle.zst_model.specs.pools.Step.{IsCommand, IsRedact, stepped}
use Rattle.zst_pool.specs.Cost.{cost_of}
use Rattle.zst_pool.specs.Damage.{TellsDamage}
use Rattle.zst_pool.specs.CommandRuns.{RunsByPlan}
use Rattle.zst_pool.specs.PartialRows.{rows_after}
use Rattle.zst_pool.specs.Plans.{indices_end, makes_list, numbers_end}
use Rattle.zst_pool.proofs.pool.run.Goals as goal

pub returns-in-Fs : goal.returns-in-Fs
unfolding stepped
returns-in-Fs g c = record {
  does = λ held.
      subst (λ (command : Command). RunsByPlan (λ pool. stepped [] c.args.now command pool) (cost_of command) (TellsDamage command held c.args.kept.now.body c.args.kept.now.dir (g.D.Disk.state c.args.io.now.disk.now)) (numbers_end command) (indices_end command) (makes_list command) (rows_after command) c.args.kept.now (io_of c.args.io.now) (io_of c.make_dataset.new.io) c.make_dataset.result)
      (sym c.in-Fs.is) c.make_dataset.ensures.does;
}

pub returns-in-Volume : goal.returns-in-Volume
unfolding stepped
returns-in-Volume g c = record {
  does = λ held.
      subst (λ (command : Command). RunsByPlan (λ pool. stepped [] c.args.now command pool) (cost_of command) (TellsDamage command held c.args.kept.now.body c.args.kept.now.dir (g.D.Disk.state c.args.io.now.disk.now)) (numbers_end command) (indices_end command) (makes_list command) (rows_after command) c.args.kept.now (io_of c.args.io.now) (io_of c.make_dataset-in-Volume.new.io) c.make_dataset-in-Volume.result)
      (sym c.in-Volume.is) c.make_dataset-in-Volume.ensures.does;
}

pub returns-in-Object : goal.returns-in-Object
unfolding stepped
returns-in-Object g c = record {
  does = λ held.
      subst (λ (command : Command). RunsByPlan (λ pool. stepped [] c.args.now command pool) (cost_of command) (TellsDamage command held c.args.kept.now.body c.args.kept.now.dir (g.D.Disk.state c.args.io.now.disk.now)) (numbers_end command) (indices_end command) (makes_list command) (rows_after command) c.args.kept.now (io_of c.args.io.now) (io_of c.put_object.new.io) c.put_object.result)
      (sym c.in-Object.is) c.put_object.ensures.does;
}

pub returns-in-Punch : goal.returns-in-Punch
unfolding stepped
returns-in-Punch g c = record {
  does = λ held.
      subst (λ (command : Command). RunsByPlan (λ pool. stepped [] c.args.now command pool) (cost_of command) (TellsDamage command held c.args.kept.now.body c.args.kept.now.dir (g.D.Disk.state c.args.io.now.disk.now)) (numbers_end command) (indices_end command) (makes_list command) (rows_after command) c.args.kept.now (io_of c.args.io.now) (io_of c.punch.new.io) c.punch.result)
      (sym c.in-Punch.is) c.punch.ensures.does;
}

pub returns-in-Free : goal.returns-in-Free
unfolding stepped
returns-in-Free g c = record {
  does = λ held.
      subst (λ (command : Command). RunsByPlan (λ pool. stepped [] c.args.now command pool) (cost_of command) (TellsDamage command held c.args.kept.now.body c.args.kept.now.dir (g.D.Disk.state c.args.io.now.disk.now)) (numbers_end command) (indices_end command) (makes_list command) (rows_after command) c.args.kept.now (io_of c.args.io.now) (io_of c.free_objects.new.io) c.free_objects.result)
      (sym c.in-Free.is) c.free_objects.ensures.does;
}

pub returns-in-Snapshot : goal.returns-in-Snapshot
unfolding stepped
returns-in-Snapshot g c = record {
  does = λ held.
      subst (λ (command : Command). RunsByPlan (λ pool. stepped [] c.args.now command pool) (cost_of command) (TellsDamage command held c.args.kept.now.body c.args.kept.now.dir (g.D.Disk.state c.args.io.now.disk.now)) (numbers_end command) (indices_end command) (makes_list command) (rows_after command) c.args.kept.now (io_of c.args.io.now) (io_of c.take_snapshot.new.io) c.take_snapshot.result)
      (sym c.in-Snapshot.is) c.take_snapshot.ensures.does;
}

pub returns-in-Clone : goal.returns-in-Clone
unfolding stepped
returns-in-Clone g c = record {
  does = λ held.
      subst (λ (command : Command). RunsByPlan (λ pool. stepped [] c.args.now command pool) (cost_of command) (TellsDamage command held c.args.kept.now.body c.args.kept.now.dir (g.D.Disk.state c.args.io.now.disk.now)) (numbers_end command) (indices_end command) (makes_list command) (rows_after command) c.args.kept.now (io_of c.args.io.now) (io_of c.make_clone.new.io) c.make_clone.result)
      (sym c.in-Clone.is) c.make_clone.ensures.does;
}

pub returns-in-Bookmark : goal.returns-in-Bookmark
unfolding stepped
returns-in-Bookmark g c = record {
  does = λ held.
      subst (λ (command : Command). RunsByPlan (λ pool. stepped [] c.args.now command pool) (cost_of command) (TellsDamage command held c.args.kept.now.body c.args.kept.now.dir (g.D.Disk.state c.args.io.now.disk.now)) (numbers_end command) (indices_end command) (makes_list command) (rows_after command) c.args.kept.now (io_of c.args.io.now) (io_of c.make_bookmark.new.io) c.make_bookmark.result)
      (sym c.in-Bookmark.is) c.make_bookmark.ensures.does;
}

pub returns-in-Rollback : goal.returns-in-Rollback
unfolding stepped
returns-in-Rollback g c = record {
  does = λ held.
      subst (λ (command : Command). RunsByPlan (λ pool. stepped [] c.args.now command pool) (cost_of command) (TellsDamage command held c.args.kept.now.body c.args.kept.now.dir (g.D.Disk.state c.args.io.now.disk.now)) (numbers_end command) (indices_end command) (makes_list command) (rows_after command) c.args.kept.now (io_of c.args.io.now) (io_of c.roll_back.new.io) c.roll_back.result)
      (sym c.in-Rollback.is) c.roll_back.ensures.does;
}

pub returns-in-Destroy : goal.returns-in-Destroy
unfolding stepped
returns-in-Destroy g c = record {
  does = λ held.
      subst (λ (command : Command). RunsByPlan (λ pool. stepped [] c.args.now command pool) (cost_of command) (TellsDamage command held c.args.kept.now.body c.args.kept.now.dir (g.D.Disk.state c.args.io.now.disk.now)) (numbers_end command) (indices_end command) (makes_list command) (rows_after command) c.args.kept.now (io_of c.args.io.now) (io_of c.destroy.new.io) c.destroy.result)
      (sym c.in-Destroy.is) c.destroy.ensures.does;
}

pub returns-in-Abort : goal.returns-in-Abort
unfolding stepped
returns-in-Abort g c = record {
  does = λ held.
      subst (λ (command : Command). RunsByPlan (λ pool. stepped [] c.args.now command pool) (cost_of command) (TellsDamage command held c.args.kept.now.body c.args.kept.now.dir (g.D.Disk.state c.args.io.now.disk.now)) (numbers_end command) (indices_end command) (makes_list command) (rows_after command) c.args.kept.now (io_of c.args.io.now) (io_of c.abort.new.io) c.abort.result)
      (sym c.in-Abort.is) c.abort.ensures.does;
}

pub returns-in-Write : goal.returns-in-Write
unfolding stepped
returns-in-Write g c = record {
  does = λ held.
      let does : Command → Type 0 = λ command.
      RunsByPlan (λ pool. stepped [] c.args.now command pool) (cost_of command) (TellsDamage command held c.args.kept.now.body c.args.kept.now.dir (g.D.Disk.state c.args.io.now.disk.now)) (numbers_end command) (indices_end command) (makes_list command) (rows_after command) c.args.kept.now (io_of c.args.io.now) (io_of c.write_block.new.io) c.write_block.result in
      let bytes : c.as_slice.result.now ≡ c.in-Write.bytes = c.as_slice.ensures in
      subst does (sym c.in-Write.is) (subst (λ (b : List ℕ). does (Write c.in-Write.dataset c.in-Write.object c.in-Write.index b)) bytes c.write_block.ensures.does);
}

pub put_object-requires-clause-can : goal.put_object-requires-clause-can
put_object-requires-clause-can g c =
    let is = subst IsCommand c.in-Object.is c.requires.command in
    record { object = is.1; head = is.2; bonus = is.3; spill = is.4 }

pub punch-requires-clause-object : goal.punch-requires-clause-object
punch-requires-clause-object g c = (subst IsCommand c.in-Punch.is c.requires.command).1

pub punch-requires-clause-some : goal.punch-requires-clause-some
punch-requires-clause-some g c = (subst IsCommand c.in-Punch.is c.requires.command).2

pub free_objects-requires-clause-first : goal.free_objects-requires-clause-first
free_objects-requires-clause-first g c = (subst IsCommand c.in-Free.is c.requires.command).1

pub free_objects-requires-clause-some : goal.free_objects-requires-clause-some
free_objects-requires-clause-some g c = (subst IsCommand c.in-Free.is c.requires.command).2

pub write_block-requires-clause-object : goal.write_block-requires-clause-object
write_block-requires-clause-object g c = (subst IsCommand c.in-Write.is c.requires.command).1

pub write_block-requires-clause-some : goal.write_block-requires-clause-some
write_block-requires-clause-some g c = subst (λ (bytes : List ℕ). 0 < length bytes) (sym c.as_slice.ensures) (subst IsCommand c.in-Write.is c.requires.command).2

pub returns-in-Redact : goal.returns-in-Redact
unfolding stepped
returns-in-Redact g c = record {
  does = λ held.
      let does : Command → Type 0 = λ command.
      RunsByPlan (λ pool. stepped [] c.args.now command pool) (cost_of command) (TellsDamage command held c.args.kept.now.body c.args.kept.now.dir (g.D.Disk.state c.args.io.now.disk.now)) (numbers_end command) (indices_end command) (makes_list command) (rows_after command) c.args.kept.now (io_of c.args.io.now) (io_of c.make_redaction.new.io) c.make_redaction.result in
      let words : c.as_slice-in-Redact.result.now ≡ c.in-Redact.redactions = c.as_slice-in-Redact.ensures in
      subst does (sym c.in-Redact.is) (subst (λ (w : List (List ℕ)). does (Redact c.in-Redact.snapshot c.in-Redact.bookmark w)) words c.make_redaction.ensures.does);
}

pub make_redaction-requires-clause-words : goal.make_redaction-requires-clause-words
make_redaction-requires-clause-words g c =
    subst (λ (w : List (List ℕ)). IsRedact c.in-Redact.snapshot c.in-Redact.bookmark w) (sym c.as_slice-in-Redact.ensures) (subst IsCommand c.in-Redact.is c.requires.command)
