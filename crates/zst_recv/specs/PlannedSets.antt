-- That the set with which a receive begins is for the rows alone to say.
use Rattle.std.specs.Prelude.{◌≡◌}
use Rattle.zst_model.specs.declared.sends.header.Header.{Header}
use Rattle.zst_model.specs.pools.Pool.{Pool}
use Rattle.zst_tree.specs.declared.tree.ObjSet.{ObjSet}
use Rattle.zst_dir.specs.RowNames.{AreNamed}
use Rattle.zst_dir.specs.Rows.{Rows, IsLawful}
use Rattle.zst_plan.specs.Receipts.{TellsDates}
use Rattle.zst_plan.specs.declared.receive.RecvAsk.{RecvAsk}
use Rattle.zst_recv.specs.Damage.{IsPlannedSet}

-- rows name some pool whose heads are dated as their sets tell, so that each plan over them is of one
abbrev pub RowsNameDatedPools : Type 0
RowsNameDatedPools = (rows : Rows) → (pool : Pool) × AreNamed rows pool × TellsDates rows pool

-- and where they are lawful a header's BEGIN begins with one set: no other of the directory stands in its place
abbrev pub OneSetIsPlanned : Type 0
OneSetIsPlanned =
    (rows : Rows) (ask : RecvAsk) (header : Header) (one other : ObjSet) → IsLawful rows
    → IsPlannedSet rows ask header one → IsPlannedSet rows ask header other → one ≡ other
