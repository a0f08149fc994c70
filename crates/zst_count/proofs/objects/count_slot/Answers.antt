use Rattle.zst_block.specs.IoStates.{disk_of}
use Rattle.zst_count.proofs.ObjectWalks.{met_beside, read_beside}
use Rattle.zst_count.proofs.objects.count_slot.Goals as goal

pub returns-in-There-clause-all : goal.returns-in-There-clause-all
returns-in-There-clause-all g c = λ level known honest is are.
    rw c.in-There.is (c.count_object.ensures.all honest (met_beside (disk_of c.args.io.now).seen c.args.met.now.end c.args.met.now.marks level known c.args.place c.object_beside.result are (c.object_beside.ensures _ level known is)))

pub returns-in-There-clause-read : goal.returns-in-There-clause-read
returns-in-There-clause-read g c = λ level known honest is are.
    rw c.in-There.is (c.count_object.ensures.read honest (read_beside (disk_of c.args.io.now).seen level known c.args.place c.object_beside.result are (c.object_beside.ensures _ level known is)))
