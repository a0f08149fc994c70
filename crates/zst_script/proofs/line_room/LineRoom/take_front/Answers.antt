use Rattle.std.proofs.Common.{ℕ, arith}
use Rattle.std.proofs.lemmas.List.{length-take, length-drop}
use Rattle.zst_script.proofs.RoomBytes.{consumed}
use Rattle.zst_script.proofs.line_room.LineRoom.take_front.Goals as goal

pub returns-clause-rest : goal.returns-clause-rest
returns-clause-rest c =
    let room = c.args.self.now in
    consumed room.bytes.items room.start room.end c.args.count (omega (arith, length-take {A = ℕ}, length-drop {A = ℕ}))
