use Rattle.std.proofs.Common.{◌↔◌, ◌≤◌, drop}
use Rattle.zst_marks.specs.Marks.{Apart, Follow}
use Rattle.zst_extents.proofs.order.are_apart.Given as goal

-- all are apart where those that are left follow
abbrev pub invariant-loop-extent : goal.invariant-loop-extent
invariant-loop-extent l = record {
  under : l.behind ≤ l.end;
  apart : Apart 8 l.extents l.end ↔ Follow l.behind (drop l.extent-index l.extents) l.end;
}
