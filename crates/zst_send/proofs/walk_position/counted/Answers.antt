use Rattle.std.proofs.Common.{◌≡◌, arith}
use Rattle.zst_send.proofs.walk_position.counted.Goals as goal

pub returns-clause-finds : goal.returns-clause-finds
returns-clause-finds g c = record {
  found = c.next_cell.ensures.found;
  ranges = c.next_cell.ensures.ranges;
  of_walk = c.next_cell.ensures.of_walk;
  looks = c.next_cell.ensures.looks.looks;
}

pub returns-clause-few : goal.returns-clause-few
returns-clause-few g c = λ snap honest tight.
    let begins : c.new-steps.result ≡ 0 = c.new-steps.ensures in
    omega (arith, begins, c.next_cell.ensures.few snap honest tight.tight tight.included, c.next_cell.ensures.looks.calls)
