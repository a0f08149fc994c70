use Rattle.std.proofs.Common.{refl, arith}
use Rattle.zst_model.specs.sends.View.{view_of}
use Rattle.zst_send.specs.Subjects.{choice_for}
use Rattle.zst_send.proofs.ItemCosts.{puts_none}
use Rattle.zst_send.proofs.NextRecords.{reads_nothing}
use Rattle.zst_send.proofs.send_state.SendState.has_more.Goals as goal

pub returns-then-not-is_given-clause-next : goal.returns-then-not-is_given-clause-next
returns-then-not-is_given-clause-next g c = record {
  advances = λ header snap left honest holds loaded at. at;
  reads = reads_nothing c.args.subject.now c.args.self.now c.args.buffer.now _ _ c.requires.stand c.requires.buffer;
  puts = λ header snap point front put place honest holds had. puts_none _ snap (view_of header snap (choice_for c.args.subject.now)) _ point front put place c.args.self.now _ _ had;
  rests = λ is. absurd (cc);
  kept = λ held. held;
}

pub returns-clause-next : goal.returns-clause-next
returns-clause-next g c = c.advance.ensures.next

pub returns-then-not-is_given-clause-idle : goal.returns-then-not-is_given-clause-idle
returns-then-not-is_given-clause-idle g c = λ left. record { more = refl; stand = refl; buffer_is = refl; calls = omega arith }
