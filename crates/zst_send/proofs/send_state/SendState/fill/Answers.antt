use Rattle.std.proofs.Common.{◌≡◌, ℕ, Bool, ◌+◌, ◌-◌, ◌≤◌, rules, List, ◌++◌, length, drop, ap, arith, sym, ◌∙◌, subst}
use borrow.Rule.Slice.PartMut.{put_mid, same_len_mid}
use Rattle.std.specs.Prelude.{Ok}
use Rattle.std.proofs.lemmas.Result.{err_from_is_err_and}
use Rattle.zst_space.specs.FreeSectors.{FreeSectors}
use Rattle.zst_block.specs.Blocks.{Has}
use Rattle.zst_block.specs.IoStates.{blocks_of, disk_of}
use Rattle.zst_block.proofs.IoCallLemmas.{Looks-then}
use Rattle.zst_model.specs.sends.View.{View, view_of}
use Rattle.zst_objset.proofs.LeafLaws.{look_back, look_on}
use Rattle.zst_send.proofs.ItemCosts.{Paid, paid_none, paid_on}
use Rattle.zst_send.specs.Subjects.{HoldsFor, IsTightFor, choice_for}
use Rattle.zst_send.specs.Costs.{PutsIn}
use Rattle.zst_send.specs.SendState.{Advances}
use Rattle.zst_send.specs.PendingRecords.{IsLoaded, IsPending}
use Rattle.zst_send.proofs.GivenRecords.{HasGiven, filled_all, filled_whole, given_on}
use Rattle.zst_send.specs.KnownPointers.{IsAmong, PayloadStands}
use Rattle.zst_send.specs.declared.send_state.SendState.{SendState}
use Rattle.zst_send.specs.declared.pending_record.Payload.{Payload}
use Rattle.zst_send.proofs.KnownPointers.{among_on, give_told, send_told}
use Rattle.zst_send.proofs.NextRecords.{room_behind, there_in, there_on, there_still}
use Rattle.zst_send.proofs.send_state.SendState.fill.Goals as goal

pub returns-in_err-has_more-clause-fills : goal.returns-in_err-has_more-clause-fills
returns-in_err-has_more-clause-fills g c = λ header snap left honest holds loaded at.
    let p = err_from_is_err_and c.from_residual.result c.from_residual.ensures.1 in
    let was = c.in_err-has_more.ensures.next.reads.looks.reads.honest honest in
    let on = look_on (λ (seen : List ℕ) (space : FreeSectors). HoldsFor (Has seen space) c.args.subject.now snap) c.loop-count.invariant.looks holds in
    let given = c.loop-count.invariant.stands header snap left was holds loaded at in
    rw (p.1, p.2) (c.in_err-has_more.ensures.next.advances header snap (drop c.loop-count.count left) honest on given.loaded given.stands)

pub returns-in_err-has_more-clause-reads : goal.returns-in_err-has_more-clause-reads
returns-in_err-has_more-clause-reads g c =
    let p = err_from_is_err_and c.from_residual.result c.from_residual.ensures.1 in
    rw (p.1, p.2) (record {
      loaded = λ header snap left honest holds loaded at.
          let was = c.in_err-has_more.ensures.next.reads.looks.reads.honest honest in
          let on = look_on (λ (seen : List ℕ) (space : FreeSectors). HoldsFor (Has seen space) c.args.subject.now snap) c.loop-count.invariant.looks holds in
          let given = c.loop-count.invariant.stands header snap left was holds loaded at in
          c.in_err-has_more.ensures.next.reads.loaded header snap (drop c.loop-count.count left) honest on given.loaded given.stands;
      stands = λ images among honest was. tt;
      damaged = λ images among honest was.
          let had = c.loop-count.invariant.knows images among (c.in_err-has_more.ensures.next.reads.looks.reads.honest honest) was in
          let on = among_on images _ _ c.loop-count.invariant.looks.reads.seen among in
          send_told images c.args.subject.now.set _ _ _ c.loop-count.invariant.looks.reads.size on _ (c.in_err-has_more.ensures.next.reads.damaged images on honest had);
      stand = c.in_err-has_more.ensures.next.reads.stand;
      buffer_fits = c.in_err-has_more.ensures.next.reads.buffer_fits;
      looks = Looks-then c.loop-count.invariant.looks c.in_err-has_more.ensures.next.reads.looks;
    })

pub returns-in_err-has_more-clause-into : goal.returns-in_err-has_more-clause-into
returns-in_err-has_more-clause-into g c =
    let p = err_from_is_err_and c.from_residual.result c.from_residual.ensures.1 in
    rw (p.1, p.2) (record {
      long = c.loop-count.invariant.into;
      count = tt;
    })

pub returns-in_err-has_more-clause-puts : goal.returns-in_err-has_more-clause-puts
returns-in_err-has_more-clause-puts g c = λ header snap point front put place honest holds had.
    let p = err_from_is_err_and c.from_residual.result c.from_residual.ensures.1 in
    rw p.1 tt

pub returns-then-not-branch-clause-fills : goal.returns-then-not-branch-clause-fills
returns-then-not-branch-clause-fills g c = λ header snap left honest holds loaded at.
    let view : View = view_of header snap (choice_for c.args.subject.now) in
    let was = c.in_ok-has_more.ensures.next.reads.looks.reads.honest honest in
    let on = look_on (λ (seen : List ℕ) (space : FreeSectors). HoldsFor (Has seen space) c.args.subject.now snap) c.loop-count.invariant.looks holds in
    let given = c.loop-count.invariant.stands header snap left was holds loaded at in
    let ended = subst (λ (b : Bool). Advances (blocks_of c.has_more.new.io) snap view c.args.subject.now.to (drop c.loop-count.count left) c.has_more.new.self b) c.if-not-branch.true (c.in_ok-has_more.ensures.next.advances header snap (drop c.loop-count.count left) honest on given.loaded given.stands) in
    filled_all _ snap view c.args.subject.now.to left c.loop-count.into c.loop-count.count c.has_more.new.self given.less given.same c.loop-count.invariant.count ended.0 ended.1

pub returns-then-not-branch-clause-reads : goal.returns-then-not-branch-clause-reads
returns-then-not-branch-clause-reads g c = record {
  loaded = λ header snap left honest holds loaded at.
      let was = c.in_ok-has_more.ensures.next.reads.looks.reads.honest honest in
      let on = look_on (λ (seen : List ℕ) (space : FreeSectors). HoldsFor (Has seen space) c.args.subject.now snap) c.loop-count.invariant.looks holds in
      let given = c.loop-count.invariant.stands header snap left was holds loaded at in
      c.in_ok-has_more.ensures.next.reads.loaded header snap (drop c.loop-count.count left) honest on given.loaded given.stands;
  stands = λ images among honest was.
      let had = c.loop-count.invariant.knows images among (c.in_ok-has_more.ensures.next.reads.looks.reads.honest honest) was in
      c.in_ok-has_more.ensures.next.reads.stands images (among_on images _ _ c.loop-count.invariant.looks.reads.seen among) honest had;
  damaged = λ images among honest was. tt;
  stand = c.in_ok-has_more.ensures.next.reads.stand;
  buffer_fits = c.in_ok-has_more.ensures.next.reads.buffer_fits;
  looks = Looks-then c.loop-count.invariant.looks c.in_ok-has_more.ensures.next.reads.looks;
}

pub returns-then-not-branch-clause-into : goal.returns-then-not-branch-clause-into
returns-then-not-branch-clause-into g c = record {
  long = c.loop-count.invariant.into;
  count = omega (arith, c.loop-count.invariant.count, c.loop-count.invariant.into);
}

pub returns-then-not-branch-clause-puts : goal.returns-then-not-branch-clause-puts
returns-then-not-branch-clause-puts g c = λ header snap point front put place honest holds had.
    let view : View = view_of header snap (choice_for c.args.subject.now) in
    let was = c.in_ok-has_more.ensures.next.reads.looks.reads.honest honest in
    let tight = IsTightFor (blocks_of c.args.io.now) c.args.subject.now snap in
    let before : ℕ = (disk_of c.args.io.now).calls in
    let on = (c.loop-count.invariant.paid header snap point front put place was holds had).on in
    let rests = c.in_ok-has_more.ensures.next.rests (ap (λ (b : Bool). Ok b) c.if-not-branch.true) in
    look_on (λ (seen : List ℕ) (space : FreeSectors). PutsIn (Has seen space) snap view tight point front put place c.loop-count.count c.args.self.now c.has_more.new.self before (disk_of c.has_more.new.io).calls) c.in_ok-has_more.ensures.next.reads.looks
    (subst (λ (calls : ℕ). PutsIn (blocks_of c.loop-count.io) snap view tight point front put place c.loop-count.count c.args.self.now c.has_more.new.self before calls) (sym rests.1)
    (subst (λ (stand : SendState). PutsIn (blocks_of c.loop-count.io) snap view tight point front put place c.loop-count.count c.args.self.now stand before (disk_of c.loop-count.io).calls) (sym rests.0) on))

pub returns-in_err-count-clause-fills : goal.returns-in_err-count-clause-fills
returns-in_err-count-clause-fills g c = λ header snap left honest holds loaded at.
    let p = err_from_is_err_and c.from_residual-in_err-count.result c.from_residual-in_err-count.ensures.1 in
    let mid = c.in_err-count.ensures.copies.reads.looks.reads.honest honest in
    let was = c.in_ok-has_more.ensures.next.reads.looks.reads.honest mid in
    let on = look_on (λ (seen : List ℕ) (space : FreeSectors). HoldsFor (Has seen space) c.args.subject.now snap) c.loop-count.invariant.looks holds in
    let given = c.loop-count.invariant.stands header snap left was holds loaded at in
    let at_next = subst (λ (b : Bool). Advances (blocks_of c.has_more.new.io) snap (view_of header snap (choice_for c.args.subject.now)) c.args.subject.now.to (drop c.loop-count.count left) c.has_more.new.self b) c.if-not-branch.false (c.in_ok-has_more.ensures.next.advances header snap (drop c.loop-count.count left) mid on given.loaded given.stands) in
    let still = c.in_ok-has_more.ensures.next.reads.loaded header snap (drop c.loop-count.count left) mid on given.loaded given.stands in
    rw (p.1, p.2) (c.in_err-count.ensures.gives at_next.first honest still at_next.pending)

pub returns-in_err-count-clause-reads : goal.returns-in_err-count-clause-reads
returns-in_err-count-clause-reads g c =
    let p = err_from_is_err_and c.from_residual-in_err-count.result c.from_residual-in_err-count.ensures.1 in
    rw (p.1, p.2) (record {
      loaded = λ header snap left honest holds loaded at.
          let mid = c.in_err-count.ensures.copies.reads.looks.reads.honest honest in
          let was = c.in_ok-has_more.ensures.next.reads.looks.reads.honest mid in
          let on = look_on (λ (seen : List ℕ) (space : FreeSectors). HoldsFor (Has seen space) c.args.subject.now snap) c.loop-count.invariant.looks holds in
          let given = c.loop-count.invariant.stands header snap left was holds loaded at in
          let at_next = subst (λ (b : Bool). Advances (blocks_of c.has_more.new.io) snap (view_of header snap (choice_for c.args.subject.now)) c.args.subject.now.to (drop c.loop-count.count left) c.has_more.new.self b) c.if-not-branch.false (c.in_ok-has_more.ensures.next.advances header snap (drop c.loop-count.count left) mid on given.loaded given.stands) in
          let still = c.in_ok-has_more.ensures.next.reads.loaded header snap (drop c.loop-count.count left) mid on given.loaded given.stands in
          c.in_err-count.ensures.copies.loaded at_next.first honest still at_next.pending;
      stands = λ images among honest was. tt;
      damaged = λ images among honest was.
          let mid = c.in_err-count.ensures.copies.reads.looks.reads.honest honest in
          let had = c.loop-count.invariant.knows images among (c.in_ok-has_more.ensures.next.reads.looks.reads.honest mid) was in
          let first = among_on images _ _ c.loop-count.invariant.looks.reads.seen among in
          let next = c.in_ok-has_more.ensures.next.reads.stands images first mid had in
          let on = among_on images _ _ c.in_ok-has_more.ensures.next.reads.looks.reads.seen first in
          give_told images c.args.subject.now.set _ _ _ (c.in_ok-has_more.ensures.next.reads.looks.reads.size ∙ c.loop-count.invariant.looks.reads.size) on c.has_more.new.self.pending.payload next.pending _ (c.in_err-count.ensures.copies.reads.damaged honest);
      stand = record { walk = c.in_ok-has_more.ensures.next.reads.stand.walk; pending = c.in_err-count.ensures.more.fits };
      buffer_fits = c.in_err-count.ensures.copies.reads.buffer_fits;
      looks = Looks-then (Looks-then c.loop-count.invariant.looks c.in_ok-has_more.ensures.next.reads.looks) c.in_err-count.ensures.copies.reads.looks;
    })

pub returns-in_err-count-clause-into : goal.returns-in_err-count-clause-into
returns-in_err-count-clause-into g c =
    let p = err_from_is_err_and c.from_residual-in_err-count.result c.from_residual-in_err-count.ensures.1 in
    rw (p.1, p.2) (record {
      long = search rules;
      count = tt;
    })

pub returns-in_err-count-clause-puts : goal.returns-in_err-count-clause-puts
returns-in_err-count-clause-puts g c = λ header snap point front put place honest holds had.
    let p = err_from_is_err_and c.from_residual-in_err-count.result c.from_residual-in_err-count.ensures.1 in
    rw p.1 tt

pub loop-count-init : goal.loop-count-init
loop-count-init g c = record {
  stands = search rules;
  paid = λ header snap point front put place honest holds had. paid_none _ snap (view_of header snap (choice_for c.args.subject.now)) _ point front put place c.args.self.now _ _ had;
  knows = search rules;
  there = λ are. (record { put = omega (arith, are.put); held = λ over. are.held (omega (arith, over)) }, omega arith);
  stand = search rules;
  buffer = search rules;
  into = search rules;
  count = search rules;
  looks = search rules;
}

pub loop-count-preserved : goal.loop-count-preserved
loop-count-preserved g c = record {
  stands = λ header snap left honest holds loaded at.
      let mid = c.in_ok-count.ensures.copies.reads.looks.reads.honest honest in
      let was = c.in_ok-has_more.ensures.next.reads.looks.reads.honest mid in
      let on = look_on (λ (seen : List ℕ) (space : FreeSectors). HoldsFor (Has seen space) c.args.subject.now snap) c.loop-count.invariant.looks holds in
      let given = c.loop-count.invariant.stands header snap left was holds loaded at in
      let at_next = subst (λ (b : Bool). Advances (blocks_of c.has_more.new.io) snap (view_of header snap (choice_for c.args.subject.now)) c.args.subject.now.to (drop c.loop-count.count left) c.has_more.new.self b) c.if-not-branch.false (c.in_ok-has_more.ensures.next.advances header snap (drop c.loop-count.count left) mid on given.loaded given.stands) in
      let still = c.in_ok-has_more.ensures.next.reads.loaded header snap (drop c.loop-count.count left) mid on given.loaded given.stands in
      let gives = c.in_ok-count.ensures.gives at_next.first honest still at_next.pending in
      let pending = look_back (λ (seen : List ℕ) (space : FreeSectors). IsPending (Has seen space) c.give.new.self (drop c.in_ok-count.field-0 at_next.first)) c.in_ok-count.ensures.copies.reads.looks gives.2 in
      let buffer = look_back (λ (seen : List ℕ) (space : FreeSectors). IsLoaded (Has seen space) c.give.new.buffer) c.in_ok-count.ensures.copies.reads.looks (c.in_ok-count.ensures.copies.loaded at_next.first honest still at_next.pending) in
      let most : c.in_ok-count.field-0 ≤ length c.give.new.into = omega (arith, c.in_ok-count.ensures.copies.into.count, c.in_ok-count.ensures.copies.into.long) in
      let more = given_on _ snap (view_of header snap (choice_for c.args.subject.now)) c.args.subject.now.to left c.loop-count.into c.give.new.into c.loop-count.count c.in_ok-count.field-0 c.has_more.new.self c.give.new.self c.give.new.buffer
      given.less given.same c.loop-count.invariant.count at_next gives.0 gives.1 most pending buffer in
      look_on (λ (seen : List ℕ) (space : FreeSectors). HasGiven (Has seen space) snap (view_of header snap (choice_for c.args.subject.now)) c.args.subject.now.to left
      (put_mid c.loop-count.count (length c.loop-count.into - c.loop-count.count) c.loop-count.into c.give.new.into) (c.loop-count.count + c.in_ok-count.field-0)
      (record c.has_more.new.self { pending = c.give.new.self }) c.give.new.buffer) c.in_ok-count.ensures.copies.reads.looks more;
  paid = λ header snap point front put place honest holds had.
      let view : View = view_of header snap (choice_for c.args.subject.now) in
      let mid = c.in_ok-count.ensures.copies.reads.looks.reads.honest honest in
      let was = c.in_ok-has_more.ensures.next.reads.looks.reads.honest mid in
      let on = look_on (λ (seen : List ℕ) (space : FreeSectors). HoldsFor (Has seen space) c.args.subject.now snap) c.loop-count.invariant.looks holds in
      let had_paid = c.loop-count.invariant.paid header snap point front put place was holds had in
      let puts = c.in_ok-has_more.ensures.next.puts header snap point front (put ++ had_paid.on.more) (place + c.loop-count.count) mid on had_paid.on.now in
      let paid = paid_on _ _ snap view _ _ point front put place c.loop-count.count c.in_ok-count.field-0 c.args.self.now c.loop-count.self c.has_more.new.self c.give.new.self c.loop-count.buffer.holds c.has_more.new.buffer.holds c.give.new.buffer.holds _ _ _ _
      (λ tight. look_on (λ (seen : List ℕ) (space : FreeSectors). IsTightFor (Has seen space) c.args.subject.now snap) c.loop-count.invariant.looks tight)
      had_paid puts c.in_ok-count.ensures.more.payload c.in_ok-count.ensures.more.moved c.in_ok-count.ensures.more.some (c.in_ok-has_more.ensures.more (ap (λ (b : Bool). Ok b) c.if-not-branch.false))
      c.in_ok-count.ensures.copies.reads.calls c.in_ok-count.ensures.copies.once c.in_ok-count.ensures.copies.kept in
      look_on (λ (seen : List ℕ) (space : FreeSectors). Paid (Has seen space) snap view (IsTightFor (blocks_of c.args.io.now) c.args.subject.now snap) point front put place (c.loop-count.count + c.in_ok-count.field-0)
      c.args.self.now (record c.has_more.new.self { pending = c.give.new.self }) c.give.new.buffer.holds (disk_of c.args.io.now).calls (disk_of c.give.new.io).calls) c.in_ok-count.ensures.copies.reads.looks paid;
  knows = λ images among honest was.
      let mid = c.in_ok-count.ensures.copies.reads.looks.reads.honest honest in
      let had = c.loop-count.invariant.knows images among (c.in_ok-has_more.ensures.next.reads.looks.reads.honest mid) was in
      let on = c.in_ok-has_more.ensures.next.reads.stands images (among_on images _ _ c.loop-count.invariant.looks.reads.seen among) mid had in
      record { walk = on.walk; pending = subst (λ (p : Payload). PayloadStands (IsAmong images) c.args.subject.now.set p) (sym c.in_ok-count.ensures.more.payload) on.pending };
  there = λ are.
      let into = c.loop-count.into in
      let count = c.loop-count.count in
      let given = c.in_ok-count.field-0 in
      let was = c.loop-count.invariant.there are in
      let idle = c.in_ok-has_more.ensures.idle (omega (arith, was.0.put, c.loop-count-test.true)) in
      let now = there_still c.loop-count.self c.has_more.new.self c.loop-count.buffer c.has_more.new.buffer _ _ _ _ idle was.0 in
      let gives = c.in_ok-count.ensures.there (there_in _ _ into count now) in
      let kept = same_len_mid count (length into - count) into c.give.new.into c.in_ok-count.ensures.copies.into.long in
      let rest : length (put_mid count (length into - count) into c.give.new.into) - (count + given) + given ≡ length into - count = omega (arith, kept, room_behind into count, c.in_ok-count.ensures.copies.into.count, c.loop-count.invariant.count) in (
        there_on c.has_more.new.self.pending c.give.new.self c.has_more.new.buffer.holds c.give.new.buffer.holds _ given _ c.in_ok-count.ensures.more.payload c.in_ok-count.ensures.more.moved rest
            (λ held. (c.in_ok-count.ensures.copies.kept held).1) now,
        omega (arith, was.1, idle.calls, gives.calls),
      );
  stand = record { walk = c.in_ok-has_more.ensures.next.reads.stand.walk; pending = c.in_ok-count.ensures.more.fits };
  buffer = c.in_ok-count.ensures.copies.reads.buffer_fits;
  into = search rules;
  count = search rules;
  looks = Looks-then (Looks-then c.loop-count.invariant.looks c.in_ok-has_more.ensures.next.reads.looks) c.in_ok-count.ensures.copies.reads.looks;
}

pub returns-clause-fills : goal.returns-clause-fills
returns-clause-fills g c = λ header snap left honest holds loaded at.
    filled_whole _ snap (view_of header snap (choice_for c.args.subject.now)) c.args.subject.now.to left c.loop-count.into c.loop-count.count c.loop-count.self c.loop-count.buffer
    (c.loop-count.invariant.stands header snap left honest holds loaded at) (omega (arith, c.loop-count.invariant.count, c.loop-count-test.false))

pub returns-clause-reads : goal.returns-clause-reads
returns-clause-reads g c = record {
  loaded = λ header snap left honest holds loaded at. (c.loop-count.invariant.stands header snap left honest holds loaded at).loaded;
  stands = λ images among honest was. c.loop-count.invariant.knows images among honest was;
  damaged = λ images among honest was. tt;
  stand = c.loop-count.invariant.stand;
  buffer_fits = c.loop-count.invariant.buffer;
  looks = c.loop-count.invariant.looks;
}

pub returns-clause-into : goal.returns-clause-into
returns-clause-into g c = record {
  long = c.loop-count.invariant.into;
  count = omega (arith, c.loop-count.invariant.count, c.loop-count.invariant.into);
}

pub returns-clause-puts : goal.returns-clause-puts
returns-clause-puts g c = λ header snap point front put place honest holds had. (c.loop-count.invariant.paid header snap point front put place honest holds had).on

pub give-requires : goal.give-requires
give-requires g c = record {
  can = record {
    fits = c.in_ok-has_more.ensures.next.reads.stand.pending;
    buffer_fits = c.in_ok-has_more.ensures.next.reads.buffer_fits;
    some = search rules;
    left = c.in_ok-has_more.ensures.more (ap (λ (b : Bool). Ok b) c.if-not-branch.false);
  };
}

pub returns-in_err-has_more-clause-there : goal.returns-in_err-has_more-clause-there
returns-in_err-has_more-clause-there g c = λ are.
    let was = c.loop-count.invariant.there are in
    let idle = c.in_err-has_more.ensures.idle (omega (arith, was.0.put, c.loop-count-test.true)) in
    absurd (cc idle.more)

pub returns-then-not-branch-clause-there : goal.returns-then-not-branch-clause-there
returns-then-not-branch-clause-there g c = λ are.
    let was = c.loop-count.invariant.there are in
    let idle = c.in_ok-has_more.ensures.idle (omega (arith, was.0.put, c.loop-count-test.true)) in
    absurd (cc (idle.more, c.if-not-branch.true))

pub returns-in_err-count-clause-there : goal.returns-in_err-count-clause-there
returns-in_err-count-clause-there g c = λ are.
    let was = c.loop-count.invariant.there are in
    let idle = c.in_ok-has_more.ensures.idle (omega (arith, was.0.put, c.loop-count-test.true)) in
    let now = there_still c.loop-count.self c.has_more.new.self c.loop-count.buffer c.has_more.new.buffer _ _ _ _ idle was.0 in
    absurd ((c.in_err-count.ensures.there (there_in _ _ c.loop-count.into c.loop-count.count now)).never)

pub returns-clause-there : goal.returns-clause-there
returns-clause-there g c = λ are.
    let whole : c.loop-count.count ≡ length c.args.into.now = omega (arith, c.loop-count.invariant.count, c.loop-count-test.false, c.loop-count.invariant.into) in
    (ap (λ (n : ℕ). Ok n) whole, (c.loop-count.invariant.there are).1)
