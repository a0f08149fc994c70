use Rattle.std.proofs.Common.{inr, Bool, ℕ, List, ◌∙◌, ap, arith, refl, sym, subst}
use Rattle.std.specs.Prelude.{Option, Some, None, true}
use Rattle.std.proofs.lemmas.Result.{err_from_is_err_and}
use Rattle.zst_space.specs.FreeSectors.{FreeSectors}
use Rattle.zst_block.specs.Blocks.{Has}
use Rattle.zst_block.specs.IoStates.{blocks_of}
use Rattle.zst_block.proofs.IoCallLemmas.{Looks-then}
use Rattle.zst_model.specs.sends.View.{View, view_of}
use Rattle.zst_objset.proofs.LeafLaws.{look_on}
use Rattle.zst_send.specs.Subjects.{choice_for}
use Rattle.zst_send.specs.Costs.{IsHeld, cells_next}
use Rattle.zst_send.specs.Records.{AreLeft}
use Rattle.zst_send.specs.declared.send_state.SendState.{SendState}
use Rattle.zst_send.proofs.ItemCosts.{first_costs, put_end, put_ends, put_one, puts_none}
use Rattle.zst_send.specs.WalkPositions.{Gives, IsWalk, items_left}
use Rattle.zst_send.specs.PendingRecords.{IsLoaded, PayloadFits}
use Rattle.zst_send.specs.DueItems.{DueFits}
use Rattle.zst_send.specs.declared.due_items.DueItems.{DueItems}
use Rattle.zst_send.proofs.GivenRecords.{continues, end_put, ended_leaves, item_put}
use Rattle.zst_send.proofs.NextRecords.{reads_nothing}
use Rattle.std.specs.Prelude.{IfSome}
use Rattle.zst_send.specs.KnownPointers.{DueStands, IsAmong, PayloadStands}
use Rattle.zst_send.specs.declared.pending_record.Payload.{Payload}
use Rattle.zst_send.proofs.KnownPointers.{among_on, follows_stands, put_told, walk_told}
use Rattle.zst_send.proofs.send_state.SendState.advance.Goals as goal

pub returns-then-self-clause-next : goal.returns-then-self-clause-next
returns-then-self-clause-next g c = record {
  advances = λ header snap left honest holds loaded at.
      (ended_leaves _ snap (view_of header snap (choice_for c.args.subject.now)) c.args.subject.now.to c.args.self.now left at c.requires.stand c.requires.given c.if-self.true, at);
  reads = reads_nothing c.args.subject.now c.args.self.now c.args.buffer.now _ _ c.requires.stand c.requires.buffer;
  puts = λ header snap point front put place honest holds had. puts_none _ snap (view_of header snap (choice_for c.args.subject.now)) _ point front put place c.args.self.now _ _ had;
  rests = λ is. (refl, refl);
  kept = λ held. held;
}

pub returns-in_err-due-clause-next : goal.returns-in_err-due-clause-next
returns-in_err-due-clause-next g c =
    let p = err_from_is_err_and c.from_residual.result c.from_residual.ensures.1 in
    rw (p.1, p.2) (record {
      advances = λ header snap left honest holds loaded at.
          let on = continues _ snap (view_of header snap (choice_for c.args.subject.now)) c.args.subject.now.to c.args.self.now left at c.requires.stand c.requires.given c.if-self.false in
          c.in_err-due.ensures.gives header snap on.held honest holds on.walk;
      reads = record {
        loaded = λ header snap left honest holds loaded at.
            look_on (λ (seen : List ℕ) (space : FreeSectors). IsLoaded (Has seen space) c.args.buffer.now) c.in_err-due.ensures.steps.looks loaded;
        stands = λ images among honest was. tt;
        damaged = λ images among honest was.
            walk_told images c.args.subject.now.set _ _ _ refl among _ (c.in_err-due.ensures.steps.damaged honest);
        stand = record { walk = c.in_err-due.ensures.walk; pending = c.requires.stand.pending };
        buffer_fits = c.requires.buffer;
        looks = c.in_err-due.ensures.steps.looks;
      };
      puts = λ header snap point front put place honest holds had. tt;
      rests = λ is. absurd (cc);
      kept = λ held. tt;
    })

pub returns-in_err-self-in-Some-clause-next : goal.returns-in_err-self-in-Some-clause-next
returns-in_err-self-in-Some-clause-next g c =
    let p = err_from_is_err_and c.from_residual-in_err-self-in-Some.result c.from_residual-in_err-self-in-Some.ensures.1 in
    rw (p.1, p.2) (record {
      advances = λ header snap left honest holds loaded at.
          let view : View = view_of header snap (choice_for c.args.subject.now) in
          let on = continues _ snap view c.args.subject.now.to c.args.self.now left at c.requires.stand c.requires.given c.if-self.false in
          let was = c.in_err-self-in-Some.ensures.reads.looks.reads.honest honest in
          let still = look_on (λ (seen : List ℕ) (space : FreeSectors). IsLoaded (Has seen space) c.args.buffer.now) c.in_ok-due.ensures.steps.looks loaded in
          let gives = subst (λ (d : Option DueItems). Gives (blocks_of c.next.new.io) snap view (items_left view c.args.self.now.walk on.held) c.next.new.self d) c.in-Some.is (c.in_ok-due.ensures.gives header snap on.held was holds on.walk) in
          c.in_err-self-in-Some.ensures.put on.text gives.0 honest still on.written gives.2;
      reads = record {
        loaded = λ header snap left honest holds loaded at.
            let view : View = view_of header snap (choice_for c.args.subject.now) in
            let on = continues _ snap view c.args.subject.now.to c.args.self.now left at c.requires.stand c.requires.given c.if-self.false in
            let was = c.in_err-self-in-Some.ensures.reads.looks.reads.honest honest in
            let still = look_on (λ (seen : List ℕ) (space : FreeSectors). IsLoaded (Has seen space) c.args.buffer.now) c.in_ok-due.ensures.steps.looks loaded in
            let gives = subst (λ (d : Option DueItems). Gives (blocks_of c.next.new.io) snap view (items_left view c.args.self.now.walk on.held) c.next.new.self d) c.in-Some.is (c.in_ok-due.ensures.gives header snap on.held was holds on.walk) in
            c.in_err-self-in-Some.ensures.loaded gives.0 honest still gives.2;
        stands = λ images among honest was. tt;
        damaged = λ images among honest was.
            let next = c.in_ok-due.ensures.stands images among (c.in_err-self-in-Some.ensures.reads.looks.reads.honest honest) was.walk in
            let due = subst (λ (d : Option DueItems). IfSome d (DueStands (IsAmong images) c.args.subject.now.set)) c.in-Some.is next.1 in
            let on = among_on images _ _ c.in_ok-due.ensures.steps.looks.reads.seen among in
            put_told images c.args.subject.now.set _ _ _ c.in_ok-due.ensures.steps.looks.reads.size on c.in-Some.due due _ (c.in_err-self-in-Some.ensures.reads.damaged honest);
        stand = record { walk = c.in_ok-due.ensures.walk; pending = c.requires.stand.pending };
        buffer_fits = c.in_err-self-in-Some.ensures.reads.buffer_fits;
        looks = Looks-then c.in_ok-due.ensures.steps.looks c.in_err-self-in-Some.ensures.reads.looks;
      };
      puts = λ header snap point front put place honest holds had. tt;
      rests = λ is. absurd (cc);
      kept = λ held. tt;
    })

pub returns-in_ok-self-in-Some-clause-next : goal.returns-in_ok-self-in-Some-clause-next
returns-in_ok-self-in-Some-clause-next g c = record {
  advances = λ header snap left honest holds loaded at.
      let view : View = view_of header snap (choice_for c.args.subject.now) in
      let on = continues _ snap view c.args.subject.now.to c.args.self.now left at c.requires.stand c.requires.given c.if-self.false in
      let was = c.in_ok-self-in-Some.ensures.reads.looks.reads.honest honest in
      let still = look_on (λ (seen : List ℕ) (space : FreeSectors). IsLoaded (Has seen space) c.args.buffer.now) c.in_ok-due.ensures.steps.looks loaded in
      let gives = subst (λ (d : Option DueItems). Gives (blocks_of c.next.new.io) snap view (items_left view c.args.self.now.walk on.held) c.next.new.self d) c.in-Some.is (c.in_ok-due.ensures.gives header snap on.held was holds on.walk) in
      let put = c.in_ok-self-in-Some.ensures.put on.text gives.0 honest still on.written gives.2 in
      let walk = look_on (λ (seen : List ℕ) (space : FreeSectors). IsWalk (Has seen space) snap c.next.new.self gives.1) c.in_ok-self-in-Some.ensures.reads.looks gives.3 in
      item_put _ snap view c.args.subject.now.to left on.text (items_left view c.args.self.now.walk on.held) gives.0 gives.1
      (record { walk = c.next.new.self; writer = c.put.new.writer; pending = c.in_ok-self-in-Some.field-0; ended = c.args.self.now.ended }) on.left_is gives.4 walk put c.if-self.false;
  reads = record {
    loaded = λ header snap left honest holds loaded at.
        let view : View = view_of header snap (choice_for c.args.subject.now) in
        let on = continues _ snap view c.args.subject.now.to c.args.self.now left at c.requires.stand c.requires.given c.if-self.false in
        let was = c.in_ok-self-in-Some.ensures.reads.looks.reads.honest honest in
        let still = look_on (λ (seen : List ℕ) (space : FreeSectors). IsLoaded (Has seen space) c.args.buffer.now) c.in_ok-due.ensures.steps.looks loaded in
        let gives = subst (λ (d : Option DueItems). Gives (blocks_of c.next.new.io) snap view (items_left view c.args.self.now.walk on.held) c.next.new.self d) c.in-Some.is (c.in_ok-due.ensures.gives header snap on.held was holds on.walk) in
        c.in_ok-self-in-Some.ensures.loaded gives.0 honest still gives.2;
    stands = λ images among honest was.
        let next = c.in_ok-due.ensures.stands images among (c.in_ok-self-in-Some.ensures.reads.looks.reads.honest honest) was.walk in
        let due = subst (λ (d : Option DueItems). IfSome d (DueStands (IsAmong images) c.args.subject.now.set)) c.in-Some.is next.1 in
        record { walk = next.0; pending = follows_stands (IsAmong images) c.args.subject.now.set c.in-Some.due c.in_ok-self-in-Some.field-0.payload due c.in_ok-self-in-Some.ensures.follows.follows };
    damaged = λ images among honest was. tt;
    stand = record { walk = c.in_ok-due.ensures.walk; pending = c.in_ok-self-in-Some.ensures.follows.fits };
    buffer_fits = c.in_ok-self-in-Some.ensures.reads.buffer_fits;
    looks = Looks-then c.in_ok-due.ensures.steps.looks c.in_ok-self-in-Some.ensures.reads.looks;
  };
  puts = λ header snap point front put place honest holds had.
      let view : View = view_of header snap (choice_for c.args.subject.now) in
      let was = c.in_ok-self-in-Some.ensures.reads.looks.reads.honest honest in
      let on = subst (λ (e : Bool). AreLeft (blocks_of c.args.io.now) snap view c.args.self.now.walk e had.later) c.if-self.false had.are_left in
      let gives = subst (λ (d : Option DueItems). Gives (blocks_of c.next.new.io) snap view (items_left view c.args.self.now.walk on.0) c.next.new.self d) c.in-Some.is (c.in_ok-due.ensures.gives header snap on.0 was holds on.1) in
      let walk = look_on (λ (seen : List ℕ) (space : FreeSectors). IsWalk (Has seen space) snap c.next.new.self gives.1) c.in_ok-self-in-Some.ensures.reads.looks gives.3 in
      let at = put_ends _ snap view point front put place c.args.self.now had c.if-self.false c.requires.given in
      let new : SendState = record { walk = c.next.new.self; writer = c.put.new.writer; pending = c.in_ok-self-in-Some.field-0; ended = c.args.self.now.ended } in
      record {
        next = Some gives.0;
        now = put_one _ snap view point front put place had.later gives.0 gives.1 new had.are (on.2 ∙ gives.4) at walk (c.in_ok-self-in-Some.ensures.size gives.0 gives.2) c.in_ok-self-in-Some.ensures.follows.given c.if-self.false;
        begins = at;
        buffer = inr c.in_ok-self-in-Some.ensures.follows.held;
        few = λ tight.
            let cells = ap (cells_next snap) c.in-Some.is in
            let costs = first_costs _ snap c.in-Some.due gives.0 gives.2 in
            let few = c.in_ok-due.ensures.few header snap on.0 was tight on.1 in
            omega (arith, cells, costs.0, costs.1, few, c.in_ok-self-in-Some.ensures.reads.calls);
      };
  rests = λ is. absurd (cc);
  kept = λ held. c.in_ok-self-in-Some.ensures.follows.held;
}

pub returns-in-None-clause-next : goal.returns-in-None-clause-next
returns-in-None-clause-next g c = record {
  advances = λ header snap left honest holds loaded at.
      let view : View = view_of header snap (choice_for c.args.subject.now) in
      let on = continues _ snap view c.args.subject.now.to c.args.self.now left at c.requires.stand c.requires.given c.if-self.false in
      let gives = subst (λ (d : Option DueItems). Gives (blocks_of c.next.new.io) snap view (items_left view c.args.self.now.walk on.held) c.next.new.self d) c.in-None.is (c.in_ok-due.ensures.gives header snap on.held honest holds on.walk) in
      end_put _ snap view c.args.subject.now.to left on.text _ (items_left view c.args.self.now.walk on.held)
      (record { walk = c.next.new.self; writer = c.alone-self.new.writer; pending = c.alone-self.result; ended = true }) on.left_is gives.0
      (c.alone-self.ensures.written on.text on.written) (c.alone-self.ensures.head on.text on.written) c.alone-self.ensures.fresh.payload_is c.alone-self.ensures.fresh.given refl;
  reads = record {
    loaded = λ header snap left honest holds loaded at.
        look_on (λ (seen : List ℕ) (space : FreeSectors). IsLoaded (Has seen space) c.args.buffer.now) c.in_ok-due.ensures.steps.looks loaded;
    stands = λ images among honest was.
        let next = c.in_ok-due.ensures.stands images among honest was.walk in
        record { walk = next.0; pending = subst (λ (p : Payload). PayloadStands (IsAmong images) c.args.subject.now.set p) (sym c.alone-self.ensures.fresh.payload_is) tt };
    damaged = λ images among honest was. tt;
    stand = record {
      walk = c.in_ok-due.ensures.walk;
      pending = record {
        head = c.alone-self.ensures.fresh.long;
        payload = subst PayloadFits (sym c.alone-self.ensures.fresh.payload_is) tt;
        given = (let none = c.alone-self.ensures.fresh.given in omega (arith, none));
      };
    };
    buffer_fits = c.requires.buffer;
    looks = c.in_ok-due.ensures.steps.looks;
  };
  puts = λ header snap point front put place honest holds had.
      let view : View = view_of header snap (choice_for c.args.subject.now) in
      let on = subst (λ (e : Bool). AreLeft (blocks_of c.args.io.now) snap view c.args.self.now.walk e had.later) c.if-self.false had.are_left in
      let gives = subst (λ (d : Option DueItems). Gives (blocks_of c.next.new.io) snap view (items_left view c.args.self.now.walk on.0) c.next.new.self d) c.in-None.is (c.in_ok-due.ensures.gives header snap on.0 honest holds on.1) in
      let at = put_ends _ snap view point front put place c.args.self.now had c.if-self.false c.requires.given in
      let new : SendState = record { walk = c.next.new.self; writer = c.alone-self.new.writer; pending = c.alone-self.result; ended = true } in
      record {
        next = None;
        now = put_end _ snap view point front put place had.later new had.are (on.2 ∙ gives.0) at c.alone-self.ensures.fresh.payload_is c.alone-self.ensures.fresh.given refl;
        begins = tt;
        buffer = inr (subst (λ (p : Payload). IsHeld c.args.buffer.now.holds p) (sym c.alone-self.ensures.fresh.payload_is) tt);
        few = λ tight.
            let cells = ap (cells_next snap) c.in-None.is in
            let few = c.in_ok-due.ensures.few header snap on.0 honest tight on.1 in
            omega (arith, cells, few);
      };
  rests = λ is. absurd (cc);
  kept = λ held. subst (λ (p : Payload). IsHeld c.args.buffer.now.holds p) (sym c.alone-self.ensures.fresh.payload_is) tt;
}

pub put-requires-clause-due : goal.put-requires-clause-due
put-requires-clause-due g c = subst (λ (d : Option DueItems). IfSome d DueFits) c.in-Some.is c.in_ok-due.ensures.steps.ranges
