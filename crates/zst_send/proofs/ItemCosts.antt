-- What the items that were put pay of a send's calls of the disk.
use Rattle.std.proofs.Common.{inl, inr, ◌≡◌, ◌⊎◌, Bool, true, false, if◌then◌else◌, ℕ, ◌+◌, ◌*◌, ◌<◌, ◌≤◌, List, [], ◌∷◌, ◌++◌, refl, sym, ap, ◌∙◌, arith, subst, Option, Some, None}
use Rattle.std.specs.Prelude.{IfSome}
use Rattle.std.proofs.lemmas.List.{append-nil, append_assoc, append_cancel_left}
use Rattle.zst_block.specs.declared.ptr.Ptr.{Ptr}
use Rattle.zst_model.specs.declared.states.item.Item.{Item}
use Rattle.zst_model.specs.declared.sends.header.Point.{Point}
use Rattle.zst_model.specs.sends.Items.{items}
use Rattle.zst_model.specs.sends.View.{View}
use Rattle.zst_model.specs.states.DatedState.{DatedState}
use Rattle.zst_tree.specs.Indices.{Blocks}
use Rattle.zst_record.specs.Formats.{record_len}
use Rattle.zst_send.specs.Costs.{IsHeld, Pays, Puts, PutsIn, blocks_in, calls_for, cells_due, cells_in, cells_of, is_ended, listed, looks_ahead, reads_due}
use Rattle.zst_send.specs.DueItems.{IsFirst}
use Rattle.zst_send.specs.declared.due_items.DueItems.{DueItems}
use Rattle.zst_send.specs.declared.due_items.DueItems.TheVariants as dues
use Rattle.zst_send.specs.declared.send_state.SendState.{SendState}
use Rattle.zst_send.specs.WalkPositions.{IsWalk, items_left}
use Rattle.zst_send.specs.Records.{AreLeft, HasPut, IsOfLast, IsOfItem, blocks_behind, end_size, reads_of, size_of, sizes_of, touched}
use Rattle.zst_send.specs.PendingRecords.{payload_size}
use Rattle.zst_send.specs.declared.walk.Walk.{Walk}
use Rattle.zst_send.specs.declared.pending_record.Payload.{Payload}
use Rattle.zst_send.specs.declared.pending_record.Payload.TheVariants as payloads
use Rattle.zst_send.proofs.TouchedItems.{touched_more, touched_next, touched_there}
use Rattle.zst_send.specs.declared.pending_record.PendingRecord.{PendingRecord}

module _ (has : Blocks) (snap : DatedState) where
  -- an item stands for as many numbers and pairs, and has as many blocks, as what was due
  pub first_costs : (due : DueItems) (item : Item) → IsFirst has due item → (cells_of snap item ≡ cells_due snap due) × (reads_of item ≡ reads_due due)
  first_costs (dues.Absent first count) item is = (ap (cells_of snap) is, ap reads_of is)
  first_costs (dues.Object k dnode) item is = (ap (cells_of snap) is, ap reads_of is)
  first_costs (dues.Spill k ptr tail) item (bytes, there, less, is) = (ap (cells_of snap) is, ap reads_of is)
  first_costs (dues.Tail k offset) item is = (ap (cells_of snap) is, ap reads_of is)
  first_costs (dues.Holes k offset count) item is = (ap (cells_of snap) is, ap reads_of is)
  first_costs (dues.Redacted k offset count) item is = (ap (cells_of snap) is, ap reads_of is)
  first_costs (dues.Block k type offset ptr) item (bytes, there, long, is) = (ap (cells_of snap) is, ap reads_of is)

-- ---- sums over lists of items

pub calls_join : (snap : DatedState) (put more : List Item) → calls_for snap (put ++ more) ≡ calls_for snap put + calls_for snap more
calls_join snap [] more = omega arith
calls_join snap (item ∷ put) more = let rest = calls_join snap put more in omega (arith, rest)

sizes_join : (put more : List Item) → sizes_of (put ++ more) ≡ sizes_of put + sizes_of more
sizes_join [] more = omega arith
sizes_join (item ∷ put) more = let rest = sizes_join put more in omega (arith, rest)

-- a walk is at most two looks ahead
looks_most : (snap : DatedState) (walk : Walk) → looks_ahead snap walk ≤ 2
looks_most snap walk = let most = go (is_ended walk.position) in omega (arith, most)
  where
    go : (b : Bool) → (if b then 1 else 0) ≤ 1
    go true = omega arith
    go false = omega arith

at_most_one : (payload : Payload) → blocks_behind payload ≤ 1
at_most_one payloads.Nothing = omega arith
at_most_one (payloads.Bonus field count) = omega arith
at_most_one (payloads.Block ptr) = omega arith

-- ---- what a step puts

module _ (has : Blocks) (snap : DatedState) (view : View) (point : Point) (front : ℕ) (put : List Item) (place : ℕ) where
  -- the bytes of a send so far end behind what was put, where all of it was given
  pub put_ends : (stand : SendState) → HasPut has snap view point front put place stand → stand.ended ≡ false → record_len + payload_size stand.pending.payload ≡ stand.pending.given → place ≡ front + sizes_of put
  put_ends stand had open_still given =
      let none : end_size stand.ended ≡ 0 = ap end_size open_still in
      let is = had.place_is in
      omega (arith, none, is, given)

  last_in_work : (first : Item) (ended : Bool) (payload : Payload) → IsOfItem first payload → ended ≡ false → IsOfLast (put ++ first ∷ []) ended payload
  last_in_work first ended payloads.Nothing of open_still = tt
  last_in_work first ended (payloads.Bonus field count) of open_still = tt
  last_in_work first ended (payloads.Block ptr) of open_still = (put, first, refl, of, open_still)

  -- one item more
  pub put_one : (later : List Item) (first : Item) (held : List Item) (new : SendState) → items view point ≡ put ++ later → later ≡ first ∷ items_left view new.walk held → place ≡ front + sizes_of put
      → IsWalk has snap new.walk held → IsOfItem first new.pending.payload → new.pending.given ≡ 0 → new.ended ≡ false → HasPut has snap view point front (put ++ first ∷ []) place new
  put_one later first held new are comes at walk of fresh open_still = record {
    later = items_left view new.walk held;
    are = are ∙ ap (λ (l : List Item). put ++ l) comes ∙ sym (append_assoc put (first ∷ []) (items_left view new.walk held));
    are_left = subst (λ (e : Bool). AreLeft has snap view new.walk e (items_left view new.walk held)) (sym open_still) (held, walk, refl);
    of_last = last_in_work first new.ended new.pending.payload of open_still;
    place_is =
        let none : end_size new.ended ≡ 0 = ap end_size open_still in
        let sizes : sizes_of (put ++ first ∷ []) ≡ sizes_of put + (size_of first + 0) = sizes_join put (first ∷ []) in
        let size = of.size in
        omega (arith, none, sizes, size, at, fresh);
  }

  -- END
  pub put_end : (later : List Item) (new : SendState) → items view point ≡ put ++ later → later ≡ [] → place ≡ front + sizes_of put
      → new.pending.payload ≡ payloads.Nothing → new.pending.given ≡ 0 → new.ended ≡ true → HasPut has snap view point front (put ++ []) place new
  put_end later new are none at alone fresh ended = record {
    later = [];
    are = are ∙ ap (λ (l : List Item). put ++ l) none ∙ sym (append-nil (put ++ []));
    are_left = subst (λ (e : Bool). AreLeft has snap view new.walk e []) (sym ended) refl;
    of_last = subst (λ (p : Payload). IsOfLast (put ++ []) new.ended p) (sym alone) tt;
    place_is =
        let last : end_size new.ended ≡ record_len = ap end_size ended in
        let sizes : sizes_of (put ++ []) ≡ sizes_of put = ap sizes_of (append-nil put) in
        let size : payload_size new.pending.payload ≡ 0 = ap payload_size alone in
        omega (arith, last, sizes, size, at, fresh);
  }

  -- nothing
  pub put_none : (stand : SendState) → HasPut has snap view point front put place stand → HasPut has snap view point front (put ++ []) place stand
  put_none stand had = subst (λ (l : List Item). HasPut has snap view point front l place stand) (sym (append-nil put)) had

  -- some bytes more of the pending record were given
  given_further : (step : ℕ) (stand : SendState) (pending : PendingRecord) → pending.payload ≡ stand.pending.payload → pending.given ≡ stand.pending.given + step → HasPut has snap view point front put place stand
      → HasPut has snap view point front put (place + step) (record stand { pending = pending })
  given_further step stand pending same moved had = record {
    later = had.later;
    are = had.are;
    are_left = had.are_left;
    of_last = subst (λ (p : Payload). IsOfLast put stand.ended p) (sym same) had.of_last;
    place_is = (let size : payload_size pending.payload ≡ payload_size stand.pending.payload = ap payload_size same in let is = had.place_is in omega (arith, size, is, moved));
  }

-- a step that leaves the send as it is
pub puts_none : (has : Blocks) (snap : DatedState) (view : View) (tight : Type 0) (point : Point) (front : ℕ) (put : List Item) (place : ℕ) (stand : SendState) (holds : Option Ptr) (calls : ℕ) → HasPut has snap view point front put place stand
    → Puts has snap view tight point front put place stand stand holds holds calls calls
puts_none has snap view tight point front put place stand holds calls had =
    record { next = None; now = put_none has snap view point front put place stand had; begins = tt; buffer = inl (refl, refl, refl); few = λ is. omega arith }

-- ---- what a take puts

-- so it is up to here: no block was read and nothing was put, or the buffer has the block of the pending record
pub record Paid (has : Blocks) (snap : DatedState) (view : View) (tight : Type 0) (point : Point) (front : ℕ) (put : List Item) (place count : ℕ) (old new : SendState) (holds : Option Ptr) (before after : ℕ) : Type 0 where
  pub on : PutsIn has snap view tight point front put place count old new before after
  pub buffer : ((on.again ≡ 0) × (on.more ≡ [])) ⊎ IsHeld holds new.pending.payload

-- nothing was put, for no calls
pub paid_none : (has : Blocks) (snap : DatedState) (view : View) (tight : Type 0) (point : Point) (front : ℕ) (put : List Item) (place : ℕ) (stand : SendState) (holds : Option Ptr) (calls : ℕ) → HasPut has snap view point front put place stand
    → Paid has snap view tight point front put place 0 stand stand holds calls calls
paid_none has snap view tight point front put place stand holds calls had = record {
  on = record {
    more = [];
    now = subst (λ (p : ℕ). HasPut has snap view point front (put ++ []) p stand) (omega arith) (put_none has snap view point front put place stand had);
    again = 0;
    once = omega arith;
    given = omega arith;
    few = λ is. omega arith;
  };
  buffer = inl (refl, refl);
}

module _ (snap : DatedState) (view : View) (point : Point) (front place count step : ℕ) where
  abbrev bytes : ℕ → List Item
  bytes n = touched place n front (items view point)

  -- what was put so far and what is put next has bytes of what is given
  next_given : (put more later : List Item) (next : Option Item) (again : ℕ) → 0 < step → items view point ≡ ((put ++ more) ++ listed next) ++ later → IfSome next (λ item. place + count ≡ front + sizes_of (put ++ more))
      → again + calls_for snap more ≤ calls_for snap (bytes count) → again + calls_for snap (more ++ listed next) ≤ calls_for snap (bytes (count + step))
  next_given put more later None again some are begins given =
      let joins = calls_join snap more [] in
      let further = touched_more snap place count (count + step) front (items view point) (omega arith) in
      omega (arith, joins, further, given)
  next_given put more later (Some item) again some are begins given =
      let joins = calls_join snap more (item ∷ []) in
      let all : items view point ≡ (put ++ more) ++ item ∷ later = are ∙ append_assoc (put ++ more) (item ∷ []) later in
      let further = subst (λ (l : List Item). calls_for snap (touched place count front l) + (64 * cells_of snap item + reads_of item) ≤ calls_for snap (touched place (count + step) front l)) (sym all)
      (touched_next snap place count (count + step) front (put ++ more) item later begins (omega (arith, some))) in
      omega (arith, joins, further, given)

  -- the pending record has bytes of what is given, and pays its block
  block_given : (put later : List Item) (ended : Bool) (payload : Payload) (given : ℕ) → 0 < step → items view point ≡ put ++ later → IsOfLast put ended payload
      → place + count + record_len + payload_size payload ≡ front + sizes_of put + end_size ended + given → given < record_len + payload_size payload
      → blocks_behind payload ≤ calls_for snap (bytes (count + step))
  block_given put later ended payloads.Nothing given some are of_last is left = omega arith
  block_given put later ended (payloads.Bonus field size) given some are of_last is left = omega arith
  block_given put later ended (payloads.Block ptr) given some are (first, last, put_is, of, open_still) is left =
      let none : end_size ended ≡ 0 = ap end_size open_still in
      let sizes : sizes_of put ≡ sizes_of first + (size_of last + 0) = ap sizes_of put_is ∙ sizes_join first (last ∷ []) in
      let size = of.size in
      let blocks = of.blocks in
      let all : items view point ≡ first ++ last ∷ later = are ∙ ap (λ (l : List Item). l ++ later) put_is ∙ append_assoc first (last ∷ []) later in
      let paid = subst (λ (l : List Item). reads_of last ≤ calls_for snap (touched place (count + step) front l)) (sym all)
      (touched_there snap place (count + step) front first last later (omega (arith, some)) (omega (arith, some, none, sizes, size, is)) (omega (arith, none, sizes, size, is, left))) in
      omega (arith, paid, blocks)

-- a step, and then some bytes of the pending record, whose block the buffer has then or isn't read
module _ (was has : Blocks) (snap : DatedState) (view : View) (tight still : Type 0) (point : Point) (front : ℕ) (put : List Item) (place count step : ℕ) (old at mid : SendState) (pending : PendingRecord) (first next last : Option Ptr) (before between asked after : ℕ)
    (keeps : tight → still) (paid : Paid was snap view tight point front put place count old at first before between) (puts : Puts has snap view still point front (put ++ paid.on.more) (place + count) at mid first next between asked)
    (same : pending.payload ≡ mid.pending.payload) (moved : pending.given ≡ mid.pending.given + step) (some : 0 < step) (left : mid.pending.given < record_len + payload_size mid.pending.payload) where
  abbrev more : List Item
  more = paid.on.more ++ listed puts.next

  now : HasPut has snap view point front (put ++ more) (place + (count + step)) (record mid { pending = pending })
  now =
      subst (λ (p : ℕ). HasPut has snap view point front (put ++ more) p (record mid { pending = pending })) (omega arith)
      (subst (λ (l : List Item). HasPut has snap view point front l (place + count + step) (record mid { pending = pending })) (append_assoc put paid.on.more (listed puts.next))
      (given_further has snap view point front ((put ++ paid.on.more) ++ listed puts.next) (place + count) step mid pending same moved puts.now))

  -- no block is read for the bytes
  quiet : after ≤ asked → ((paid.on.again ≡ 0) × (more ≡ [])) ⊎ IsHeld last pending.payload → Paid has snap view tight point front put place (count + step) old (record mid { pending = pending }) last before after
  quiet less buffer = record {
    on = record {
      more = more;
      now = now;
      again = paid.on.again;
      once = paid.on.once;
      given = next_given snap view point front place count step put paid.on.more puts.now.later puts.next paid.on.again some puts.now.are puts.begins paid.on.given;
      few = λ is.
          let one = paid.on.few is in
          let other = puts.few (keeps is) in
          let joins = calls_join snap paid.on.more (listed puts.next) in
          omega (arith, one, other, joins, less);
    };
    buffer = buffer;
  }

  -- the block of the record that was pending before is read
  loud : after ≤ asked + blocks_behind mid.pending.payload → paid.on.again ≡ 0 → more ≡ [] → IsHeld last pending.payload → Paid has snap view tight point front put place (count + step) old (record mid { pending = pending }) last before after
  loud most none nothing held = record {
    on = record {
      more = more;
      now = now;
      again = blocks_behind mid.pending.payload;
      once = at_most_one mid.pending.payload;
      given =
          let free : calls_for snap more ≡ 0 = ap (calls_for snap) nothing in
          let given = block_given snap view point front place count step ((put ++ paid.on.more) ++ listed puts.next) puts.now.later mid.ended mid.pending.payload mid.pending.given some puts.now.are puts.now.of_last puts.now.place_is left in
          omega (arith, free, given);
      few = λ is.
          let one = paid.on.few is in
          let other = puts.few (keeps is) in
          let joins = calls_join snap paid.on.more (listed puts.next) in
          omega (arith, one, other, joins, most, none);
    };
    buffer = inr held;
  }

  pub paid_on : after ≤ asked + blocks_behind mid.pending.payload → (after ≤ asked) ⊎ IsHeld last mid.pending.payload → (IsHeld next mid.pending.payload → (after ≤ asked) × IsHeld last mid.pending.payload)
      → Paid has snap view tight point front put place (count + step) old (record mid { pending = pending }) last before after
  paid_on most once stays = go paid.buffer puts.buffer once
    where
      here : IsHeld last mid.pending.payload → IsHeld last pending.payload
      here held = subst (λ (p : Payload). IsHeld last p) (sym same) held

      go : ((paid.on.again ≡ 0) × (paid.on.more ≡ [])) ⊎ IsHeld first at.pending.payload → ((puts.next ≡ None) × (mid.pending.payload ≡ at.pending.payload) × (next ≡ first)) ⊎ IsHeld next mid.pending.payload
          → (after ≤ asked) ⊎ IsHeld last mid.pending.payload → Paid has snap view tight point front put place (count + step) old (record mid { pending = pending }) last before after
      go buffer (inr held) once = let kept = stays held in quiet kept.0 (inr (here kept.1))
      go (inl (none, nothing)) (inl (no_next, payload, holds)) (inl less) = quiet less (inl (none, ap (λ (l : List Item). l ++ listed puts.next) nothing ∙ ap listed no_next))
      go (inl (none, nothing)) (inl (no_next, payload, holds)) (inr held) = loud most none (ap (λ (l : List Item). l ++ listed puts.next) nothing ∙ ap listed no_next) (here held)
      go (inr held) (inl (no_next, payload, holds)) once =
          let kept = stays (subst (λ (p : Payload). IsHeld next p) (sym payload) (subst (λ (h : Option Ptr). IsHeld h at.pending.payload) (sym holds) held)) in
          quiet kept.0 (inr (here kept.1))

-- ---- a take

-- what a take gives pays its calls, but for two looks
pub take_pays : (has : Blocks) (snap : DatedState) (view : View) (tight : Type 0) (point : Point) (front : ℕ) (put : List Item) (place count : ℕ) (old new : SendState) (before after : ℕ) → tight → PutsIn has snap view tight point front put place count old new before after
    → after ≤ before + (64 * (cells_in snap (touched place count front (items view point)) + 2) + blocks_in (touched place count front (items view point)))
take_pays has snap view tight point front put place count old new before after is puts =
    let few = puts.few is in
    let given = puts.given in
    let most = looks_most snap new.walk in
    omega (arith, few, given, most)

-- what was to come was put in part, and the others are to come
pub take_puts : (was has : Blocks) (snap : DatedState) (view : View) (tight : Type 0) (point : Point) (front : ℕ) (put : List Item) (place count : ℕ) (old new : SendState) (before after : ℕ) → tight → (had : HasPut was snap view point front put place old)
    → PutsIn has snap view tight point front put place count old new before after → Pays has snap view had.later old new (before + 1) after
take_puts was has snap view tight point front put place count old new before after is had puts = record {
  put = puts.more;
  later = puts.now.later;
  are = append_cancel_left put had.later (puts.more ++ puts.now.later) (sym had.are ∙ puts.now.are ∙ append_assoc put puts.more puts.now.later);
  are_left = puts.now.are_left;
  few = (let few = puts.few is in let once = puts.once in omega (arith, few, once));
}
