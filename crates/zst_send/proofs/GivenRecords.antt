-- What is given of a send, record by record.
use Rattle.std.proofs.Common.{◌≡◌, ℕ, ◌+◌, ◌≤◌, min, Option, None, Bool, true, false, List, [], ◌∷◌, ◌++◌, length, take, drop, refl, sym, ap, ◌∙◌, subst, arith, length-append, length-drop, ◌-◌}
use Rattle.std.proofs.lemmas.Bool.{true≢false}
use borrow.Rule.Slice.PartMut.{put_mid}
use Rattle.std.proofs.lemmas.List.{append-nil, drop-append-le, length-take, length-take-le, take-append-drop, take-append-le}
use Rattle.std.proofs.lemmas.Slice.{take-put_mid}
use Rattle.std.proofs.Math.Seq.{drop-drop, take-append-add, take-take}
use Rattle.std.proofs.Math.ListN.{drop_of_length-le}
use Rattle.zst_model.specs.declared.states.item.Item.{Item}
use Rattle.zst_model.specs.declared.sends.header.Header.{Header}
use Rattle.zst_model.specs.declared.sends.header.Point.{Point}
use Rattle.zst_model.specs.sends.Items.{items, joined, single_items}
use Rattle.zst_model.specs.sends.View.{View}
use Rattle.zst_laws.specs.Walk.{WalkBegins, walk_left}
use Rattle.zst_model.specs.states.DatedState.{DatedState}
use Rattle.zst_record.specs.Formats.{record_len}
use Rattle.zst_record.specs.declared.head.Head.TheVariants as heads
use Rattle.zst_record.specs.Payload.{begin_payload}
use Rattle.zst_stream.specs.Image.{end_after, front_of, image, image_after, piece_after, record_after}
use Rattle.zst_stream.specs.Records.{piece_for, pieces_for, view_text}
use Rattle.zst_tree.specs.Indices.{Blocks}
use Rattle.zst_writer.specs.Writes.{HasWritten, bytes_after}
use Rattle.zst_send.specs.DueItems.{AreHeld}
use Rattle.zst_send.specs.WalkPositions.{IsWalk, items_left}
use Rattle.zst_send.specs.Records.{AreLeft, HasPut, IsOfLast, end_size}
use Rattle.zst_send.specs.SendState.{Fills, IsRest, StandFits, StandsAt}
use Rattle.zst_send.specs.PendingRecords.{IsLoaded, IsPayload, IsPut, IsPending, PendingFits, payload_size}
use Rattle.zst_send.specs.declared.pending_record.Payload.{Payload}
use Rattle.zst_send.specs.declared.pending_record.Payload.TheVariants.{Nothing, Bonus, Block}
use Rattle.zst_send.specs.declared.pending_record.PendingRecord.{PendingRecord}
use Rattle.zst_send.specs.declared.due_items.DueItems.{DueItems}
use Rattle.zst_send.specs.declared.block_buffer.BlockBuffer.{BlockBuffer}
use Rattle.zst_send.specs.declared.send_state.SendState.{SendState}

-- so many of the bytes that were left were given, and the send stands behind them
pub record HasGiven (has : Blocks) (snap : DatedState) (view : View) (to : ℕ) (left into : List ℕ) (count : ℕ) (stand : SendState) (buffer : BlockBuffer) : Type 0 where
  pub less : count ≤ length left
  pub same : take count into ≡ take count left
  pub stands : StandsAt has snap view to stand (drop count left)
  pub loaded : IsLoaded has buffer

module _ (has : Blocks) where
  -- what follows a record is no longer than is stated
  payload_less : (p : Payload) (bytes : List ℕ) → IsPayload has p bytes → length bytes ≤ payload_size p
  payload_less Nothing bytes is = let none : length bytes ≡ 0 = ap length is in omega (arith, none)
  payload_less (Bonus field count) bytes is = let some : length bytes ≡ min count (length field) = ap length is ∙ length-take count field in omega (arith, some)
  payload_less (Block ptr) bytes is = let long : length bytes ≡ ptr.length = is.1 in omega (arith, long)

  -- nothing is left of a record that was given
  none_pending : (pending : PendingRecord) (left : List ℕ) → IsPending has pending left → PendingFits pending → record_len + payload_size pending.payload ≡ pending.given → left ≡ []
  none_pending pending left is fits given =
      let less : length is.payload ≤ payload_size pending.payload = payload_less pending.payload is.payload is.payload_is in
      let whole : length (pending.head ++ is.payload) ≡ length pending.head + length is.payload = length-append pending.head is.payload in
      let head : length pending.head ≡ 312 = fits.head in
      let all : 312 + payload_size pending.payload ≡ pending.given = given in
      is.left_are ∙ drop_of_length-le (pending.head ++ is.payload) {i = pending.given} (omega (arith, less, whole, head, all))

  module _ (snap : DatedState) (view : View) (to : ℕ) where
    -- what is left where the pending record was given and END wasn't put
    pub record Continues (stand : SendState) (left : List ℕ) : Type 0 where
      pub text : List ℕ
      pub written : HasWritten stand.writer text
      pub held : List Item
      pub walk : IsWalk has snap stand.walk held
      pub left_is : left ≡ image_after text (pieces_for to (items_left view stand.walk held)) to

    pub continues : (stand : SendState) (left : List ℕ) → StandsAt has snap view to stand left → StandFits stand → record_len + payload_size stand.pending.payload ≡ stand.pending.given → stand.ended ≡ false
        → Continues stand left
    continues stand left at fits given open_still =
        let rest = subst (λ (e : Bool). IsRest has snap view to at.text stand.walk e at.rest) open_still at.is_rest in
        record {
          text = at.text;
          written = at.written;
          held = rest.0;
          walk = rest.1;
          left_is = at.are ∙ ap (λ (l : List ℕ). l ++ at.rest) (none_pending stand.pending at.first at.pending fits.pending given) ∙ rest.2;
        }

    -- nothing is left behind END
    pub ended_leaves : (stand : SendState) (left : List ℕ) → StandsAt has snap view to stand left → StandFits stand → record_len + payload_size stand.pending.payload ≡ stand.pending.given → stand.ended ≡ true
        → left ≡ []
    ended_leaves stand left at fits given ended =
        let rest = subst (λ (e : Bool). IsRest has snap view to at.text stand.walk e at.rest) ended at.is_rest in
        at.are ∙ ap (λ (l : List ℕ). l ++ at.rest) (none_pending stand.pending at.first at.pending fits.pending given) ∙ rest

    -- the record of the item that comes first is put
    pub item_put : (left text : List ℕ) (items : List Item) (first : Item) (held : List Item) (new : SendState) → left ≡ image_after text (pieces_for to items) to → items ≡ first ∷ items_left view new.walk held
        → IsWalk has snap new.walk held → IsPut has to text first new.writer new.pending → new.ended ≡ false → StandsAt has snap view to new left
    unfolding image_after
    item_put left text items first held new left_is items_are walk put open_still =
        let piece : List ℕ = piece_after text (piece_for to first) in
        record {
          text = text ++ piece;
          written = put.written;
          first = piece;
          pending = put.pending_is;
          rest = image_after (text ++ piece) (pieces_for to (items_left view new.walk held)) to;
          is_rest = subst (λ (e : Bool). IsRest has snap view to (text ++ piece) new.walk e (image_after (text ++ piece) (pieces_for to (items_left view new.walk held)) to)) (sym open_still) (held, walk, refl);
          are = left_is ∙ ap (λ (l : List Item). image_after text (pieces_for to l) to) items_are;
        }

    -- END is put where no item is left
    pub end_put : (left text sums : List ℕ) (items : List Item) (new : SendState) → left ≡ image_after text (pieces_for to items) to → items ≡ []
        → HasWritten new.writer (text ++ bytes_after text (heads.End sums to)) → new.pending.head ≡ bytes_after text (heads.End sums to)
        → new.pending.payload ≡ Nothing → new.pending.given ≡ 0 → new.ended ≡ true → StandsAt has snap view to new left
    unfolding image_after bytes_after
    end_put left text sums items new left_is items_are written head payload given ended =
        let last : List ℕ = record_after text (end_after text to) in
        record {
          text = text ++ last;
          written = written;
          first = last;
          pending = record {
            payload = [];
            payload_is = subst (λ (p : Payload). IsPayload has p []) (sym payload) refl;
            left_are = sym head ∙ sym (append-nil new.pending.head) ∙ ap (λ (n : ℕ). drop n (new.pending.head ++ [])) (sym given);
          };
          rest = [];
          is_rest = subst (λ (e : Bool). IsRest has snap view to (text ++ last) new.walk e []) (sym ended) refl;
          are = left_is ∙ ap (λ (l : List Item). image_after text (pieces_for to l) to) items_are ∙ sym (append-nil last);
        }

    -- the buffer is filled
    pub filled_whole : (left into : List ℕ) (count : ℕ) (stand : SendState) (buffer : BlockBuffer) → HasGiven has snap view to left into count stand buffer → count ≡ length into
        → Fills has snap view to left into stand count
    filled_whole left into count stand buffer given full = record {
      count_is = let less : count ≤ length left = given.less in omega (arith, less, full);
      given = given.same;
      stands = given.stands;
    }

    -- or all was given
    pub filled_all : (left into : List ℕ) (count : ℕ) (new : SendState) → count ≤ length left → take count into ≡ take count left → count ≤ length into → drop count left ≡ []
        → StandsAt has snap view to new (drop count left) → Fills has snap view to left into new count
    filled_all left into count new less same inside none stands = record {
      count_is =
          let empty : length (drop count left) ≡ 0 = ap length none in
          let rest : length (drop count left) ≡ length left - count = length-drop count left in
          omega (arith, less, inside, empty, rest);
      given = same;
      stands = stands;
    }

    -- ---- one more piece of a record

    take_two : (a b : List ℕ) (n m : ℕ) → length a ≡ n → take (n + m) (a ++ b) ≡ a ++ take m b
    take_two a b n m e = ap (λ (k : ℕ). take (k + m) (a ++ b)) (sym e) ∙ take-append-add a b m

    -- what was filled behind what was given
    filled_behind : (into given left : List ℕ) (count more : ℕ) → count ≤ length into → count ≤ length left → more ≤ length given → take count into ≡ take count left
        → take more given ≡ take more (drop count left) → take (count + more) (put_mid count (length into - count) into given) ≡ take (count + more) left
    filled_behind into given left count more inside less most same behind =
        sym (take-take (count + more) (count + length given) (put_mid count (length into - count) into given) (omega (arith, most)))
        ∙ ap (take (count + more)) (take-put_mid count (length into - count) into given (count + length given) refl inside)
        ∙ take_two (take count into) given count more (length-take-le count into inside)
        ∙ ap (λ (l : List ℕ). l ++ take more given) same
        ∙ ap (λ (l : List ℕ). take count left ++ l) behind
        ∙ sym (take_two (take count left) (drop count left) count more (length-take-le count left less))
        ∙ ap (take (count + more)) (take-append-drop count left)

    -- a piece of the pending record is given behind what was given
    pub given_on : (left into given : List ℕ) (count more : ℕ) (stand : SendState) (pending : PendingRecord) (buffer : BlockBuffer) → count ≤ length left → take count into ≡ take count left → count ≤ length into
        → (at : StandsAt has snap view to stand (drop count left)) → take more given ≡ take more at.first → more ≤ length at.first → more ≤ length given → IsPending has pending (drop more at.first) → IsLoaded has buffer
        → HasGiven has snap view to left (put_mid count (length into - count) into given) (count + more) (record stand { pending = pending }) buffer
    given_on left into given count more stand pending buffer less same inside at next some most goes loaded =
        let long : length (drop count left) ≡ length left - count = length-drop count left in
        let parts : length (drop count left) ≡ length at.first + length at.rest = ap length at.are ∙ length-append at.first at.rest in
        record {
          less = omega (arith, less, some, long, parts);
          same = filled_behind into given left count more inside less most same (next ∙ sym (ap (take more) at.are ∙ take-append-le more at.first at.rest some));
          stands = record {
            text = at.text;
            written = at.written;
            first = drop more at.first;
            pending = goes;
            rest = at.rest;
            is_rest = at.is_rest;
            are = sym (drop-drop more count left) ∙ ap (drop more) at.are ∙ drop-append-le more at.first at.rest some;
          };
          loaded = loaded;
        }

-- where BEGIN has no payload, it is its 312 bytes
-- a send begins with BEGIN and its payload, and then has all items of its view from the point on
pub begins : (header : Header) (start : Point) → WalkBegins → (has : Blocks) (snap : DatedState) (view : View) (stand : SendState)
    → HasWritten stand.writer (front_of header) → stand.pending.head ++ begin_payload header ≡ front_of header
    → (payload : (field : List ℕ) × (stand.pending.payload ≡ Bonus field (length (begin_payload header))) × (take (length (begin_payload header)) field ≡ begin_payload header)) → stand.pending.given ≡ 0
    → stand.walk.held ≡ None → stand.walk.position.point ≡ start → stand.walk.position.slot ≡ true → stand.ended ≡ false
    → StandsAt has snap view header.to stand (view_text header view start)
unfolding view_text image
begins header start all has snap view stand written head payload given held point slot open_still =
    let front : List ℕ = front_of header in
    let left : walk_left view stand.walk.position.point stand.walk.position.slot ≡ single_items view start =
    ap (λ (p : Point). walk_left view p stand.walk.position.slot) point ∙ ap (walk_left view start) slot ∙ all view start in
    let rest : List ℕ = image_after front (pieces_for header.to (items view start)) header.to in
    record {
      text = front;
      written = written;
      first = front;
      pending = record {
        payload = begin_payload header;
        payload_is = subst (λ (p : Payload). IsPayload has p (begin_payload header)) (sym payload.1) (sym payload.2);
        left_are = sym head ∙ ap (λ (n : ℕ). drop n (stand.pending.head ++ begin_payload header)) (sym given);
      };
      rest = rest;
      is_rest = subst (λ (e : Bool). IsRest has snap view header.to front stand.walk e rest) (sym open_still) (
        [],
        record { held_are = subst (λ (h : Option DueItems). AreHeld has h []) (sym held) refl; position_is = λ passed. absurd (true≢false (sym slot ∙ passed)) },
        ap (λ (l : List Item). image_after front (pieces_for header.to (joined l)) header.to) (sym left),
      );
      are = refl;
    }

-- and has put none of them
pub begins_put : (header : Header) (start : Point) → WalkBegins → (has : Blocks) (snap : DatedState) (view : View) (stand : SendState)
    → length stand.pending.head ≡ record_len → stand.pending.head ++ begin_payload header ≡ front_of header
    → (payload : (field : List ℕ) × (stand.pending.payload ≡ Bonus field (length (begin_payload header))) × (take (length (begin_payload header)) field ≡ begin_payload header)) → stand.pending.given ≡ 0
    → stand.walk.held ≡ None → stand.walk.position.point ≡ start → stand.walk.position.slot ≡ true → stand.ended ≡ false → HasPut has snap view start (length (front_of header)) [] 0 stand
begins_put header start all has snap view stand long head payload given held point slot open_still =
    let left : walk_left view stand.walk.position.point stand.walk.position.slot ≡ single_items view start =
    ap (λ (p : Point). walk_left view p stand.walk.position.slot) point ∙ ap (walk_left view start) slot ∙ all view start in
    record {
      later = items view start;
      are = refl;
      are_left = subst (λ (e : Bool). AreLeft has snap view stand.walk e (items view start)) (sym open_still) (
        [],
        record { held_are = subst (λ (h : Option DueItems). AreHeld has h []) (sym held) refl; position_is = λ passed. absurd (true≢false (sym slot ∙ passed)) },
        ap joined (sym left),
      );
      of_last = subst (λ (p : Payload). IsOfLast [] stand.ended p) (sym payload.1) tt;
      place_is =
          let size : payload_size stand.pending.payload ≡ length (begin_payload header) = ap payload_size payload.1 in
          let none : end_size stand.ended ≡ 0 = ap end_size open_still in
          let whole : length (front_of header) ≡ length stand.pending.head + length (begin_payload header) = ap length (sym head) ∙ length-append stand.pending.head (begin_payload header) in
          omega (arith, size, none, given, whole, long);
    }
