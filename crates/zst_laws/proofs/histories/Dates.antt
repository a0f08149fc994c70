-- Which dates items give, and what a snapshot remembers under them.
use Rattle.std.proofs.Common.{subst, ◌≡◌, ℕ, ◌+◌, ◌*◌, ◌<◌, ◌≤◌, Bool, true, false, not, List, [], ◌∷◌, length, Option, Some, None, IfSome, Ok, refl, sym, ap, ◌∙◌, arith, ◌==◌, nat_lt, nat_le, ◌&&◌, ◌||◌, if◌then◌else◌, eqb-true, mul-le-mul_right}
use Rattle.std.proofs.lemmas.Bool.{true≢false, not-false, cond-false, lt-ltb, le-ltb, and_right}
use Rattle.std.proofs.lemmas.Bool.Decides.{nat_tests}
use Rattle.zst_model.specs.declared.states.attr.Attr.{Attr}
use Rattle.zst_model.specs.declared.states.item.Change.{Change}
use Rattle.zst_model.specs.declared.states.item.Change.TheVariants.{Put, Spill, FreeFrom, Free, Redact, Write}
use Rattle.zst_model.specs.declared.states.item.Item.{Item}
use Rattle.zst_model.specs.declared.states.item.Item.TheVariants.{FreeObjects, At}
use Rattle.zst_model.specs.declared.refusals.apply_fault.ApplyFault.TheVariants.{SizeDiffers, Unaligned, OddBlock, NotUserData}
use Rattle.zst_model.specs.declared.states.attr.ObjectHead.{ObjectHead}
use Rattle.zst_model.proofs.Sizes.{size_of_lawful}
use Rattle.zst_model.specs.states.State.{State, Block, BlockFits, IsHead, IsBonus, IsSpill, IsAttr, IsObject, IsObjectOrNone, Hole, Redacted, Data, Object, attr_at, content_at, block_content, IsState, is_odd_size, is_user_data, is_number, number_bound, index_bound}
use Rattle.zst_model.specs.states.AppliedItems.{apply, apply_change, attr_with, is_unaligned, within, put_at}
use Rattle.zst_model.specs.states.DatedState.{DatedState, dates_number, dates_index, touches_number, touches_index, apply_dated, apply_all_dated}
use Rattle.zst_model.specs.sends.Target.{Remembers}
use Rattle.zst_model.proofs.Booleans.{right_fails, left_fails}
use Rattle.zst_model.proofs.ObjectNumbers.{absent_outside}
use Rattle.zst_model.proofs.Results.{ok_parts, bind_ok, unless_ok}
use Rattle.zst_laws.specs.Dates.{ChangesAreDated, RemembersItself, RemembersOn, IsLawfulChange, IsLawfulItem, AppliedIsState, RemembersThrough}

-- what REDACT and WRITE give of an object, and that they meet no block past the one of an odd size
redact_gives : (offset length : ℕ) (object : Object) (p : Option Object) → apply_change (Redact offset length) (Some object) ≡ Ok p
    → ((is_odd_size object.attr.block_size && (nat_lt 0 length && nat_lt object.attr.block_size (offset + length))) ≡ false)
    × (◌≡◌ {A = Option Object} (Some (record { attr = object.attr; blocks = λ i. if within offset length (i * object.attr.block_size) then Redacted else object.blocks i })) p)
unfolding apply_change
redact_gives offset length object p h =
    let size = object.attr.block_size in
    let user = unless_ok (not (is_user_data object.attr)) NotUserData _ p h in
    let aligned = unless_ok (is_unaligned size offset || is_unaligned size length) Unaligned _ p user.1 in
    let whole = unless_ok (is_odd_size size && (nat_lt 0 length && nat_lt size (offset + length))) OddBlock _ p aligned.1 in
    (whole.0, ok_parts _ _ whole.1)

pub write_gives : (offset : ℕ) (type : ℕ) (bytes : List ℕ) (object : Object) (p : Option Object) → apply_change (Write offset type bytes) (Some object) ≡ Ok p
    → ((not (length bytes == object.attr.block_size)) ≡ false)
    × ((is_odd_size object.attr.block_size && nat_lt 0 offset) ≡ false)
    × (◌≡◌ {A = Option Object} (Some (record { attr = object.attr; blocks = λ i. if i * object.attr.block_size == offset then Data bytes else object.blocks i })) p)
unfolding apply_change
write_gives offset type bytes object p h =
    let size = object.attr.block_size in
    let sized = unless_ok (not (length bytes == size)) SizeDiffers _ p h in
    let aligned = unless_ok (is_unaligned size offset) Unaligned _ p sized.1 in
    let whole = unless_ok (is_odd_size size && nat_lt 0 offset) OddBlock _ p aligned.1 in
    (sized.0, whole.0, ok_parts _ _ whole.1)

-- a change that doesn't date the number keeps the attributes
pub attr_kept : (change : Change) (o p : Option Object) → dates_number change ≡ false → apply_change change o ≡ Ok p → attr_at p ≡ attr_at o
unfolding apply_change
attr_kept (Put head bonus keep_spill max_block) o p d h = absurd (true≢false d)
attr_kept (Spill bytes) o p d h = absurd (true≢false d)
attr_kept (FreeFrom offset) None p d h = absurd (cc)
attr_kept (FreeFrom offset) (Some object) p d h = sym (ap attr_at (ok_parts _ _ (unless_ok _ _ _ p h).1))
attr_kept (Free offset length) None p d h = absurd (cc)
attr_kept (Free offset length) (Some object) p d h = sym (ap attr_at (ok_parts _ _ (unless_ok _ _ _ p h).1))
attr_kept (Redact offset length) None p d h = absurd (cc)
attr_kept (Redact offset length) (Some object) p d h = sym (ap attr_at (redact_gives offset length object p h).1)
attr_kept (Write offset type bytes) None p d h = absurd (cc)
attr_kept (Write offset type bytes) (Some object) p d h = sym (ap attr_at (write_gives offset type bytes object p h).2)

-- a change that doesn't date an index keeps its content
pub content_kept : (change : Change) (o p : Option Object) (i : ℕ) → dates_index change o i ≡ false → apply_change change o ≡ Ok p → content_at p i ≡ content_at o i
unfolding apply_change
content_kept (Put head bonus keep_spill max_block) None p i d h = absurd (true≢false d)
content_kept (Put head bonus keep_spill max_block) (Some object) p i d h =
    let same : (object.attr.block_size == head.block_size) ≡ true = not-false _ d in
    sym (ap (λ o. content_at o i) (ok_parts _ _ h))
    ∙ ap (λ t. block_content head.block_size ((if t then object.blocks else λ j. Hole) i)) same
    ∙ ap (λ size. block_content size (object.blocks i)) (sym (eqb-true object.attr.block_size head.block_size same))
content_kept (Spill bytes) None p i d h = absurd (cc)
content_kept (Spill bytes) (Some object) p i d h = sym (ap (λ o. content_at o i) (ok_parts _ _ h))
content_kept (FreeFrom offset) None p i d h = absurd (cc)
content_kept (FreeFrom offset) (Some object) p i d h =
    sym (ap (λ o. content_at o i) (ok_parts _ _ (unless_ok _ _ _ p h).1))
    ∙ ap (block_content object.attr.block_size) (cond-false (nat_le offset (i * object.attr.block_size)) Hole (object.blocks i) d)
content_kept (Free offset length) None p i d h = absurd (cc)
content_kept (Free offset length) (Some object) p i d h =
    sym (ap (λ o. content_at o i) (ok_parts _ _ (unless_ok _ _ _ p h).1))
    ∙ ap (block_content object.attr.block_size) (cond-false (within offset length (i * object.attr.block_size)) Hole (object.blocks i) d)
content_kept (Redact offset length) None p i d h = absurd (cc)
content_kept (Redact offset length) (Some object) p i d h =
    sym (ap (λ o. content_at o i) (redact_gives offset length object p h).1)
    ∙ ap (block_content object.attr.block_size) (cond-false (within offset length (i * object.attr.block_size)) Redacted (object.blocks i) d)
content_kept (Write offset type bytes) None p i d h = absurd (cc)
content_kept (Write offset type bytes) (Some object) p i d h =
    sym (ap (λ o. content_at o i) (write_gives offset type bytes object p h).2)
    ∙ ap (block_content object.attr.block_size) (cond-false (i * object.attr.block_size == offset) (Data bytes) (object.blocks i) d)

-- what is seen of each number stays where it stays at the number that is put
pub put_kept : {A : Type 0} (seen : Option Object → A) (state : State) (j k : ℕ) (x : Option Object)
    → ((k == j) ≡ true → seen x ≡ seen (state j)) → seen (put_at state j x k) ≡ seen (state k)
put_kept seen state j k x h = go (k == j) refl
  where
    go : (t : Bool) → (k == j) ≡ t → seen (if t then x else state k) ≡ seen (state k)
    go true e = h e ∙ ap (λ n. seen (state n)) (sym (eqb-true k j e))
    go false e = refl

-- what is seen of each number stays where it stays at the numbers that become absent
freed_kept : {A : Type 0} (seen : Option Object → A) (state : State) → IsState state → (k : ℕ) (t : Bool)
    → (t && is_number k) ≡ false → seen (if t then None else state k) ≡ seen (state k)
freed_kept seen state s k true n = ap seen (sym (absent_outside state s k n))
freed_kept seen state s k false n = refl

item_attr : (item : Item) (state after : State) → IsState state → apply item state ≡ Ok after → (k : ℕ) → touches_number item k ≡ false → attr_at (after k) ≡ attr_at (state k)
unfolding apply
item_attr (FreeObjects first count) state after s h k t =
    ap (λ f. attr_at (f k)) (sym (ok_parts _ _ h)) ∙ freed_kept attr_at state s k (within first count k) t
item_attr (At j change) state after s h k t =
    let found = bind_ok (apply_change change (state j)) (λ o. Ok (put_at state j o)) after h in
    ap (λ f. attr_at (f k)) (sym (ok_parts _ _ found.2))
    ∙ put_kept attr_at state j k found.0 (λ e. attr_kept change (state j) found.0 (right_fails (k == j) (dates_number change) t e) found.1)

item_content : (item : Item) (state after : State) → IsState state → apply item state ≡ Ok after → (k i : ℕ) → i < index_bound
    → touches_index item state k i ≡ false → content_at (after k) i ≡ content_at (state k) i
unfolding apply
item_content (FreeObjects first count) state after s h k i l t =
    ap (λ f. content_at (f k) i) (sym (ok_parts _ _ h))
    ∙ freed_kept (λ o. content_at o i) state s k (within first count k) (left_fails (within first count k && is_number k) (nat_lt i index_bound) t (lt-ltb _ _ l))
item_content (At j change) state after s h k i l t =
    let found = bind_ok (apply_change change (state j)) (λ o. Ok (put_at state j o)) after h in
    let apart : (k == j && dates_index change (state j) i) ≡ false = left_fails _ (nat_lt i index_bound) t (lt-ltb _ _ l) in
    ap (λ f. content_at (f k) i) (sym (ok_parts _ _ found.2))
    ∙ put_kept (λ o. content_at o i) state j k found.0 (λ e. content_kept change (state j) found.0 i (right_fails (k == j) (dates_index change (state j) i) apart e) found.1)

-- the state after an item, with its dates
abbrev with_dates : ℕ → Item → DatedState → State → DatedState
with_dates number item snap state = record {
  state = state;
  number_date = λ k. if touches_number item k then number else snap.number_date k;
  index_date = λ k i. if touches_index item snap.state k i then number else snap.index_date k i;
}

-- an item that is applied with its dates is applied, and has its dates
pub dated_parts : (number : ℕ) (item : Item) (snap after : DatedState) → apply_dated number item snap ≡ Ok after
    → (apply item snap.state ≡ Ok after.state) × (with_dates number item snap after.state ≡ after)
dated_parts number item snap after h =
    let found = bind_ok (apply item snap.state) (λ state. Ok (with_dates number item snap state)) after h in
    let whole : with_dates number item snap found.0 ≡ after = ok_parts _ _ found.2 in
    let state : found.0 ≡ after.state = ap (λ d. d.state) whole in
    (found.1 ∙ ap (λ s. Ok s) state, ap (with_dates number item snap) (sym state) ∙ whole)

pub changes_dated : ChangesAreDated
changes_dated number item snap after s h =
    let applied = (dated_parts number item snap after h).0 in
    (item_attr item snap.state after.state s applied, item_content item snap.state after.state s applied)

-- each date is that of its definition
pub dates_exact : (number : ℕ) (item : Item) (snap after : DatedState) → apply_dated number item snap ≡ Ok after
    → ((k : ℕ) → after.number_date k ≡ (if touches_number item k then number else snap.number_date k))
    × ((k i : ℕ) → after.index_date k i ≡ (if touches_index item snap.state k i then number else snap.index_date k i))
dates_exact number item snap after h =
    let dated = (dated_parts number item snap after h).1 in
    (λ k. ap (λ d. d.number_date k) (sym dated), λ k i. ap (λ d. d.index_date k i) (sym dated))

pub remembered_itself : RemembersItself
remembered_itself snap number = record { numbers = λ k n d. refl; indices = λ k i n l d. refl }

-- what has a date at or below the number was not dated later, and has its old date
pub kept_date : (t : Bool) (number next old date : ℕ) → number < next → date ≡ (if t then next else old) → date ≤ number → (t ≡ false) × (old ≤ number) × (date ≡ old)
kept_date true number next old date l e d = absurd (omega arith)
kept_date false number next old date l e d = (refl, omega arith, e)

pub remembered_on : RemembersOn
remembered_on snap after number next item state s l h applied =
    let changes = changes_dated next item snap after s applied in
    let dates = dates_exact next item snap after applied in record {
      numbers = λ k n d.
          let kept = kept_date (touches_number item k) number next (snap.number_date k) (after.number_date k) l (dates.0 k) d in
          h.numbers k n kept.1 ∙ sym (changes.0 k kept.0);
      indices = λ k i n b d.
          let kept = kept_date (touches_index item snap.state k i) number next (snap.index_date k i) (after.index_date k i) l (dates.1 k i) d in
          h.indices k i n b kept.1 ∙ sym (changes.1 k i b kept.0);
    }

-- a lawful object with a new block at some indices is lawful where the block may stand there
set_lawful : (object : Object) (test : ℕ → Bool) (new : Block) → IsObject object → BlockFits object.attr.block_size new
    → ((i : ℕ) → 0 < i → is_odd_size object.attr.block_size ≡ true → test i ≡ true → new ≡ Hole)
    → ((i : ℕ) → index_bound ≤ i → test i ≡ true → new ≡ Hole)
    → IsObject (record { attr = object.attr; blocks = λ i. if test i then new else object.blocks i })
set_lawful object test new o f odd far = record {
  attr = o.attr;
  fits = λ i. fits i (test i);
  odd = λ i l t. hole i (test i) refl (odd i l t) (o.odd i l t);
  bounded = λ i l. hole i (test i) refl (far i l) (o.bounded i l);
}
  where
    fits : (i : ℕ) (t : Bool) → BlockFits object.attr.block_size (if t then new else object.blocks i)
    fits i true = f
    fits i false = o.fits i

    hole : (i : ℕ) (t : Bool) → test i ≡ t → (test i ≡ true → new ≡ Hole) → object.blocks i ≡ Hole → (if t then new else object.blocks i) ≡ Hole
    hole i true e h old = h e
    hole i false e h old = old

-- a new object of holes is lawful, and one of equal block size keeps lawful blocks
new_lawful : (attr : Attr) → IsAttr attr → IsObject (record { attr = attr; blocks = λ i. Hole })
new_lawful attr l = record { attr = l; fits = λ i. tt; odd = λ i m t. refl; bounded = λ i m. refl }

put_lawful : (attr : Attr) (object : Object) (t : Bool) → (object.attr.block_size == attr.block_size) ≡ t → IsAttr attr → IsObject object
    → IsObject (record { attr = attr; blocks = if t then object.blocks else λ i. Hole })
put_lawful attr object true e l o =
    let same : object.attr.block_size ≡ attr.block_size = eqb-true _ _ e in record {
      attr = l;
      fits = λ i. subst (λ size. BlockFits size (object.blocks i)) same (o.fits i);
      odd = λ i m t. o.odd i m (ap is_odd_size same ∙ t);
      bounded = o.bounded;
    }
put_lawful attr object false e l o = new_lawful attr l

spill_lawful : (object : Object) (bytes : List ℕ) → IsSpill bytes → IsObject object → IsObject (record { attr = record object.attr { spill = Some bytes }; blocks = object.blocks })
spill_lawful object bytes l o = record {
  attr = record { head = o.attr.head; bonus = o.attr.bonus; spill = l };
  fits = o.fits;
  odd = o.odd;
  bounded = o.bounded;
}

-- the attributes that an OBJECT gives are lawful, with the spill that it keeps
put_attr_lawful : (head : ObjectHead) (bonus : List ℕ) (keep_spill : Bool) (spill : Option (List ℕ)) → IsHead head × IsBonus bonus → IfSome spill IsSpill
    → IsAttr (attr_with head bonus (if keep_spill then spill else None))
put_attr_lawful head bonus true spill l s = record { head = l.0; bonus = l.1; spill = s }
put_attr_lawful head bonus false spill l s = record { head = l.0; bonus = l.1; spill = tt }

-- the place of an index over 0 is at or past the block size
past_first : (size i : ℕ) → 0 < i → size ≤ i * size
past_first size i l = let m : 1 * size ≤ i * size = mul-le-mul_right size l in omega (arith, m)

odd_range : (size offset length place : ℕ) → size ≤ place → within offset length place ≡ true → (nat_lt 0 length && nat_lt size (offset + length)) ≡ true
odd_range size offset length place l w = grind (arith, nat_tests)

change_lawful : (change : Change) (o p : Option Object) → IsObjectOrNone o → IsLawfulChange change o → apply_change change o ≡ Ok p → IsObjectOrNone p
unfolding apply_change
change_lawful (Put head bonus keep_spill max_block) None p s l h = subst IsObjectOrNone (ok_parts _ _ h) (new_lawful (attr_with head bonus None) (put_attr_lawful head bonus false None l tt))
change_lawful (Put head bonus keep_spill max_block) (Some object) p s l h =
    subst IsObjectOrNone (ok_parts _ _ h)
    (put_lawful (attr_with head bonus (if keep_spill then object.attr.spill else None)) object (object.attr.block_size == head.block_size) refl
    (put_attr_lawful head bonus keep_spill object.attr.spill l s.attr.spill) s)
change_lawful (Spill bytes) None p s l h = absurd (cc)
change_lawful (Spill bytes) (Some object) p s l h = subst IsObjectOrNone (ok_parts _ _ h) (spill_lawful object bytes l s)
change_lawful (FreeFrom offset) None p s l h = absurd (cc)
change_lawful (FreeFrom offset) (Some object) p s l h =
    subst IsObjectOrNone (ok_parts _ _ (unless_ok _ _ _ p h).1)
    (set_lawful object (λ i. nat_le offset (i * object.attr.block_size)) Hole s tt (λ i m t w. refl) (λ i m w. refl))
change_lawful (Free offset length) None p s l h = absurd (cc)
change_lawful (Free offset length) (Some object) p s l h =
    subst IsObjectOrNone (ok_parts _ _ (unless_ok _ _ _ p h).1)
    (set_lawful object (λ i. within offset length (i * object.attr.block_size)) Hole s tt (λ i m t w. refl) (λ i m w. refl))
change_lawful (Redact offset length) None p s l h = absurd (cc)
change_lawful (Redact offset length) (Some object) p s l h =
    let size = object.attr.block_size in
    let given = redact_gives offset length object p h in
    subst IsObjectOrNone given.1
    (set_lawful object (λ i. within offset length (i * size)) Redacted s tt
    (λ i m t w. absurd (true≢false (sym (odd_range size offset length (i * size) (past_first size i m) w) ∙ right_fails (is_odd_size size) (nat_lt 0 length && nat_lt size (offset + length)) given.0 t)))
    (λ i m w. absurd (true≢false (sym w ∙ l i m))))
change_lawful (Write offset type bytes) None p s l h = absurd (cc)
change_lawful (Write offset type bytes) (Some object) p s l h =
    let size = object.attr.block_size in
    let given = write_gives offset type bytes object p h in
    subst IsObjectOrNone given.2
    (set_lawful object (λ i. i * size == offset) (Data bytes) s (eqb-true (length bytes) size (not-false _ given.0), l.0)
    (λ i m t w.
    let first : size ≤ i * size = past_first size i m in
    let place : i * size ≡ offset = eqb-true (i * size) offset w in
    let some : 0 < offset = subst (λ n. 0 < n) place (over_none size (i * size) (size_of_lawful object s) first) in
    absurd (true≢false (sym (lt-ltb 0 offset some) ∙ right_fails (is_odd_size size) (nat_lt 0 offset) given.1 t)))
    (λ i m w. absurd (true≢false (sym w ∙ l.1 i m))))
  where
    over_none : (size place : ℕ) → 0 < size → size ≤ place → 0 < place
    over_none size place a b = omega arith

-- a lawful state with some numbers absent is lawful
freed_lawful : (state : State) (test : ℕ → Bool) → IsState state → IsState (λ k. if test k then None else state k)
freed_lawful state test s = record {
  zero = none 0 (test 0) s.zero;
  bounded = λ k l. none k (test k) (s.bounded k l);
  objects = λ k. lawful k (test k);
}
  where
    none : (k : ℕ) (t : Bool) → state k ≡ None → (if t then None else state k) ≡ None
    none k true e = refl
    none k false e = e

    lawful : (k : ℕ) (t : Bool) → IsObjectOrNone (if t then None else state k)
    lawful k true = tt
    lawful k false = s.objects k

-- a lawful state with a lawful object at a number that an object may have is lawful
placed_lawful : (state : State) (j : ℕ) (x : Option Object) → IsState state → is_number j ≡ true → IsObjectOrNone x → IsState (put_at state j x)
placed_lawful state j x s n o = record {
  zero = none 0 refl (0 == j) refl s.zero;
  bounded = λ k l. none k (and_right (nat_lt 0 k) _ (le-ltb k number_bound l)) (k == j) refl (s.bounded k l);
  objects = λ k. lawful k (k == j);
}
  where
    none : (k : ℕ) → is_number k ≡ false → (t : Bool) → (k == j) ≡ t → state k ≡ None → (if t then x else state k) ≡ None
    none k out true e a = absurd (true≢false (sym n ∙ ap is_number (sym (eqb-true k j e)) ∙ out))
    none k out false e a = a

    lawful : (k : ℕ) (t : Bool) → IsObjectOrNone (if t then x else state k)
    lawful k true = o
    lawful k false = s.objects k

item_lawful : (item : Item) (state after : State) → IsState state → IsLawfulItem item state → apply item state ≡ Ok after → IsState after
unfolding apply
item_lawful (FreeObjects first count) state after s l h = subst IsState (ok_parts _ _ h) (freed_lawful state (within first count) s)
item_lawful (At j change) state after s l h =
    let found = bind_ok (apply_change change (state j)) (λ o. Ok (put_at state j o)) after h in
    subst IsState (ok_parts _ _ found.2)
    (placed_lawful state j found.0 s l.0 (change_lawful change (state j) found.0 (s.objects j) l.1 found.1))

pub applied_state : AppliedIsState
applied_state number item snap after s l h = item_lawful item snap.state after.state s l (dated_parts number item snap after h).0

pub remembered_through : RemembersThrough
remembered_through snap after number next [] state s lawful l h applied =
    subst (λ d. IsState d.state × Remembers d number state) (ok_parts _ _ applied) (s, h)
remembered_through snap after number next (item ∷ rest) state s lawful l h applied =
    let found = bind_ok (apply_dated next item snap) (apply_all_dated next rest) after applied in
    let stepped = dated_parts next item snap found.0 found.1 in
    remembered_through found.0 after number next rest state (applied_state next item snap found.0 s lawful.0 found.1) (lawful.1 found.0.state stepped.0) l
    (remembered_on snap found.0 number next item state s l h found.1) found.2
