-- The next item of a walk.
use Rattle.std.proofs.Common.{inl, inr, ◌⊎◌, ◌≡◌, ℕ, zero, suc, pred, ◌+◌, ◌*◌, ◌<◌, ◌≤◌, Bool, true, false, List, [], ◌∷◌, ◌++◌, map, flat_map, option_map, Some, None, refl, sym, ap, ◌∙◌, arith, subst, append_assoc, nat_lt, nat_le, ◌==◌, if◌then◌else◌, eq-eqb, ne_eqb, mul-le-mul_right}
use Rattle.std.proofs.Math.Path.{fun_ext}
use Rattle.std.proofs.Math.Nat.{add-mul, one-mul}
use Rattle.std.proofs.lemmas.List.{map-append}
use Rattle.std.proofs.lemmas.Bool.{cases_order, cases_lt, cond-true, cond-false, lt-ltb, le-ltb, le-leb, lt-leb, and_parts, ltb-true, true≢false}
use Rattle.zst_model.specs.states.State.{Block, Hole, Redacted, Data, number_bound, is_number}
use Rattle.zst_model.specs.declared.sends.header.Point.{Point}
use Rattle.zst_model.specs.declared.states.attr.Attr.{Attr}
use Rattle.zst_model.specs.declared.states.item.Change.TheVariants.{Free, Redact}
use Rattle.zst_model.specs.declared.states.item.Item.{Item}
use Rattle.zst_model.specs.declared.states.item.Item.TheVariants.{At, FreeObjects}
use Rattle.zst_model.specs.sends.View.{View, ObjectView, There, Gone}
use Rattle.zst_model.specs.sends.Items.{single_items, join, before, joined, rising, number_items, block_changes, block_change, change_at, opening}
use Rattle.zst_model.proofs.ObjectNumbers.{number_from}
use Rattle.zst_laws.specs.Walk.{number_rest, left_at, walk_left, NothingBelow, WalkBegins, WalkEnds, ObjectIsNext, GoneIsNext, GoneRunIsNext, BlockIsNext, run_change, BlockRunIsNext}
use Rattle.zst_laws.proofs.sends.CutSends.{all_numbers}
use Rattle.zst_laws.proofs.sends.ExactSends.{place_below}
use Rattle.zst_laws.proofs.sends.Writer.{before-joined}

-- two passes that agree from a number on
later_same : {A : Type 0} (f g : ℕ → List A) (n a : ℕ) → ((j : ℕ) → a ≤ j → f j ≡ g j) → flat_map f (rising a n) ≡ flat_map g (rising a n)
unfolding rising
later_same f g zero a h = refl
later_same f g (suc n) a h = ap (λ l. l ++ flat_map f (rising (suc a) n)) (h a (omega arith)) ∙ ap (λ l. g a ++ l) (later_same f g n (suc a) (λ j m. h j (omega arith)))

-- nothing before a number, and then these there: they are the first
pub first_items : {A : Type 0} (f g : ℕ → List A) (xs : List A) (k n a : ℕ) → a ≤ k → k < a + n
    → ((j : ℕ) → j < k → f j ≡ []) → ((j : ℕ) → j < k → g j ≡ []) → f k ≡ xs ++ g k → ((j : ℕ) → k < j → f j ≡ g j)
    → flat_map f (rising a n) ≡ xs ++ flat_map g (rising a n)
unfolding rising
first_items f g xs k zero a low high none none' here later = absurd (omega arith)
first_items f g xs k (suc n) a low high none none' here later =
    go (cases_order k a) (λ m. first_items f g xs k n (suc a) m (omega arith) none none' here later)
  where
    go : (k ≡ a) ⊎ ((k < a) ⊎ (a < k)) → (suc a ≤ k → flat_map f (rising (suc a) n) ≡ xs ++ flat_map g (rising (suc a) n))
        → f a ++ flat_map f (rising (suc a) n) ≡ xs ++ (g a ++ flat_map g (rising (suc a) n))
    go (inl e) deeper =
        ap (λ l. l ++ flat_map f (rising (suc a) n)) (subst (λ i. f i ≡ xs ++ g i) e here)
        ∙ ap (λ l. (xs ++ g a) ++ l) (later_same f g n (suc a) (λ j m. later j (omega (arith, e))))
        ∙ append_assoc xs (g a) (flat_map g (rising (suc a) n))
    go (inr (inl m)) deeper = absurd (omega arith)
    go (inr (inr m)) deeper =
        ap (λ l. l ++ flat_map f (rising (suc a) n)) (none a m) ∙ deeper m ∙ ap (λ l. xs ++ (l ++ flat_map g (rising (suc a) n))) (sym (none' a m))

in_numbers : (k : ℕ) → is_number k ≡ true → (1 ≤ k) × (k < 1 + pred number_bound)
in_numbers k e =
    let parts = and_parts (nat_lt 0 k) (nat_lt k number_bound) e in
    (ltb-true 0 k parts.0, subst (λ n. k < n) (sym all_numbers) (ltb-true k number_bound parts.1))

pub left_below : (view : View) (point : Point) (slot : Bool) (j : ℕ) → j < point.object → left_at view point slot j ≡ []
left_below view point slot j l = cond-true (nat_lt j point.object) _ _ (lt-ltb _ _ l)

pub left_own : (view : View) (point : Point) (slot : Bool) → left_at view point slot point.object ≡ (if slot then number_items point.object point.offset (view.shown point.object) else number_rest point.object point.offset (view.shown point.object))
left_own view point slot =
    cond-false (nat_lt point.object point.object) _ _ (le-ltb _ _ (omega arith)) ∙ cond-true (point.object == point.object) _ _ (eq-eqb point.object point.object refl)

pub left_above : (view : View) (point : Point) (slot : Bool) (j : ℕ) → point.object < j → left_at view point slot j ≡ number_items j 0 (view.shown j)
left_above view point slot j l =
    cond-false (nat_lt j point.object) _ _ (le-ltb _ _ (omega arith)) ∙ cond-false (j == point.object) _ _ (ne_eqb j point.object (λ e. omega (arith, e)))

left_with : (view : View) (point : Point) (k : ℕ) → point.object ≤ k → left_at view point true k ≡ number_items k (if k == point.object then point.offset else 0) (view.shown k)
left_with view point k l = cond-false (nat_lt k point.object) _ _ (le-ltb _ _ l) ∙ go (k == point.object)
  where
    go : (t : Bool) → (if t then number_items k point.offset (view.shown k) else number_items k 0 (view.shown k)) ≡ number_items k (if t then point.offset else 0) (view.shown k)
    go true = refl
    go false = refl

-- the first number that is left, whether its slot is asked for or stands above
left_first : (view : View) (point : Point) (slot : Bool) (k : ℕ) → point.object ≤ k → (slot ≡ false → point.object < k)
    → left_at view point slot k ≡ number_items k (if k == point.object then point.offset else 0) (view.shown k)
left_first view point true k l m = left_with view point k l
left_first view point false k l m =
    left_above view point false k (m refl) ∙ ap (λ n. number_items k n (view.shown k)) (sym (cond-false (k == point.object) point.offset 0 (ne_eqb k point.object (λ e. omega (arith, e, m refl)))))

pub object_next : ObjectIsNext
unfolding walk_left
object_next view point slot k object n none l m s =
    let offset : ℕ = if k == point.object then point.offset else 0 in
    let next : Point = record { object = k; offset = offset } in
    let range = in_numbers k n in
    first_items (left_at view point slot) (left_at view next false) (map (At k) (opening object)) k (pred number_bound) 1 range.0 range.1
    none (left_below view next false)
    (left_first view point slot k l m ∙ ap (number_items k offset) s ∙ map-append (At k) (opening object) (block_changes object offset)
    ∙ ap (λ r. map (At k) (opening object) ++ r) (sym (left_own view next false ∙ ap (number_rest k offset) s)))
    (λ j t. left_above view point slot j (omega arith) ∙ sym (left_above view next false j t))

pub gone_next : GoneIsNext
unfolding walk_left
gone_next view point slot k n none l m s =
    let next : Point = record { object = k + 1; offset = 0 } in
    let range = in_numbers k n in
    first_items (left_at view point slot) (left_at view next true) (FreeObjects k 1 ∷ []) k (pred number_bound) 1 range.0 range.1
    none (λ j t. left_below view next true j (omega arith))
    (left_first view point slot k l m ∙ ap (number_items k (if k == point.object then point.offset else 0)) s ∙ ap (λ r. FreeObjects k 1 ∷ r) (sym (left_below view next true k (omega arith))))
    (λ j t. left_above view point slot j (omega arith) ∙ sym (after j t (cases_order j (k + 1))))
  where
    after : (j : ℕ) → k < j → (j ≡ k + 1) ⊎ ((j < k + 1) ⊎ (k + 1 < j)) → left_at view (record { object = k + 1; offset = 0 }) true j ≡ number_items j 0 (view.shown j)
    after j t (inl e) = subst (λ i. left_at view (record { object = k + 1; offset = 0 }) true i ≡ number_items i 0 (view.shown i)) (sym e) (left_own view (record { object = k + 1; offset = 0 }) true)
    after j t (inr (inl u)) = absurd (omega arith)
    after j t (inr (inr u)) = left_above view (record { object = k + 1; offset = 0 }) true j u

-- the changes of an object, from a block on
changes_next : (object : ObjectView) (offset i : ℕ) (block : Block) → 0 < object.attr.block_size → i < object.end → offset ≤ i * object.attr.block_size
    → ((j : ℕ) → j < i → offset ≤ j * object.attr.block_size → object.blocks j ≡ None) → object.blocks i ≡ Some block
    → block_changes object offset ≡ block_change object.attr i (Some block) ++ block_changes object ((i + 1) * object.attr.block_size)
changes_next object offset i block pos l high none s =
    first_items (change_at object offset) (change_at object ((i + 1) * object.attr.block_size)) (block_change object.attr i (Some block)) i object.end 0
    (omega arith) (omega arith) (λ j m. skipped j m (cases_lt (j * object.attr.block_size) offset)) (λ j m. passed j (omega arith))
    (cond-true (nat_le offset (i * object.attr.block_size)) _ _ (le-leb _ _ high) ∙ ap (block_change object.attr i) s
    ∙ sym (ap (λ r. block_change object.attr i (Some block) ++ r) (passed i (omega arith)) ∙ no_more block))
    (λ j m. cond-true (nat_le offset (j * object.attr.block_size)) _ _ (le-leb _ _ (far j m)) ∙ sym (cond-true (nat_le ((i + 1) * object.attr.block_size) (j * object.attr.block_size)) _ _ (le-leb _ _ (next j m))))
  where
    size : ℕ
    size = object.attr.block_size

    no_more : (b : Block) → block_change object.attr i (Some b) ++ [] ≡ block_change object.attr i (Some b)
    no_more Hole = refl
    no_more Redacted = refl
    no_more (Data bytes) = refl

    skipped : (j : ℕ) → j < i → (j * object.attr.block_size < offset) ⊎ (offset ≤ j * object.attr.block_size) → change_at object offset j ≡ []
    skipped j m (inl low) = cond-false (nat_le offset (j * object.attr.block_size)) _ _ (lt-leb _ _ low)
    skipped j m (inr up) = cond-true (nat_le offset (j * object.attr.block_size)) _ _ (le-leb _ _ up) ∙ ap (block_change object.attr j) (none j m up)

    passed : (j : ℕ) → j ≤ i → change_at object ((i + 1) * object.attr.block_size) j ≡ []
    passed j m = cond-false (nat_le ((i + 1) * object.attr.block_size) (j * object.attr.block_size)) _ _ (lt-leb _ _ (before j m pos))
      where
        before : (j : ℕ) → j ≤ i → 0 < object.attr.block_size → j * object.attr.block_size < (i + 1) * object.attr.block_size
        before j m pos = let k : j * object.attr.block_size ≤ i * object.attr.block_size = mul-le-mul_right object.attr.block_size m in omega arith

    next : (j : ℕ) → i < j → (i + 1) * object.attr.block_size ≤ j * object.attr.block_size
    next j m = let k : suc i * object.attr.block_size ≤ j * object.attr.block_size = mul-le-mul_right object.attr.block_size m in omega arith

    far : (j : ℕ) → i < j → offset ≤ j * object.attr.block_size
    far j m = let k : suc i * object.attr.block_size ≤ j * object.attr.block_size = mul-le-mul_right object.attr.block_size m in omega arith

pub block_next : BlockIsNext
unfolding walk_left
block_next view point object i block n s pos l high none is =
    let next : Point = record { object = point.object; offset = (i + 1) * object.attr.block_size } in
    let range = in_numbers point.object n in
    let changes = block_change object.attr i (Some block) in
    first_items (left_at view point false) (left_at view next false) (map (At point.object) changes) point.object (pred number_bound) 1 range.0 range.1
    (left_below view point false) (left_below view next false)
    (left_own view point false ∙ ap (number_rest point.object point.offset) s
    ∙ ap (map (At point.object)) (changes_next object point.offset i block pos l high none is)
    ∙ map-append (At point.object) changes (block_changes object ((i + 1) * object.attr.block_size))
    ∙ ap (λ r. map (At point.object) changes ++ r) (sym (left_own view next false ∙ ap (number_rest point.object ((i + 1) * object.attr.block_size)) s)))
    (λ j m. left_above view point false j m ∙ sym (left_above view next false j m))

pub walk_starts : WalkBegins
unfolding walk_left single_items
walk_starts view point = ap (λ f. flat_map f (rising 1 (pred number_bound))) (fun_ext (λ k. own k (nat_lt k point.object)))
  where
    inner : (k : ℕ) (t : Bool) → (if t then number_items k point.offset (view.shown k) else number_items k 0 (view.shown k)) ≡ number_items k (if t then point.offset else 0) (view.shown k)
    inner k true = refl
    inner k false = refl

    own : (k : ℕ) (t : Bool)
        → (if t then [] else (if k == point.object then number_items k point.offset (view.shown k) else number_items k 0 (view.shown k)))
        ≡ (if t then [] else number_items k (if k == point.object then point.offset else 0) (view.shown k))
    own k true = refl
    own k false = inner k (k == point.object)

-- a pass that finds nothing
pub all_none : {A : Type 0} (f : ℕ → List A) (n a : ℕ) → ((j : ℕ) → j < a + n → f j ≡ []) → flat_map f (rising a n) ≡ []
unfolding rising
all_none f zero a h = refl
all_none f (suc n) a h = ap (λ l. l ++ flat_map f (rising (suc a) n)) (h a (omega arith)) ∙ all_none f n (suc a) (λ j m. h j (omega arith))

pub walk_stops : WalkEnds
unfolding walk_left
walk_stops view point slot none = all_none (left_at view point slot) (pred number_bound) 1 (λ j m. none j (subst (λ n. j < n) all_numbers m))

-- a run from its first number: n more follow
gone_run : (view : View) (n : ℕ) (point : Point) (slot : Bool) (k : ℕ)
    → 0 < k → k + suc n ≤ number_bound → NothingBelow view point slot k → point.object ≤ k → (slot ≡ false → point.object < k)
    → ((j : ℕ) → k ≤ j → j < k + suc n → view.shown j ≡ Gone)
    → joined (walk_left view point slot) ≡ joined (FreeObjects k (suc n) ∷ walk_left view (record { object = k + suc n; offset = 0 }) true)
gone_run view zero point slot k pos high none l m gone =
    ap joined (gone_next view point slot k (number_from k pos (omega arith)) none l m (gone k (omega arith) (omega arith)))
gone_run view (suc n) point slot k pos high none l m gone =
    let next : Point = record { object = k + 1; offset = 0 } in
    let far : Point = record { object = k + 1 + suc n; offset = 0 } in
    let sum : k + 1 + suc n ≡ k + suc (suc n) = omega arith in
    ap joined (gone_next view point slot k (number_from k pos (omega arith)) none l m (gone k (omega arith) (omega arith)))
    ∙ ap (before (FreeObjects k 1)) (gone_run view n next true (k + 1) (omega arith) (omega arith) (left_below view next true) (omega arith) (λ e. absurd (true≢false e)) (λ j a b. gone j (omega arith) (omega arith)))
    ∙ before-joined (FreeObjects k 1) (FreeObjects (k + 1) (suc n)) (FreeObjects k (1 + suc n)) (joined (walk_left view far true)) (cond-true (k + 1 == k + 1) _ _ (eq-eqb (k + 1) (k + 1) refl))
    ∙ ap (λ c. before (FreeObjects k c) (joined (walk_left view far true))) (omega arith)
    ∙ ap (λ o. before (FreeObjects k (suc (suc n))) (joined (walk_left view (record { object = o; offset = 0 }) true))) sum

pub gone_run_next : GoneRunIsNext
gone_run_next view point slot k zero pos some high none l m gone = absurd (omega arith)
gone_run_next view point slot k (suc n) pos some high none l m gone = gone_run view n point slot k pos high none l m gone

-- one block is a run of one
one_run : (attr : Attr) (i : ℕ) (block : Block) → block_change attr i (Some block) ≡ run_change attr i 1 block ∷ []
one_run attr i Hole = ap (λ n. Free (i * attr.block_size) n ∷ []) (sym (one-mul attr.block_size))
one_run attr i Redacted = ap (λ n. Redact (i * attr.block_size) n ∷ []) (sym (one-mul attr.block_size))
one_run attr i (Data bytes) = refl

-- a block and the run that follows it are one run
longer_run : (k : ℕ) (attr : Attr) (i n : ℕ) (block : Block) → ((bytes : List ℕ) → block ≡ Data bytes → ⊥)
    → join (At k (run_change attr i 1 block)) (At k (run_change attr (i + 1) (suc n) block)) ≡ Some (At k (run_change attr i (suc (suc n)) block))
longer_run k attr i n Hole h =
    let size = attr.block_size in
    let touch : i * size + 1 * size ≡ (i + 1) * size = sym (add-mul i 1 size) in
    let sum : 1 * size + suc n * size ≡ suc (suc n) * size = sym (add-mul 1 (suc n) size) ∙ ap (λ c. c * size) (omega arith) in
    cond-true (k == k) _ _ (eq-eqb k k refl)
    ∙ ap (option_map (At k)) (cond-true (i * size + 1 * size == (i + 1) * size) _ _ (eq-eqb _ _ touch))
    ∙ ap (λ c. Some (At k (Free (i * size) c))) sum
longer_run k attr i n Redacted h =
    let size = attr.block_size in
    let touch : i * size + 1 * size ≡ (i + 1) * size = sym (add-mul i 1 size) in
    let sum : 1 * size + suc n * size ≡ suc (suc n) * size = sym (add-mul 1 (suc n) size) ∙ ap (λ c. c * size) (omega arith) in
    cond-true (k == k) _ _ (eq-eqb k k refl)
    ∙ ap (option_map (At k)) (cond-true (i * size + 1 * size == (i + 1) * size) _ _ (eq-eqb _ _ touch))
    ∙ ap (λ c. Some (At k (Redact (i * size) c))) sum
longer_run k attr i n (Data bytes) h = absurd (h bytes refl)

-- a run from its first block: n more follow
block_run : (view : View) (object : ObjectView) (block : Block) (k n : ℕ) (offset i : ℕ)
    → is_number k ≡ true → view.shown k ≡ There object → 0 < object.attr.block_size → i + suc n ≤ object.end → offset ≤ i * object.attr.block_size
    → ((j : ℕ) → j < i → offset ≤ j * object.attr.block_size → object.blocks j ≡ None)
    → ((j : ℕ) → i ≤ j → j < i + suc n → object.blocks j ≡ Some block)
    → ((bytes : List ℕ) → block ≡ Data bytes → suc n ≡ 1)
    → joined (walk_left view (record { object = k; offset = offset }) false)
    ≡ joined (At k (run_change object.attr i (suc n) block) ∷ walk_left view (record { object = k; offset = (i + suc n) * object.attr.block_size }) false)
block_run view object block k zero offset i is s pos high far none all h =
    ap joined (block_next view (record { object = k; offset = offset }) object i block is s pos (omega arith) far none (all i (omega arith) (omega arith)))
    ∙ ap (λ cs. joined (map (At k) cs ++ walk_left view (record { object = k; offset = (i + 1) * object.attr.block_size }) false)) (one_run object.attr i block)
block_run view object block k (suc n) offset i is s pos high far none all h =
    let size = object.attr.block_size in
    let sum : i + 1 + suc n ≡ i + suc (suc n) = omega arith in
    let rest : List Item = walk_left view (record { object = k; offset = (i + 1 + suc n) * size }) false in
    ap joined (block_next view (record { object = k; offset = offset }) object i block is s pos (omega arith) far none (all i (omega arith) (omega arith)))
    ∙ ap (λ cs. joined (map (At k) cs ++ walk_left view (record { object = k; offset = (i + 1) * size }) false)) (one_run object.attr i block)
    ∙ ap (before (At k (run_change object.attr i 1 block)))
    (block_run view object block k n ((i + 1) * size) (i + 1) is s pos (omega arith) (omega arith) (λ j m t. absurd (passed j m t)) (λ j a b. all j (omega arith) (omega arith)) (λ b e. absurd (omega (arith, h b e))))
    ∙ before-joined (At k (run_change object.attr i 1 block)) (At k (run_change object.attr (i + 1) (suc n) block)) (At k (run_change object.attr i (suc (suc n)) block)) (joined rest) (longer_run k object.attr i n block (λ b e. omega (arith, h b e)))
    ∙ ap (λ o. before (At k (run_change object.attr i (suc (suc n)) block)) (joined (walk_left view (record { object = k; offset = o * size }) false))) sum
  where
    passed : (j : ℕ) → j < i + 1 → (i + 1) * object.attr.block_size ≤ j * object.attr.block_size → ⊥
    passed j m t =
        let low : suc j * object.attr.block_size ≤ (i + 1) * object.attr.block_size = mul-le-mul_right object.attr.block_size (next_le j m) in
        let less : j * object.attr.block_size < suc j * object.attr.block_size = place_below object.attr.block_size j (suc j) pos (omega arith) in
        omega arith
      where
        next_le : (j : ℕ) → j < i + 1 → suc j ≤ i + 1
        next_le j m = omega arith

pub block_run_next : BlockRunIsNext
block_run_next view point object i zero block is s pos some high far none all h = absurd (omega arith)
block_run_next view point object i (suc n) block is s pos some high far none all h =
    block_run view object block point.object n point.offset i is s pos high far none all h
