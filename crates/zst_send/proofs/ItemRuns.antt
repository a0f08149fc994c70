-- What is given first of the items that are left: an item that stands alone, or a run as long as it can be.
use Rattle.std.proofs.Common.{◌≡◌, ℕ, ◌+◌, ◌*◌, ◌≤◌, length, Bool, true, false, List, [], ◌∷◌, ◌++◌, map, option_map, pred, take, Option, Some, None, refl, sym, ap, ◌∙◌, subst, ◌==◌, ◌&&◌, if◌then◌else◌}
use Rattle.std.specs.Prelude.{IfSome}
use Rattle.std.proofs.lemmas.Bool.{cond-true, cond-false, true≢false}
use Rattle.zst_dnode.specs.declared.dnode.Dnode.{Dnode}
use Rattle.zst_model.specs.declared.states.attr.ObjectHead.{ObjectHead}
use Rattle.zst_model.specs.declared.states.item.Change.{Change}
use Rattle.zst_model.specs.declared.states.item.Change.TheVariants as changes
use Rattle.zst_model.specs.declared.states.item.Item.{Item}
use Rattle.zst_model.specs.declared.states.item.Item.TheVariants.{At, FreeObjects}
use Rattle.zst_model.specs.sends.Items.{before, join, join_changes, joined, spill_change}
use Rattle.zst_model.specs.sends.View.{View}
use Rattle.zst_model.specs.states.DatedState.{DatedState}
use Rattle.zst_laws.specs.JoinedRuns.{HeldGoesOn}
use Rattle.zst_objset.specs.Dnodes.{SpillIs}
use Rattle.zst_tree.specs.Indices.{Blocks}
use Rattle.zst_send.specs.DueItems.{AreBehind, AreDue, AreHeld, IsFirst, behind, head_in, is_run, joined_due, longest_payload, opened}
use Rattle.zst_send.specs.WalkPositions.{ComesFirst, Gives, GoesTo, IsPositionOf, left_behind}
use Rattle.zst_send.specs.declared.due_items.DueItems.{DueItems}
use Rattle.zst_send.specs.declared.due_items.DueItems.TheVariants as dues
use Rattle.zst_send.specs.declared.walk_position.WalkPosition.{WalkPosition}

-- ---- items that stand alone

-- an item that nothing joins with stands by itself
alone_before : (x : Item) → ((y : Item) → join x y ≡ None) → (rest : List Item) → before x rest ≡ x ∷ rest
alone_before x none [] = refl
alone_before x none (y ∷ ys) = rw (none y) refl

-- a change that joins with no other
stands_alone : (k : ℕ) (c : Change) → ((d : Change) → join_changes c d ≡ None) → (y : Item) → join (At k c) y ≡ None
stands_alone k c none (FreeObjects first count) = refl
stands_alone k c none (At j d) = go (k == j)
  where
    go : (t : Bool) → (if t then option_map (At k) (join_changes c d) else None) ≡ None
    go true = ap (option_map (At k)) (none d)
    go false = refl

put_alone : (head : ObjectHead) (bonus : List ℕ) (keep : Bool) (max : ℕ) (d : Change) → join_changes (changes.Put head bonus keep max) d ≡ None
put_alone head bonus keep max d = refl

spill_alone : (bytes : List ℕ) (d : Change) → join_changes (changes.Spill bytes) d ≡ None
spill_alone bytes d = refl

tail_alone : (offset : ℕ) (d : Change) → join_changes (changes.FreeFrom offset) d ≡ None
tail_alone offset d = refl

block_alone : (offset type : ℕ) (bytes : List ℕ) (d : Change) → join_changes (changes.Write offset type bytes) d ≡ None
block_alone offset type bytes d = refl

module _ (has : Blocks) where
  -- what is no run stands alone
  due_alone : (due : DueItems) (item : Item) → is_run due ≡ false → IsFirst has due item → (y : Item) → join item y ≡ None
  due_alone (dues.Absent first count) item e is y = absurd (true≢false e)
  due_alone (dues.Object k dnode) item e is y = rw is (stands_alone k (changes.Put (head_in dnode) (take dnode.bonus_len dnode.bonus) false (pred dnode.end)) (put_alone (head_in dnode) (take dnode.bonus_len dnode.bonus) false (pred dnode.end)) y)
  due_alone (dues.Spill k ptr tail) item e (bytes, there, less, is) y = rw is (stands_alone k (changes.Spill bytes) (spill_alone bytes) y)
  due_alone (dues.Tail k offset) item e is y = rw is (stands_alone k (changes.FreeFrom offset) (tail_alone offset) y)
  due_alone (dues.Holes k offset count) item e is y = absurd (true≢false e)
  due_alone (dues.Redacted k offset count) item e is y = absurd (true≢false e)
  due_alone (dues.Block k type offset ptr) item e (bytes, there, less, is) y = rw is (stands_alone k (changes.Write offset type bytes) (block_alone offset type bytes) y)

  -- what is behind the first item is held next
  opened_held : (k : ℕ) (dnode : Dnode) (spill : Option (List ℕ)) → SpillIs has dnode.spill spill → IfSome spill (λ bytes. length bytes ≤ longest_payload)
      → AreHeld has (Some (opened k dnode)) (map (At k) (spill_change spill ++ (changes.FreeFrom (dnode.end * dnode.block_size) ∷ [])))
  opened_held k dnode None kind less =
      let tail : ℕ = dnode.end * dnode.block_size in
      subst (λ (due : DueItems). AreDue has due (At k (changes.FreeFrom tail) ∷ [])) (sym (cond-true (dnode.spill.kind == 0) (dues.Tail k tail) (dues.Spill k dnode.spill tail) (rw kind refl)))
      (record { first = At k (changes.FreeFrom tail); later = []; are = refl; is_first = refl; are_behind = refl })
  opened_held k dnode (Some bytes) (kind, there) less =
      let tail : ℕ = dnode.end * dnode.block_size in
      subst (λ (due : DueItems). AreDue has due (At k (changes.Spill bytes) ∷ At k (changes.FreeFrom tail) ∷ [])) (sym (cond-false (dnode.spill.kind == 0) (dues.Tail k tail) (dues.Spill k dnode.spill tail) (rw kind refl)))
      (record { first = At k (changes.Spill bytes); later = At k (changes.FreeFrom tail) ∷ []; are = refl; is_first = (bytes, there, less, refl); are_behind = refl })

  behind_held : (due : DueItems) (items : List Item) → AreBehind has due items → AreHeld has (behind due) items
  behind_held (dues.Absent first count) items is = is
  behind_held (dues.Object k dnode) items (spill, there, less, is) = subst (λ (l : List Item). AreDue has (opened k dnode) l) (sym is) (opened_held k dnode spill there less)
  behind_held (dues.Spill k ptr tail) items is = record { first = At k (changes.FreeFrom tail); later = []; are = is; is_first = refl; are_behind = refl }
  behind_held (dues.Tail k offset) items is = is
  behind_held (dues.Holes k offset count) items is = is
  behind_held (dues.Redacted k offset count) items is = is
  behind_held (dues.Block k type offset ptr) items is = is

  -- what is no run is given, and what is behind it is held
  pub gives_alone : (snap : DatedState) (view : View) (left : List Item) (position : WalkPosition) (due : DueItems) → is_run due ≡ false
      → ComesFirst has snap view left position (Some due) → Gives has snap view left (record { position = position; held = behind due }) (Some due)
  gives_alone snap view left position due e (items, are, left_is, of) = (
    are.first,
    are.later,
    are.is_first,
    record { held_are = behind_held due are.later are.are_behind; position_is = of },
    left_is ∙ ap (λ (l : List Item). joined (l ++ left_behind view position)) are.are ∙ alone_before are.first (due_alone due are.first e are.is_first) (joined (are.later ++ left_behind view position)),
  )

  -- ---- runs

  -- a joined run is that of the joined items
  abbrev JoinIs : Option DueItems → Option Item → Type 0
  JoinIs None None = Unit {0}
  JoinIs None (Some item) = ⊥
  JoinIs (Some due) None = ⊥
  JoinIs (Some due) (Some item) = IsFirst has due item

  numbers_join : (f m g n : ℕ) (t : Bool) → JoinIs (if t then Some (dues.Absent f (m + n)) else None) (if t then Some (FreeObjects f (m + n)) else None)
  numbers_join f m g n true = refl
  numbers_join f m g n false = tt

  holes_join : (k o m n : ℕ) (s t : Bool)
      → JoinIs (if s && t then Some (dues.Holes k o (m + n)) else None) (if s then option_map (At k) (if t then Some (changes.Free o (m + n)) else None) else None)
  holes_join k o m n true true = refl
  holes_join k o m n true false = tt
  holes_join k o m n false t = tt

  redacted_join : (k o m n : ℕ) (s t : Bool)
      → JoinIs (if s && t then Some (dues.Redacted k o (m + n)) else None) (if s then option_map (At k) (if t then Some (changes.Redact o (m + n)) else None) else None)
  redacted_join k o m n true true = refl
  redacted_join k o m n true false = tt
  redacted_join k o m n false t = tt

  none_join : (k : ℕ) (t : Bool) → JoinIs None (if t then option_map (At k) None else None)
  none_join k true = tt
  none_join k false = tt

  items_join : (run due : DueItems) (x y : Item) → is_run run ≡ true → IsFirst has run x → IsFirst has due y → JoinIs (joined_due run (Some due)) (join x y)
  items_join (dues.Absent f m) (dues.Absent g n) x y e p q = rw (p, q) (numbers_join f m g n (f + m == g))
  items_join (dues.Absent f m) (dues.Object k dnode) x y e p q = rw (p, q) tt
  items_join (dues.Absent f m) (dues.Spill k ptr tail) x y e p (bytes, there, less, q) = rw (p, q) tt
  items_join (dues.Absent f m) (dues.Tail k offset) x y e p q = rw (p, q) tt
  items_join (dues.Absent f m) (dues.Holes k offset count) x y e p q = rw (p, q) tt
  items_join (dues.Absent f m) (dues.Redacted k offset count) x y e p q = rw (p, q) tt
  items_join (dues.Absent f m) (dues.Block k type offset ptr) x y e p (bytes, there, less, q) = rw (p, q) tt
  items_join (dues.Holes k o m) (dues.Absent g n) x y e p q = rw (p, q) tt
  items_join (dues.Holes k o m) (dues.Object j dnode) x y e p q = rw (p, q) (none_join k (k == j))
  items_join (dues.Holes k o m) (dues.Spill j ptr tail) x y e p (bytes, there, less, q) = rw (p, q) (none_join k (k == j))
  items_join (dues.Holes k o m) (dues.Tail j offset) x y e p q = rw (p, q) (none_join k (k == j))
  items_join (dues.Holes k o m) (dues.Holes j g n) x y e p q = rw (p, q) (holes_join k o m n (k == j) (o + m == g))
  items_join (dues.Holes k o m) (dues.Redacted j offset count) x y e p q = rw (p, q) (none_join k (k == j))
  items_join (dues.Holes k o m) (dues.Block j type offset ptr) x y e p (bytes, there, less, q) = rw (p, q) (none_join k (k == j))
  items_join (dues.Redacted k o m) (dues.Absent g n) x y e p q = rw (p, q) tt
  items_join (dues.Redacted k o m) (dues.Object j dnode) x y e p q = rw (p, q) (none_join k (k == j))
  items_join (dues.Redacted k o m) (dues.Spill j ptr tail) x y e p (bytes, there, less, q) = rw (p, q) (none_join k (k == j))
  items_join (dues.Redacted k o m) (dues.Tail j offset) x y e p q = rw (p, q) (none_join k (k == j))
  items_join (dues.Redacted k o m) (dues.Holes j offset count) x y e p q = rw (p, q) (none_join k (k == j))
  items_join (dues.Redacted k o m) (dues.Redacted j g n) x y e p q = rw (p, q) (redacted_join k o m n (k == j) (o + m == g))
  items_join (dues.Redacted k o m) (dues.Block j type offset ptr) x y e p (bytes, there, less, q) = rw (p, q) (none_join k (k == j))
  items_join (dues.Object k dnode) due x y e p q = absurd (true≢false (sym e))
  items_join (dues.Spill k ptr tail) due x y e p q = absurd (true≢false (sym e))
  items_join (dues.Tail k offset) due x y e p q = absurd (true≢false (sym e))
  items_join (dues.Block k type offset ptr) due x y e p q = absurd (true≢false (sym e))

  -- nothing is behind a run that was joined
  joined_single : (run due both : DueItems) (items : List Item) → joined_due run (Some due) ≡ Some both → AreBehind has due items → items ≡ []
  joined_single run (dues.Absent g n) both items e is = is
  joined_single (dues.Absent f m) (dues.Object k dnode) both items e is = absurd (cc)
  joined_single (dues.Object j other) (dues.Object k dnode) both items e is = absurd (cc)
  joined_single (dues.Spill j ptr tail) (dues.Object k dnode) both items e is = absurd (cc)
  joined_single (dues.Tail j offset) (dues.Object k dnode) both items e is = absurd (cc)
  joined_single (dues.Holes j offset count) (dues.Object k dnode) both items e is = absurd (cc)
  joined_single (dues.Redacted j offset count) (dues.Object k dnode) both items e is = absurd (cc)
  joined_single (dues.Block j type offset ptr) (dues.Object k dnode) both items e is = absurd (cc)
  joined_single (dues.Absent f m) (dues.Spill k p t) both items e is = absurd (cc)
  joined_single (dues.Object j other) (dues.Spill k p t) both items e is = absurd (cc)
  joined_single (dues.Spill j ptr tail) (dues.Spill k p t) both items e is = absurd (cc)
  joined_single (dues.Tail j offset) (dues.Spill k p t) both items e is = absurd (cc)
  joined_single (dues.Holes j offset count) (dues.Spill k p t) both items e is = absurd (cc)
  joined_single (dues.Redacted j offset count) (dues.Spill k p t) both items e is = absurd (cc)
  joined_single (dues.Block j type offset ptr) (dues.Spill k p t) both items e is = absurd (cc)
  joined_single run (dues.Tail k offset) both items e is = is
  joined_single run (dues.Holes k offset count) both items e is = is
  joined_single run (dues.Redacted k offset count) both items e is = is
  joined_single run (dues.Block k type offset ptr) both items e is = is

  -- a run comes first of what is left, and then what was found behind it; where nothing was found, nothing is left behind the position
  pub record RunComes (snap : DatedState) (view : View) (left : List Item) (position : WalkPosition) (run : DueItems) (next : Option DueItems) : Type 0 where
    pub first : Item
    pub is_first : IsFirst has run first
    pub held : List Item
    pub held_are : AreHeld has next held
    pub left_is : left ≡ joined (first ∷ (held ++ left_behind view position))
    pub ends : next ≡ None → left_behind view position ≡ []
    pub of : IsPositionOf snap position

  -- what is found behind a run comes after it
  pub run_found : (snap : DatedState) (view : View) (left : List Item) (old new : WalkPosition) (run : DueItems) (next : Option DueItems) (first : Item)
      → IsFirst has run first → left ≡ joined (first ∷ left_behind view old) → GoesTo has snap view old new next → RunComes snap view left new run next
  run_found snap view left old new run None first is left_is (none, behind, of) = record {
    first = first;
    is_first = is;
    held = [];
    held_are = refl;
    left_is = left_is ∙ ap (λ (l : List Item). joined (first ∷ l)) (none ∙ sym behind);
    ends = λ e. behind;
    of = of;
  }
  run_found snap view left old new run (Some due) first is left_is (items, are, goes, of) = record {
    first = first;
    is_first = is;
    held = items;
    held_are = are;
    left_is = left_is ∙ ap (before first) goes;
    ends = λ e. absurd (cc);
    of = of;
  }

  -- a run that is due, and no more than it
  run_single : (run : DueItems) (items : List Item) → is_run run ≡ true → (are : AreDue has run items) → are.later ≡ []
  run_single (dues.Absent f m) items e are = are.are_behind
  run_single (dues.Object k dnode) items e are = absurd (true≢false (sym e))
  run_single (dues.Spill k ptr tail) items e are = absurd (true≢false (sym e))
  run_single (dues.Tail k offset) items e are = absurd (true≢false (sym e))
  run_single (dues.Holes k offset count) items e are = are.are_behind
  run_single (dues.Redacted k offset count) items e are = are.are_behind
  run_single (dues.Block k type offset ptr) items e are = absurd (true≢false (sym e))

  pub run_begins : (snap : DatedState) (view : View) (left : List Item) (old new : WalkPosition) (run : DueItems) (next : Option DueItems) → is_run run ≡ true
      → ComesFirst has snap view left old (Some run) → GoesTo has snap view old new next → RunComes snap view left new run next
  run_begins snap view left old new run next e (items, are, left_is, of) goes =
      run_found snap view left old new run next are.first are.is_first
      (left_is ∙ ap (λ (l : List Item). joined (l ++ left_behind view old)) (are.are ∙ ap (λ (l : List Item). are.first ∷ l) (run_single run items e are))) goes

  -- what touches a run goes into it, and what is found behind both comes next
  pub run_grows : HeldGoesOn → (snap : DatedState) (view : View) (left : List Item) (old new : WalkPosition) (run due both : DueItems) (next : Option DueItems) → is_run run ≡ true
      → joined_due run (Some due) ≡ Some both → RunComes snap view left old run (Some due) → GoesTo has snap view old new next → RunComes snap view left new both next
  run_grows goes_on snap view left old new run due both next e joins comes goes =
      let are = comes.held_are in
      let single : are.later ≡ [] = joined_single run due both are.later joins are.are_behind in
      let tested = subst (λ (d : Option DueItems). JoinIs d (join comes.first are.first)) joins (items_join run due comes.first are.first e comes.is_first are.is_first) in
      go (join comes.first are.first) refl tested
      (comes.left_is ∙ ap (λ (l : List Item). joined (comes.first ∷ (l ++ left_behind view old))) (are.are ∙ ap (λ (l : List Item). are.first ∷ l) single))
    where
      go : (item : Option Item) → join comes.first comes.held_are.first ≡ item → JoinIs (Some both) item
          → left ≡ joined (comes.first ∷ comes.held_are.first ∷ left_behind view old) → RunComes snap view left new both next
      go None same is left_is = absurd is
      go (Some item) same is left_is =
          run_found snap view left old new both next item is (left_is ∙ (goes_on comes.first comes.held_are.first (left_behind view old)).0 item same) goes

  -- what doesn't touch a run leaves it as it is: it is given, and the other is held
  pub run_ends : HeldGoesOn → (snap : DatedState) (view : View) (left : List Item) (position : WalkPosition) (run : DueItems) (next : Option DueItems) → is_run run ≡ true
      → joined_due run next ≡ None → RunComes snap view left position run next → Gives has snap view left (record { position = position; held = next }) (Some run)
  run_ends goes_on snap view left position run None e joins comes = (
    comes.first,
    comes.held,
    comes.is_first,
    record { held_are = comes.held_are; position_is = comes.of },
    (let empty : comes.held ++ left_behind view position ≡ [] = ap (λ (l : List Item). l ++ left_behind view position) comes.held_are ∙ comes.ends refl in
        comes.left_is ∙ ap (λ (l : List Item). joined (comes.first ∷ l)) empty ∙ ap (λ (l : List Item). comes.first ∷ joined l) (sym empty)),
  )
  run_ends goes_on snap view left position run (Some due) e joins comes = (
    comes.first,
    comes.held,
    comes.is_first,
    record { held_are = comes.held_are; position_is = comes.of },
    comes.left_is ∙ ap (λ (l : List Item). joined (comes.first ∷ (l ++ left_behind view position))) comes.held_are.are
        ∙ (goes_on comes.first comes.held_are.first (comes.held_are.later ++ left_behind view position)).1 (go (join comes.first comes.held_are.first) refl (subst (λ (d : Option DueItems). JoinIs d (join comes.first comes.held_are.first)) joins (items_join run due comes.first comes.held_are.first e comes.is_first comes.held_are.is_first)))
        ∙ ap (λ (l : List Item). comes.first ∷ joined (l ++ left_behind view position)) (sym comes.held_are.are),
  )
    where
      go : (item : Option Item) → join comes.first comes.held_are.first ≡ item → JoinIs None item → join comes.first comes.held_are.first ≡ None
      go None same is = same
      go (Some item) same is = absurd is

  joins_something : (run : DueItems) → joined_due run None ≡ None
  joins_something (dues.Absent f m) = refl
  joins_something (dues.Object k dnode) = refl
  joins_something (dues.Spill k ptr tail) = refl
  joins_something (dues.Tail k offset) = refl
  joins_something (dues.Holes k offset count) = refl
  joins_something (dues.Redacted k offset count) = refl
  joins_something (dues.Block k type offset ptr) = refl

  -- so it is with whatever was found
  pub run_goes_on : HeldGoesOn → (snap : DatedState) (view : View) (left : List Item) (old new : WalkPosition) (run both : DueItems) (found next : Option DueItems) → is_run run ≡ true
      → joined_due run found ≡ Some both → RunComes snap view left old run found → GoesTo has snap view old new next → RunComes snap view left new both next
  run_goes_on goes_on snap view left old new run both None next e joins comes goes = let none : joined_due run None ≡ None = joins_something run in absurd (cc)
  run_goes_on goes_on snap view left old new run both (Some due) next e joins comes goes = run_grows goes_on snap view left old new run due both next e joins comes goes
