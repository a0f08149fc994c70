use Rattle.std.proofs.Common.{◌≡◌, ◌++◌, [], ◌∷◌, refl, sym, ap, subst}
use Rattle.zst_record.specs.Heads.{Covered, size_of}
use Rattle.zst_record.specs.declared.head.Head.{Head}
use Rattle.zst_reader.specs.Mark.{mark_after}
use Rattle.zst_reader.specs.StandsFor.{StandsFor}
use Rattle.zst_reader.specs.Steps.{Counts}
use Rattle.zst_reader.proofs.reader.Reader.next.Goals as goal

pub returns-in-Ok-Record : goal.returns-in-Ok-Record
returns-in-Ok-Record c =
    let old = c.args.self.now in
    let new = c.find.new.self in
    let same = c.lent.ensures in
    let moves : Counts old new 1 (mark_after new.head) × (new.taken ≡ size_of new.head) = rw c.in-Ok-Record.field-0-is at c.in-Ok-Record.ensures.moves in
    let Ends : Head → Type 0 = λ head. Counts old new 1 (mark_after head) in (
      (
        refl,
        λ _. tt,
        (
          subst Ends (sym (ap (λ (d : Covered). d.head) same)) moves.0,
          λ text handed stands. let Stands : Covered → Type 0 = λ d. StandsFor new text (handed ++ d ∷ []) in
              subst Stands (sym same) (rw c.in-Ok-Record.field-0-is at (c.in-Ok-Record.ensures.finds text handed stands)),
        ),
      ),
      record { steps = tt },
    )

pub returns-in-Ok-NeedMore : goal.returns-in-Ok-NeedMore
returns-in-Ok-NeedMore c = (
  (
    refl,
    λ _. tt,
    (
      rw c.in-Ok-NeedMore.field-0-is at c.in-Ok-NeedMore.ensures.moves,
      λ text handed stands. rw c.in-Ok-NeedMore.field-0-is at (c.in-Ok-NeedMore.ensures.finds text handed stands),
    ),
  ),
  record { steps = tt },
)

pub returns-in-Ok-End : goal.returns-in-Ok-End
returns-in-Ok-End c = (
  (
    refl,
    λ _. tt,
    (
      rw c.in-Ok-End.field-0-is at c.in-Ok-End.ensures.moves,
      λ text handed stands. rw c.in-Ok-End.field-0-is at (c.in-Ok-End.ensures.finds text handed stands),
    ),
  ),
  record { steps = tt },
)
