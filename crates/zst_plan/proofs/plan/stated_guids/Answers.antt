use Rattle.std.proofs.Common.{rules, ◌∙◌, Option, sym, subst}
use Rattle.std.specs.Borrow.{Bor}
use Rattle.zst_dir.specs.declared.rows.Bookmark.{Bookmark}
use Rattle.zst_plan.specs.Places.{FindAlike}
use Rattle.zst_plan.specs.Sources.{FoundBookmark}
use Rattle.zst_plan.proofs.plan.stated_guids.Goals as goal
use Rattle.zst_plan.proofs.AlikeAnswers.{none_alike, some_alike}

pub returns-in-Some : goal.returns-in-Some
returns-in-Some c = λ pool to bookmark are names at.
    let found = some_alike FoundBookmark c.in-Some.bookmark bookmark
    (subst (λ (o : Option (Bor Bookmark)). FindAlike FoundBookmark o bookmark) c.in-Some.is (c.bookmark_at.ensures pool bookmark are at)) in
    rw found.1 (c.duplicate.ensures ∙ sym found.2.redact)

pub returns-in-None : goal.returns-in-None
returns-in-None c = λ pool to bookmark are names at.
    let none = none_alike FoundBookmark bookmark
    (subst (λ (o : Option (Bor Bookmark)). FindAlike FoundBookmark o bookmark) c.in-None.is (c.bookmark_at.ensures pool bookmark are at)) in
    let own = sym names.redact in
    rw none (search rules)
