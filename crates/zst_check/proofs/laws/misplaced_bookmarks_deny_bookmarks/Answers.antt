use Rattle.zst_check.proofs.Denials.{bad_bookmark_denies}
use Rattle.zst_check.proofs.laws.misplaced_bookmarks_deny_bookmarks.Goals as goal

pub returns : goal.returns
returns c = bad_bookmark_denies
