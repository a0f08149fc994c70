-- What a send from a token is to give, or why it can't (zfs-send(8), -t): its checks in their order.
use Rattle.std.specs.Prelude.{ℕ, ◌==◌, ◌&&◌, Bool, List, Option, Some, None, option_map, Result, Ok, Err, if◌then◌else◌, bytes_eq, find}
use Rattle.std.specs.Option.{ok_or, option_or}
use Rattle.zst_model.specs.declared.refusals.subjects.AbsentSubject.TheVariants as missing
use Rattle.zst_model.specs.declared.refusals.plan_fault.PlanFault.{PlanFault}
use Rattle.zst_model.specs.declared.refusals.plan_fault.PlanFault.TheVariants as plans
use Rattle.zst_model.specs.pools.Ancestry.{Source, OfSnapshot, OfBookmark}
use Rattle.zst_model.specs.pools.Pool.{Pool, Snapshot, Bookmark}
use Rattle.zst_model.specs.sends.Headers.{Sent, guid_of_source}
use Rattle.zst_model.specs.sends.SendPlan.{comes_before, has_guids, sent_of}
use Rattle.zst_model.specs.states.AppliedItems.{◌>>=◌}
use Rattle.zst_token.specs.declared.token.Token.{Token}

-- E3: nothing has this guid and what else the token states
abbrev pub no_guid : ℕ → PlanFault
no_guid guid = plans.NoSuch (missing.Guid guid)

-- the snapshot that is sent: the first with the token's to guid
abbrev pub find_to : Token → Pool → Result Snapshot PlanFault
find_to token pool = ok_or (find (λ snapshot. snapshot.guid == token.to) pool.snapshots) (no_guid token.to)

-- the redaction guids of a source
abbrev pub guids_of_source : Source → List ℕ
guids_of_source (OfSnapshot snapshot) = snapshot.redact
guids_of_source (OfBookmark bookmark) = bookmark.redact

-- whether a source has the token's from guid and from-redaction guids and stands before the snapshot
abbrev pub is_from : Token → Pool → Snapshot → Source → Bool
is_from token pool to source =
    guid_of_source source == token.from && (bytes_eq (guids_of_source source) token.from_redact && comes_before pool source to)

-- the first such snapshot, and the first such bookmark
abbrev pub first_snapshot : Token → Pool → Snapshot → Option Source
first_snapshot token pool to = option_map OfSnapshot (find (λ snapshot. is_from token pool to (OfSnapshot snapshot)) pool.snapshots)

abbrev pub first_bookmark : Token → Pool → Snapshot → Option Source
first_bookmark token pool to = option_map OfBookmark (find (λ bookmark. is_from token pool to (OfBookmark bookmark)) pool.bookmarks)

-- the snapshot, or else the bookmark
abbrev pub first_from : Token → Pool → Snapshot → Option Source
first_from token pool to = option_or (first_snapshot token pool to) (first_bookmark token pool to)

-- what the send is from; where the from guid is 0 it is from nothing
abbrev pub find_from : Token → Pool → Snapshot → Result (Option Source) PlanFault
find_from token pool to = if token.from == 0 then Ok None else ok_or (option_map Some (first_from token pool to)) (no_guid token.from)

-- whether a bookmark has the token's to guid and redaction guids
abbrev pub is_marked : Token → Bookmark → Bool
is_marked token bookmark = bookmark.guid == token.to && bytes_eq bookmark.redact token.redact

-- the first such bookmark; a token without redaction guids has none
abbrev pub find_mark : Token → Pool → Result (Option Bookmark) PlanFault
find_mark token pool =
    if has_guids token.redact then ok_or (option_map Some (find (is_marked token) pool.bookmarks)) (no_guid token.to) else Err (no_guid token.to)

-- the redaction bookmark: none where the snapshot has the token's redaction guids itself, and else the first that has the to guid and these; a token without redaction guids is of no redacted snapshot
abbrev pub find_marked : Token → Pool → Snapshot → Result (Option Bookmark) PlanFault
find_marked token pool to = if bytes_eq to.redact token.redact then Ok None else find_mark token pool

-- what a send from a token is to give: E3 of the snapshot, of the source and of the bookmark come first, and then the checks of each send
unfoldable pub resumed_send : Token → Pool → Result Sent PlanFault
resumed_send token pool =
    find_to token pool
    >>= (λ snapshot. find_from token pool snapshot
    >>= (λ source. find_marked token pool snapshot
    >>= (λ redaction. sent_of pool snapshot source redaction)))
