use Rattle.std.proofs.Common.{◌≡◌, ◌≤◌, ◌-◌, map, length, drop, string_bytes, arith, length-drop}
use Rattle.std.proofs.lemmas.List.{length-map, take_all, drop-map}
use Rattle.std.proofs.lemmas.Grind.{elements}
use Rattle.zst_line.specs.declared.kind.Kind.TheVariants as kinds
use Rattle.zst_line.specs.Grammar.{named}
use Rattle.zst_line.proofs.Numbers.{as_many, takes_at}
use Rattle.zst_line.proofs.RedactionWords.{redactions_named}
use Rattle.zst_line.proofs.WordWalk.{snapshots_taken}
use Rattle.zst_line.proofs.streams.redact.Goals as goal

pub unreachable-requires : goal.unreachable-requires
unreachable-requires c = omega (arith, as_many (named kinds.Redact (length c.args.words.now)) c.args.words.now c.requires)

pub snapshots-requires : goal.snapshots-requires
snapshots-requires c =
    let words = c.args.words.now in
    let long : length (map string_bytes words) ≡ length words = length-map words string_bytes in
    let cut = length-drop 3 words in
    let short : length (drop 3 words) ≤ length words - 3 = omega arith in
    let whole = take_all (length words - 3) (drop 3 words) short in
    let fits = snapshots_taken (map string_bytes words) (rw long c.requires) in
    rw (whole, ← drop-map string_bytes 3 words) fits

pub snapshot-requires : goal.snapshot-requires
snapshot-requires c =
    takes_at (named kinds.Redact (length c.args.words.now)) c.args.words.now 1 c.of-item.result c.as_str-2.result.now c.requires (omega arith) c.of-item.is c.as_str-2.ensures.value

pub bookmark-requires : goal.bookmark-requires
bookmark-requires c =
    takes_at (named kinds.Redact (length c.args.words.now)) c.args.words.now 2 c.name-item.result c.as_str-3.result.now c.requires (omega arith) c.name-item.is c.as_str-3.ensures.value

pub returns : goal.returns
returns c =
    let words = c.args.words.now in
    let long : length (map string_bytes words) ≡ length words = length-map words string_bytes in
    let cut = length-drop 3 words in
    let short : length (drop 3 words) ≤ length words - 3 = omega arith in
    let whole = take_all (length words - 3) (drop 3 words) short in
    let kept = redactions_named (map string_bytes words) (rw long c.requires) in (
      grind (arith, elements),
      (
        c.snapshot.ensures.name,
        c.bookmark.ensures.name,
        rw (c.in_ok-snapshots.ensures, whole, ← drop-map string_bytes 3 words) kept.names,
        rw (c.in_ok-snapshots.ensures, whole, ← drop-map string_bytes 3 words) kept.some,
        rw (c.in_ok-snapshots.ensures, whole, ← drop-map string_bytes 3 words) kept.few,
      ),
      tt,
    )
