use Rattle.std.proofs.Common.{ℕ, List, Option, drop, ap, subst, ◌∙◌, arith}
use Rattle.std.proofs.lemmas.List.{take_rest}
use Rattle.memchr.specs.Find.{IsFirstByte, is_byte}
use Rattle.zst_script.specs.ScriptLines.{held_of}
use Rattle.zst_script.proofs.LineEnds.{found, unfound}
use Rattle.zst_script.proofs.ReadingSteps.{reads_none}
use Rattle.zst_script.proofs.script_lines.ScriptLines.find_end.Goals as goal

pub reads-init : goal.reads-init
reads-init g c = record { reads = reads_none _ _; live = c.requires; within = omega arith; whole = λ k d less. absurd (omega arith) }

pub returns-in-Some-clause-reaches : goal.returns-in-Some-clause-reaches
returns-in-Some-clause-reaches g c =
    let i = c.reads.invariant in
    let searched = c.reads.searched in
    let is = take_rest c.held-held.result.now searched ∙ ap (λ (l : List ℕ). drop searched l) c.held-held.ensures.items in
    let first = subst (λ (l : List ℕ). IsFirstByte (is_byte 10) l c.memchr.result) is c.memchr.ensures in (
      i.live,
      found (held_of c.reads.self) searched c.in-Some.place i.within i.whole
          (subst (λ (r : Option ℕ). IsFirstByte (is_byte 10) (drop searched (held_of c.reads.self)) r) c.in-Some.is first),
    )

pub read_more-requires-clause-whole : goal.read_more-requires-clause-whole
read_more-requires-clause-whole g c =
    let i = c.reads.invariant in
    let searched = c.reads.searched in
    let is = take_rest c.held-held.result.now searched ∙ ap (λ (l : List ℕ). drop searched l) c.held-held.ensures.items in
    let first = subst (λ (l : List ℕ). IsFirstByte (is_byte 10) l c.memchr.result) is c.memchr.ensures in
    unfound (held_of c.reads.self) searched i.within i.whole
    (subst (λ (r : Option ℕ). IsFirstByte (is_byte 10) (drop searched (held_of c.reads.self)) r) c.in-None.is first)
