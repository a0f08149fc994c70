use Rattle.std.proofs.Common.{◌≡◌, ◌+◌, ◌-◌, ℕ, List, Ok, Err, take, drop, refl, sym, ap, arith}
use Rattle.zst_record.specs.Heads.{payload_len}
use Rattle.zst_reader.proofs.VerdictLemmas.{says-begin, says-other}
use Rattle.zst_reader.proofs.verdict.open_payload.Goals as goal

-- a part of so many bytes
part : (held : List ℕ) (len : ℕ) → take (312 + len - 312) (drop 312 held) ≡ take len (drop 312 held)
part held len = let count : 312 + len - 312 ≡ len = omega arith in ap (λ (n : ℕ). take n (drop 312 held)) count

pub returns-in-Ok : goal.returns-in-Ok
returns-in-Ok c =
    let held = c.args.held.now in
    let len = c.in-Begin.payload_len in
    record {
      says =
          says-begin c.args.head.now c.in-Begin.header c.duplicate.result len held (take (312 + len - 312) (drop 312 held)) (Ok c.in-Ok.header)
          c.in-Begin.is (part held len) c.duplicate.ensures c.in-Ok.ensures;
      len = sym (ap payload_len c.in-Begin.is);
      later = refl;
    }

pub returns-in-Err : goal.returns-in-Err
returns-in-Err c =
    let held = c.args.held.now in
    let len = c.in-Begin.payload_len in
    says-begin c.args.head.now c.in-Begin.header c.duplicate.result len held (take (312 + len - 312) (drop 312 held)) (Err c.in-Err.fault)
    c.in-Begin.is (part held len) c.duplicate.ensures c.in-Err.ensures

pub returns-in_default : goal.returns-in_default
returns-in_default c = says-other c.args.head.now (take (payload_len c.args.head.now) (drop 312 c.args.held.now)) (λ header len is. c.in_default.not-Begin header len is)
