use Rattle.std.proofs.Common.{◌≡◌, ◌+◌, length, arith}
use Rattle.zst_names.specs.Rest.{IsRest}
use Rattle.zst_names.proofs.Front.{byte_stops, stops_at_byte, stops_at_end, whole_goes_on}
use Rattle.zst_names.proofs.scan.walk.Goals as goal

pub loop-place-init : goal.loop-place-init
loop-place-init c = record { open_here = c.requires.start_is_open; same_ends = λ rest. (λ h. h, λ h. h) }

pub returns-in-None-clause-exact : goal.returns-in-None-clause-exact
returns-in-None-clause-exact c =
    λ h. absurd (byte_stops c.args.mark (IsRest c.args.mark c.args.start 0) c.args.text.now c.loop-place.position c.loop-place.place c.loop-place.invariant c.loop-place-test.true c.in-None.ensures
    (whole_goes_on (IsRest c.args.mark c.args.start 0) c.args.text.now (c.loop-place.place + 1) h))

pub returns-in-None-clause-cause : goal.returns-in-None-clause-cause
returns-in-None-clause-cause c =
    stops_at_byte c.args.mark (IsRest c.args.mark c.args.start 0) c.requires.marked c.args.text.now c.loop-place.position c.loop-place.place c.loop-place.invariant c.loop-place-test.true c.in-None.ensures

pub returns-else-is_whole-clause-cause : goal.returns-else-is_whole-clause-cause
returns-else-is_whole-clause-cause c =
    let ended : c.loop-place.place ≡ length c.args.text.now = omega arith in
    stops_at_end c.args.mark (IsRest c.args.mark c.args.start 0) c.requires.marked c.args.text.now c.loop-place.position c.loop-place.place c.loop-place.invariant ended
    (λ h. cc ((c.is_whole.ensures c.loop-place.place c.loop-place.invariant.open_here).1 h, c.if-is_whole.false))
