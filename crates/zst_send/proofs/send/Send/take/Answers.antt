use Rattle.std.proofs.Common.{◌≡◌, Ok, ℕ, ◌+◌, List, ◌++◌, take, drop, sym, ap, ◌∙◌, subst, append_assoc, Some, Option, refl, ◌*◌, ◌≤◌, length, arith, length-append}
use Rattle.std.proofs.lemmas.List.{take-append-drop, length-take-le}
use Rattle.zst_space.specs.FreeSectors.{FreeSectors}
use Rattle.zst_block.specs.Blocks.{Has}
use Rattle.zst_block.specs.IoStates.{blocks_of, disk_of, io_of}
use Rattle.zst_block.specs.IoCalls.{Looks}
use Rattle.zst_block.proofs.IoCallLemmas.{Looks-none}
use Rattle.zst_model.specs.sends.Inclusion.{Choice}
use Rattle.zst_model.specs.sends.View.{view_of}
use Rattle.zst_objset.proofs.LeafLaws.{look_on}
use Rattle.zst_block.specs.declared.fault.BlockFault.{BlockFault}
use Rattle.zst_block.specs.declared.fault.BlockFault.TheVariants as blocks
use Rattle.zst_pool.specs.Faults.{of_block}
use Rattle.zst_tree.specs.Indices.{IsNoDamage}
use Rattle.zst_send.specs.Sends.{IsTakeFault, SendsFrom, begun, begun_view}
use Rattle.zst_record.specs.Payload.{stated_point}
use Rattle.zst_send.specs.SendState.{StandsAt}
use Rattle.std.proofs.lemmas.Result.{err_from_is_err_and}
use Rattle.zst_pool.proofs.QueryLemmas.{set_told}
use Rattle.zst_objset.specs.declared.fault.ObjFault.TheVariants as set_faults
use Rattle.zst_model.specs.sends.Items.{items}
use Rattle.zst_stream.specs.Image.{front_of}
use Rattle.zst_send.specs.Subjects.{HoldsFor, choice_for}
use Rattle.zst_send.specs.Costs.{Pays, blocks_in, cells_in}
use Rattle.zst_send.specs.Records.{AreLeft, HasPut, touched}
use Rattle.zst_send.proofs.ItemCosts.{take_pays, take_puts}
use Rattle.zst_send.specs.Damage.{IsDamagedSend}
use Rattle.zst_send.specs.KnownPointers.{IsAmong}
use Rattle.zst_send.specs.Takes.{IsReadFault}
use Rattle.zst_pool.specs.declared.fault.PoolFault.TheVariants.{Failed}
use Rattle.zst_pool.specs.Queries.{stop_of}
use Rattle.std.specs.Prelude.{Err, Ok}
use Rattle.std.proofs.lemmas.Bool.{true≢false}
use Rattle.zst_send.proofs.send.Send.take.Goals as goal

pub returns-clause-takes_from : goal.returns-clause-takes_from
returns-clause-takes_from g c = λ sent start given left honest sends.
    let snap = sent.snapshot.objects in
    let to : ℕ = c.args.self.now.subject.to in
    let at = subst (λ (choice : Choice). StandsAt (blocks_of c.args.pool.now.io) snap (view_of (begun sent start) snap choice) to c.args.self.now.stand left) sends.choice sends.stands in
    let fills = c.in_ok-count.ensures.fills (begun sent start) snap left honest sends.holds sends.loaded at in
    let had = subst (λ (choice : Choice). HasPut (blocks_of c.args.pool.now.io) snap (view_of (begun sent start) snap choice) (stated_point start) (length (front_of (begun sent start))) sends.put (length given) c.args.self.now.stand) sends.choice sends.has_put in
    let puts = c.in_ok-count.ensures.puts (begun sent start) snap (stated_point start) (length (front_of (begun sent start))) sends.put (length given) honest sends.holds had in
    let less : c.in_ok-count.count ≤ length left = omega (arith, fills.count_is) in
    let long : length (given ++ take c.in_ok-count.count left) ≡ length given + c.in_ok-count.count = length-append given (take c.in_ok-count.count left) ∙ ap (λ (n : ℕ). length given + n) (length-take-le c.in_ok-count.count left less) in (
      fills.count_is,
      fills.given,
      record {
        text = append_assoc given (take c.in_ok-count.count left) (drop c.in_ok-count.count left) ∙ ap (λ (l : List ℕ). given ++ l) (take-append-drop c.in_ok-count.count left) ∙ sends.text;
        holds = look_on (λ (seen : List ℕ) (space : FreeSectors). HoldsFor (Has seen space) c.args.self.now.subject snap) c.in_ok-count.ensures.reads.looks sends.holds;
        choice = sends.choice;
        to = sends.to;
        stands = subst (λ (choice : Choice). StandsAt (blocks_of c.fill.new.io) snap (view_of (begun sent start) snap choice) to c.fill.new.self (drop c.in_ok-count.count left)) (sym sends.choice) fills.stands;
        put = sends.put ++ puts.more;
        has_put = subst (λ (n : ℕ). HasPut (blocks_of c.fill.new.io) snap (begun_view sent start) (stated_point start) (length (front_of (begun sent start))) (sends.put ++ puts.more) n c.fill.new.self) (sym long)
            (subst (λ (choice : Choice). HasPut (blocks_of c.fill.new.io) snap (view_of (begun sent start) snap choice) (stated_point start) (length (front_of (begun sent start))) (sends.put ++ puts.more) (length given + c.in_ok-count.count) c.fill.new.self) (sym sends.choice) puts.now);
        loaded = c.in_ok-count.ensures.reads.loaded (begun sent start) snap left honest sends.holds sends.loaded at;
      },
    )

-- a call that reads refuses for its disk alone, where no damage is told
take_refused : (fault : BlockFault) → IsNoDamage fault → ((need largest : ℕ) → ¬ (Some fault ≡ Some (blocks.Full need largest))) → IsTakeFault (of_block fault)
take_refused (blocks.Full need largest) none never = absurd (never need largest refl)
take_refused (blocks.Damaged sector stated found) none never = absurd none
take_refused blocks.DiskFault none never = tt

pub returns-in_err-count-clause-takes_from : goal.returns-in_err-count-clause-takes_from
returns-in_err-count-clause-takes_from g c = λ sent start given left honest sends.
    let snap = sent.snapshot.objects in
    let at = subst (λ (choice : Choice). StandsAt (blocks_of c.args.pool.now.io) snap (view_of (begun sent start) snap choice) c.args.self.now.subject.to c.args.self.now.stand left) sends.choice sends.stands in
    let same = look_on (λ (seen : List ℕ) (space : FreeSectors). SendsFrom (Has seen space) c.args.self.now sent start given left) c.in_err-count.ensures.reads.looks sends in
    let loaded = c.in_err-count.ensures.reads.loaded (begun sent start) snap left honest sends.holds sends.loaded at in
    let still : SendsFrom (blocks_of c.fill.new.io) (record c.args.self.now { buffer = c.fill.new.buffer }) sent start given left =
    record { text = same.text; holds = same.holds; choice = same.choice; to = same.to; stands = same.stands; put = same.put; has_put = same.has_put; loaded = loaded } in
    let fills = c.in_err-count.ensures.fills (begun sent start) snap left honest sends.holds sends.loaded at in
    let p = err_from_is_err_and c.from_residual.result c.from_residual.ensures.1 in
    rw (p.1, p.2) (take_refused _ fills c.in_err-count.ensures.reads.looks.never_full, still)

pub returns-in_err-count-clause-damaged : goal.returns-in_err-count-clause-damaged
returns-in_err-count-clause-damaged g c = λ images among honest was.
    let p = err_from_is_err_and c.from_residual.result c.from_residual.ensures.1 in
    let told = c.in_err-count.ensures.reads.damaged images among honest was in
    let Is = IsDamagedSend (IsAmong images) (disk_of c.args.pool.now.io).size c.args.self.now.subject.set in
    rw (p.1, p.2) (set_told Is Is (λ sector stated found damaged. damaged) (Unit {0}) (set_faults.Block c.in_err-count.field-0.0) told)

pub returns-clause-knows : goal.returns-clause-knows
returns-clause-knows g c = λ images among honest was. c.in_ok-count.ensures.reads.stands images among honest was

-- ---- the pool

-- a block's fault stops a take as it stopped the call
block_stops : (fault : BlockFault) → Some fault ≡ stop_of {T = ℕ} (Err (of_block fault))
block_stops (blocks.Full need largest) = refl
block_stops (blocks.Damaged sector stated found) = refl
block_stops blocks.DiskFault = refl

-- and it isn't that the pool failed before
never_failed : (fault : BlockFault) → of_block fault ≡ Failed → ⊥
never_failed (blocks.Full need largest) is = absurd (cc is)
never_failed (blocks.Damaged sector stated found) is = absurd (cc is)
never_failed blocks.DiskFault is = absurd (cc is)

-- a call that takes no room is refused as a read is
read_refused : (fault : BlockFault) → ((need largest : ℕ) → ¬ (Some fault ≡ Some (blocks.Full need largest))) → IsReadFault (of_block fault)
read_refused (blocks.Full need largest) never = absurd (never need largest refl)
read_refused (blocks.Damaged sector stated found) never = tt
read_refused blocks.DiskFault never = tt

pub returns-then-pool-clause-pool : goal.returns-then-pool-clause-pool
returns-then-pool-clause-pool g c = record {
  failed_pool = λ is. refl;
  open_still = λ still is. true≢false (sym c.if-pool.true ∙ still);
  known = tt;
  looks = Looks-none _;
  kept = refl;
}

pub returns-in_err-count-clause-pool : goal.returns-in_err-count-clause-pool
returns-in_err-count-clause-pool g c =
    let p = err_from_is_err_and c.from_residual.result c.from_residual.ensures.1 in
    let fault = c.in_err-count.field-0.0 in
    rw (p.1, p.2) (record {
      failed_pool = λ failed. absurd (true≢false (sym failed ∙ c.if-pool.false));
      open_still = λ still is. let same : of_block fault ≡ Failed = cc is in never_failed fault same;
      known = read_refused fault c.in_err-count.ensures.reads.looks.never_full;
      looks = subst (λ (stop : Option BlockFault). Looks (io_of c.args.pool.now.io) (io_of c.fill.new.io) stop) (block_stops fault) c.in_err-count.ensures.reads.looks;
      kept = refl;
    })

pub returns-clause-pool : goal.returns-clause-pool
returns-clause-pool g c = record {
  failed_pool = λ failed. absurd (true≢false (sym failed ∙ c.if-pool.false));
  open_still = λ still is. absurd (cc);
  known = tt;
  looks = c.in_ok-count.ensures.reads.looks;
  kept = refl;
}

pub returns-then-pool-clause-into : goal.returns-then-pool-clause-into
returns-then-pool-clause-into g c = record { long = refl; count = tt }

pub returns-in_err-count-clause-into : goal.returns-in_err-count-clause-into
returns-in_err-count-clause-into g c =
    let p = err_from_is_err_and c.from_residual.result c.from_residual.ensures.1 in
    rw p.1 (record { long = c.in_err-count.ensures.into.long; count = tt })

pub returns-clause-into : goal.returns-clause-into
returns-clause-into g c = record { long = c.in_ok-count.ensures.into.long; count = c.in_ok-count.ensures.into.count }

pub returns-in_err-count-clause-send : goal.returns-in_err-count-clause-send
returns-in_err-count-clause-send g c = record { stand = c.requires.send.stand; buffer = c.in_err-count.ensures.reads.buffer_fits }

pub returns-clause-send : goal.returns-clause-send
returns-clause-send g c = record { stand = c.in_ok-count.ensures.reads.stand; buffer = c.in_ok-count.ensures.reads.buffer_fits }

-- ---- what it costs

pub returns-then-pool-clause-costs : goal.returns-then-pool-clause-costs
returns-then-pool-clause-costs g c = λ sent start given left honest sends tight. record { pays = tt; ahead = (sends.has_put.later, sends.has_put.are_left, tt) }

pub returns-in_err-count-clause-costs : goal.returns-in_err-count-clause-costs
returns-in_err-count-clause-costs g c = λ sent start given left honest sends tight.
    let p = err_from_is_err_and c.from_residual.result c.from_residual.ensures.1 in
    rw p.1 (record { pays = tt; ahead = (sends.has_put.later, sends.has_put.are_left, tt) })

pub returns-clause-costs : goal.returns-clause-costs
returns-clause-costs g c = λ sent start given left honest sends tight.
    let snap = sent.snapshot.objects in
    let has = blocks_of c.args.pool.now.io in
    let had = subst (λ (choice : Choice). HasPut has snap (view_of (begun sent start) snap choice) (stated_point start) (length (front_of (begun sent start))) sends.put (length given) c.args.self.now.stand) sends.choice sends.has_put in
    let puts = c.in_ok-count.ensures.puts (begun sent start) snap (stated_point start) (length (front_of (begun sent start))) sends.put (length given) honest sends.holds had in
    let view = view_of (begun sent start) snap (choice_for c.args.self.now.subject) in
    let touching = take_pays _ snap view _ (stated_point start) (length (front_of (begun sent start))) sends.put (length given) c.in_ok-count.count c.args.self.now.stand c.fill.new.self _ _ tight puts in
    let further = take_puts has _ snap view _ (stated_point start) (length (front_of (begun sent start))) sends.put (length given) c.in_ok-count.count c.args.self.now.stand c.fill.new.self _ _ tight had puts in
    record {
      pays = subst (λ (choice : Choice). (disk_of c.fill.new.io).calls ≤ (disk_of c.args.pool.now.io).calls
          + (64 * (cells_in snap (touched (length given) c.in_ok-count.count (length (front_of (begun sent start))) (items (view_of (begun sent start) snap choice) (stated_point start))) + 2) + blocks_in (touched (length given) c.in_ok-count.count (length (front_of (begun sent start))) (items (view_of (begun sent start) snap choice) (stated_point start))))) (sym sends.choice) touching;
      ahead = (
        had.later,
        subst (λ (choice : Choice). AreLeft has snap (view_of (begun sent start) snap choice) c.args.self.now.stand.walk c.args.self.now.stand.ended had.later) (sym sends.choice) had.are_left,
        subst (λ (choice : Choice). Pays (blocks_of c.fill.new.io) snap (view_of (begun sent start) snap choice) had.later c.args.self.now.stand c.fill.new.self
            ((disk_of c.args.pool.now.io).calls + 1) (disk_of c.fill.new.io).calls) (sym sends.choice) further,
      );
    }

-- ---- what needs no read

pub returns-then-pool-clause-there : goal.returns-then-pool-clause-there
returns-then-pool-clause-there g c = λ works there. absurd (true≢false (sym c.if-pool.true ∙ works))

pub returns-in_err-count-clause-there : goal.returns-in_err-count-clause-there
returns-in_err-count-clause-there g c = λ works there. let never = (c.in_err-count.ensures.there there).0 in absurd (cc never)

pub returns-clause-there : goal.returns-clause-there
returns-clause-there g c = λ works there.
    let given = c.in_ok-count.ensures.there there in
    let told = given.0 in
    let whole : c.in_ok-count.count ≡ length c.args.into.now = cc told in
    (ap (λ (n : ℕ). Ok n) whole, given.1)
