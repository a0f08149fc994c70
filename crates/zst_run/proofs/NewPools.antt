-- What stands after a pool was made in an image, from what making it says.
use Rattle.std.specs.Prelude.{Result, Ok, Err}
use Rattle.std.proofs.Common.{◌≡◌, ◌≢◌, ◌⊎◌, ℕ, ◌≤◌, List, [], ◌∷◌, refl, ◌∙◌, ap, Bool}
use Rattle.zst_outside.specs.Images.{DiskState, Leaves}
use Rattle.zst_outside.specs.States.{SinkState}
use Rattle.zst_uber.specs.Slots.{latest}
use Rattle.zst_model.specs.pools.AnswerLines.{ok_line}
use Rattle.zst_model.specs.declared.refusals.refusal.Refusal.{Refusal}
use Rattle.zst_model.specs.declared.refusals.refusal.Refusal.TheVariants as refusals
use Rattle.zst_image.specs.CreateAnswers.{CreateAnswers, IsNew, RefusedLeaves}
use Rattle.zst_image.specs.Faults.{create_refusal}
use Rattle.zst_uber.specs.DiskCalls.{HasDiskCause}
use Rattle.zst_image.specs.Reads.{Reads, Rests, new_pool}
use Rattle.zst_image.specs.declared.create_fault.CreateFault.{CreateFault}
use Rattle.zst_image.specs.declared.create_fault.CreateFault.TheVariants.{Exists, TooSmall, DiskFault, OutOfMemory}
use Rattle.zst_image.specs.declared.pool_state.PoolState.{PoolState}
use Rattle.zst_run.specs.Commands.{IsPoolRefusal, Makes, Making, OfMaking}
use Rattle.zst_run.specs.Replies.{Replied, Replies}

pub makes_done : (sectors id : ℕ) (here here' : DiskState) (kept : PoolState) → CreateAnswers here.size (latest here.seen) sectors (Ok kept)
    → IsNew sectors kept → ((tight : Bool) → Rests tight here' kept.body kept.dir (new_pool id)) → Makes sectors id here here' (Ok (ok_line 1 ∷ []))
makes_done sectors id here here' kept is new rests = (refl, is.0, is.1, (kept, new, rests))

pub makes_refused : (sectors id : ℕ) (here here' : DiskState) (fault : CreateFault) → CreateAnswers here.size (latest here.seen) sectors (Err fault)
    → RefusedLeaves here here' fault → Makes sectors id here here' (Err (create_refusal fault))
makes_refused sectors id here here' Exists is left = (refl, is, left)
makes_refused sectors id here here' (TooSmall asked) is left = (refl, is.2, is.0, is.1, left)
makes_refused sectors id here here' DiskFault is left = tt
makes_refused sectors id here here' OutOfMemory is left = (is.0, left ∙ is.0)

-- a fault of making is the disk's only as that, and never that it had failed
create_disk : (fault : CreateFault) → create_refusal fault ≡ refusals.DiskFault → fault ≡ DiskFault
create_disk Exists is = absurd (cc is)
create_disk (TooSmall asked) is = absurd (cc is)
create_disk DiskFault is = refl
create_disk OutOfMemory is = absurd (cc is)

create_alive : (fault : CreateFault) → create_refusal fault ≢ refusals.Failed
create_alive Exists is = absurd (cc is)
create_alive (TooSmall asked) is = absurd (cc is)
create_alive DiskFault is = absurd (cc is)
create_alive OutOfMemory is = absurd (cc is)

refused_create : (here here' : DiskState) (fault : CreateFault) → HasDiskCause {T = PoolState} DiskFault here.faults here'.faults (Err fault) → IsPoolRefusal OfMaking here here' (create_refusal fault)
refused_create here here' fault cause = record { one = (fault, refl); alive = create_alive fault; cause = λ is. cause.fault (ap (λ f. Err f) (create_disk fault is)) }

-- making was refused, and nothing is written
pub creates_refused : (sectors id : ℕ) (here here' : DiskState) (out : SinkState) (fault : CreateFault)
    → (here'.honest → CreateAnswers here.size (latest here.seen) sectors (Err fault)) → RefusedLeaves here here' fault
    → ((tight : Bool) → here'.honest → Leaves here here' (λ c. ((d : List ℕ) × here.images d × (latest c ≡ latest d)) ⊎ Reads tight (new_pool id) c))
    → HasDiskCause {T = PoolState} DiskFault here.faults here'.faults (Err fault) → Replies (Making sectors id here here') out out (Err (create_refusal fault))
creates_refused sectors id here here' out fault answers left moments cause = record {
  answer = Err (create_refusal fault);
  does = record {
    moments = moments;
    makes = λ told. makes_refused sectors id here here' fault (answers told) left;
    refused = refused_create here here' fault cause;
    later = cause.later;
  };
  replied = (refl, refl);
}

-- the pool was made, and its line is written or not
pub creates_made : (sectors id : ℕ) (here here' : DiskState) (out out' : SinkState) (kept : PoolState) (result : Result (Unit {0}) Refusal)
    → (here'.honest → CreateAnswers here.size (latest here.seen) sectors (Ok kept)) → IsNew sectors kept → ((tight : Bool) → here'.honest → Rests tight here' kept.body kept.dir (new_pool id))
    → ((tight : Bool) → here'.honest → Leaves here here' (λ c. ((d : List ℕ) × here.images d × (latest c ≡ latest d)) ⊎ Reads tight (new_pool id) c))
    → here.faults ≤ here'.faults → Replied out out' (Ok (ok_line 1 ∷ [])) result → Replies (Making sectors id here here') out out' result
creates_made sectors id here here' out out' kept result answers new made moments later replied = record {
  answer = Ok (ok_line 1 ∷ []);
  does = record {
    moments = moments;
    makes = λ told. makes_done sectors id here here' kept (answers told) new (λ tight. made tight told);
    refused = tt;
    later = later;
  };
  replied = replied;
}
