-- What a line does that sends, one that receives, one that tells a token, and one that checks.
use Rattle.std.proofs.Common.{◌≡◌, ◌≢◌, ℕ, Bool, false, List, Some, Result, Ok, refl, sym, subst}
use Rattle.zst_outside.specs.Images.{DiskState}
use Rattle.zst_model.specs.declared.refusals.refusal.Refusal.{Refusal}
use Rattle.zst_line.specs.Line.{LineAnswers}
use Rattle.zst_line.specs.declared.line.Line.{Line}
use Rattle.zst_line.specs.declared.line.Line.TheVariants.{Dump, Create, Step, Send, Resume, Receive, Token, Check, Gen, Replay}
use Rattle.zst_run.specs.Checks.{EndsCheck}
use Rattle.zst_run.specs.Devices.{Devices}
use Rattle.zst_plan.specs.declared.receive.RecvAsk.{RecvAsk}
use Rattle.zst_script.specs.Asks.{ask_of, receipt_of}
use Rattle.zst_run.specs.LineEffects.{DoesLine, is_check, send_of, token_dataset_of, receive_of}
use Rattle.zst_run.specs.Receives.{Receiving}
use Rattle.zst_run.specs.Replies.{Replies}
use Rattle.zst_run.specs.Runs.{EndsWords, line_ends}
use Rattle.zst_run.specs.declared.send.SendRequest.{SendRequest}
use Rattle.zst_run.specs.declared.send.SendRequest.TheVariants.{Named, Rest}
use Rattle.zst_run.specs.Sends.{Sends}
use Rattle.zst_run.specs.Tokens.{Tokens}

pub does_send : {D E : Type 0} → (state : D → DiskState) (tells : Bool) (other : E → DiskState) (others : Bool) (now : ℕ) (line : Line) (ask : SendRequest) (old new : Devices D E) (result : Result (Unit {0}) Refusal) → send_of line ≡ Some ask
    → Sends ask (state old.here) (state new.here) old.out new.out result → new.input ≡ old.input → new.there ≡ old.there → DoesLine state tells other others now line old new result
does_send state tells other others now (Send image from redacts snapshot) ask old new result is sends input there =
    let same : Named (ask_of from redacts snapshot) ≡ ask = cc is in
    (subst (λ (a : SendRequest). Sends a (state old.here) (state new.here) old.out new.out result) (sym same) sends, input, there)
does_send state tells other others now Dump ask old new result is sends input there = absurd (cc is)
does_send state tells other others now (Create image sectors id) ask old new result is sends input there = absurd (cc is)
does_send state tells other others now (Step image command) ask old new result is sends input there = absurd (cc is)
does_send state tells other others now (Resume image token) ask old new result is sends input there =
    let same : Rest token ≡ ask = cc is in
    (subst (λ (a : SendRequest). Sends a (state old.here) (state new.here) old.out new.out result) (sym same) sends, input, there)
does_send state tells other others now (Receive image keeps forces origin target) ask old new result is sends input there = absurd (cc is)
does_send state tells other others now (Token image dataset) ask old new result is sends input there = absurd (cc is)
does_send state tells other others now (Check image) ask old new result is sends input there = absurd (cc is)
does_send state tells other others now (Gen image steps) ask old new result is sends input there = absurd (cc is)
does_send state tells other others now (Replay first second) ask old new result is sends input there = absurd (cc is)

pub does_receive : {D E : Type 0} → (state : D → DiskState) (tells : Bool) (other : E → DiskState) (others : Bool) (now : ℕ) (line : Line) (ask : RecvAsk) (old new : Devices D E) (result : Result (Unit {0}) Refusal) → receive_of line ≡ Some ask
    → Replies (Receiving ask (state old.here) (state new.here) old.input new.input) old.out new.out result → new.there ≡ old.there → DoesLine state tells other others now line old new result
does_receive state tells other others now (Receive image keeps forces origin target) ask old new result is receives there =
    let same : receipt_of keeps forces origin target ≡ ask = cc is in
    (subst (λ (a : RecvAsk). Replies (Receiving a (state old.here) (state new.here) old.input new.input) old.out new.out result) (sym same) receives, there)
does_receive state tells other others now Dump ask old new result is receives there = absurd (cc is)
does_receive state tells other others now (Create image sectors id) ask old new result is receives there = absurd (cc is)
does_receive state tells other others now (Step image command) ask old new result is receives there = absurd (cc is)
does_receive state tells other others now (Send image from redacts snapshot) ask old new result is receives there = absurd (cc is)
does_receive state tells other others now (Resume image token) ask old new result is receives there = absurd (cc is)
does_receive state tells other others now (Token image dataset) ask old new result is receives there = absurd (cc is)
does_receive state tells other others now (Check image) ask old new result is receives there = absurd (cc is)
does_receive state tells other others now (Gen image steps) ask old new result is receives there = absurd (cc is)
does_receive state tells other others now (Replay first second) ask old new result is receives there = absurd (cc is)

pub does_tell : {D E : Type 0} → (state : D → DiskState) (tells : Bool) (other : E → DiskState) (others : Bool) (now : ℕ) (line : Line) (dataset : List ℕ) (old new : Devices D E) (result : Result (Unit {0}) Refusal) → token_dataset_of line ≡ Some dataset
    → Tokens dataset (state old.here) (state new.here) old.out new.out result → new.input ≡ old.input → new.there ≡ old.there → DoesLine state tells other others now line old new result
does_tell state tells other others now (Token image name) dataset old new result is gives input there =
    let same : name ≡ dataset = cc is in
    (subst (λ (d : List ℕ). Tokens d (state old.here) (state new.here) old.out new.out result) (sym same) gives, input, there)
does_tell state tells other others now Dump dataset old new result is gives input there = absurd (cc is)
does_tell state tells other others now (Create image sectors id) dataset old new result is gives input there = absurd (cc is)
does_tell state tells other others now (Step image command) dataset old new result is gives input there = absurd (cc is)
does_tell state tells other others now (Send image from redacts snapshot) dataset old new result is gives input there = absurd (cc is)
does_tell state tells other others now (Resume image token) dataset old new result is gives input there = absurd (cc is)
does_tell state tells other others now (Receive image keeps forces origin target) dataset old new result is gives input there = absurd (cc is)
does_tell state tells other others now (Check image) dataset old new result is gives input there = absurd (cc is)
does_tell state tells other others now (Gen image steps) dataset old new result is gives input there = absurd (cc is)
does_tell state tells other others now (Replay first second) dataset old new result is gives input there = absurd (cc is)

-- a line that is no check
pub is_other : (line : Line) → ((image : List ℕ) → line ≢ Check image) → is_check line ≡ false
is_other Dump never = refl
is_other (Create image sectors id) never = refl
is_other (Step image command) never = refl
is_other (Send image from redacts snapshot) never = refl
is_other (Resume image token) never = refl
is_other (Receive image keeps forces origin target) never = refl
is_other (Token image dataset) never = refl
is_other (Check image) never = absurd (never image refl)
is_other (Gen image steps) never = refl
is_other (Replay first second) never = refl

-- a check is done, and ends with its report's status
pub does_check : {D E : Type 0} → (state : D → DiskState) (tells : Bool) (other : E → DiskState) (others : Bool) (now : ℕ) (words : List (List ℕ)) (line : Line) (path : List ℕ) (old new : Devices D E) (answer : Result ℕ Refusal)
    → line ≡ Check path → LineAnswers words (Ok line) → EndsCheck (state old.here) (state new.here) old.out new.out answer → new.input ≡ old.input → new.there ≡ old.there → EndsWords state tells other others now words old new answer
does_check state tells other others now words Dump path old new answer is says ends input there = absurd (cc is)
does_check state tells other others now words (Create image sectors id) path old new answer is says ends input there = absurd (cc is)
does_check state tells other others now words (Step image command) path old new answer is says ends input there = absurd (cc is)
does_check state tells other others now words (Send image from redacts snapshot) path old new answer is says ends input there = absurd (cc is)
does_check state tells other others now words (Resume image token) path old new answer is says ends input there = absurd (cc is)
does_check state tells other others now words (Receive image keeps forces origin target) path old new answer is says ends input there = absurd (cc is)
does_check state tells other others now words (Token image dataset) path old new answer is says ends input there = absurd (cc is)
does_check state tells other others now words (Check image) path old new answer is says ends input there = ((Ok (Check image), says, (ends.0, input, there)), ends.1)
does_check state tells other others now words (Gen image steps) path old new answer is says ends input there = absurd (cc is)
does_check state tells other others now words (Replay first second) path old new answer is says ends input there = absurd (cc is)

-- all others end with 0
ends_well : {D E : Type 0} → (state : D → DiskState) (tells : Bool) (other : E → DiskState) (others : Bool) (now : ℕ) (line : Line) (old new : Devices D E) (result : Result (Unit {0}) Refusal) → is_check line ≡ false
    → (does : DoesLine state tells other others now line old new result) → 0 ≡ line_ends state tells other others now line old new result does
ends_well state tells other others now Dump old new result is does = refl
ends_well state tells other others now (Create image sectors id) old new result is does = refl
ends_well state tells other others now (Step image command) old new result is does = refl
ends_well state tells other others now (Send image from redacts snapshot) old new result is does = refl
ends_well state tells other others now (Resume image token) old new result is does = refl
ends_well state tells other others now (Receive image keeps forces origin target) old new result is does = refl
ends_well state tells other others now (Token image dataset) old new result is does = refl
ends_well state tells other others now (Check image) old new result is does = absurd (cc is)
ends_well state tells other others now (Gen image steps) old new result is does = refl
ends_well state tells other others now (Replay first second) old new result is does = refl

pub does_else : {D E : Type 0} → (state : D → DiskState) (tells : Bool) (other : E → DiskState) (others : Bool) (now : ℕ) (words : List (List ℕ)) (line : Line) (old new : Devices D E) → is_check line ≡ false
    → LineAnswers words (Ok line) → DoesLine state tells other others now line old new (Ok tt) → EndsWords state tells other others now words old new (Ok 0)
does_else state tells other others now words line old new is says does = ((Ok line, says, does), ends_well state tells other others now line old new (Ok tt) is does)
