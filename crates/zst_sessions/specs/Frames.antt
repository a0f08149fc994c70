-- How what the engine keeps of a session goes on to stand.
use Rattle.std.specs.Prelude.{◌≡◌, ◌≢◌, ◌≤◌, ◌<◌, ◌++◌, ℕ, Bool, false, List, [], ◌∷◌, find, filter, get_or, length, map, not, set, take, Ok, ◌==◌, if◌then◌else◌, AllPairs}
use Rattle.zst_space.specs.FreeSectors.{FreeSectors}
use Rattle.zst_block.specs.Blocks.{Has, KeepsBlocks}
use Rattle.zst_dir.specs.RowNames.{Match}
use Rattle.zst_dir.specs.Rows.{Rows, IsLawful, is_for}
use Rattle.zst_recv.specs.ReceiveSteps.{Stage}
use Rattle.zst_script.specs.declared.event.Side.{Side}
use Rattle.zst_send.specs.Sends.{SendFits, TakesFrom, begun_text}
use Rattle.zst_send.specs.declared.send.Send.{Send}
use Rattle.zst_sessions.specs.Engines.{ReceiveStands, SendStands}
use Rattle.zst_sessions.specs.World.{OpenReceive, OpenSend, gone_on, left_of, next_piece, moved_to}
use Rattle.zst_sessions.specs.declared.open_sessions.OpenReceive as kept_receives
use Rattle.zst_sessions.specs.declared.open_sessions.OpenSend as kept_sends

-- A send stands on, whatever was done to its pool, as long as the blocks that were there still are or the disk has failed.
abbrev pub SendsStandOn : Type 0
SendsStandOn =
    (failed lost : Bool) (old new : List ℕ) (space less : FreeSectors) (coded : kept_sends.OpenSend) (send : OpenSend)
    → (lost ≡ false → (failed ≡ false) × KeepsBlocks old space new less) → SendStands failed old space coded send → SendStands lost new less coded send

-- A receive stands on too, as long as its target has the row that it had and the pool's number doesn't fall.
abbrev pub ReceivesStandOn : Type 0
ReceivesStandOn =
    (tight : Bool) (number later : ℕ) (failed lost : Bool) (old new : List ℕ) (space less : FreeSectors) (rows others : Rows) (coded : kept_receives.OpenReceive) (receive : OpenReceive)
    → number ≤ later → IsLawful others → find (is_for coded.recv.ask.target) others.partials ≡ find (is_for coded.recv.ask.target) rows.partials
    → (lost ≡ false → (failed ≡ false) × KeepsBlocks old space new less)
    → ReceiveStands tight number failed old space rows coded receive → ReceiveStands tight later lost new less others coded receive

-- What a take gave is the next piece of the send, and it stands behind that.
abbrev pub TakesStand : Type 0
TakesStand =
    (old new into : List ℕ) (space less : FreeSectors) (coded : kept_sends.OpenSend) (send : OpenSend) (after : Send) (count : ℕ)
    → SendStands false old space coded send → SendFits after
    → TakesFrom (Has new less) after send.sent send.start (take send.given (begun_text send.sent send.start)) (left_of send) into (Ok count)
    → (count ≡ length (next_piece (length into) send)) × (take count into ≡ next_piece (length into) send)
    × SendStands false new less (record coded { send = after }) (gone_on (length into) send)

-- Sends that match go on to match where those with an id are closed.
abbrev pub ClosedMatch : Type 0
ClosedMatch =
    (failed : Side → Bool) (image : Side → List ℕ) (space : Side → FreeSectors) (id : ℕ) (coded : List kept_sends.OpenSend) (sends : List OpenSend)
    → Match (λ one send. SendStands (failed send.side) (image send.side) (space send.side) one send) coded sends
    → Match (λ one send. SendStands (failed send.side) (image send.side) (space send.side) one send) (filter (λ one. not (one.id == id)) coded) (filter (λ send. not (send.id == id)) sends)

-- So they do where one has given its next piece, and where one is opened.
abbrev pub GivenMatch : Type 0
GivenMatch =
    (failed : Side → Bool) (image : Side → List ℕ) (space : Side → FreeSectors) (coded : List kept_sends.OpenSend) (sends : List OpenSend) (place : ℕ) (default after : kept_sends.OpenSend) (send : OpenSend)
    → AllPairs (λ a b. a.id ≢ b.id) sends → Match (λ one send. SendStands (failed send.side) (image send.side) (space send.side) one send) coded sends
    → place < length coded → (get_or coded place default).id ≡ send.id → SendStands (failed send.side) (image send.side) (space send.side) after send
    → Match (λ one send. SendStands (failed send.side) (image send.side) (space send.side) one send) (set coded place after) (map (λ one. if one.id == send.id then send else one) sends)

abbrev pub OpenedMatch : Type 0
OpenedMatch =
    (failed : Side → Bool) (image : Side → List ℕ) (space : Side → FreeSectors) (coded : List kept_sends.OpenSend) (sends : List OpenSend) (one : kept_sends.OpenSend) (send : OpenSend)
    → Match (λ one send. SendStands (failed send.side) (image send.side) (space send.side) one send) coded sends → SendStands (failed send.side) (image send.side) (space send.side) one send
    → Match (λ one send. SendStands (failed send.side) (image send.side) (space send.side) one send) (coded ++ one ∷ []) (sends ++ send ∷ [])

-- and receives where one was fed
abbrev pub FedMatch : Type 0
FedMatch =
    (tight : Bool) (number : Side → ℕ) (failed : Side → Bool) (image : Side → List ℕ) (space : Side → FreeSectors) (rows : Side → Rows)
    (coded : List kept_receives.OpenReceive) (receives : List OpenReceive) (place : ℕ) (default after : kept_receives.OpenReceive) (id : ℕ) (text : List ℕ) (stage : Stage)
    → AllPairs (λ a b. a.id ≢ b.id) receives
    → Match (λ one receive. ReceiveStands tight (number receive.side) (failed receive.side) (image receive.side) (space receive.side) (rows receive.side) one receive) coded receives
    → place < length coded → (get_or coded place default).id ≡ id
    → ((receive : OpenReceive) → ReceiveStands tight (number receive.side) (failed receive.side) (image receive.side) (space receive.side) (rows receive.side) (get_or coded place default) receive
    → ReceiveStands tight (number receive.side) (failed receive.side) (image receive.side) (space receive.side) (rows receive.side) after (record receive { text = text; stage = stage }))
    → Match (λ one receive. ReceiveStands tight (number receive.side) (failed receive.side) (image receive.side) (space receive.side) (rows receive.side) one receive) (set coded place after) (map (moved_to id text stage) receives)
