-- What the engine keeps of a session goes on to stand.
use Rattle.std.proofs.Common.{◌≡◌, ◌+◌, ℕ, false, not, List, ◌++◌, length, take, drop, min, find, sym, ap, ◌∙◌, subst, ◌==◌, cond, if◌then◌else◌, Bool}
use Rattle.std.proofs.lemmas.List.{drop-drop, length-take, take_min}
use Rattle.std.proofs.lemmas.Bool.{ne_eqb}
use Rattle.zst_space.specs.FreeSectors.{FreeSectors}
use Rattle.zst_block.specs.Blocks.{Has}
use Rattle.zst_dir.proofs.Matches.{filter-Match}
use Rattle.zst_dir.specs.Rows.{IsLawful, Rows, is_for}
use Rattle.zst_image.specs.Reads.{bound_of}
use Rattle.zst_recv.specs.GoingOn.{FittingReceive, IsRow, ReceivesGoOn}
use Rattle.zst_recv.specs.Stages.{Receives}
use Rattle.zst_recv.specs.declared.stage.Stage as coded_stages
use Rattle.zst_recv.specs.declared.stage.Stage.TheVariants as stages
use Rattle.zst_send.specs.Sends.{SendsFrom, SendsGoOn, begun_text}
use Rattle.zst_sessions.proofs.Matching.{change_match, named, snoc_match}
use Rattle.zst_sessions.proofs.OwnSends.{pieces_own}
use Rattle.zst_sessions.specs.Engines.{ReceiveStands, SendStands}
use Rattle.zst_sessions.specs.Frames.{ClosedMatch, FedMatch, GivenMatch, OpenedMatch, ReceivesStandOn, SendsStandOn, TakesStand}
use Rattle.zst_sessions.specs.World.{left_of, next_piece, OpenReceive, OpenSend, moved_to}
use Rattle.zst_sessions.specs.declared.open_sessions.OpenReceive as kept_receives
use Rattle.zst_sessions.specs.declared.open_sessions.OpenSend as kept_sends

-- a send stands on where it goes on from what was there, or the disk has failed
pub send_goes : (failed lost : Bool) (old new : List ℕ) (space less : FreeSectors) (coded : kept_sends.OpenSend) (send : OpenSend)
    → (lost ≡ false → (failed ≡ false) × (SendsFrom (Has old space) coded.send send.sent send.start (take send.given (begun_text send.sent send.start)) (left_of send)
    → SendsFrom (Has new less) coded.send send.sent send.start (take send.given (begun_text send.sent send.start)) (left_of send)))
    → SendStands failed old space coded send → SendStands lost new less coded send
send_goes failed lost old new space less coded send keep stands = record {
  id = stands.id;
  side = stands.side;
  holds = stands.holds;
  fits = stands.fits;
  within = stands.within;
  sends = λ works. let both = keep works in both.1 (stands.sends both.0);
}

pub sends_stand_on : SendsGoOn → SendsStandOn
sends_stand_on go_on failed lost old new space less coded send keep =
    send_goes failed lost old new space less coded send
    (λ works. let both = keep works in (both.0, go_on coded.send send.sent send.start (take send.given (begun_text send.sent send.start)) (left_of send) old new space less both.1))

-- a row that is found as before is the stage's
pub row_on : (rows others : Rows) (target : List ℕ) (stage : coded_stages.Stage) → find (is_for target) others.partials ≡ find (is_for target) rows.partials → IsRow rows target stage → IsRow others target stage
row_on rows others target stages.Waits same is = is
row_on rows others target (stages.Lives flags row) same is = same ∙ is
row_on rows others target (stages.Ends row) same is = is
row_on rows others target (stages.Done received) same is = is
row_on rows others target stages.Over same is = is

-- a receive stands on where its row is found as before and it goes on from what was there, or the disk has failed
pub receive_goes : FittingReceive → (tight : Bool) (number later : ℕ) (failed lost : Bool) (old new : List ℕ) (space less : FreeSectors) (rows others : Rows) (coded : kept_receives.OpenReceive) (receive : OpenReceive)
    → IsLawful others → find (is_for coded.recv.ask.target) others.partials ≡ find (is_for coded.recv.ask.target) rows.partials
    → (lost ≡ false → (failed ≡ false) × (Receives (bound_of tight number) (Has old space) coded.recv receive.text receive.stage → Receives (bound_of tight later) (Has new less) coded.recv receive.text receive.stage))
    → ReceiveStands tight number failed old space rows coded receive → ReceiveStands tight later lost new less others coded receive
receive_goes fitting tight number later failed lost old new space less rows others coded receive lawful same keep stands =
    let row = row_on rows others coded.recv.ask.target coded.recv.stage same stands.row in
    record {
      id = stands.id;
      side = stands.side;
      ask = stands.ask;
      live = stands.live;
      fits = fitting rows others coded.recv lawful row stands.fits;
      row = row;
      fed = stands.fed;
      receives = λ works. let both = keep works in both.1 (stands.receives both.0);
    }

pub receives_stand_on : ReceivesGoOn → FittingReceive → ReceivesStandOn
receives_stand_on go_on fitting tight number later failed lost old new space less rows others coded receive le lawful same keep =
    receive_goes fitting tight number later failed lost old new space less rows others coded receive lawful same
    (λ works. let both = keep works in (both.0, go_on tight number later old new space less coded.recv receive.text receive.stage le both.1))

pub takes_stand : TakesStand
takes_stand old new into space less coded send after count stands fits takes =
    let text = begun_text send.sent send.start in
    let left = left_of send in
    let asked = length into in
    let piece = next_piece asked send in
    let size : length piece ≡ min asked (length left) = length-take asked left in
    let is : count ≡ length piece = takes.0 ∙ sym size in
    let gave : take count left ≡ piece = ap (λ (n : ℕ). take n left) takes.0 ∙ take_min asked left in
    let own = pieces_own send asked stands.within in
    let front : take send.given text ++ take count left ≡ take (send.given + length piece) text = ap (λ (t : List ℕ). take send.given text ++ t) gave ∙ sym own.1 in
    let rest : drop count left ≡ drop (send.given + length piece) text = ap (λ (n : ℕ). drop n left) is ∙ drop-drop (length piece) send.given text in (
      is,
      takes.1 ∙ gave,
      record {
        id = stands.id;
        side = stands.side;
        holds = stands.holds;
        fits = fits;
        within = own.0;
        sends = λ works.
            subst (λ (given : List ℕ). SendsFrom (Has new less) after send.sent send.start given (drop (send.given + length piece) text)) front
            (subst (λ (behind : List ℕ). SendsFrom (Has new less) after send.sent send.start (take send.given text ++ take count left) behind) rest takes.2);
      },
    )

pub closed_match : ClosedMatch
closed_match failed image space id coded sends match =
    filter-Match (λ one send. SendStands (failed send.side) (image send.side) (space send.side) one send) (λ one. not (one.id == id)) (λ send. not (send.id == id)) (λ one send is. ap (λ (n : ℕ). not (n == id)) is.id) coded sends match

pub given_match : GivenMatch
given_match failed image space coded sends place default after send pairs match lt at stands =
    change_match Is (λ one. one.id) (λ one. one.id) (λ one other is. is.id) send.id put
    (λ other differs. ap (λ (t : Bool). cond t send other) (ne_eqb other.id send.id differs))
    coded sends place default after pairs match lt at
    (λ other is. subst (λ (s : OpenSend). Is after s) (sym (ap (λ (t : Bool). cond t send other) (named other.id send.id (sym is.id ∙ at)))) stands)
  where
    Is : kept_sends.OpenSend → OpenSend → Type 0
    Is one send = SendStands (failed send.side) (image send.side) (space send.side) one send

    put : OpenSend → OpenSend
    put one = if one.id == send.id then send else one

pub fed_match : FedMatch
fed_match tight number failed image space rows coded receives place default after id text stage pairs match lt at stands =
    change_match Is (λ one. one.id) (λ one. one.id) (λ one other is. is.id) id (moved_to id text stage)
    (λ other differs. ap (λ (t : Bool). cond t (record other { text = text; stage = stage }) other) (ne_eqb other.id id differs))
    coded receives place default after pairs match lt at
    (λ other is. subst (λ (r : OpenReceive). Is after r) (sym (ap (λ (t : Bool). cond t (record other { text = text; stage = stage }) other) (named other.id id (sym is.id ∙ at)))) (stands other is))
  where
    Is : kept_receives.OpenReceive → OpenReceive → Type 0
    Is one receive = ReceiveStands tight (number receive.side) (failed receive.side) (image receive.side) (space receive.side) (rows receive.side) one receive

pub opened_match : OpenedMatch
opened_match failed image space coded sends one send match stands = snoc_match (λ one send. SendStands (failed send.side) (image send.side) (space send.side) one send) coded sends one send match stands
