-- What is sent of a lawful pool can be stated, from its beginning and from each point.
use Rattle.std.proofs.Common.{◌≡◌, inl, inr, ℕ, suc, ◌+◌, ◌<◌, ◌^◌, ◌==◌, ◌||◌, not, nat_lt, Bool, true, false, List, [], ◌∷◌, length, Option, Some, None, refl, sym, ap, ◌∙◌, subst, cond, arith}
use Rattle.std.specs.Prelude.{Contains, IfSome, bit_and, bit_or, if◌then◌else◌}
use Rattle.std.specs.List.{position_or_len}
use Rattle.std.proofs.lemmas.Bool.Decides.{nat_tests}
use Rattle.std.proofs.lemmas.List.Elements.{All-contains}
use Rattle.zst_laws.specs.HeaderExample.{SentIsStated}
use Rattle.zst_laws.specs.SendPlans.{PlansAreOfPool}
use Rattle.zst_model.proofs.InsertedLaws.{contains_first, contains_later}
use Rattle.zst_model.specs.declared.sends.header.Header.{Header}
use Rattle.zst_model.specs.declared.sends.header.Point.{Point}
use Rattle.zst_model.specs.fields.Guids.{IsGuidSet}
use Rattle.zst_model.specs.pools.Ancestry.{Source}
use Rattle.zst_model.specs.pools.Pool.{Bookmark, IsGuid, IsKind, IsPool, IsStated, Pool, Snapshot}
use Rattle.zst_model.specs.sends.Features.{redacts, resuming, sa_spill}
use Rattle.zst_model.specs.sends.Headers.{IsOf, IsRedactionOf, Sent, choice_of, clone_flag, clone_part, features_of, flags_of, free_records, header_of, is_elsewhere, redacted_part, redaction_guids, redaction_list, spill_block}
use Rattle.zst_model.specs.states.State.{IsState}
use Rattle.zst_plan.proofs.FoundTokens.{of_token}
use Rattle.zst_record.specs.Decoding.{needs_payload, others_of}
use Rattle.zst_record.specs.RecordValues.{BeginFits}
use Rattle.zst_record.specs.Formats.{large_blocks}
use Rattle.zst_record.specs.Laws.{PayloadHasLength}
use Rattle.zst_record.specs.Payload.{StatesPayload, StatesResume, bare, begin_payload, has_payload, stated_point}
use Rattle.zst_stream.specs.Image.{CanBegin}
use Rattle.zst_stream.specs.Items.{MayShowAll, SentIsAllowed, keeps_spill}
use Rattle.zst_send.specs.Sends.{begun}
use Rattle.zst_replication.specs.MatchingBases.{IsTokenPoint, IsWithin, RestCanBeSent, SentCanBeSent}
use Rattle.zst_replication.specs.Replicas.{IsSendable}
use Rattle.zst_replication.proofs.MatchingBases.{isnt_empty, not_full}

-- ---- its header

zero_is : (n : ℕ) → (n == 0) ≡ true → n ≡ 0
zero_is n e = grind (arith, nat_tests, e)

zero_free : (name : List ℕ) → (Contains name 0 → ⊥) → position_or_len (λ b. b == 0) name ≡ length name
zero_free [] none = refl
zero_free (byte ∷ rest) none = go (byte == 0) refl (zero_free rest (λ there. none (contains_later byte rest 0 there)))
  where
    go : (t : Bool) → (byte == 0) ≡ t → position_or_len (λ b. b == 0) rest ≡ length rest → cond (not t) (1 + position_or_len (λ b. b == 0) rest) 0 ≡ suc (length rest)
    go true is same = absurd (none (subst (λ (b : ℕ). Contains (byte ∷ rest) b) (zero_is byte is) (contains_first byte rest)))
    go false is same = omega (arith, same)

kind_test : (kind : ℕ) → IsKind kind → ((kind == 2) || (kind == 3)) ≡ true
kind_test kind (inl e) = ap (λ (k : ℕ). (k == 2) || (k == 3)) e
kind_test kind (inr e) = ap (λ (k : ℕ). (k == 2) || (k == 3)) e

-- ---- a header that may have a point

-- features under which BEGIN can be stated
record AreFit (features : ℕ) : Type 0 where
  small : features < 2 ^ 30
  accepted : others_of features ≡ 0
  small_blocks : bit_and features large_blocks ≡ 0

first_fit : (guids : List ℕ) → AreFit (redacted_part guids + sa_spill)
unfolding sa_spill resuming redacts
first_fit [] = record { small = omega arith; accepted = refl; small_blocks = refl }
first_fit (guid ∷ guids) = record { small = omega arith; accepted = refl; small_blocks = refl }

resumed_fit : (guids : List ℕ) → AreFit (bit_or (redacted_part guids + sa_spill) resuming)
unfolding sa_spill resuming redacts
resumed_fit [] = record { small = omega arith; accepted = refl; small_blocks = refl }
resumed_fit (guid ∷ guids) = record { small = omega arith; accepted = refl; small_blocks = refl }

says_resuming : (guids : List ℕ) → (bit_and (bit_or (redacted_part guids + sa_spill) resuming) resuming == 0) ≡ false
unfolding sa_spill resuming redacts
says_resuming [] = refl
says_resuming (guid ∷ guids) = refl

-- RESUMING leaves REDACTED as it is
same_redacted : (guids : List ℕ) → (bit_and (bit_or (redacted_part guids + sa_spill) resuming) redacts == 0) ≡ (bit_and (redacted_part guids + sa_spill) redacts == 0)
unfolding sa_spill resuming redacts
same_redacted [] = refl
same_redacted (guid ∷ guids) = refl

-- the redaction guids that its BEGIN states
abbrev guids_stated : Sent → List ℕ
guids_stated sent = redaction_guids sent.snapshot sent.redaction

features_fit : (sent : Sent) (start : Option Point) → AreFit (begun sent start).features
unfolding features_of
features_fit sent None = first_fit (guids_stated sent)
features_fit sent (Some point) = resumed_fit (guids_stated sent)

states_resume : (sent : Sent) (start : Option Point) → IsStated (header_of sent) → IfSome start IsTokenPoint → StatesResume (begun sent start).features (begun sent start).resume
unfolding features_of
states_resume sent None stated fits = ap (λ (n : ℕ). n == 0) stated.unresumed
states_resume sent (Some point) stated fits = record { resumed = says_resuming (guids_stated sent); object = fits.object; offset = fits.offset }

states_redacted : (sent : Sent) (start : Option Point) → IsStated (header_of sent) → (bit_and (begun sent start).features redacts == 0) ≡ (length (header_of sent).redact == 0)
unfolding features_of
states_redacted sent None stated = stated.redacted
states_redacted sent (Some point) stated = same_redacted (guids_stated sent) ∙ stated.redacted

neither : (a b : Bool) → not (a || b) ≡ true → a ≡ false
neither true b e = absurd cc
neither false b e = refl

module _ (lengths : PayloadHasLength) (header : Header) (features : ℕ) (resume : Option Point) (stated : IsStated header) (redacted : (bit_and features redacts == 0) ≡ (length header.redact == 0))
    (fit : AreFit features) (states : StatesResume features resume)
  where
    abbrev now : Header
    now = record header { features = features; resume = resume }

    abbrev payload_len : ℕ
    payload_len = length (begin_payload now)

    states_payload : StatesPayload now
    states_payload = record {
      resume = states;
      redact = stated.redact;
      from_redact = stated.from_redact;
      redacted = redacted;
      source = stated.source;
    }

    -- BEGIN has a payload where its features want one
    unneeded : (payload_len == 0) ≡ true → needs_payload features ≡ false
    unfolding has_payload
    unneeded empty = neither (needs_payload features) (nat_lt 0 (length header.from_redact)) (sym (lengths now states_payload).none ∙ empty)

    fits_bare : BeginFits (bare now) payload_len
    unfolding bare
    fits_bare = record {
      features = fit.small;
      accepted = fit.accepted;
      small_blocks = fit.small_blocks;
      kind = kind_test header.kind stated.kind;
      flags = stated.flags;
      time = stated.time;
      to = stated.to.1;
      to_there = not_full header.to stated.to.0;
      from = stated.from;
      name = let short = stated.name.short in omega (arith, short);
      no_zero = zero_free header.name stated.name.no_zero;
      len = (lengths now states_payload).len;
      stated = unneeded;
      no_resume = refl;
      no_redact = refl;
      no_from_redact = refl;
    }

    can_begin : CanBegin now
    can_begin = record { begins = fits_bare; payload = states_payload }

begins : PayloadHasLength → (sent : Sent) (start : Option Point) → IsStated (header_of sent) → IfSome start IsTokenPoint → CanBegin (begun sent start)
begins lengths sent start stated fits = go start fits (features_fit sent start) (states_resume sent start stated fits) (states_redacted sent start stated)
  where
    go : (start : Option Point) → IfSome start IsTokenPoint → AreFit (begun sent start).features → StatesResume (begun sent start).features (begun sent start).resume
        → (bit_and (begun sent start).features redacts == 0) ≡ (length (header_of sent).redact == 0) → CanBegin (begun sent start)
    go None fits fit states redacted = can_begin lengths (header_of sent) (features_of sent) None stated redacted fit (subst (StatesResume (features_of sent)) stated.resume states)
    go (Some point) fits fit states redacted = can_begin lengths (header_of sent) (bit_or (features_of sent) resuming) (Some point) stated redacted fit states

spills_stated : (sent : Sent) → keeps_spill (flags_of sent) ≡ false
unfolding flags_of clone_flag free_records spill_block
spills_stated sent = go sent.source
  where
    go : (source : Option Source) → keeps_spill (clone_part sent.snapshot source + (free_records + spill_block)) ≡ false
    go None = refl
    go (Some source) = one (is_elsewhere sent.snapshot source)
      where
        one : (t : Bool) → keeps_spill ((if t then clone_flag else 0) + (free_records + spill_block)) ≡ false
        one true = refl
        one false = refl

-- ---- the whole

same_flags : (sent : Sent) (start : Option Point) → keeps_spill (begun sent start).flags ≡ false
same_flags sent None = spills_stated sent
same_flags sent (Some point) = spills_stated sent

-- a stream that states redaction guids may have REDACT
has_redacted : (stated : List ℕ) (guid : ℕ) (guids : List ℕ) → stated ≡ guid ∷ guids → not (bit_and (redacted_part stated + sa_spill) redacts == 0) ≡ true
unfolding sa_spill redacts
has_redacted [] guid guids e = absurd cc
has_redacted (other ∷ others) guid guids e = refl

still_redacted : (stated : List ℕ) (guid : ℕ) (guids : List ℕ) → stated ≡ guid ∷ guids → not (bit_and (bit_or (redacted_part stated + sa_spill) resuming) redacts == 0) ≡ true
unfolding sa_spill resuming redacts
still_redacted [] guid guids e = absurd cc
still_redacted (other ∷ others) guid guids e = refl

begun_redacted : (sent : Sent) (start : Option Point) (guid : ℕ) (guids : List ℕ) → guids_stated sent ≡ guid ∷ guids → not (bit_and (begun sent start).features redacts == 0) ≡ true
unfolding features_of
begun_redacted sent None guid guids e = has_redacted (guids_stated sent) guid guids e
begun_redacted sent (Some point) guid guids e = still_redacted (guids_stated sent) guid guids e

-- one that states none is of no redaction bookmark
pub unmarked : (pool : Pool) (snapshot : Snapshot) (redaction : Option Bookmark) → IfSome redaction (IsRedactionOf pool snapshot) → redaction_guids snapshot redaction ≡ [] → redaction ≡ None
unmarked pool snapshot None is e = refl
unmarked pool snapshot (Some bookmark) is e = absurd (isnt_empty bookmark.redact is.guids e)

-- so it needs no REDACT
may_show : (pool : Pool) (sent : Sent) (start : Option Point) → IsOf pool sent → IsWithin sent → MayShowAll (begun sent start).features sent.snapshot.objects (choice_of sent)
may_show pool sent start of within = go (guids_stated sent) refl
  where
    go : (guids : List ℕ) → guids_stated sent ≡ guids → MayShowAll (begun sent start).features sent.snapshot.objects (choice_of sent)
    go [] e = inr (within.plain e, λ k i. ap (λ (o : Option Bookmark). redaction_list o k i) (unmarked pool sent.snapshot sent.redaction of.redaction e))
    go (guid ∷ guids) e = inl (begun_redacted sent start guid guids e)

module _ (stated : SentIsStated) (allowed : SentIsAllowed) (lengths : PayloadHasLength) (pool : Pool) (sent : Sent) (lawful : IsPool pool) (of : IsOf pool sent) (within : IsWithin sent)
    (start : Option Point) (fits : IfSome start IsTokenPoint)
  where
    is_sendable : IsSendable sent start
    is_sendable = record {
      stated = record {
        lawful = (All-contains (λ (s : Snapshot). IsGuid s.guid × IsGuidSet s.redact × IsState s.objects.state × (s.time < 2 ^ 64)) pool.snapshots sent.snapshot lawful.snapshots of.snapshot).2;
        begins = begins lengths sent start (stated pool sent lawful of).0 fits;
        flags = same_flags sent start;
        allowed = allowed (begun sent start).features (begun sent start) sent.snapshot.objects (choice_of sent) (stated_point start) (may_show pool sent start of within);
      };
      redacted = within.may;
    }

pub can_send : PlansAreOfPool → SentIsStated → SentIsAllowed → PayloadHasLength → SentCanBeSent
can_send plans_are stated allowed lengths ask pool sent lawful e within = is_sendable stated allowed lengths pool sent lawful (plans_are ask pool sent lawful e).is_of within None tt

pub rest_can_send : SentIsStated → SentIsAllowed → PayloadHasLength → RestCanBeSent
rest_can_send stated allowed lengths token pool sent point lawful e within fits =
    is_sendable stated allowed lengths pool sent lawful (of_token token pool sent lawful e) within (Some point) fits
