use Rattle.std.proofs.Common.{◌≡◌, ◌≢◌, inl, inr, ℕ, List, ◌∷◌, Option, sym, ◌∙◌, subst}
use Rattle.std.specs.Prelude.{None}
use Rattle.std.proofs.lemmas.Result.{err_from_is_err_and}
use Rattle.zst_space.specs.FreeSectors.{FreeSectors}
use Rattle.zst_block.specs.Blocks.{Has}
use Rattle.zst_block.specs.IoStates.{blocks_of, disk_of}
use Rattle.zst_compare.specs.Damage.{OfEither}
use Rattle.zst_model.specs.fields.Lists.{Runs, has_pair}
use Rattle.zst_model.specs.pools.RedSet.{objects_of, red_set}
use Rattle.zst_objset.specs.Damage.{IfDamage}
use Rattle.zst_objset.proofs.DamageLaws.{IfDamage-weaker}
use Rattle.zst_objset.proofs.LeafLaws.{look_on}
use Rattle.zst_redact.specs.Damage.{IsDamagedAmong}
use Rattle.zst_redact.specs.Passes.{HoldStates}
use Rattle.zst_tree.specs.Damage.{IsSeen}
use Rattle.zst_tree.proofs.Damage.{seen_before}
use Rattle.zst_check.specs.Damage.{IsDamagedList}
use Rattle.zst_check.specs.ListPairs.{FindsOther}
use Rattle.zst_check.specs.declared.report.Report.{Report}
use Rattle.zst_check.proofs.ListDamage.{fault_within, list_told}
use Rattle.zst_check.proofs.lists.differing_from.Goals as goal

pub returns-in_err-list-clause-damaged : goal.returns-in_err-list-clause-damaged
returns-in_err-list-clause-damaged g c = λ honest.
    let p = err_from_is_err_and c.from_residual.result c.from_residual.ensures.1 in
    let fault = c.in_err-list.field-0.0 in
    let disk = disk_of c.args.io.now in
    let end = c.args.io.now.space.end in
    let among = IsDamagedAmong (IsSeen disk.seen) disk.size (c.args.own.now.objects ∷ c.args.sets.now) in
    let list = IsDamagedList end disk.seen disk.size c.args.row.now in
    rw (p.1, p.2) (fault_within list (OfEither among list) (λ sector stated found told. inr told) Runs (Option Report) fault
    (list_told end disk.seen disk.size c.args.row.now (blocks_of c.args.io.now) fault (λ runs has. c.in_err-list.ensures.there runs honest has) (c.in_err-list.ensures.damaged honest)))

pub returns-in_err-found-clause-damaged : goal.returns-in_err-found-clause-damaged
returns-in_err-found-clause-damaged g c = λ honest.
    let p = err_from_is_err_and c.from_residual-in_err-found.result c.from_residual-in_err-found.ensures.1 in
    let fault = c.in_err-found.field-0.0 in
    let disk = disk_of c.args.io.now in
    let sets = c.args.own.now.objects ∷ c.args.sets.now in
    let list = IsDamagedList c.args.io.now.space.end disk.seen disk.size c.args.row.now in
    let among = seen_before {stop = None} c.in_ok-list.ensures.looks (λ (seen : List ℕ) (size : ℕ). IfDamage fault (IsDamagedAmong (IsSeen seen) size sets)) (c.in_err-found.ensures.damaged honest) in
    rw (p.1, p.2) (IfDamage-weaker (IsDamagedAmong (IsSeen disk.seen) disk.size sets) (OfEither (IsDamagedAmong (IsSeen disk.seen) disk.size sets) list) (λ sector stated found told. inl told) fault among)

pub returns-in_err-found-clause-found : goal.returns-in_err-found-clause-found
returns-in_err-found-clause-found g c = λ bookmark snapshot redactions honest is own hold.
    let p = err_from_is_err_and c.from_residual-in_err-found.result c.from_residual-in_err-found.ensures.1 in
    let on = look_on {stop = None} (λ (seen : List ℕ) (space : FreeSectors). HoldStates (Has seen space) c.args.own.now.objects c.args.sets.now snapshot.objects (objects_of redactions)) c.in_ok-list.ensures.looks
    (record { snapshot = own.objects; each = hold }) in
    rw (p.1, p.2) (c.in_err-found.ensures.found snapshot.objects (objects_of redactions) honest on)

pub returns-in-None-clause-found : goal.returns-in-None-clause-found
returns-in-None-clause-found g c = λ bookmark snapshot redactions honest is own hold.
    let early = c.in_ok-found.ensures.looks.reads.honest honest in
    let read : c.in_ok-list.list ≡ bookmark.runs = c.in_ok-list.ensures.there bookmark.runs early is.list in
    let on = look_on (λ (seen : List ℕ) (space : FreeSectors). HoldStates (Has seen space) c.args.own.now.objects c.args.sets.now snapshot.objects (objects_of redactions)) c.in_ok-list.ensures.looks
    (record { snapshot = own.objects; each = hold }) in
    let same = subst (λ (found : Option (ℕ × ℕ)). FindsOther (red_set snapshot.objects.state c.args.own.now.number (objects_of redactions)) (has_pair c.in_ok-list.list) found) c.in-None.is
    (c.in_ok-found.ensures.found snapshot.objects (objects_of redactions) honest on) in
    subst (λ (n : ℕ). (k i : ℕ) → has_pair bookmark.runs k i ≡ red_set snapshot.objects.state n (objects_of redactions) k i) (sym own.named.number)
    (subst (λ (runs : Runs). (k i : ℕ) → has_pair runs k i ≡ red_set snapshot.objects.state c.args.own.now.number (objects_of redactions) k i) read same)

pub returns-clause-found : goal.returns-clause-found
returns-clause-found g c = λ bookmark snapshot redactions honest is own hold.
    let early = c.in_ok-found.ensures.looks.reads.honest honest in
    let read : c.in_ok-list.list ≡ bookmark.runs = c.in_ok-list.ensures.there bookmark.runs early is.list in
    let on = look_on (λ (seen : List ℕ) (space : FreeSectors). HoldStates (Has seen space) c.args.own.now.objects c.args.sets.now snapshot.objects (objects_of redactions)) c.in_ok-list.ensures.looks
    (record { snapshot = own.objects; each = hold }) in
    let other = subst (λ (found : Option (ℕ × ℕ)). FindsOther (red_set snapshot.objects.state c.args.own.now.number (objects_of redactions)) (has_pair c.in_ok-list.list) found) c.in-Some.is
    (c.in_ok-found.ensures.found snapshot.objects (objects_of redactions) honest on) in
    record {
      named = is.named.name ∙ (sym c.text.ensures.same ∙ (sym c.as_bytes.ensures.value ∙ sym c.new-in-Some.ensures.same));
      own_named = own.named.name ∙ (sym c.text-in-Some.ensures.same ∙ (sym c.as_bytes-in-Some.ensures.value ∙ sym c.new-in-Some-2.ensures.same));
      differs = subst (λ (n : ℕ). has_pair bookmark.runs c.in-Some.object c.in-Some.block ≢ red_set snapshot.objects.state n (objects_of redactions) c.in-Some.object c.in-Some.block) (sym own.named.number)
          (subst (λ (runs : Runs). has_pair runs c.in-Some.object c.in-Some.block ≢ red_set snapshot.objects.state c.args.own.now.number (objects_of redactions) c.in-Some.object c.in-Some.block) read other);
    }

pub returns-clause-named : goal.returns-clause-named
returns-clause-named g c =
    (sym c.text.ensures.same ∙ (sym c.as_bytes.ensures.value ∙ sym c.new-in-Some.ensures.same), sym c.text-in-Some.ensures.same ∙ (sym c.as_bytes-in-Some.ensures.value ∙ sym c.new-in-Some-2.ensures.same))
