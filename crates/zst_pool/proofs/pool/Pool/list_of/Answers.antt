use Rattle.std.specs.Prelude.{Err, IfErr, IfOk, IfSome, Option}
use Rattle.std.proofs.Common.{refl, sym, ap, ◌∙◌, subst}
use Rattle.zst_block.specs.Blocks.{Has}
use Rattle.zst_leaves.specs.Leaves.{BlocksBefore}
use Rattle.zst_model.specs.declared.refusals.plan_fault.PlanFault.{PlanFault}
use Rattle.zst_model.specs.pools.Pool.{bookmark_named}
use Rattle.zst_dir.specs.declared.rows.Bookmark.{Bookmark}
use Rattle.zst_image.specs.Reads.{BookmarkIs}
use Rattle.zst_pool.specs.declared.fault.PoolFault.TheVariants.{Failed, Plan}
use Rattle.zst_pool.specs.Lists.{AnswersNamed, StandsBelow, TellsRow, row_named}
use Rattle.zst_pool.proofs.BookmarkLists.{bookmark_alike, option_map-same, given_none, given_some}
use Rattle.zst_pool.proofs.EventEnds.{looks_idle}
use Rattle.zst_dir.proofs.Matches.{FoundAlike}
use Rattle.zst_pool.proofs.pool.Pool.list_of.Goals as goal

pub returns-in-None-clause-found : goal.returns-in-None-clause-found
returns-in-None-clause-found g c = λ pool told works are.
    let io = c.args.self.now.io in
    let has = Has (g.D.Disk.state io.disk.now).seen io.space in
    let name = c.args.book.now in
    let alike = bookmark_alike has c.args.self.now.kept.dir pool name are in
    given_none has name (bookmark_named name pool) _ (subst (λ (o : Option Bookmark). FoundAlike (BookmarkIs has) o (bookmark_named name pool)) (sym (option_map-same (row_named name c.args.self.now.kept.dir)) ∙ sym c.row_of.ensures ∙ c.in-None.is) alike)
    (ap (λ (fault : PlanFault). Err (Plan fault)) c.no_such.ensures)

pub returns-in-Some-clause-found : goal.returns-in-Some-clause-found
returns-in-Some-clause-found g c = λ pool told works are.
    let io = c.args.self.now.io in
    let has = Has (g.D.Disk.state io.disk.now).seen io.space in
    let name = c.args.book.now in
    let alike = bookmark_alike has c.args.self.now.kept.dir pool name are in
    given_some has name c.in-Some.row (bookmark_named name pool) c.read_row.result
    (subst (λ (o : Option Bookmark). FoundAlike (BookmarkIs has) o (bookmark_named name pool)) (sym (option_map-same (row_named name c.args.self.now.kept.dir)) ∙ sym c.row_of.ensures ∙ c.in-Some.is) alike) (λ runs is. c.read_row.ensures.found runs told is)

pub returns-in-Some-clause-damaged : goal.returns-in-Some-clause-damaged
returns-in-Some-clause-damaged g c = λ told.
    let io = c.args.self.now.io in
    let disk = g.D.Disk.state io.disk.now in
    let is = sym (option_map-same (row_named c.args.book.now c.args.self.now.kept.dir)) ∙ sym c.row_of.ensures ∙ c.in-Some.is in
    subst (λ (o : Option Bookmark). IfErr c.read_row.result (λ fault. IfSome o (λ row. TellsRow io.space.end disk.seen disk.size row fault))) (sym is) (c.read_row.ensures.damaged told)

pub returns-in-Some-clause-rows : goal.returns-in-Some-clause-rows
returns-in-Some-clause-rows g c = λ works.
    let is = sym (option_map-same (row_named c.args.book.now c.args.self.now.kept.dir)) ∙ sym c.row_of.ensures ∙ c.in-Some.is in
    subst (λ (o : Option Bookmark). AnswersNamed c.args.book.now o c.read_row.result) (sym is) c.read_row.ensures.rows

pub returns-in-None-clause-rows : goal.returns-in-None-clause-rows
returns-in-None-clause-rows g c = λ works.
    let is = sym (option_map-same (row_named c.args.book.now c.args.self.now.kept.dir)) ∙ sym c.row_of.ensures ∙ c.in-None.is in
    subst (λ (o : Option Bookmark). AnswersNamed c.args.book.now o (Err (Plan c.no_such.result))) (sym is) (ap (λ (fault : PlanFault). Err (Plan fault)) c.no_such.ensures)

pub returns-in-Some-clause-stands : goal.returns-in-Some-clause-stands
returns-in-Some-clause-stands g c = λ told.
    let io = c.args.self.now.io in
    let has = BlocksBefore io.space.end (g.D.Disk.state io.disk.now).seen in
    let is = sym (option_map-same (row_named c.args.book.now c.args.self.now.kept.dir)) ∙ sym c.row_of.ensures ∙ c.in-Some.is in
    subst (λ (o : Option Bookmark). IfOk c.read_row.result (λ list. IfSome o (λ row. StandsBelow has row list))) (sym is) (c.read_row.ensures.stands told)

pub returns-then-self-clause-looks_up : goal.returns-then-self-clause-looks_up
returns-then-self-clause-looks_up g c = looks_idle c.args.self.now (Err Failed) (λ is. refl) refl

pub returns-in-None-clause-looks_up : goal.returns-in-None-clause-looks_up
returns-in-None-clause-looks_up g c = looks_idle c.args.self.now (Err (Plan c.no_such.result)) (λ is. absurd (cc (is, c.if-self.false))) refl

pub returns-in-Some-clause-looks_up : goal.returns-in-Some-clause-looks_up
returns-in-Some-clause-looks_up g c =
    let read = c.read_row.ensures in
    record {
      failed_pool = λ is. absurd (cc (is, c.if-self.false));
      idle_disk = λ is. absurd (cc (is, c.if-self.false));
      reads_only = read.reads_only;
      kept = refl;
    }
