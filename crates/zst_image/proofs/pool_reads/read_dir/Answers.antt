use Rattle.std.specs.Prelude.{Some}
use Rattle.std.proofs.Common.{◌≡◌, sym, ◌∙◌, subst}
use Rattle.std.proofs.lemmas.Option.{MatchOption-at_some}
use Rattle.zst_dir.specs.Rows.{Rows}
use Rattle.zst_dir.specs.Spelling.{IsDir}
use Rattle.zst_image.proofs.Causes.{tells_root}
use Rattle.zst_image.proofs.Directories.{DirStands-bytes}
use Rattle.zst_image.proofs.pool_reads.read_dir.Goals as goal

pub returns-in-Some-clause-there : goal.returns-in-Some-clause-there
returns-in-Some-clause-there g c = λ rows told has.
    let same = c.deref.ensures.value ∙ c.in_ok-bytes.ensures.there _ told has.leaves (sym has.count_is) in
    let found : c.in_ok-dir.field-0 ≡ Some rows = c.in_ok-dir.ensures.found rows (subst (IsDir rows) (sym same) has.directory) in
    cc (found, c.in-Some.is)

pub returns-clause-there : goal.returns-clause-there
returns-clause-there g c = λ rows told has.
    let same = c.deref.ensures.value ∙ c.in_ok-bytes.ensures.there _ told has.leaves (sym has.count_is) in
    let found : c.in_ok-dir.field-0 ≡ Some rows = c.in_ok-dir.ensures.found rows (subst (IsDir rows) (sym same) has.directory) in
    cc (found, c.in-None.is)

pub returns-in-Some-clause-only : goal.returns-in-Some-clause-only
returns-in-Some-clause-only g c = λ told.
    let uber = c.args.uber.now in
    let is = MatchOption-at_some (Unit {0}) (λ (rows : Rows). IsDir rows c.deref.result.now) _ c.in-Some.is c.in_ok-dir.ensures.only in
    DirStands-bytes _ uber.dir_levels uber.dir_root uber.dir_bytes _ _ (subst (IsDir _) c.deref.ensures.value is) c.in_ok-bytes.ensures.length (c.in_ok-bytes.ensures.only told)

pub returns-clause-damaged : goal.returns-clause-damaged
returns-clause-damaged g c = λ told.
    let read = c.in_ok-bytes.ensures in
    tells_root (g.D.Disk.state c.args.disk.now) c.args.uber.now c.of_layout.result (record {
      text = _;
      leaves = read.only told;
      long = read.length;
      no_dir = λ rows is.
          let found : c.in_ok-dir.field-0 ≡ Some rows = c.in_ok-dir.ensures.found rows (subst (IsDir rows) (sym c.deref.ensures.value) is) in
          absurd (cc (found, c.in-None.is));
    }) c.of_layout.ensures
