use Rattle.std.specs.Prelude.{Some, Vec}
use Rattle.std.specs.declared.alloc.Global.{Global}
use Rattle.std.proofs.Common.{◌≡◌, ℕ, length, sym, ap, ◌∙◌, arith}
use Rattle.zst_list.specs.Spelling.{list_bytes}
use Rattle.zst_list.specs.StoredLists.{list_length}
use Rattle.zst_list.proofs.Sizes.{length-list}
use Rattle.zst_list.proofs.ReadRefusals.{few_runs, leaves_told, long_told, none_found, none_told, root_told}
use Rattle.zst_list.proofs.reads.read_list.Goals as goal

pub returns-then-count-gt-MOST_RUNS-clause-there : goal.returns-then-count-gt-MOST_RUNS-clause-there
returns-then-count-gt-MOST_RUNS-clause-there g c = λ runs honest is.
    absurd (omega (arith, is.count_is, few_runs _ c.args.levels c.args.root runs (is.leaves (omega arith)), c.if-count-gt-MOST_RUNS.true))

pub returns-then-count-gt-MOST_RUNS-clause-damaged : goal.returns-then-count-gt-MOST_RUNS-clause-damaged
returns-then-count-gt-MOST_RUNS-clause-damaged g c = λ honest. long_told _ _ _ c.args.levels c.args.root c.args.count c.no_list.result c.if-count-gt-MOST_RUNS.true c.no_list.ensures

pub returns-in_err-bytes-clause-there : goal.returns-in_err-bytes-clause-there
returns-in_err-bytes-clause-there g c = λ runs honest is.
    let long : length (list_bytes runs) ≡ c.length_of.result = length-list runs ∙ ap list_length is.count_is ∙ sym c.length_of.ensures in
    none_told runs (list_bytes runs) (Vec ℕ Global) (λ read. read.items) c.from_residual.result c.in_err-bytes.field-0.0 c.from_residual.ensures.1 (c.in_err-bytes.ensures.there (list_bytes runs) honest (is.leaves (omega arith)) long)

pub returns-in_err-bytes-clause-damaged : goal.returns-in_err-bytes-clause-damaged
returns-in_err-bytes-clause-damaged g c = λ honest.
    leaves_told _ _ _ c.args.levels c.args.root c.args.count c.length_of.result (Vec ℕ Global) c.from_residual.result c.in_err-bytes.field-0.0 c.from_residual.ensures.1 c.length_of.ensures (c.in_err-bytes.ensures.damaged honest)

pub returns-in-Some-clause-there : goal.returns-in-Some-clause-there
returns-in-Some-clause-there g c = λ runs honest is.
    let long : length (list_bytes runs) ≡ c.length_of.result = length-list runs ∙ ap list_length is.count_is ∙ sym c.length_of.ensures in
    let same = c.deref.ensures.value ∙ c.in_ok-bytes.ensures.there (list_bytes runs) honest (is.leaves (omega arith)) long in
    let found : c.in_ok-list.field-0 ≡ Some runs = c.in_ok-list.ensures.found runs (record { lawful = is.lawful; count_is = is.count_is; spelled = same }) in
    cc (found, c.in-Some.is)

pub returns-clause-there : goal.returns-clause-there
returns-clause-there g c = λ runs honest is.
    let long : length (list_bytes runs) ≡ c.length_of.result = length-list runs ∙ ap list_length is.count_is ∙ sym c.length_of.ensures in
    let same = c.deref.ensures.value ∙ c.in_ok-bytes.ensures.there (list_bytes runs) honest (is.leaves (omega arith)) long in
    let found : c.in_ok-list.field-0 ≡ Some runs = c.in_ok-list.ensures.found runs (record { lawful = is.lawful; count_is = is.count_is; spelled = same }) in
    absurd (cc (found, c.in-None.is))

pub returns-clause-damaged : goal.returns-clause-damaged
returns-clause-damaged g c = λ honest.
    let read = c.in_ok-bytes.ensures in
    root_told _ _ _ c.args.levels c.args.root c.args.count _ _ c.no_list-in-None.result (read.only honest) read.long c.length_of.ensures
    (none_found c.args.count _ _ c.in_ok-list.field-0 c.deref.ensures.value c.in-None.is c.in_ok-list.ensures.found) c.no_list-in-None.ensures
