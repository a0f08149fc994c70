use Rattle.std.proofs.Common.{rules, ◌≡◌, subst, sym, ◌∙◌}
use Rattle.zst_names.specs.Names.{IsBookmark}
use Rattle.zst_dir.proofs.ParsedNames.{result_ok-parsed}
use Rattle.zst_dir.proofs.Texts.{plain_bookmark}
use Rattle.zst_dir.proofs.fields.read_book_name.Goals as goal

pub returns-in_err-read_str : goal.returns-in_err-read_str
returns-in_err-read_str c = record {
  fits = search rules;
  exact = λ value rest name is. absurd (cc (c.in_err-read_str.ensures.exact value rest (plain_bookmark value name) is).0);
}

pub returns : goal.returns
returns c = record {
  fits = search rules;
  exact = λ value rest name is.
      let read = c.in_ok-read_str.ensures.exact value rest (plain_bookmark value name) is in
      let same : c.in_ok-read_str.field-0.now ≡ value = cc read.0 in
      let fine = c.parse.ensures.exact (subst IsBookmark (sym same) name) in
      (c.ok.ensures.value ∙ result_ok-parsed c.parse.result c.in_ok-read_str.field-0.now value c.parse.ensures.same fine same, read.1);
}
