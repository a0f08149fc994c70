use Rattle.std.proofs.Common.{rules, ◌≡◌, ◌++◌, Some, refl, ap, sym, ◌∙◌}
use Rattle.zst_dir.proofs.ParsedNames.{result_ok-parsed, text_of, spelled, plain_text_of, none_where_empty, some_where_not}
use Rattle.zst_dir.proofs.fields.read_snap_name.Goals as goal

pub returns-in_err-text : goal.returns-in_err-text
returns-in_err-text c = record {
  fits = search rules;
  exact = λ name rest whole is.
      absurd (cc (c.in_err-text.ensures.exact (text_of name) rest (plain_text_of name whole) (is ∙ ap (λ bytes. bytes ++ rest) (spelled name))).0);
}

pub returns-then-is_empty : goal.returns-then-is_empty
returns-then-is_empty c = record {
  fits = search rules;
  exact = λ name rest whole is.
      let read = c.in_ok-text.ensures.exact (text_of name) rest (plain_text_of name whole) (is ∙ ap (λ bytes. bytes ++ rest) (spelled name)) in
      let same : c.in_ok-text.text.now ≡ text_of name = cc read.0 in
      (ap Some (none_where_empty name c.in_ok-text.text.now whole same (sym c.is_empty.ensures ∙ c.if-is_empty.true)), read.1);
}

pub returns-in_err-ok : goal.returns-in_err-ok
returns-in_err-ok c = record {
  fits = search rules;
  exact = λ name rest whole is.
      let text = c.in_ok-text.text.now in
      let read = c.in_ok-text.ensures.exact (text_of name) rest (plain_text_of name whole) (is ∙ ap (λ bytes. bytes ++ rest) (spelled name)) in
      let same : text ≡ text_of name = cc read.0 in
      let found = some_where_not name text whole same (sym c.is_empty.ensures ∙ c.if-is_empty.false) in
      absurd (cc (c.in_err-ok.was, c.ok.ensures.value ∙ result_ok-parsed c.parse.result text text c.parse.ensures.same (c.parse.ensures.exact found.0) refl));
}

pub returns : goal.returns
returns c = record {
  fits = search rules;
  exact = λ name rest whole is.
      let text = c.in_ok-text.text.now in
      let read = c.in_ok-text.ensures.exact (text_of name) rest (plain_text_of name whole) (is ∙ ap (λ bytes. bytes ++ rest) (spelled name)) in
      let same : text ≡ text_of name = cc read.0 in
      let found = some_where_not name text whole same (sym c.is_empty.ensures ∙ c.if-is_empty.false) in
      let parsed = c.ok.ensures.value ∙ result_ok-parsed c.parse.result text text c.parse.ensures.same (c.parse.ensures.exact found.0) refl in
      (ap Some (sym c.in_ok-ok.was ∙ parsed ∙ sym found.1), read.1);
}
