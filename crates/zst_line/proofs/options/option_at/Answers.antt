use Rattle.std.proofs.Common.{◌≡◌, ℕ, ◌<◌, Bool, true, false, Some, None, if◌then◌else◌, List, String, Global, length, get_or, map, take, string_bytes, sym, ap, ◌∙◌}
use Rattle.std.proofs.lemmas.List.{length-map, take-map}
use Rattle.zst_line.specs.Grammar.{option_at, option_of, stands_in, word_at}
use Rattle.zst_line.specs.declared.kind.Kind.{Kind}
use Rattle.zst_line.specs.declared.options.OptionValue.{OptionValue}
use Rattle.zst_line.proofs.WordWalk.{word_here}
use Rattle.zst_line.proofs.OptionPlaces.{option_known}
use Rattle.zst_line.proofs.options.option_at.Goals as goal

-- the option at an index whose text names one, by whether it stands before
told : (kind : Kind) (words : List (String Global)) (index : ℕ) (word : String Global) (text : List ℕ) (taking : OptionValue) (stood : Bool)
    → index < length words → get_or words index word ≡ word → text ≡ string_bytes word → Some taking ≡ option_of kind text
    → stood ≡ stands_in (map string_bytes (take index words)) text → (if stood then None else Some taking) ≡ option_at kind (map string_bytes words) index
told kind words index word text taking stood below same is names stands =
    let here = word_here words index word below in
    let at : word_at (map string_bytes words) index ≡ text = cc in
    let cut = take-map string_bytes index words in
    let before : stands_in (take index (map string_bytes words)) (word_at (map string_bytes words) index) ≡ stood = cc in
    sym (option_known kind (map string_bytes words) index taking (simp length-map below) (ap (option_of kind) at ∙ sym names)
    ∙ ap (λ (stands : Bool). if stands then None else Some taking) before)

pub returns-then-stands_in : goal.returns-then-stands_in
returns-then-stands_in c =
    let lookup = c.in_ok-get.ensures.lookup in
    told c.args.kind c.args.words.now c.args.index c.in_ok-get.field-0.now c.as_str-word.result.now c.in_ok-taking.taking true lookup.3.0 (sym lookup.1) c.as_str-word.ensures.value
    c.in_ok-taking.ensures (sym c.if-stands_in.true ∙ c.stands_in.ensures)

pub returns : goal.returns
returns c =
    let lookup = c.in_ok-get.ensures.lookup in
    told c.args.kind c.args.words.now c.args.index c.in_ok-get.field-0.now c.as_str-word.result.now c.in_ok-taking.taking false lookup.3.0 (sym lookup.1) c.as_str-word.ensures.value
    c.in_ok-taking.ensures (sym c.if-stands_in.false ∙ c.stands_in.ensures)
