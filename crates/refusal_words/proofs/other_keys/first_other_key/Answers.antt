use Rattle.std.proofs.Common.{String, Global, string_bytes, ◌∙◌, ap, rules, tests}
use Rattle.std.specs.Prelude.{find, option_map}
use Rattle.std.specs.BTreeMap.{keys}
use Rattle.std.proofs.lemmas.Iterator.Consumers.{YieldsList-from_rest}
use Rattle.std.proofs.lemmas.Iterator.Search.{find_from_yields_List}
use Rattle.refusal_words.specs.FileNames.{is_other_key}
use Rattle.refusal_words.proofs.OtherKeys.{find-map, keys-view, lent-bytes}
use Rattle.refusal_words.proofs.other_keys.first_other_key.Goals as goal

pub returns : goal.returns
returns c =
    lent-bytes c.find.result ∙ ap (option_map string_bytes)
    (find_from_yields_List (λ (key : String Global). is_other_key (string_bytes key)) _ _ c.find.result
    c.find.ensures.ran (YieldsList-from_rest (keys c.args.tree.now) c.keys.ensures.rest)
    (λ x b q k. search (rules, tests)))
    ∙ find-map is_other_key string_bytes (keys c.args.tree.now)
    ∙ ap (find is_other_key) (keys-view c.args.tree.now.entries)
