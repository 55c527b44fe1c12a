use Rattle.std.proofs.Common.{◌∙◌, ap}
use Rattle.std.specs.Prelude.{map, is_some, bytes_eq}
use Rattle.bool_search.proofs.FieldLaws.{kept_in, added_in, absent, present}
use Rattle.bool_search.proofs.fields.push_if_new.Goals as goal

pub returns-in-Some : goal.returns-in-Some
returns-in-Some c =
    kept_in (λ word. word.now) c.args.words.now.items c.args.word.now
    (present (λ other. bytes_eq c.args.word.now other.now) c.args.words.now.items c.deref.result.now c.place_of.result c.deref.ensures.value c.place_of.ensures.place (ap is_some c.in-Some.is))

pub returns-in_ok-push-in-None : goal.returns-in_ok-push-in-None
returns-in_ok-push-in-None c =
    ap (map (λ word. word.now)) c.in_ok-push-in-None.ensures.items
    ∙ added_in (λ word. word.now) c.args.words.now.items c.args.word
    (absent (λ other. bytes_eq c.args.word.now other.now) c.args.words.now.items c.deref.result.now c.place_of.result c.deref.ensures.value c.place_of.ensures.place (ap is_some c.in-None.is))
