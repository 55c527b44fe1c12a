use Rattle.std.proofs.Common.{ap, ◌∙◌, unwrap_or}
use Rattle.client_registry.specs.Registered.{facts}
use Rattle.client_registry.specs.WordBytes.{word_bytes}
use Rattle.client_registry.proofs.TallyLaws.{lookup-counts}
use Rattle.client_registry.proofs.registry.Registry.counter.Goals as goal

pub returns : goal.returns
returns c =
    let bs = word_bytes c.args.word.now in
    c.unwrap_or.ensures
    ∙ ap (λ o. unwrap_or o 0) (c.copied.ensures ∙ c.get.ensures.value ∙ lookup-counts word_bytes bs c.self.inside.words.entries)
    ∙ ap (λ v. (facts v).counter bs) c.self.view_is
