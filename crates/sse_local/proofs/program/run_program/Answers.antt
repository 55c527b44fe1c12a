use Rattle.std.proofs.Common.{◌≡◌, drop, map, sym, ap, subst, ◌∙◌}
use Rattle.std.specs.Prelude.{string_bytes}
use Rattle.program_words.specs.Modes.{local_mode_of}
use Rattle.client_journal.specs.Shows.{gives, prints}
use Rattle.sse_local.specs.Asked.{asked_by, right_words}
use Rattle.sse_local.specs.Program.{IsReadFor, MayEndWith, TellsStreams}
use Rattle.sse_local.proofs.Does.{does-same}
use Rattle.sse_local.proofs.program.run_program.Goals as goal

pub returns-in-Words-clause-does : goal.returns-in-Words-clause-does
returns-in-Words-clause-does g c =
    does-same _ _ _ _ _ _ _ _ _
    (ap asked_by c.in-Words.is ∙ ap (λ words. right_words (local_mode_of (map (λ word. string_bytes word) words))) (sym (c.behind_name.ensures ∙ ap (drop 1) c.deref.ensures.value)))
    c.by_words.ensures.does

pub returns-in-Words-clause-streams : goal.returns-in-Words-clause-streams
returns-in-Words-clause-streams g c =
    let sink = c.args.sink.now in
    let sink' = c.by_words.new.sink in
    let asked : asked_by c.args.given.now ≡ right_words (local_mode_of (map (λ word. string_bytes word) c.behind_name.result.now)) =
    ap asked_by c.in-Words.is ∙ ap (λ words. right_words (local_mode_of (map (λ word. string_bytes word) words))) (sym (c.behind_name.ensures ∙ ap (drop 1) c.deref.ensures.value)) in
    subst (λ a. TellsStreams (IsReadFor a (g.S.Source.remaining c.by_words.new.source)) (gives (g.S.Source.remaining c.args.source.now) (g.S.Source.faults c.args.source.now)) (gives (g.S.Source.remaining c.by_words.new.source) (g.S.Source.faults c.by_words.new.source))
    (prints (g.W.Sink.written sink) (g.W.Sink.faults sink) (g.W.Sink.shortages sink)) (prints (g.W.Sink.written sink') (g.W.Sink.faults sink') (g.W.Sink.shortages sink')) c.by_words.result) (sym asked) c.by_words.ensures.streams

pub returns-in-Words-clause-status : goal.returns-in-Words-clause-status
returns-in-Words-clause-status g c =
    let asked : asked_by c.args.given.now ≡ right_words (local_mode_of (map (λ word. string_bytes word) c.behind_name.result.now)) =
    ap asked_by c.in-Words.is ∙ ap (λ words. right_words (local_mode_of (map (λ word. string_bytes word) words))) (sym (c.behind_name.ensures ∙ ap (drop 1) c.deref.ensures.value)) in
    subst (λ a. MayEndWith a c.by_words.result) (sym asked) c.by_words.ensures.status
