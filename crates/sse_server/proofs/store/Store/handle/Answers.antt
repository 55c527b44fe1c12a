use Rattle.std.proofs.Common.{◌≡◌, ℕ, refl, sym, ◌∙◌, subst}
use Rattle.std.specs.Prelude.{Option, Some, None, IsSome}
use Rattle.keyed_fn.specs.KeyedFn.{keyed_fn}
use Rattle.sse_frames.specs.Frames.{update_number}
use Rattle.sse_frames.specs.FrameViews.{frame_view}
use Rattle.server_core.specs.Refusal.{refusal}
use Rattle.server_core.specs.declared.answer.Answer.TheVariants.{Took}
use Rattle.sse_server.specs.Taken.{IsTaken}
use Rattle.sse_journal.specs.JournalView.{broken_by}
use Rattle.sse_server.proofs.AnswerLaws.{no_took, not_taken, for_some, by_cause}
use Rattle.sse_server.proofs.store.Store.handle.Goals as goal

-- a frame that isn't taken was refused, as it is an update frame
pub returns-in-Some-clause-untouched : goal.returns-in-Some-clause-untouched
returns-in-Some-clause-untouched g c untaken =
    let update : IsSome (update_number (frame_view c.args.frame.now)) = subst (λ (o : Option ℕ). IsSome o) (sym c.in-Some.is ∙ c.update_number.ensures) refl in
    by_cause (refusal c.args.self.now.state (frame_view c.args.frame.now)) _ c.take.ensures.refused
    (λ accepted. absurd (untaken (record { update = update; grammar = c.requires.grammar; accepted = accepted })))
    (λ reply is. (is.1, λ i. (is.0 i).journal))

-- any other frame isn't taken

pub returns-in-None-clause-added : goal.returns-in-None-clause-added
returns-in-None-clause-added g c q same frames is =
    let took : c.handle.result ≡ Took q = cc in
    absurd (no_took (keyed_fn g.K.Keyed.prf g.K.Keyed.pad) c.self.inside.server.state c.handle.new.self.state (frame_view c.args.frame.now) c.handle.result c.handle.new.page q (sym c.update_number.ensures ∙ c.in-None.is) c.handle.ensures.replies took)

pub returns-in-None-clause-counted : goal.returns-in-None-clause-counted
returns-in-None-clause-counted g c q same =
    let took : c.handle.result ≡ Took q = cc in
    absurd (no_took (keyed_fn g.K.Keyed.prf g.K.Keyed.pad) c.self.inside.server.state c.handle.new.self.state (frame_view c.args.frame.now) c.handle.result c.handle.new.page q (sym c.update_number.ensures ∙ c.in-None.is) c.handle.ensures.replies took)

pub returns-in-None-clause-whole : goal.returns-in-None-clause-whole
returns-in-None-clause-whole g c q same =
    let took : c.handle.result ≡ Took q = cc in
    absurd (no_took (keyed_fn g.K.Keyed.prf g.K.Keyed.pad) c.self.inside.server.state c.handle.new.self.state (frame_view c.args.frame.now) c.handle.result c.handle.new.page q (sym c.update_number.ensures ∙ c.in-None.is) c.handle.ensures.replies took)

pub returns-in-None-clause-stays_broken : goal.returns-in-None-clause-stays_broken
returns-in-None-clause-stays_broken g c =
    for_some (broken_by c.args.self.now.journal) _ (λ why is. absurd (not_taken c.args.self.now.state (frame_view c.args.frame.now) (sym c.update_number.ensures ∙ c.in-None.is) is))
