use Rattle.std.proofs.Common.{◌≡◌, ◌∷◌, ◌++◌, [], ap, subst, ◌∙◌, option_map, IfSome}
use Rattle.vault_served.specs.Lasting.{Lasts}
use Rattle.vault_served.proofs.Servings.{HaveServed-still, HaveServed-last}
use Rattle.vault_served.proofs.serving.serve_next.Goals as goal

-- one more
pub returns-in-Ok-Some-clause-served : goal.returns-in-Ok-Some-clause-served
returns-in-Ok-Some-clause-served g c server0 disk0 offered0 returned0 have =
    HaveServed-last (Lasts g.D.Disk.content g.D.Disk.images) g.C.In.Source.remaining g.C.Out.Sink.written _ _ _ _ _ _ _ _ _ _ _ _ c.in-Ok-Some.conn c.serve_connection-end.new.conn have
    (record { end = c.serve_connection-end.result; connection = c.serve_connection-end.ensures.connection })
    (c.done.ensures.offered_kept
    ∙ subst (λ k. IfSome k (λ conn. g.C.Conns.offered c.next.new.self ≡ option_map (λ conns. conns ++ conn ∷ []) (g.C.Conns.offered c.args.conns.now))) c.in-Ok-Some.field-0-is c.in-Ok-Some.ensures.one)
    (c.done.ensures.returned ∙ ap (option_map (λ l. l ++ c.serve_connection-end.new.conn ∷ [])) c.next.ensures.returned_kept)

-- none
pub returns-in-Ok-None-clause-served : goal.returns-in-Ok-None-clause-served
returns-in-Ok-None-clause-served g c server0 disk0 offered0 returned0 have =
    HaveServed-still (Lasts g.D.Disk.content g.D.Disk.images) g.C.In.Source.remaining g.C.Out.Sink.written _ _ _ _ _ _ _ _ _ _ have
    (c.in-Ok-None.ensures.end_offered c.in-Ok-None.field-0-is) c.next.ensures.returned_kept

pub returns-in-Err-clause-served : goal.returns-in-Err-clause-served
returns-in-Err-clause-served g c server0 disk0 offered0 returned0 have =
    HaveServed-still (Lasts g.D.Disk.content g.D.Disk.images) g.C.In.Source.remaining g.C.Out.Sink.written _ _ _ _ _ _ _ _ _ _ have
    c.in-Err.ensures.err_offered c.next.ensures.returned_kept
