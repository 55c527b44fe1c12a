use Rattle.std.proofs.Common.{◌≡◌, ◌∷◌, ◌++◌, [], ap, subst, ◌∙◌, option_map, IfSome}
use Rattle.keyed_fn.specs.KeyedFn.{keyed_fn}
use Rattle.server_connections.proofs.OwnersServedLaws.{HaveOwnersServed-still, HaveOwnersServed-last}
use Rattle.server_connections.proofs.owner_service.serve_next_owner.Goals as goal

-- one more
pub returns-in-Ok-Some-clause-served : goal.returns-in-Ok-Some-clause-served
returns-in-Ok-Some-clause-served g c numbers frames offered0 returned0 have =
    HaveOwnersServed-last (keyed_fn g.K.Keyed.prf g.K.Keyed.pad) g.C.In.Source.remaining g.C.Out.Sink.written numbers frames c.args.owners.now c.serve_owner-end.new.owners
    (g.D.Disk.content c.args.disk.now) (g.D.Disk.content c.serve_owner-end.new.disk) (g.D.Disk.images c.args.disk.now) (g.D.Disk.images c.serve_owner-end.new.disk) _ _ _ _ _ _ c.in-Ok-Some.conn c.serve_owner-end.new.conn have
    c.serve_owner-end.ensures.served
    (c.done.ensures.offered_kept
    ∙ subst (λ k. IfSome k (λ conn. g.C.Conns.offered c.next.new.self ≡ option_map (λ conns. conns ++ conn ∷ []) (g.C.Conns.offered c.args.conns.now))) c.in-Ok-Some.field-0-is c.in-Ok-Some.ensures.one)
    (c.done.ensures.returned ∙ ap (option_map (λ l. l ++ c.serve_owner-end.new.conn ∷ [])) c.next.ensures.returned_kept)

-- none
pub returns-in-Ok-None-clause-served : goal.returns-in-Ok-None-clause-served
returns-in-Ok-None-clause-served g c numbers frames offered0 returned0 have =
    HaveOwnersServed-still (keyed_fn g.K.Keyed.prf g.K.Keyed.pad) g.C.In.Source.remaining g.C.Out.Sink.written numbers frames c.args.owners.now (g.D.Disk.content c.args.disk.now) (g.D.Disk.images c.args.disk.now) _ _ _ _ _ _ have
    (c.in-Ok-None.ensures.end_offered c.in-Ok-None.field-0-is) c.next.ensures.returned_kept

pub returns-in-Err-clause-served : goal.returns-in-Err-clause-served
returns-in-Err-clause-served g c numbers frames offered0 returned0 have =
    HaveOwnersServed-still (keyed_fn g.K.Keyed.prf g.K.Keyed.pad) g.C.In.Source.remaining g.C.Out.Sink.written numbers frames c.args.owners.now (g.D.Disk.content c.args.disk.now) (g.D.Disk.images c.args.disk.now) _ _ _ _ _ _ have
    c.in-Err.ensures.err_offered c.next.ensures.returned_kept
