use Rattle.doc_vault.proofs.judge.open_reply.Goals as goal

pub returns-in-Body-clause-comes : goal.returns-in-Body-clause-comes
returns-in-Body-clause-comes g c known = rw c.in-Body.is (c.open_text.ensures.comes known)
