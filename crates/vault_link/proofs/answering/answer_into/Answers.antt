use Rattle.std.proofs.Common.{◌≡◌, ◌++◌, length, sym, ap, ◌∙◌, subst, arith}
use Rattle.std.specs.Prelude.{IsOk}
use Rattle.sse_journal.specs.JournalView.{broken_by}
use Rattle.vault_server.specs.VaultAnswers.{answer_reply, vault_answered}
use Rattle.vault_server.specs.VaultFrames.{InVaultReplies, vault_reply_bytes}
use Rattle.vault_server.specs.VaultRecords.{CanTake}
use Rattle.vault_server.specs.VaultTurns.{Answers}
use Rattle.vault_link.specs.ReplySizes.{IsOneReply}
use Rattle.vault_link.specs.Served.{IsAnswered, body_of}
use Rattle.vault_link.proofs.AnswerLaws.{answer_says, answer_stands, answer_room, store_fault_answer, fault_seen, on_ok}
use Rattle.vault_link.proofs.ReplyLaws.{is_one_reply}
use Rattle.vault_link.proofs.answering.answer_into.Given as given
use Rattle.vault_link.proofs.answering.answer_into.Goals as goal

-- the server's answer to the body
says : (g : given.Over) (c : goal.After-write_vault_reply g)
    → Answers c.args.server.now.state c.answer-answer.new.self.state c.answer-answer.result (vault_answered c.args.server.now.state (body_of c.args.frame.now)) (CanTake c.args.server.now.state (body_of c.args.frame.now))
says g c =
    subst (λ body. Answers c.args.server.now.state c.answer-answer.new.self.state c.answer-answer.result (vault_answered c.args.server.now.state body) (CanTake c.args.server.now.state body)) c.split_at.ensures.back
    c.answer-answer.ensures.step

-- the reply that it stands for is one of the grammar
stands : (g : given.Over) (c : goal.After-write_vault_reply g) → InVaultReplies (answer_reply c.answer-answer.new.self.state c.answer-answer.result)
stands g c =
    subst InVaultReplies c.reply.ensures.value
    (c.reply.ensures.grammar (answer_stands c.args.server.now.state c.answer-answer.new.self.state c.answer-answer.result c.args.frame.now c.requires.frame (says g c)))

-- and was written, since it had room
written : (g : given.Over) (c : goal.After-write_vault_reply g) → c.write_vault_reply.new.out.items ≡ vault_reply_bytes (answer_reply c.answer-answer.new.self.state c.answer-answer.result)
written g c =
    let room = answer_room c.args.server.now.state c.answer-answer.new.self.state c.answer-answer.result (body_of c.args.frame.now) _ (says g c) in
    let few : IsOk c.write_vault_reply.result = c.write_vault_reply.ensures.reserved
    (omega (arith, ap length c.requires.empty, room, c.requires.room, ap (λ reply. length (vault_reply_bytes reply)) c.reply.ensures.value)) in
    on_ok c.write_vault_reply.result few c.write_vault_reply.ensures.bytes
    ∙ (λ i. c.requires.empty i ++ vault_reply_bytes (c.reply.ensures.value i))

pub returns-clause-size : goal.returns-clause-size
returns-clause-size g c =
    subst (λ bytes. IsOneReply (length bytes) bytes) (sym (written g c)) (is_one_reply (answer_reply c.answer-answer.new.self.state c.answer-answer.result) (stands g c))

pub returns-clause-replies : goal.returns-clause-replies
returns-clause-replies g c = record {
  answered = subst (λ bytes. IsAnswered c.args.server.now.state c.args.frame.now bytes c.answer-answer.new.self.state) (sym (written g c))
      (answer_says c.args.server.now.state c.answer-answer.new.self.state c.answer-answer.result c.args.frame.now (says g c) (stands g c));
  untouched = λ untaken.
      ap g.D.Disk.content (c.answer-answer.ensures.journal.untouched (λ can. untaken (subst (λ body. CanTake c.args.server.now.state body) c.split_at.ensures.back can))).0;
  within = c.answer-answer.ensures.left.within_after;
  store_fault = λ same.
      let fault = store_fault_answer c.answer-answer.new.self.state c.answer-answer.result (stands g c) (sym (written g c) ∙ same) in
      fault_seen (broken_by c.args.server.now.journal) (broken_by c.answer-answer.new.self.journal) _ _ (c.answer-answer.ensures.count.failed fault) (c.answer-answer.ensures.left.failed_breaks fault) c.answer-answer.ensures.left.stays_broken;
}
