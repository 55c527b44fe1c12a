use Rattle.std.proofs.Common.{◌≡◌, ◌<◌, ◌++◌, ◌∷◌, [], All, Bool, not, true, false, length, get_or, sym, ap, subst, ◌∙◌, arith}
use Rattle.std.proofs.lemmas.List.{append-nil}
use Rattle.std.proofs.lemmas.List.Elements.{All-push}
use Rattle.client_registry.specs.IdNumber.{id_number}
use Rattle.client_registry.specs.Registered.{facts, known_words}
use Rattle.revocation_ids.specs.Places.{word_at}
use Rattle.revocation_ids.specs.declared.numbered_word.NumberedWord.{NumberedWord}
use Rattle.revocation_ids.proofs.PlaceLaws.{one_more}
use Rattle.revocation_ids.proofs.split_words.split.Goals as goal
use Rattle.revocation_ids.proofs.split_words.split.Goals.{then-is_pair_at+in_ok-push, else-is_pair_at+in_ok-push-2}

pub loop-i-preserved : goal.loop-i-preserved
loop-i-preserved c =
    let r = c.args.registry.now in
    let id = id_number c.args.id in
    let numbers = c.args.numbers.now in
    let i = c.loop-i.i in
    let within = c.loop-i-test.true in
    let place : NumberedWord = record { position = i; number = get_or numbers i 0 } in
    let is_old : NumberedWord → Bool = λ p. (facts r).listed (word_at r p) id in
    let is_new : NumberedWord → Bool = λ p. not ((facts r).listed (word_at r p) id) in
    let in_table : NumberedWord → Type 0 = λ p. p.number < length (known_words r) in
    let small : in_table place = c.requires.within i 0 within in
    elim c.if-is_pair_at.branch [
      | then-is_pair_at+in_ok-push w ↦
          let listed : is_old place ≡ true = sym c.is_pair_at.ensures ∙ w.if-is_pair_at.true in
          let more = ap (λ v. v.items) w.listed-is ∙ w.in_ok-push.ensures.items in
          record {
            fresh = ap (λ v. v.items) w.fresh-is ∙ c.loop-i.invariant.fresh ∙ sym (one_more is_new numbers i false within (ap not listed) ∙ append-nil _);
            listed = more ∙ ap (λ places. places ++ place ∷ []) c.loop-i.invariant.listed ∙ sym (one_more is_old numbers i true within listed);
            fresh_numbers = subst (All in_table) (sym (ap (λ v. v.items) w.fresh-is)) c.loop-i.invariant.fresh_numbers;
            listed_numbers = subst (All in_table) (sym more) (All-push in_table c.loop-i.listed.items place c.loop-i.invariant.listed_numbers small);
          }
      | else-is_pair_at+in_ok-push-2 w ↦
          let listed : is_old place ≡ false = sym c.is_pair_at.ensures ∙ w.if-is_pair_at.false in
          let more = ap (λ v. v.items) w.fresh-is ∙ w.in_ok-push-2.ensures.items in
          record {
            fresh = more ∙ ap (λ places. places ++ place ∷ []) c.loop-i.invariant.fresh ∙ sym (one_more is_new numbers i true within (ap not listed));
            listed = ap (λ v. v.items) w.listed-is ∙ c.loop-i.invariant.listed ∙ sym (one_more is_old numbers i false within listed ∙ append-nil _);
            fresh_numbers = subst (All in_table) (sym more) (All-push in_table c.loop-i.fresh.items place c.loop-i.invariant.fresh_numbers small);
            listed_numbers = subst (All in_table) (sym (ap (λ v. v.items) w.listed-is)) c.loop-i.invariant.listed_numbers;
          }
    ]
