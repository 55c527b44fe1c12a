-- What holds of the client's commands, the frames that the server took and what was sent, asked and reported.
use Rattle.std.proofs.Common.{◌≡◌, ℕ, ◌+◌, ◌≤◌, true, List, [], ◌∷◌, ◌++◌, length, take, refl, sym, ap, ◌∙◌, subst, arith, append_assoc, append-nil}
use Rattle.std.specs.List.{AllByRecursion}
use Rattle.std.proofs.lemmas.List.{take-append-le}
use Rattle.world_model.specs.Rules.{Rules, AreNumbered, IsFront, AreAccepted, AreAcceptedBehind, AreTaken, AreTakenBehind}
use Rattle.world_model.specs.World.{Message, Hello, Update, Search, Asked, Done, Updated, Found}
use Rattle.world_model.specs.Events.{but_last}
use Rattle.world_model.specs.Promises.{IsFrameOf, IsDone}
use Rattle.world_model.proofs.Lists.{front_trans, front_get, length-push, but_last-push, all_mono}

module _ {C F W A : Type 0} (rules : Rules C F W A) where
  pub record Base (h : List C) (s : List F) (sent : List (Message F)) (searches : List (Asked W)) (done : List (Done A)) : Type 0 where
    pub accepted : AreAccepted rules h
    pub taken : AreTaken rules s
    pub front : IsFront s (rules.frames h)
    pub most : length (rules.frames (but_last h)) ≤ length s
    pub done_are : AllByRecursion (IsDone rules h (length s) searches) done
    pub sent_are : AllByRecursion (IsFrameOf rules (rules.frames h)) sent

  module _ (laws : AreNumbered rules) where
    grown_frame : (h : List C) (c : C) → IsFront (rules.frames h) (rules.frames (h ++ c ∷ [])) → (m : Message F) → IsFrameOf rules (rules.frames h) m → IsFrameOf rules (rules.frames (h ++ c ∷ [])) m
    grown_frame h c grows Hello e = tt
    grown_frame h c grows (Update f) e = front_get (rules.frames h) (rules.frames (h ++ c ∷ [])) (rules.number f) f grows e
    grown_frame h c grows (Search f) e = tt

    grown_done : (h : List C) (c : C) (n : ℕ) (searches : List (Asked W)) (d : Done A) → IsDone rules h n searches d → IsDone rules (h ++ c ∷ []) n searches d
    grown_done h c n searches (Updated i) p =
        let same : take (i + 1) (h ++ c ∷ []) ≡ take (i + 1) h = take-append-le (i + 1) h (c ∷ []) (omega (arith, p.0)) in
        (omega (arith, p.0, length-push h c), subst (λ first. length (rules.frames first) ≤ n) (sym same) p.1)
    grown_done h c n searches (Found i a) p =
        let same : take (p.asked).before (h ++ c ∷ []) ≡ take (p.asked).before h = take-append-le (p.asked).before h (c ∷ []) p.before in
        record {
          asked = p.asked;
          made = p.made;
          before = omega (arith, p.before, length-push h c);
          answer = p.answer ∙ ap (λ first. rules.answer (rules.frames first) (rules.asks first (p.asked).word)) (sym same);
          shown = p.shown;
        }

    accepted_push : (past h : List C) (c : C) → AreAcceptedBehind rules past h → rules.accepts (past ++ h) c ≡ true → AreAcceptedBehind rules past (h ++ c ∷ [])
    accepted_push past [] c are e = (subst (λ before. rules.accepts before c ≡ true) (append-nil past) e, tt)
    accepted_push past (x ∷ xs) c are e = (are.0, accepted_push (past ++ x ∷ []) xs c are.1 (subst (λ before. rules.accepts before c ≡ true) (sym (append_assoc past (x ∷ []) xs)) e))

    -- one command more, where the server has the frames of all before it
    pub grown : (h : List C) (c : C) (s : List F) (sent : List (Message F)) (searches : List (Asked W)) (done : List (Done A))
        → Base h s sent searches done → length (rules.frames h) ≤ length s → rules.accepts h c ≡ true → Base (h ++ c ∷ []) s sent searches done
    grown h c s sent searches done b all accepts = record {
      accepted = accepted_push [] h c b.accepted accepts;
      taken = b.taken;
      front = front_trans s (rules.frames h) (rules.frames (h ++ c ∷ [])) b.front (laws.grows h c b.accepted accepts);
      most = subst (λ first. length (rules.frames first) ≤ length s) (sym (but_last-push h c)) all;
      done_are = all_mono (IsDone rules h (length s) searches) (IsDone rules (h ++ c ∷ []) (length s) searches) (grown_done h c (length s) searches) done b.done_are;
      sent_are = all_mono (IsFrameOf rules (rules.frames h)) (IsFrameOf rules (rules.frames (h ++ c ∷ []))) (grown_frame h c (laws.grows h c b.accepted accepts)) sent b.sent_are;
    }

    later_done : (h : List C) (m n : ℕ) (searches : List (Asked W)) → m ≤ n → (d : Done A) → IsDone rules h m searches d → IsDone rules h n searches d
    later_done h m n searches l (Updated i) p = (p.0, omega (arith, p.1, l))
    later_done h m n searches l (Found i a) p = p

    taken_push : (past s : List F) (f : F) → AreTakenBehind rules past s → rules.takes (past ++ s) f ≡ true → AreTakenBehind rules past (s ++ f ∷ [])
    taken_push past [] f are e = (subst (λ before. rules.takes before f ≡ true) (append-nil past) e, tt)
    taken_push past (x ∷ xs) f are e = (are.0, taken_push (past ++ x ∷ []) xs f are.1 (subst (λ before. rules.takes before f ≡ true) (sym (append_assoc past (x ∷ []) xs)) e))

    -- one frame more that the server took
    pub taken_more : (h : List C) (s : List F) (f : F) (sent : List (Message F)) (searches : List (Asked W)) (done : List (Done A))
        → Base h s sent searches done → IsFront (s ++ f ∷ []) (rules.frames h) → rules.takes s f ≡ true → Base h (s ++ f ∷ []) sent searches done
    taken_more h s f sent searches done b front takes = record {
      accepted = b.accepted;
      taken = taken_push [] s f b.taken takes;
      front = front;
      most = omega (arith, b.most, length-push s f);
      done_are =
          let longer : length s ≤ length (s ++ f ∷ []) = omega (arith, length-push s f) in
          all_mono (IsDone rules h (length s) searches) (IsDone rules h (length (s ++ f ∷ [])) searches) (later_done h (length s) (length (s ++ f ∷ [])) searches longer) done b.done_are;
      sent_are = b.sent_are;
    }

    -- one search more
    searched_done : (h : List C) (n : ℕ) (searches : List (Asked W)) (q : Asked W) (d : Done A) → IsDone rules h n searches d → IsDone rules h n (searches ++ q ∷ []) d
    searched_done h n searches q (Updated i) p = p
    searched_done h n searches q (Found i a) p =
        record { asked = p.asked; made = front_get searches (searches ++ q ∷ []) i p.asked (q ∷ [], refl) p.made; before = p.before; answer = p.answer; shown = p.shown }

    pub asked_more : (h : List C) (s : List F) (sent : List (Message F)) (searches : List (Asked W)) (q : Asked W) (done : List (Done A))
        → Base h s sent searches done → Base h s sent (searches ++ q ∷ []) done
    asked_more h s sent searches q done b = record {
      accepted = b.accepted;
      taken = b.taken;
      front = b.front;
      most = b.most;
      done_are = all_mono (IsDone rules h (length s) searches) (IsDone rules h (length s) (searches ++ q ∷ [])) (searched_done h (length s) searches q) done b.done_are;
      sent_are = b.sent_are;
    }
