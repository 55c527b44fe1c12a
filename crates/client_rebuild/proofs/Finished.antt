-- Under which key the records that were taken end.
use Rattle.std.proofs.Common.{◌≡◌, ℕ, ◌-◌, Bool, true, false, not, List, [], ◌∷◌, ◌++◌, length, Option, None, Some, refl, sym, ap, ◌∙◌, arith}
use Rattle.std.specs.Prelude.{bytes_eq}
use Rattle.std.specs.List.{slice_get}
use Rattle.std.specs.Option.{option_map_or}
use Rattle.std.proofs.Math.Seq.{get_or-append_seam}
use Rattle.std.proofs.lemmas.Bool.{true≢false}
use Rattle.std.proofs.lemmas.List.{length-append}
use Rattle.std.proofs.lemmas.Option.{slice_get-get_or}
use Rattle.std.proofs.lemmas.Slice.Eq.{bytes_eq-Decides}
use Rattle.client_registry.specs.Epochs.{key_now}
use Rattle.client_registry.specs.Run.{Epochs, History, From, Renewed}
use Rattle.client_records.proofs.OpeningLaws.{not_elsewhere}
use Rattle.client_records.specs.Openings.{OpensElsewhere, OpensTo, marks_of}
use Rattle.client_rebuild.specs.Rebuilds.{EndsUnder, IsTaken, ends_otherwise, marks_in}
use Rattle.client_rebuild.specs.declared.last.Last.{Last}

behind_others : (marks : List (List ℕ)) (own : List ℕ) → slice_get (marks ++ own ∷ []) (length (marks ++ own ∷ []) - 1) ≡ Some own
behind_others marks own =
    let size = length-append marks (own ∷ []) in
    ap (slice_get (marks ++ own ∷ [])) (omega (arith, size)) ∙ slice_get-get_or (marks ++ own ∷ []) (length marks) [] (omega (arith, size))
    ∙ ap (λ (y : List ℕ). Some y) (get_or-append_seam marks own [] [])

-- the last of the marks is that of the last epoch
last_mark : (first : List ℕ) (es : Epochs) → slice_get (marks_of first es) (length (marks_of first es) - 1) ≡ Some (key_now first es)
last_mark first (From o run) = refl
last_mark first (Renewed before own run) = behind_others (marks_of first before) own

ends_by : (mark first : List ℕ) (es : Epochs) → ends_otherwise (marks_of first es) mark ≡ not (bytes_eq (key_now first es) mark)
ends_by mark first es = ap (λ (o : Option (List ℕ)). option_map_or (λ last. not (bytes_eq last mark)) o false) (last_mark first es)

same : (a b : List ℕ) → not (bytes_eq a b) ≡ false → a ≡ b
same a b e = by (bytes_eq a b) refl e
  where
    by : (q : Bool) → bytes_eq a b ≡ q → not q ≡ false → a ≡ b
    by true is is_same = (bytes_eq-Decides a b).0 is
    by false is is_same = absurd (true≢false is_same)

module _ (mark : List ℕ) (payloads : List (List ℕ)) (first : List ℕ) where
  under : (h : History) → ends_otherwise (marks_in first h) mark ≡ false → EndsUnder mark first h
  under None is_same = tt
  under (Some es) is_same = same (key_now first es) mark (sym (ends_by mark first es) ∙ is_same)

  elsewhere : (h : History) → OpensTo first payloads h → ends_otherwise (marks_in first h) mark ≡ true → OpensElsewhere mark payloads
  elsewhere None opened is_other = absurd (true≢false (sym is_other))
  elsewhere (Some es) opened is_other = record {
    first = first;
    es = es;
    opened = opened;
    differs = λ is. true≢false (sym is_other ∙ ends_by mark first es ∙ ap not ((bytes_eq-Decides (key_now first es) mark).1 is));
  }

  not_under : (h : History) → OpensTo first payloads h → EndsUnder mark first h → OpensElsewhere mark payloads → ⊥
  not_under None opened is other = none payloads opened other
    where
      none : (ps : List (List ℕ)) → ps ≡ [] → OpensElsewhere mark ps → ⊥
      none [] e other = other.opened.say
      none (p ∷ ps) e other = cc
  not_under (Some es) opened is other = not_elsewhere first mark payloads es opened is other

module _ (keys : ℕ × ℕ) (mark : List ℕ) (marks payloads : List (List ℕ)) (last : Option Last) (taken : IsTaken keys marks payloads last) where
  pub ends_under : ends_otherwise marks mark ≡ false → EndsUnder mark taken.first taken.history
  ends_under is_same = under mark payloads taken.first taken.history (sym (ap (λ (ms : List (List ℕ)). ends_otherwise ms mark) taken.marked) ∙ is_same)

  pub ends_elsewhere : ends_otherwise marks mark ≡ true → OpensElsewhere mark payloads
  ends_elsewhere is_other = elsewhere mark payloads taken.first taken.history taken.opened (sym (ap (λ (ms : List (List ℕ)). ends_otherwise ms mark) taken.marked) ∙ is_other)

  pub ends_nowhere_else : ends_otherwise marks mark ≡ false → OpensElsewhere mark payloads → ⊥
  ends_nowhere_else is_same other = not_under mark payloads taken.first taken.history taken.opened (ends_under is_same) other
