-- Slots that were fetched, and one more.
use Rattle.std.proofs.Common.{◌≡◌, ℕ, ◌+◌, List, [], ◌∷◌, ◌++◌, length, append_assoc, None, Some, Ok, Err, refl, sym, ap, ◌∙◌, subst, arith}
use Rattle.std.specs.Prelude.{Option, Result}
use Rattle.std.specs.Option.{option_map}
use Rattle.std.specs.Io.KnownBytes.{append_known}
use Rattle.std.proofs.lemmas.List.{append-nil}
use Rattle.std.proofs.lemmas.Grind.{flat_map-append}
use Rattle.keyed_fn.specs.KeyedFn.{KeyedFn}
use Rattle.keyed_fn.specs.VaultFormulas.{VaultSecrets}
use Rattle.sse_outside.proofs.Known.{append_known-twice}
use Rattle.sse_outside.specs.Fronts.{TookFront}
use Rattle.vault_script.specs.VaultShown.{VaultShownText}
use Rattle.vault_script.specs.VaultTexts.{vault_text}
use Rattle.vault_script.specs.declared.vault_stop.VaultStop.{VaultStop}
use Rattle.vault_link.specs.Exchanges.{Exchange}
use Rattle.vault_link.specs.Served.{VaultRemote}
use Rattle.doc_vault.specs.LineRuns.{Prints}
use Rattle.doc_vault.specs.Sights.{HasPassed, LinkSight, ServesAll}
use Rattle.vault_restore.specs.RestoredLines.{RestoredLine, lines_of_slot, restored_text, text_of_lines}
use Rattle.vault_restore.specs.Visits.{AreVisited, HasVisited, HasVisitedSlot, IsVisited, PrintsSlot, RestoreSight, Visit, fetch_of, fetches, lines_in}

-- What passes first, and then more.

serves-both : (xs ys : List Exchange) (old mid new : Option VaultRemote) → ServesAll xs old mid → ServesAll ys mid new → ServesAll (xs ++ ys) old new
serves-both [] ys old mid new a b = subst (λ (r : Option VaultRemote). ServesAll ys r new) a b
serves-both (x ∷ xs) ys old mid new a b = (a.0, a.1, serves-both xs ys a.0 mid new a.2 b)

told-both : {A : Type 0} (known : Option (List A)) (xs ys : List A) → option_map (λ all. all ++ ys) (option_map (λ all. all ++ xs) known) ≡ option_map (λ all. all ++ (xs ++ ys)) known
told-both None xs ys = refl
told-both (Some all) xs ys = ap Some (append_assoc all xs ys)

pub passed-both : (xs ys : List Exchange) (old mid new : LinkSight) → HasPassed xs old mid → HasPassed ys mid new → HasPassed (xs ++ ys) old new
passed-both xs ys old mid new first second = record {
  told = second.told ∙ ap (option_map (λ all. all ++ ys)) first.told ∙ told-both old.told xs ys;
  served = serves-both xs ys old.remote mid.remote new.remote first.served second.served;
}

pub passed-none : (link : LinkSight) → HasPassed [] link link
passed-none link = record { told = told link.told; served = refl }
  where
    told : (known : Option (List Exchange)) → known ≡ option_map (λ all. all ++ []) known
    told None = refl
    told (Some all) = ap Some (sym (append-nil all))

-- Lines with one more slot.

pub lines_in-more : (visits : List Visit) (visit : Visit) → lines_in (visits ++ visit ∷ []) ≡ lines_in visits ++ lines_of_slot visit.line
lines_in-more visits visit = flat_map-append (λ (x : Visit). lines_of_slot x.line) visits (visit ∷ []) ∙ ap (λ (l : List RestoredLine). lines_in visits ++ l) (append-nil (lines_of_slot visit.line))

text_of_lines-more : (visits : List Visit) (visit : Visit) → text_of_lines (lines_in visits) ++ text_of_lines (lines_of_slot visit.line) ≡ text_of_lines (lines_in (visits ++ visit ∷ []))
text_of_lines-more visits visit = sym (flat_map-append restored_text (lines_in visits) (lines_of_slot visit.line)) ∙ ap text_of_lines (sym (lines_in-more visits visit))

module _ (f : KeyedFn) (keys : VaultSecrets) where
  fetches-more : (v k : ℕ) (visits : List Visit) (visit : Visit) → k ≡ v + length visits → fetches f keys v visits ++ fetch_of f keys k (Some visit.reply) ∷ [] ≡ fetches f keys v (visits ++ visit ∷ [])
  fetches-more v k [] visit e = ap (λ (m : ℕ). fetch_of f keys m (Some visit.reply) ∷ []) (e ∙ omega arith)
  fetches-more v k (x ∷ xs) visit e = ap (λ (l : List Exchange). fetch_of f keys v (Some x.reply) ∷ l) (fetches-more (v + 1) k xs visit (e ∙ omega arith))

  visited-more : (v k : ℕ) (visits : List Visit) (visit : Visit) → k ≡ v + length visits → AreVisited f keys v visits → IsVisited f keys k visit → AreVisited f keys v (visits ++ visit ∷ [])
  visited-more v k [] visit e are is = (subst (λ (m : ℕ). IsVisited f keys m visit) (e ∙ omega arith) is, tt)
  visited-more v k (x ∷ xs) visit e are is = (are.0, visited-more (v + 1) k xs visit (e ∙ omega arith) are.1 is)

  pub visits-none : (sight : RestoreSight) → HasVisited f keys [] sight sight
  visits-none sight = record { are = tt; passed = passed-none sight.link; printed = nothing sight.written }
    where
      nothing : (written : Option (List ℕ)) → written ≡ append_known written []
      nothing None = refl
      nothing (Some bytes) = ap Some (sym (append-nil bytes))

  pub visits-more : (k : ℕ) (visits : List Visit) (visit : Visit) (old mid new : RestoreSight) → k ≡ length visits → HasVisited f keys visits old mid → HasVisitedSlot f keys k visit mid new → HasVisited f keys (visits ++ visit ∷ []) old new
  visits-more k visits visit old mid new e before slot = record {
    are = visited-more 0 k visits visit (e ∙ omega arith) before.are slot.is;
    passed =
        subst (λ (l : List Exchange). HasPassed l old.link new.link) (fetches-more 0 k visits visit (e ∙ omega arith))
        (passed-both (fetches f keys 0 visits) (fetch_of f keys k (Some visit.reply) ∷ []) old.link mid.link new.link before.passed slot.passed);
    printed =
        slot.printed ∙ ap (λ known. append_known known (text_of_lines (lines_of_slot visit.line))) before.printed
        ∙ append_known-twice old.written (text_of_lines (lines_in visits)) (text_of_lines (lines_of_slot visit.line))
        ∙ ap (append_known old.written) (text_of_lines-more visits visit);
  }

-- A slot's line that was printed as one of the script language.
pub slot-printed : {T : Type 0} (line : RestoredLine) (shown : VaultShownText) (old new : Option (List ℕ)) (result : Result T VaultStop) → vault_text shown ≡ restored_text line → Prints (shown ∷ []) old new result → PrintsSlot (Some line) old new result
slot-printed line shown old new (Ok done) same printed = printed ∙ ap (λ text. append_known old (text ++ [])) same
slot-printed line shown old new (Err stop) same stopped = record {
  fault = stopped.fault;
  stop_is = stopped.stop_is;
  front = subst (λ text. TookFront old new (text ++ [])) same stopped.front;
}
