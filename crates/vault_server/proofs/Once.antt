-- Which record a vault doesn't take is determined by the records, and where there is one they aren't all taken.
use Rattle.std.proofs.Common.{◌≡◌, ℕ, ◌+◌, ◌<◌, List, [], ◌∷◌, ◌++◌, length, take, drop, get_or, sym, ◌∙◌, ap, subst, arith}
use Rattle.std.proofs.lemmas.List.{get_or-take, take-take, take-append-drop, drop_more, length-take-le}
use Rattle.vault_server.specs.VaultFrames.{VaultFrameText, vault_body}
use Rattle.vault_server.proofs.FrameGrammar.{one_body}
use Rattle.sse_journal.specs.Files.{Gives}
use Rattle.sse_journal.proofs.Once.{gives_once}
use Rattle.vault_server.specs.VaultState.{VaultState, empty_vault, vault_taken, IsVaultTaken, AreVaultTaken, vault_after, vault_records}
use Rattle.vault_server.specs.VaultRecords.{IsBadRecord, HasBadRecord}

-- of two rows of frames that are taken, the longer one goes on with a frame that is taken after the shorter one
pub goes_on_with : (s : VaultState) (fs gs : List VaultFrameText) (r : List ℕ) (rs : List (List ℕ)) → AreVaultTaken s fs → AreVaultTaken s gs → vault_records fs ++ r ∷ rs ≡ vault_records gs → (frame : VaultFrameText) × IsVaultTaken (vault_after s fs) frame × (r ≡ vault_body frame)
goes_on_with s [] [] r rs are are' same = cc
goes_on_with s [] (g ∷ gs) r rs are are' same = let e : r ≡ vault_body g = cc in (g, are'.0, e)
goes_on_with s (x ∷ xs) [] r rs are are' same = cc
goes_on_with s (x ∷ xs) (g ∷ gs) r rs are are' same =
    let e : vault_body x ≡ vault_body g = cc in
    let behind : vault_records xs ++ r ∷ rs ≡ vault_records gs = cc in
    let one : g ≡ x = one_body g x are'.0.grammar are.0.grammar (sym e) in
    goes_on_with (vault_taken s x) xs gs r rs are.1 (subst (λ h. AreVaultTaken (vault_taken s h) gs) one are'.1) behind

-- what a row of frames that are taken has as its k-th body is the body of a frame that is taken after the first k
there : (payloads : List (List ℕ)) (k : ℕ) (fs gs : List VaultFrameText) → k < length payloads → AreVaultTaken empty_vault fs → AreVaultTaken empty_vault gs → take k payloads ≡ vault_records fs → payloads ≡ vault_records gs → (frame : VaultFrameText) × IsVaultTaken (vault_after empty_vault fs) frame × (get_or payloads k [] ≡ vault_body frame)
there payloads k fs gs lt are are' front all =
    goes_on_with empty_vault fs gs (get_or payloads k []) (drop (k + 1) payloads) are are' (ap (λ l. l ++ get_or payloads k [] ∷ drop (k + 1) payloads) (sym front) ∙ ap (λ l. take k payloads ++ l) (sym (drop_more payloads k [] lt)) ∙ take-append-drop k payloads ∙ all)

-- where all records are taken, none is bad
pub no_bad_record : (payloads : List (List ℕ)) (k : ℕ) (frames : List VaultFrameText) → IsBadRecord payloads k → AreVaultTaken empty_vault frames → payloads ≡ vault_records frames → ⊥
no_bad_record payloads k frames bad are all =
    let more = there payloads k bad.frames frames bad.inside bad.are_taken are bad.before all in
    bad.bad more.0 more.1 more.2

-- a later record isn't the first bad one
no_later : (payloads : List (List ℕ)) (k l : ℕ) → IsBadRecord payloads k → IsBadRecord payloads l → k < l → ⊥
no_later payloads k l bad later lt =
    let size : length (take l payloads) ≡ l = length-take-le l payloads (omega (arith, later.inside)) in
    let front : take k (take l payloads) ≡ vault_records bad.frames = take-take k l payloads (omega arith) ∙ bad.before in
    let more = there (take l payloads) k bad.frames later.frames (omega (arith, size)) bad.are_taken later.are_taken front later.before in
    bad.bad more.0 more.1 (sym (get_or-take l payloads k [] lt) ∙ more.2)

-- the first record that isn't taken is determined by the records
pub bad_record_once : (payloads : List (List ℕ)) (k l : ℕ) → IsBadRecord payloads k → IsBadRecord payloads l → k ≡ l
bad_record_once payloads k l bad too = grind (arith, no_later payloads k l bad too, no_later payloads l k too bad)

-- a file whose records are all taken has no bad one
pub no_bad_record_of : (bytes : List ℕ) (k : ℕ) (frames : List VaultFrameText) → HasBadRecord bytes k → AreVaultTaken empty_vault frames → Gives (vault_records frames) bytes → ⊥
no_bad_record_of bytes k frames has are gives = no_bad_record has.payloads k frames has.bad are (gives_once has.payloads (vault_records frames) bytes has.gives gives)

-- and which it is is determined by the file
pub bad_record_once_of : (bytes : List ℕ) (k l : ℕ) → HasBadRecord bytes k → HasBadRecord bytes l → k ≡ l
bad_record_once_of bytes k l has too = bad_record_once has.payloads k l has.bad (subst (λ ps. IsBadRecord ps l) (gives_once too.payloads has.payloads bytes too.gives has.gives) too.bad)
