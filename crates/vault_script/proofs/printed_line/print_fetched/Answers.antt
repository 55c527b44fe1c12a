use Rattle.std.proofs.Common.{◌≡◌, List, ℕ, [], ◌∷◌, ◌++◌, append_assoc, refl, sym, ap, ◌∙◌, codes, decimal}
use Rattle.std.proofs.lemmas.List.{append-nil}
use Rattle.hex.specs.Hex.{encode_lower}
use Rattle.vault_script.specs.VaultShown as says
use Rattle.vault_script.specs.VaultTexts.{vault_text}
use Rattle.vault_script.proofs.Pieces.{took_first, took_second, takes-stopped, takes-second}
use Rattle.vault_script.proofs.printed_line.print_fetched.Goals as goal

-- the text in three pieces
three : (front number colon digits end : List ℕ) → front ++ (number ++ (colon ++ (digits ++ (end ++ [])))) ≡ (front ++ (number ++ (colon ++ []))) ++ (digits ++ end)
three front number colon digits end =
    ap (λ l. front ++ (number ++ (colon ++ (digits ++ l)))) (append-nil end)
    ∙ sym (append_assoc front (number ++ (colon ++ [])) (digits ++ end)
    ∙ ap (λ l. front ++ l) (append_assoc number (colon ++ []) (digits ++ end) ∙ ap (λ l. number ++ l) (ap (λ l. l ++ (digits ++ end)) (append-nil colon))))

parted : (id : ℕ) (body : List ℕ)
    → vault_text (says.Fetched id body) ≡ (codes "body " ++ (decimal id ++ (codes ": " ++ []))) ++ (encode_lower body ++ 10 ∷ [])
parted id body = three (codes "body ") (decimal id) (codes ": ") (encode_lower body) (10 ∷ [])

pub returns-in_err-print_one-clause-text : goal.returns-in_err-print_one-clause-text
returns-in_err-print_one-clause-text g c =
    takes-stopped c.from_residual.result _ _ _ _ c.from_residual.ensures.1
    (rw (parted c.args.id c.args.body.now) (took_first _ _ _ _ c.in_err-print_one.ensures.text.front))

pub returns-in_err-print_digits-clause-text : goal.returns-in_err-print_digits-clause-text
returns-in_err-print_digits-clause-text g c =
    takes-stopped c.from_residual-in_err-print_digits.result _ _ _ _ c.from_residual-in_err-print_digits.ensures.1
    (rw (parted c.args.id c.args.body.now)
    (took_second _ _ _ _ _ c.in_ok-print_one.ensures.text.all (took_first _ _ _ (10 ∷ []) c.in_err-print_digits.ensures.text.front)))

pub returns-clause-text : goal.returns-clause-text
returns-clause-text g c =
    takes-second c.print_bytes.result _ _ _ (codes "body " ++ (decimal c.args.id ++ (codes ": " ++ []))) (encode_lower c.args.body.now ++ 10 ∷ []) _
    (parted c.args.id c.args.body.now) c.in_ok-print_one.ensures.text.all
    (takes-second c.print_bytes.result _ _ _ (encode_lower c.args.body.now) (10 ∷ []) _ refl c.in_ok-print_digits.ensures.text.all c.print_bytes.ensures.text)
