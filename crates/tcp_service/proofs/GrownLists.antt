-- Lists of connections that grow, if they are known.
use Rattle.std.proofs.Common.{◌≡◌, List, [], ◌∷◌, ◌++◌, None, Some, refl, sym, ap, ◌∙◌, append_assoc}
use Rattle.std.specs.declared.option.Option.{Option}
use Rattle.std.specs.Option.{option_map}
use Rattle.std.proofs.lemmas.List.{append-nil}

-- a list that grew by some and then by one
pub grown-last : {A : Type 0} (old mid new : Option (List A)) (xs : List A) (x : A)
    → mid ≡ option_map (λ l. l ++ xs) old → new ≡ option_map (λ l. l ++ x ∷ []) mid → new ≡ option_map (λ l. l ++ (xs ++ x ∷ [])) old
grown-last None mid new xs x is more = more ∙ ap (option_map (λ l. l ++ x ∷ [])) is
grown-last (Some l) mid new xs x is more = more ∙ ap (option_map (λ l. l ++ x ∷ [])) is ∙ ap Some (append_assoc l xs (x ∷ []))

-- a list that didn't grow
pub grown-none : {A : Type 0} (old : Option (List A)) → old ≡ option_map (λ l. l ++ []) old
grown-none None = refl
grown-none (Some l) = ap Some (sym (append-nil l))
