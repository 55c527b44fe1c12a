-- Events that come after others.
use Rattle.std.proofs.Common.{◌≡◌, List, ◌++◌, Option, Some, None, refl, ap, ◌∙◌, append_assoc}
use Rattle.service_places.specs.Places.{Event, with_events}

after : {D C : Type 0} (told : Option (List (Event D C))) (xs ys : List (Event D C)) → with_events (with_events told xs) ys ≡ with_events told (xs ++ ys)
after None xs ys = refl
after (Some events) xs ys = ap Some (append_assoc events xs ys)

pub chained : {D C : Type 0} (told told1 told2 : Option (List (Event D C))) (xs ys : List (Event D C))
    → told1 ≡ with_events told xs → told2 ≡ with_events told1 ys → told2 ≡ with_events told (xs ++ ys)
chained told told1 told2 xs ys e f = f ∙ ap (λ t. with_events t ys) e ∙ after told xs ys
