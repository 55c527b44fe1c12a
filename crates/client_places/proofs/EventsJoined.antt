-- Events that are told after others.
use Rattle.std.proofs.Common.{◌≡◌, List, ◌++◌, Option, None, Some, ap, ◌∙◌, append_assoc}
use Rattle.client_places.specs.Events.{Event, with_events}

pub with_events-joined : {D L : Type 0} (told between told2 : Option (List (Event D L))) (events more : List (Event D L)) → between ≡ with_events told events → told2 ≡ with_events between more
    → told2 ≡ with_events told (events ++ more)
with_events-joined None between told2 events more first second = second ∙ ap (λ known. with_events known more) first
with_events-joined (Some all) between told2 events more first second = second ∙ ap (λ known. with_events known more) first ∙ ap (λ known. Some known) (append_assoc all events more)
