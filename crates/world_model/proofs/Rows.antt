-- The table of events of a setup whose answer is lost, and a client that stops inside an append: computed.
use Rattle.std.proofs.Common.{◌≡◌, Bool, true, false, [], ◌∷◌, ◌++◌, Option, None, refl, sym, subst}
use Rattle.std.specs.Prelude.{if◌then◌else◌}
use Rattle.world_model.specs.Events.{LoseReply, Made, EndsAs, Led, calls_disk, goes_on, stop_of}
use Rattle.world_model.specs.Rows.{counting, Counted, Events, calls_in, next, told, world_behind, begun, again, finished, IsTable, IsCrash}
use Rattle.world_model.specs.World.{Stop, at_first}

no_stop : (calling goes_on : Bool) (stop : Option Stop) → stop ≡ None → EndsAs counting calling goes_on (if calling then 1 else 0) (Made false) stop
no_stop true goes_on stop e = subst (λ stop. EndsAs counting true goes_on 1 (Made false) stop) (sym e) tt
no_stop false goes_on stop e = (refl, tt)

-- events of which none meets a stop
abbrev NoneStops : Counted → Events → Type 0
NoneStops w [] = Unit {0}
NoneStops w (e ∷ es) = (stop_of counting w e ≡ None) × NoneStops (next w e) es

led : (w : Counted) (es : Events) → NoneStops w es → Led counting w (told w es) (world_behind w es)
led w [] none = refl
led w (e ∷ es) none = (
  next w e,
  record { calls = calls_in w e; end = Made false; possible = no_stop (calls_disk counting w e) (goes_on counting w e) (stop_of counting w e) none.0; comes_to = refl; is = refl },
  led (next w e) es none.1,
)

-- Promise P302 (inside): A list of events with a lost answer, a repeated frame and a stop inside an append comes to what a table says.
pub table : IsTable
table = record {
  led = led at_first (begun ++ again ++ finished ++ LoseReply ∷ []) ((refl, (refl, (refl, (refl, (refl, (refl, (refl, (refl, (refl, (refl, (refl, (refl, (refl, (refl, (refl, (refl, (refl, (refl, (refl, tt))))))))))))))))))));
  happened = refl;
  stopped = refl;
  sent = refl;
  dropped = refl;
  done = refl;
  taken = refl;
}

-- Promise P302, also here
pub crash : IsCrash
crash = record { without = refl; with = refl; came = refl; done = refl }
