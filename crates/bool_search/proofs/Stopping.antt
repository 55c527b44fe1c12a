-- Why signs aren't read, by the ways in which the reader goes on.
use Rattle.std.proofs.Common.{◌≡◌, ◌≢◌, List, ◌∷◌, length, refl, subst}
use Rattle.bool_search.specs.declared.join.Join.{Join}
use Rattle.bool_search.specs.declared.join.Join.TheVariants as joins
use Rattle.bool_search.specs.declared.reading.Stop.{Stop}
use Rattle.bool_search.specs.declared.reading.Stop.TheVariants as stops
use Rattle.bool_search.specs.declared.sign.Sign.{Sign}
use Rattle.bool_search.specs.declared.sign.Sign.TheVariants as sign
use Rattle.bool_search.specs.Fronts.{IsNoFactor, IsNoClose}
use Rattle.bool_search.specs.Grammar.{Tree, sign_of}
use Rattle.bool_search.specs.Places.{IsRead, StopsAt}
use Rattle.bool_search.proofs.Prints.{Joined, stuck-term, stuck-expression, stuck-and, stuck-not, stuck-or, stuck-within, stuck-open, stuck-first}

pub stops_first : (signs : List Sign) → IsNoFactor signs → StopsAt 0 signs (stops.Bad (length signs))
stops_first signs none = stuck-first signs none

pub stops_within : (signs : List Sign) (stop : Stop) → StopsAt 2 signs stop → StopsAt 0 (sign.Open ∷ signs) stop
stops_within signs (stops.Bad left) s = stuck-within signs left s
stops_within signs stops.NoMemory s = s

pub stops_open : (signs : List Sign) (tree : Tree) (rest : List Sign) → IsRead 2 signs tree rest → IsNoClose rest → StopsAt 0 (sign.Open ∷ signs) (stops.Bad (length rest))
stops_open signs tree rest r none = stuck-open signs tree rest r none

pub stops_term : (signs : List Sign) (stop : Stop) → StopsAt 0 signs stop → StopsAt 1 signs stop
stops_term signs (stops.Bad left) s = stuck-term signs left s
stops_term signs stops.NoMemory s = s

pub stops_expression : (signs : List Sign) (stop : Stop) → StopsAt 1 signs stop → StopsAt 2 signs stop
stops_expression signs (stops.Bad left) s = stuck-expression signs left s
stops_expression signs stops.NoMemory s = s

pub stops_joined : (join : Join) (signs : List Sign) (tree : Tree) (rest behind : List Sign) (stop : Stop) → Joined 1 signs tree rest → rest ≡ sign_of join ∷ behind → (join ≢ joins.Or)
    → StopsAt 0 behind stop → StopsAt 1 signs stop
stops_joined joins.And signs tree rest behind (stops.Bad left) j are known s = stuck-and signs tree behind left (subst (Joined 1 signs tree) are j) s
stops_joined joins.Not signs tree rest behind (stops.Bad left) j are known s = stuck-not signs tree behind left (subst (Joined 1 signs tree) are j) s
stops_joined joins.Or signs tree rest behind (stops.Bad left) j are known s = absurd (known refl)
stops_joined join signs tree rest behind stops.NoMemory j are known s = tt

pub stops_or : (signs : List Sign) (tree : Tree) (rest behind : List Sign) (stop : Stop) → Joined 2 signs tree rest → rest ≡ sign.Or ∷ behind → StopsAt 1 behind stop → StopsAt 2 signs stop
stops_or signs tree rest behind (stops.Bad left) j are s = stuck-or signs tree behind left (subst (Joined 2 signs tree) are j) s
stops_or signs tree rest behind stops.NoMemory j are s = tt
