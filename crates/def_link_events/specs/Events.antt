-- The traffic over a link, as its client sees it.
use Rattle.std.specs.Prelude.{◌≡◌, ◌⊎◌, ℕ, zero, suc, List, [], ◌∷◌, Option, refl}
use Rattle.std.specs.Coded.{Coded, code_by, coded×, coded⊎, coded_list, coded_ℕ}
use Rattle.std.proofs.Common.{inl, inr}
use Rattle.server_core.specs.State.{ServerState}
use Rattle.def_link_events.specs.declared.mark.Mark.{Mark}
use Rattle.def_link_events.specs.declared.mark.Mark.TheVariants.{Unknown, Stepped, LackedMemory, StoreFailed}

-- the server at the other end, and the bytes of its file, where it has one and can tell them
pub record Remote : Type 0 where
  pub state : ServerState
  pub file : Option (List ℕ)

-- a frame that was sent, with what the link knows of its answer; or a reply that was received
pub data Event : Type 0 where
  Sent : (bytes : List ℕ) (mark : Mark) → Event
  Received : (bytes : List ℕ) → Event

-- the link knows how the frame was answered
abbrev pub IsKnown : Mark → Type 0
IsKnown Unknown = ⊥
IsKnown Stepped = Unit {0}
IsKnown LackedMemory = Unit {0}
IsKnown StoreFailed = Unit {0}

-- the link knows how each of the frames was answered
abbrev pub AreKnown : List Event → Type 0
AreKnown [] = Unit {0}
AreKnown (Sent bytes mark ∷ events) = IsKnown mark × AreKnown events
AreKnown (Received bytes ∷ events) = AreKnown events

-- the frame was answered by the server's step
abbrev pub IsStepped : Mark → Type 0
IsStepped Unknown = ⊥
IsStepped Stepped = Unit {0}
IsStepped LackedMemory = ⊥
IsStepped StoreFailed = ⊥

-- each of the frames was
abbrev pub AreStepped : List Event → Type 0
AreStepped [] = Unit {0}
AreStepped (Sent bytes mark ∷ events) = IsStepped mark × AreStepped events
AreStepped (Received bytes ∷ events) = AreStepped events

-- the first that passes is a frame, where anything does
abbrev pub BeginsWithFrame : List Event → Type 0
BeginsWithFrame [] = Unit {0}
BeginsWithFrame (Sent bytes mark ∷ events) = Unit {0}
BeginsWithFrame (Received bytes ∷ events) = ⊥

-- the codes by which a proof tells these values apart

abbrev mark_number : Mark → ℕ
mark_number Unknown = 0
mark_number Stepped = 1
mark_number LackedMemory = 2
mark_number StoreFailed = 3

abbrev mark_at : ℕ → Mark
mark_at zero = Unknown
mark_at (suc zero) = Stepped
mark_at (suc (suc zero)) = LackedMemory
mark_at (suc (suc (suc n))) = StoreFailed

pub mark_at-mark_number : (mark : Mark) → mark_at (mark_number mark) ≡ mark
mark_at-mark_number Unknown = refl
mark_at-mark_number Stepped = refl
mark_at-mark_number LackedMemory = refl
mark_at-mark_number StoreFailed = refl

abbrev mark_code : Coded Mark
mark_code = code_by ℕ coded_ℕ mark_number mark_at mark_at-mark_number

abbrev Parts : Type 0
Parts = (List ℕ × Mark) ⊎ List ℕ

abbrev parts_of : Event → Parts
parts_of (Sent bytes mark) = inl (bytes, mark)
parts_of (Received bytes) = inr bytes

abbrev event_of_parts : Parts → Event
event_of_parts (inl p) = Sent p.0 p.1
event_of_parts (inr bytes) = Received bytes

pub event_of_parts-parts_of : (e : Event) → event_of_parts (parts_of e) ≡ e
event_of_parts-parts_of (Sent bytes mark) = refl
event_of_parts-parts_of (Received bytes) = refl

abbrev pub event_code : Coded Event
event_code = code_by Parts (coded⊎ (coded× (coded_list coded_ℕ) mark_code) (coded_list coded_ℕ)) parts_of event_of_parts event_of_parts-parts_of

abbrev pub events_code : Coded (List Event)
events_code = coded_list event_code
