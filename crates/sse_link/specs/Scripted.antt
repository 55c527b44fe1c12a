-- A link that plays back bytes: the end of its next reply, and its observable parts.
use Rattle.std.specs.Prelude.{ℕ, ◌+◌, Bool, ◌||◌, List, length, take, Option, Some, None, nat_lt, ◌==◌, if◌then◌else◌, refl}
use Rattle.std.specs.Int.{w32, from_be_bytes}
use Rattle.std.specs.Coded.{Coded, code_by, coded×, coded_list, coded_ℕ, coded_bool}
use Rattle.def_link_events.specs.Events.{Event, events_code}

-- how many bytes the reply in front has, its four length bytes among them: these four where the length is out of range,
-- and None where the bytes end inside it
abbrev pub reply_size : List ℕ → Option ℕ
reply_size bytes =
    let size = from_be_bytes w32 (take 4 bytes) in
    if nat_lt (length bytes) 4 then None
    else if (size == 0) || nat_lt 65540 size then Some 4
    else if nat_lt (length bytes) (4 + size) then None
    else Some (4 + size)

pub record ScriptState : Type 0 where
  pub events : List Event
  -- the bytes that weren't handed out
  pub rest : List ℕ
  pub due : Bool
  pub faults : ℕ

abbrev pub script_code : Coded ScriptState
script_code =
    code_by (List Event × (List ℕ × (Bool × ℕ))) (coded× events_code (coded× (coded_list coded_ℕ) (coded× coded_bool coded_ℕ))) (λ t. (t.events, (t.rest, (t.due, t.faults)))) (λ p. record { events = p.0; rest = p.1.0; due = p.1.1.0; faults = p.1.1.1 }) (λ _. refl)
