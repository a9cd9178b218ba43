-- 01, The bench and its calls: the record, what it holds at the start, and a seat just opened.
use Rattle.std.specs.Prelude.{ℕ, ◌*◌, ◌-◌, Bool, true, false, cond, ◌||◌, List, [], ◌∷◌, ltb, eqb, ℤ, pos, get_or, set, replicate}
use Rattle.packet.specs.Refusals.{Answer, accepted, refused}
use Rattle.record.specs.declared.setup.Setup.{Setup}
use Rattle.record.specs.declared.seat.Field.{Field}
use Rattle.record.specs.declared.seat.Heard.{Heard}
use Rattle.record.specs.declared.seat.Totals.{Totals}
use Rattle.record.specs.declared.seat.Seat.{Seat}
use Rattle.record.specs.declared.shown.Air.{Air}
use Rattle.record.specs.declared.whole.Bench.{Bench}

-- "A library for a ground radio with eight seats."
abbrev pub seat_numbers : List ℕ
seat_numbers = 1 ∷ 2 ∷ 3 ∷ 4 ∷ 5 ∷ 6 ∷ 7 ∷ 8 ∷ []

-- 13: "seat not 1 to 8"
abbrev pub no_such_seat : ℕ → Bool
no_such_seat n = eqb n 0 || ltb 8 n

-- "its last field counts as all zero without items"
abbrev pub zero_field : Field
zero_field = record { ptt = 0; id = 0; pm = false; ptts = false; delayed = false; delay = 0; sided = false; standby = false }

-- "A seat just opened has heard nothing"
abbrev pub nothing_heard : Heard
nothing_heard = record { any = false; ssrc = 0; sequence = 0; field = zero_field }

-- 02, request 14: "totals per seat: heard and missing since opening"
abbrev pub no_totals : Totals
no_totals = record { heard = 0; missing = 0 }

-- A closed seat remembers nothing at all.
abbrev pub closed_seat : Seat
closed_seat =
    record { opened = false; call = 0; period = 0; multiplier = 0; left = 0; phase = 0; ssrc = 0; heard = nothing_heard; totals = no_totals }

-- "Opening and each accepted packet set a seat's time left to period times multiplier ms." (Opening, here.)
unfoldable pub opened_seat : (call period multiplier ssrc : ℕ) → Seat
opened_seat call period multiplier ssrc =
    record {
      opened = true;
      call = call;
      period = period;
      multiplier = multiplier;
      left = period * multiplier;
      phase = 0;
      ssrc = ssrc;
      heard = nothing_heard;
      totals = no_totals;
    }

-- What is shown of the air while nobody is on it.
abbrev pub nobody : Air
nobody = record { on = replicate 8 false; leads = replicate 8 false; id = 0; ptt = 0; ptts = false }

-- "At the start no seat is open, main is in use, the transmitter is healthy, no signal is received."
unfoldable pub fresh_bench : Setup → Bench
fresh_bench setup =
    record {
      setup = setup;
      seats = replicate 8 closed_seat;
      sequences = replicate 8 0;
      order = seat_numbers;
      standby = false;
      healthy = true;
      signals = 0;
      level = pos 0;
      air = nobody;
    }

-- What an array with a place for each seat holds for seat n; `none` for what is no seat's number.
abbrev pub entry_of : {A : Type 0} → (none : A) → List A → (n : ℕ) → A
entry_of none entries n = cond (no_such_seat n) none (get_or entries (n - 1) none)

-- The array with another entry for seat n, and as it was for what is no seat's number.
abbrev pub with_entry : {A : Type 0} → List A → (n : ℕ) → A → List A
with_entry entries n entry = cond (no_such_seat n) entries (set entries (n - 1) entry)

-- The seat of a number; a number that is no seat's counts as a closed one.
unfoldable pub seat_of : List Seat → ℕ → Seat
seat_of seats n = entry_of closed_seat seats n

-- "which seats are lesson seats (the others are live)"
unfoldable pub lesson : Setup → ℕ → Bool
lesson setup n = entry_of false setup.lesson n

-- The bench with one thing changed. (A record is written out whole here and in fresh_bench alone.)
abbrev pub with_seats : Bench → List Seat → Bench
with_seats b seats =
    record {
      setup = b.setup;
      seats = seats;
      sequences = b.sequences;
      order = b.order;
      standby = b.standby;
      healthy = b.healthy;
      signals = b.signals;
      level = b.level;
      air = b.air;
    }

abbrev pub with_sequences : Bench → List ℕ → Bench
with_sequences b sequences =
    record {
      setup = b.setup;
      seats = b.seats;
      sequences = sequences;
      order = b.order;
      standby = b.standby;
      healthy = b.healthy;
      signals = b.signals;
      level = b.level;
      air = b.air;
    }

abbrev pub with_order : Bench → List ℕ → Bench
with_order b order =
    record {
      setup = b.setup;
      seats = b.seats;
      sequences = b.sequences;
      order = order;
      standby = b.standby;
      healthy = b.healthy;
      signals = b.signals;
      level = b.level;
      air = b.air;
    }

abbrev pub with_side : Bench → (standby : Bool) → Bench
with_side b standby =
    record {
      setup = b.setup;
      seats = b.seats;
      sequences = b.sequences;
      order = b.order;
      standby = standby;
      healthy = b.healthy;
      signals = b.signals;
      level = b.level;
      air = b.air;
    }

abbrev pub with_health : Bench → (healthy : Bool) → Bench
with_health b healthy =
    record {
      setup = b.setup;
      seats = b.seats;
      sequences = b.sequences;
      order = b.order;
      standby = b.standby;
      healthy = healthy;
      signals = b.signals;
      level = b.level;
      air = b.air;
    }

abbrev pub with_signals : Bench → (signals : ℕ) (level : ℤ) → Bench
with_signals b signals level =
    record {
      setup = b.setup;
      seats = b.seats;
      sequences = b.sequences;
      order = b.order;
      standby = b.standby;
      healthy = b.healthy;
      signals = signals;
      level = level;
      air = b.air;
    }

abbrev pub with_air : Bench → Air → Bench
with_air b air =
    record {
      setup = b.setup;
      seats = b.seats;
      sequences = b.sequences;
      order = b.order;
      standby = b.standby;
      healthy = b.healthy;
      signals = b.signals;
      level = b.level;
      air = air;
    }

-- One seat, and the sequence number of its next report.
abbrev pub with_seat : Bench → (n : ℕ) → Seat → Bench
with_seat b n seat = with_seats b (with_entry b.seats n seat)

abbrev pub with_sequence : Bench → (n sequence : ℕ) → Bench
with_sequence b n sequence = with_sequences b (with_entry b.sequences n sequence)

-- "State and buffers stay the same" where a call is refused.
abbrev pub settled : {A : Type 0} → Answer A → (before after : Bench) → Bench
settled (accepted a) before after = after
settled (refused n c) before after = before
