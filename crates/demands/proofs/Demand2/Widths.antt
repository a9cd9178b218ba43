-- The numbers of a call fit their types: what owning its arguments tells of them, as the kit has it (`GoodsP`).
use Prim.Native.Nat.{ℕ, zero, suc, ◌<◌, ◌^◌}
use mathlib.Core.Path.{refl, sym, subst}
use mathlib.Core.List.{List, [], ◌∷◌, map}
use native.Mathlib.Omega.{arith}
use lib.ListN.{get_or}
use mir.Val.{Val}
use base.Fml.{Fml}
use contract.Lifetimes.{Lfts}
use denote.Builtin.{u16}
use denote.Shadow.{shadow}
use denote.Array.{each}
use borrow.Fn.Kinds.{Dens, GoodsP}
use Rattle.record.specs.Record.{closed_seat, entry_of, seat_of}
use Rattle.seats.specs.Ticking.{ticked_seat, ticked_bench}
use Rattle.reporting.specs.Reporting.{report_of}
use Rattle.sending.specs.Sending.{after_closings}
use Rattle.record.specs.declared.seat.Seat.{Seat}
use Rattle.record.specs.contracts.seat.Seat as seat
use Rattle.base.proofs.Places.{map_place}
use Rattle.seats.proofs.TickingLaws.{ticked_cases}
use Rattle.demands.specs.RoundTrip.{Narrow}
use Rattle.writer.proofs as writer
use Rattle.reporting.proofs as reporting
use Rattle.sending.proofs as sending
use Rattle.packet.specs.Messages.{from_tx, from_rx}

-- of every element of an array, and of what stands for one past its end
each_holds : {A : Type 0} (own : A → List Val → Fml) (P : A → Type 0) → ((v : A) (u : Val) → shadow (own v (u ∷ [])) → P v) → (vs : List A) (us : List Val)
    → shadow (each A own vs us) → (other : A) → P other → (i : ℕ) → P (get_or vs i other)
each_holds own P tells [] us g other p i = p
each_holds own P tells (v ∷ vs) [] g other p i = absurd g
each_holds own P tells (v ∷ vs) (u ∷ us) g other p zero = tells v u g.0
each_holds own P tells (v ∷ vs) (u ∷ us) g other p (suc i) = each_holds own P tells vs us g.1 other p i

-- of what it holds for a seat, and of the seat of a number
entry_holds : {A : Type 0} (P : A → Type 0) (none : A) (entries : List A) (n : ℕ) → P none → ((i : ℕ) → P (get_or entries i none)) → P (entry_of none entries n)
entry_holds h none entries n nothing each = grind arith

seat_holds : (P : Seat → Type 0) (seats : List Seat) (n : ℕ) → P closed_seat → ((i : ℕ) → P (get_or seats i closed_seat)) → P (seat_of seats n)
unfolding seat_of
seat_holds P seats n closed each = entry_holds P closed_seat seats n closed each

abbrev SsrcFits : Seat → Type 0
SsrcFits s = s.ssrc < 2 ^ 32

none_fits : SsrcFits closed_seat
none_fits = omega arith

pub narrow_tx : (k : Lfts 2) (a : Dens k writer.write_tx.Kinds.ps) → GoodsP k writer.write_tx.Kinds.ps a → Narrow a.0 (from_tx a.1.0)
narrow_tx k a g = grind arith

pub narrow_rx : (k : Lfts 2) (a : Dens k writer.write_rx.Kinds.ps) → GoodsP k writer.write_rx.Kinds.ps a → Narrow a.0 (from_rx a.1.0)
narrow_rx k a g = grind arith

pub narrow_report : (k : Lfts 2) (a : Dens k reporting.report.Kinds.ps) → GoodsP k reporting.report.Kinds.ps a
    → Narrow a.0.setup.ext (from_rx (report_of a.0 a.1.0 a.1.1.0))
unfolding report_of
narrow_report k a g =
    let b = g.0.1.1 in
    record {
      extension = b.0.1.1.1.0.1;
      sequence = entry_holds (λ q. q < 2 ^ 16) 0 a.0.sequences a.1.0 (omega arith) (each_holds u16.own_val (λ q. q < 2 ^ 16) (λ q u h. h.1) a.0.sequences _ b.1.1.0.1.1 0 (omega arith));
      timestamp = g.1.1.0.1;
      ssrc = seat_holds SsrcFits a.0.seats a.1.0 none_fits (each_holds seat.the_row.own_val SsrcFits (λ s u h. h.1.1.1.1.1.1.1.1.0.1) a.0.seats _ b.1.0.1.1 closed_seat none_fits);
    }

-- a tick moves no SSRC, but for those of the seats that it closes
ticked_fits : (ms : ℕ) (seats : List Seat) → ((i : ℕ) → SsrcFits (get_or seats i closed_seat)) → (i : ℕ) → SsrcFits (get_or (map (ticked_seat ms) seats) i closed_seat)
unfolding ticked_seat
ticked_fits ms seats fit i =
    subst SsrcFits (sym (map_place (ticked_seat ms) closed_seat refl seats i)) (ticked_cases SsrcFits ms (get_or seats i closed_seat) none_fits (λ up left. fit i) (fit i))

pub narrow_tick : (k : Lfts 1) (a : Dens k sending.tick.Kinds.ps) → GoodsP k sending.tick.Kinds.ps a → (n : ℕ)
    → Narrow a.0.setup.ext (from_rx (report_of (after_closings a.0 a.1.0) n a.1.1.0))
unfolding report_of ticked_bench
narrow_tick k a g n =
    let b = g.0.1.1 in
    record {
      extension = b.0.1.1.1.0.1;
      sequence = entry_holds (λ q. q < 2 ^ 16) 0 a.0.sequences n (omega arith) (each_holds u16.own_val (λ q. q < 2 ^ 16) (λ q u h. h.1) a.0.sequences _ b.1.1.0.1.1 0 (omega arith));
      timestamp = g.1.1.0.1;
      ssrc =
          seat_holds SsrcFits (map (ticked_seat a.1.0) a.0.seats) n none_fits
          (ticked_fits a.1.0 a.0.seats (each_holds seat.the_row.own_val SsrcFits (λ s u h. h.1.1.1.1.1.1.1.1.0.1) a.0.seats _ b.1.0.1.1 closed_seat none_fits));
    }
