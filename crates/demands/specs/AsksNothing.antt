-- Demand 1: "A packet, setting or order of calls may be anything at all, and each public entry deals with it itself, ..": so none asks
-- anything of its caller. A line for each that Tight has; a line cites the `requires` of the code, as the kit has it
-- (`Reads.requires`, in every model of the logic; true where none is written).
use package.base.Logic.{ent, emp}
use borrow.Fn.World.{World, Pr}
use contract.BorrowLft.{◌⊑◌}
use contract.Lifetimes.{Lfts}
use denote.RattleType.{RattleType}
use denote.Param.Laws.{Laws, IsCopy}
use mir.Syntax.{Dict}
use Rattle.std.specs.declared.clone.Clone.{Ghosts}
use Rattle.base.proofs as base
use Rattle.packet.proofs as packet
use Rattle.reader.proofs as reader
use Rattle.writer.proofs as writer
use Rattle.record.proofs as the_record
use Rattle.seats.proofs as seats
use Rattle.air.proofs as air
use Rattle.items.proofs as items
use Rattle.hearing.proofs as hearing
use Rattle.framing.proofs as framing
use Rattle.reporting.proofs as reporting
use Rattle.sending.proofs as sending
use Rattle.text.proofs as text
use Rattle.words.proofs as words
use Rattle.show.proofs as show
use Rattle.grammar.proofs as grammar

-- Whatever the arguments are (and the lifetimes k), what is asked follows from nothing: no fact about them, and nothing that a caller
-- would own. (`Reads.Asked` alone, the facts that the kit reads off it, would not do: it passes over what stands left of a `∗` and is
-- more than one fact.)
abbrev pub NothingAsked : {K : Type 0} {A : K → Type 0} → (requires : (k : K) → A k → (ghost : Unit {0}) → (w : World) → Pr w) → Type 2
NothingAsked {K} {A} requires = (k : K) (a : A k) (w : World) → ent w.𝓤 (emp w.𝓤) (requires k a tt w)

-- The same of a generic function, at each type whose values are copied, where those that are lent outlive the loan: without that there is no
-- such loan.
abbrev pub NothingAskedOfEach : {A : RattleType → Lfts 2 → Type 0}
    → (requires : (T : RattleType) → Laws T → IsCopy T → Ghosts T.Denot → Dict → (k : Lfts 2) → A T k → (ghost : Unit {0}) → (w : World) → Pr w) → Type 2
NothingAskedOfEach {A} requires =
    (T : RattleType) (laws : Laws T) (copied : IsCopy T) (clone : Ghosts T.Denot) (dict : Dict) (k : Lfts 2) (a : A T k) (w : World)
    → k.1.0 ⊑ T.lives → ent w.𝓤 (emp w.𝓤) (requires T laws copied clone dict k a tt w)

pub record AsksNothingBase : Type 2 where
  pub byte_at : NothingAsked base.byte_at.Reads.requires
  pub join8 : NothingAsked base.join8.Reads.requires
  pub join16 : NothingAsked base.join16.Reads.requires
  pub number16_at : NothingAsked base.number16_at.Reads.requires
  pub number32_at : NothingAsked base.number32_at.Reads.requires
  pub least : NothingAsked base.least.Reads.requires
  pub bit : NothingAsked base.bit.Reads.requires
  pub part : NothingAsked base.part.Reads.requires
  pub copy_in : NothingAsked base.copy_in.Reads.requires
  pub other_ssrc : NothingAsked base.other_ssrc.Reads.requires
  pub distance : NothingAsked base.distance.Reads.requires
  pub late : NothingAsked base.late.Reads.requires
  pub size : NothingAsked base.size.Reads.requires
  pub missing : NothingAsked base.missing.Reads.requires

pub record AsksNothingPacket : Type 2 where
  pub number : NothingAsked packet.number.Reads.requires
  pub cause : NothingAsked packet.cause.Reads.requires
  pub quality : NothingAsked packet.quality.Reads.requires
  pub audio_length : NothingAsked packet.audio_length.Reads.requires
  pub ptt_on : NothingAsked packet.ptt_on.Reads.requires
  pub sqi_allowed : NothingAsked packet.sqi_allowed.Reads.requires

pub record AsksNothingItems : Type 2 where
  pub items_in : NothingAsked items.items_in.Reads.requires

pub record AsksNothingReader : Type 2 where
  pub read_tx : NothingAsked reader.read_tx.Reads.requires
  pub read_rx : NothingAsked reader.read_rx.Reads.requires
  pub payload : NothingAsked reader.payload.Reads.requires

pub record AsksNothingWriter : Type 2 where
  pub write_tx : NothingAsked writer.write_tx.Reads.requires
  pub write_rx : NothingAsked writer.write_rx.Reads.requires
  pub put_rx : NothingAsked writer.put_rx.Reads.requires

pub record AsksNothingRecord : Type 2 where
  pub kind_code : NothingAsked the_record.kind_code.Reads.requires
  pub kind_of : NothingAsked the_record.kind.kind_of.Reads.requires
  pub has_one_side : NothingAsked the_record.kind.has_one_side.Reads.requires
  pub item_barred : NothingAsked the_record.kind.item_barred.Reads.requires
  pub items_move_side : NothingAsked the_record.kind.items_move_side.Reads.requires
  pub side_told : NothingAsked the_record.kind.side_told.Reads.requires
  pub opened : NothingAsked the_record.seat.Seat.opened.Reads.requires
  pub fresh : NothingAsked the_record.whole.Bench.fresh.Reads.requires
  pub no_such_seat : NothingAsked the_record.no_such_seat.Reads.requires
  pub entry_of : NothingAskedOfEach the_record.entry_of.Reads.requires
  pub set_entry : NothingAskedOfEach the_record.set_entry.Reads.requires
  pub flag_of : NothingAsked the_record.flag_of.Reads.requires
  pub seat_of : NothingAsked the_record.seat_of.Reads.requires
  pub lesson_seat : NothingAsked the_record.lesson_seat.Reads.requires
  pub is_open : NothingAsked the_record.is_open.Reads.requires

pub record AsksNothingSeats : Type 2 where
  pub open_seat : NothingAsked seats.«open».Reads.requires
  pub close : NothingAsked seats.close.Reads.requires
  pub seat_verdict : NothingAsked seats.opening.seat_verdict.Reads.requires
  pub may_key : NothingAsked seats.opening.may_key.Reads.requires
  pub own_id : NothingAsked seats.opening.own_id.Reads.requires
  pub received : NothingAsked seats.received.Reads.requires
  pub transmitter : NothingAsked seats.transmitter.Reads.requires
  pub side : NothingAsked seats.side.Reads.requires
  pub silence_cause : NothingAsked seats.silence_cause.Reads.requires
  pub silent_seats : NothingAsked seats.silent_seats.Reads.requires
  pub due_seats : NothingAsked seats.due_seats.Reads.requires
  pub ticked_bench : NothingAsked seats.ticked_bench.Reads.requires

pub record AsksNothingAir : Type 2 where
  pub keyed : NothingAsked air.air.keyed.Reads.requires
  pub aired : NothingAsked air.aired.Reads.requires
  pub moved_last : NothingAsked air.order.moved_last.Reads.requires
  pub order_after : NothingAsked air.order_after.Reads.requires

pub record AsksNothingHearing : Type 2 where
  pub packet : NothingAsked hearing.packet.Reads.requires
  pub audio : NothingAsked hearing.audio.Reads.requires
  pub totals : NothingAsked hearing.totals.Reads.requires

pub record AsksNothingFraming : Type 2 where
  pub put_length : NothingAsked framing.put_length.Reads.requires

pub record AsksNothingReporting : Type 2 where
  pub report : NothingAsked reporting.report.Reads.requires
  pub report_of : NothingAsked reporting.report_of.Reads.requires
  pub next_sequence : NothingAsked reporting.next_sequence.Reads.requires

pub record AsksNothingSending : Type 2 where
  pub tick : NothingAsked sending.tick.Reads.requires

pub record AsksNothingText : Type 2 where
  pub new : NothingAsked text.out.Line.new.Reads.requires
  pub put_byte : NothingAsked text.out.Line.put_byte.Reads.requires
  pub put : NothingAsked text.out.Line.put.Reads.requires
  pub put_bit : NothingAsked text.out.Line.put_bit.Reads.requires
  pub put_number : NothingAsked text.out.Line.put_number.Reads.requires
  pub put_hex : NothingAsked text.out.Line.put_hex.Reads.requires
  pub put_bytes : NothingAsked text.out.Line.put_bytes.Reads.requires
  pub text : NothingAsked text.out.Line.text.Reads.requires

pub record AsksNothingWords : Type 2 where
  pub word : NothingAsked words.word.Reads.requires
  pub last : NothingAsked words.last.Reads.requires
  pub choice : NothingAsked words.choice.Reads.requires
  pub place_of : NothingAsked words.place_of.Reads.requires
  pub digit : NothingAsked words.numbers.digit.Reads.requires
  pub number : NothingAsked words.number.Reads.requires
  pub half : NothingAsked words.half.Reads.requires
  pub hex_half : NothingAsked words.hex_half.Reads.requires
  pub byte : NothingAsked words.byte.Reads.requires
  pub level : NothingAsked words.level.Reads.requires
  pub dash : NothingAsked words.dash.Reads.requires
  pub bytes : NothingAsked words.bytes.Reads.requires

pub record AsksNothingShow : Type 2 where
  pub tx_line : NothingAsked show.tx_line.Reads.requires
  pub rx_line : NothingAsked show.rx_line.Reads.requires
  pub refused_line : NothingAsked show.refused_line.Reads.requires
  pub refusal_line : NothingAsked show.refusal_line.Reads.requires
  pub answer_line : NothingAsked show.answer_line.Reads.requires
  pub decode : NothingAsked show.decode.Reads.requires

pub record AsksNothingGrammar : Type 2 where
  pub named : NothingAsked grammar.named.Reads.requires
  pub parsed : NothingAsked grammar.parsed.Reads.requires

-- All 94.
pub record AsksNothing : Type 2 where
  pub base : AsksNothingBase
  pub packet : AsksNothingPacket
  pub items : AsksNothingItems
  pub reader : AsksNothingReader
  pub writer : AsksNothingWriter
  pub the_record : AsksNothingRecord
  pub seats : AsksNothingSeats
  pub air : AsksNothingAir
  pub hearing : AsksNothingHearing
  pub framing : AsksNothingFraming
  pub reporting : AsksNothingReporting
  pub sending : AsksNothingSending
  pub text : AsksNothingText
  pub words : AsksNothingWords
  pub show : AsksNothingShow
  pub grammar : AsksNothingGrammar
