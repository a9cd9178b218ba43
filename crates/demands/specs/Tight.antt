-- 01, How tightly the promises bind: "For every input each public function's promise leaves one possible answer, one next
-- state and one content of the lent buffer, also when it refuses. Show that any two that satisfy it coincide .."
-- A line for each public function of each crate (but `relay`: Walked); docs/PROMISES.md is the table. No promise is said again here: a line
-- cites the `ensures` that stands in the code, as the kit reads it (`Reads.Learnt`, what a caller may rely on).
use Rattle.std.specs.Prelude.{ℕ, ◌≡◌, List}
use Rattle.std.specs.Borrow.{Bor, MutBor}
use denote.RattleType.{RattleType}
use denote.Param.Laws.{Laws, IsCopy}
use mir.Syntax.{Dict}
use Rattle.std.specs.declared.clone.Clone.{Ghosts}
use Rattle.base.proofs as base
use Rattle.packet.proofs as packet
use Rattle.reader.proofs as reader
use Rattle.writer.proofs as writer
use Rattle.record.proofs as the_record
use Rattle.seats.proofs as seats
use Rattle.air.proofs as air
use Rattle.items.proofs as items
use Rattle.hearing.proofs as hearing
use Rattle.framing.proofs as framing
use Rattle.reporting.proofs as reporting
use Rattle.sending.proofs as sending
use Rattle.text.specs.declared.out.Line.{Line}
use Rattle.text.proofs as text
use Rattle.words.proofs as words
use Rattle.show.proofs as show
use Rattle.grammar.proofs as grammar

-- Any two results that satisfy the promise coincide: of the same arguments (and lifetimes k), whatever is seen at exit.
abbrev pub OneResult : {K : Type 0} {A R E : K → Type 0} → (promise : (k : K) → A k → R k → E k → Type 0) → Type 0
OneResult {K} {A} {R} {E} promise = (k : K) (a : A k) (r s : R k) (d e : E k) → promise k a r d → promise k a s e → r ≡ s

-- The same where a buffer is lent (of the parameters at exit, `lent` is the buffer): any two results, and any two contents
-- that the buffer is left with.
abbrev pub OneResultAndBuffer : {K : Type 0} {A R E : K → Type 0} → (promise : (k : K) → A k → R k → E k → Type 0)
    → (lent : (k : K) → E k → MutBor (List ℕ)) → Type 0
OneResultAndBuffer {K} {A} {R} {E} promise lent =
    (k : K) (a : A k) (r s : R k) (d e : E k) → promise k a r d → promise k a s e → (r ≡ s) × ((lent k d).now ≡ (lent k e).now)

-- The same where a line is lent: any two places that it is left at, and any two contents of its buffer, which it stays in and
-- which stays where it is.
abbrev pub SameLine : Line → Line → Type 0
SameLine l m = (l.at ≡ m.at) × (l.out.now ≡ m.out.now) × (l.out.ghost_name ≡ m.out.ghost_name) × (l.out.ref_ptr ≡ m.out.ref_ptr)

abbrev pub OneLine : {K : Type 0} {A R E : K → Type 0} → (promise : (k : K) → A k → R k → E k → Type 0)
    → (lent : (k : K) → E k → MutBor Line) → Type 0
OneLine {K} {A} {R} {E} promise lent =
    (k : K) (a : A k) (r s : R k) (d e : E k) → promise k a r d → promise k a s e → SameLine (lent k d).now (lent k e).now

abbrev pub OneNewLine : {K : Type 0} {A E : K → Type 0} → (promise : (k : K) → A k → Line → E k → Type 0) → Type 0
OneNewLine {K} {A} {E} promise = (k : K) (a : A k) (r s : Line) (d e : E k) → promise k a r d → promise k a s e → SameLine r s

-- The same of a returned part of a lent slice: its content, and where it points.
abbrev pub OnePart : {K : Type 0} {A E : K → Type 0} → (promise : (k : K) → A k → Bor (List ℕ) → E k → Type 0) → Type 0
OnePart {K} {A} {E} promise =
    (k : K) (a : A k) (r s : Bor (List ℕ)) (d e : E k) → promise k a r d → promise k a s e → (r.now ≡ s.now) × (r.ref_ptr ≡ s.ref_ptr)

-- The same of a generic function, at each type whose values are copied.
abbrev pub OneResultOfEach : {K : Type 0} {A R E : RattleType → K → Type 0}
    → (promise : (T : RattleType) → Laws T → IsCopy T → Ghosts T.Denot → Dict → (k : K) → A T k → R T k → E T k → Type 0) → Type 2
OneResultOfEach promise =
    (T : RattleType) (laws : Laws T) (copied : IsCopy T) (clone : Ghosts T.Denot) (dict : Dict) → OneResult (promise T laws copied clone dict)

abbrev pub OneResultAndBufferOfEach : {K : Type 0} {A R E : RattleType → K → Type 0}
    → (promise : (T : RattleType) → Laws T → IsCopy T → Ghosts T.Denot → Dict → (k : K) → A T k → R T k → E T k → Type 0)
    → (lent : (T : RattleType) (k : K) → E T k → MutBor (List T.Denot)) → Type 2
OneResultAndBufferOfEach {K} {A} {R} {E} promise lent =
    (T : RattleType) (laws : Laws T) (copied : IsCopy T) (clone : Ghosts T.Denot) (dict : Dict) (k : K) (a : A T k) (r s : R T k) (d e : E T k)
    → promise T laws copied clone dict k a r d → promise T laws copied clone dict k a s e → (r ≡ s) × ((lent T k d).now ≡ (lent T k e).now)

pub record TightBase : Type 1 where
  pub byte_at : OneResult base.byte_at.Reads.Learnt
  pub join8 : OneResult base.join8.Reads.Learnt
  pub join16 : OneResult base.join16.Reads.Learnt
  pub number16_at : OneResult base.number16_at.Reads.Learnt
  pub number32_at : OneResult base.number32_at.Reads.Learnt
  pub least : OneResult base.least.Reads.Learnt
  pub bit : OneResult base.bit.Reads.Learnt
  pub part : OnePart base.part.Reads.Learnt
  pub copy_in : OneResultAndBuffer base.copy_in.Reads.Learnt (λ k e. e.0)
  pub other_ssrc : OneResult base.other_ssrc.Reads.Learnt
  pub distance : OneResult base.distance.Reads.Learnt
  pub late : OneResult base.late.Reads.Learnt
  pub size : OneResult base.size.Reads.Learnt
  pub missing : OneResult base.missing.Reads.Learnt

pub record TightPacket : Type 1 where
  pub number : OneResult packet.number.Reads.Learnt
  pub cause : OneResult packet.cause.Reads.Learnt
  pub quality : OneResult packet.quality.Reads.Learnt
  pub audio_length : OneResult packet.audio_length.Reads.Learnt
  pub ptt_on : OneResult packet.ptt_on.Reads.Learnt
  pub sqi_allowed : OneResult packet.sqi_allowed.Reads.Learnt

pub record TightItems : Type 1 where
  pub items_in : OneResult items.items_in.Reads.Learnt

pub record TightReader : Type 1 where
  pub read_tx : OneResult reader.read_tx.Reads.Learnt
  pub read_rx : OneResult reader.read_rx.Reads.Learnt
  pub payload : OnePart reader.payload.Reads.Learnt

pub record TightWriter : Type 1 where
  pub write_tx : OneResultAndBuffer writer.write_tx.Reads.Learnt (λ k e. e.1.1.1.0)
  pub write_rx : OneResultAndBuffer writer.write_rx.Reads.Learnt (λ k e. e.1.1.1.0)
  pub put_rx : OneResultAndBuffer writer.put_rx.Reads.Learnt (λ k e. e.1.1.1.0)

pub record TightRecord : Type 2 where
  pub kind_code : OneResult the_record.kind_code.Reads.Learnt
  pub kind_of : OneResult the_record.kind.kind_of.Reads.Learnt
  pub has_one_side : OneResult the_record.kind.has_one_side.Reads.Learnt
  pub item_barred : OneResult the_record.kind.item_barred.Reads.Learnt
  pub items_move_side : OneResult the_record.kind.items_move_side.Reads.Learnt
  pub side_told : OneResult the_record.kind.side_told.Reads.Learnt
  pub opened : OneResult the_record.seat.Seat.opened.Reads.Learnt
  pub fresh : OneResult the_record.whole.Bench.fresh.Reads.Learnt
  pub no_such_seat : OneResult the_record.no_such_seat.Reads.Learnt
  pub entry_of : OneResultOfEach the_record.entry_of.Reads.Learnt
  pub set_entry : OneResultAndBufferOfEach the_record.set_entry.Reads.Learnt (λ T k e. e.0)
  pub flag_of : OneResult the_record.flag_of.Reads.Learnt
  pub seat_of : OneResult the_record.seat_of.Reads.Learnt
  pub lesson_seat : OneResult the_record.lesson_seat.Reads.Learnt
  pub is_open : OneResult the_record.is_open.Reads.Learnt

pub record TightSeats : Type 1 where
  pub open_seat : OneResult seats.«open».Reads.Learnt
  pub close : OneResult seats.close.Reads.Learnt
  pub seat_verdict : OneResult seats.opening.seat_verdict.Reads.Learnt
  pub may_key : OneResult seats.opening.may_key.Reads.Learnt
  pub own_id : OneResult seats.opening.own_id.Reads.Learnt
  pub received : OneResult seats.received.Reads.Learnt
  pub transmitter : OneResult seats.transmitter.Reads.Learnt
  pub side : OneResult seats.side.Reads.Learnt
  pub silence_cause : OneResult seats.silence_cause.Reads.Learnt
  pub silent_seats : OneResult seats.silent_seats.Reads.Learnt
  pub due_seats : OneResult seats.due_seats.Reads.Learnt
  pub ticked_bench : OneResult seats.ticked_bench.Reads.Learnt

pub record TightAir : Type 1 where
  pub keyed : OneResult air.air.keyed.Reads.Learnt
  pub aired : OneResult air.aired.Reads.Learnt
  pub moved_last : OneResult air.order.moved_last.Reads.Learnt
  pub order_after : OneResult air.order_after.Reads.Learnt

pub record TightHearing : Type 1 where
  pub packet : OneResult hearing.packet.Reads.Learnt
  pub audio : OnePart hearing.audio.Reads.Learnt
  pub totals : OneResult hearing.totals.Reads.Learnt

pub record TightFraming : Type 1 where
  pub put_length : OneResultAndBuffer framing.put_length.Reads.Learnt (λ k e. e.1.0)

pub record TightReporting : Type 1 where
  pub report : OneResultAndBuffer reporting.report.Reads.Learnt (λ k e. e.1.1.1.1.0)
  pub report_of : OneResult reporting.report_of.Reads.Learnt
  pub next_sequence : OneResult reporting.next_sequence.Reads.Learnt

pub record TightSending : Type 1 where
  pub tick : OneResultAndBuffer sending.tick.Reads.Learnt (λ k e. e.1.1.1.0)

pub record TightText : Type 1 where
  pub new : OneNewLine text.out.Line.new.Reads.Learnt
  pub put : OneLine text.out.Line.put.Reads.Learnt (λ k e. e.0)
  pub put_byte : OneLine text.out.Line.put_byte.Reads.Learnt (λ k e. e.0)
  pub put_bit : OneLine text.out.Line.put_bit.Reads.Learnt (λ k e. e.0)
  pub put_number : OneLine text.out.Line.put_number.Reads.Learnt (λ k e. e.0)
  pub put_hex : OneLine text.out.Line.put_hex.Reads.Learnt (λ k e. e.0)
  pub put_bytes : OneLine text.out.Line.put_bytes.Reads.Learnt (λ k e. e.0)
  pub text : OnePart text.out.Line.text.Reads.Learnt

pub record TightWords : Type 1 where
  pub word : OnePart words.word.Reads.Learnt
  pub last : OnePart words.last.Reads.Learnt
  pub choice : OneResult words.choice.Reads.Learnt
  pub place_of : OneResult words.place_of.Reads.Learnt
  pub digit : OneResult words.numbers.digit.Reads.Learnt
  pub number : OneResult words.number.Reads.Learnt
  pub half : OneResult words.half.Reads.Learnt
  pub hex_half : OneResult words.hex_half.Reads.Learnt
  pub byte : OneResult words.byte.Reads.Learnt
  pub level : OneResult words.level.Reads.Learnt
  pub dash : OneResult words.dash.Reads.Learnt
  pub bytes : OneResultAndBuffer words.bytes.Reads.Learnt (λ k e. e.1.0)

pub record TightShow : Type 1 where
  pub tx_line : OneLine show.tx_line.Reads.Learnt (λ k e. e.0)
  pub rx_line : OneLine show.rx_line.Reads.Learnt (λ k e. e.0)
  pub refused_line : OneLine show.refused_line.Reads.Learnt (λ k e. e.0)
  pub refusal_line : OneLine show.refusal_line.Reads.Learnt (λ k e. e.0)
  pub answer_line : OneLine show.answer_line.Reads.Learnt (λ k e. e.0)
  pub decode : OneLine show.decode.Reads.Learnt (λ k e. e.0)

pub record TightGrammar : Type 1 where
  pub named : OneResult grammar.named.Reads.Learnt
  pub parsed : OneResultAndBuffer grammar.parsed.Reads.Learnt (λ k e. e.1.0)

-- All 94.
pub record Tight : Type 2 where
  pub base : TightBase
  pub packet : TightPacket
  pub items : TightItems
  pub reader : TightReader
  pub writer : TightWriter
  pub the_record : TightRecord
  pub seats : TightSeats
  pub air : TightAir
  pub hearing : TightHearing
  pub framing : TightFraming
  pub reporting : TightReporting
  pub sending : TightSending
  pub text : TightText
  pub words : TightWords
  pub show : TightShow
  pub grammar : TightGrammar
