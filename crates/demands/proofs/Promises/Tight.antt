-- Any two results that satisfy a promise coincide.
use Prim.Native.Nat.{ℕ}
use mathlib.Core.Path.{◌≡◌, refl, ap, ap₂, sym, ◌∙◌}
use mathlib.Core.List.{List}
use denote.Ref.{Bor}
use Rattle.text.specs.declared.out.Line.{Line}
use Rattle.text.specs.Lines.{Puts}
use Rattle.text.proofs.Writing.{written_once}
use Rattle.record.specs.declared.whole.Answered.{Answered}
use Rattle.sending.specs.declared.sending.Ticked.{Ticked}
use Rattle.demands.specs.Tight.{SameLine, TightBase, TightPacket, TightItems, TightReader, TightWriter, TightRecord, TightSeats, TightAir, TightHearing, TightFraming, TightReporting, TightSending, TightText, TightWords, TightShow, TightGrammar, Tight}
use Rattle.packet.proofs.TellApart.{answer_tells}

-- the promise is an equation for the result
meet : {A : Type 0} {x y z : A} → x ≡ z → y ≡ z → x ≡ y
meet p q = p ∙ sym q

-- it is one for what a map that tells apart makes of the result
told : {A B : Type 0} {f : A → B} {r s : A} {z : B} → ((r s : A) → f r ≡ f s → r ≡ s) → f r ≡ z → f s ≡ z → r ≡ s
told {r = r} {s = s} tells p q = tells r s (p ∙ sym q)

-- it says where a part begins
same_place : (r s : Bor (List ℕ)) {block at : ℕ} → (r.ref_ptr.0 ≡ block) × (r.ref_ptr.1 ≡ at) → (s.ref_ptr.0 ≡ block) × (s.ref_ptr.1 ≡ at) → r.ref_ptr ≡ s.ref_ptr
same_place r s p q = ap₂ (λ a i. (a, i)) (meet p.0 q.0) (meet p.1 q.1)

-- it is a text put on a line
put_once : {l m n : Line} {t : List ℕ} → Puts l m t → Puts l n t → SameLine m n
put_once p q = let z = written_once p.text q.text in (z.1, z.0, meet p.same_buffer q.same_buffer, meet p.same_place q.same_place)

-- Of each call: its answer, told apart, and the bench beside it.
answered_once : {A : Type 0} {r s : Answered A} → r.answer ≡ s.answer → r.bench ≡ s.bench → r ≡ s
answered_once p q = ap₂ (λ bench answer. record { bench = bench; answer = answer }) q p

ticked_once : {r s : Ticked} → r.answer ≡ s.answer → r.seats ≡ s.seats → r.bench ≡ s.bench → r ≡ s
ticked_once {r} {s} p q w =
    ap₂ (λ bench sets. record { bench = bench; answer = r.answer; seats = sets }) w q
    ∙ ap (λ answer. record { bench = s.bench; answer = answer; seats = s.seats }) p

pub tight_base : TightBase
tight_base = record {
  byte_at = λ k a r s d e. meet;
  join8 = λ k a r s d e. meet;
  join16 = λ k a r s d e. meet;
  number16_at = λ k a r s d e. meet;
  number32_at = λ k a r s d e. meet;
  least = λ k a r s d e. meet;
  bit = λ k a r s d e. meet;
  part = λ k a r s d e p q. (meet p.0 q.0, same_place r s p.1 q.1);
  copy_in = λ k a r s d e p q. (meet p.0 q.0, meet p.1 q.1);
  other_ssrc = λ k a r s d e. meet;
  distance = λ k a r s d e. meet;
  late = λ k a r s d e. meet;
  size = λ k a r s d e. meet;
  missing = λ k a r s d e. meet;
}

pub tight_packet : TightPacket
tight_packet = record {
  number = λ k a r s d e. meet;
  cause = λ k a r s d e. meet;
  quality = λ k a r s d e. meet;
  audio_length = λ k a r s d e. meet;
  ptt_on = λ k a r s d e. meet;
  sqi_allowed = λ k a r s d e. meet;
}

pub tight_items : TightItems
tight_items = record { items_in = λ k a r s d e. meet }

pub tight_reader : TightReader
tight_reader = record {
  read_tx = λ k a r s d e. told answer_tells;
  read_rx = λ k a r s d e. told answer_tells;
  payload = λ k a r s d e p q. (meet p.0 q.0, same_place r s p.1 q.1);
}

pub tight_writer : TightWriter
tight_writer = record {
  write_tx = λ k a r s d e p q. (told answer_tells p.0 q.0, meet p.1 q.1);
  write_rx = λ k a r s d e p q. (told answer_tells p.0 q.0, meet p.1 q.1);
  put_rx = λ k a r s d e p q. (told answer_tells p.0 q.0, meet p.1 q.1);
}

pub tight_record : TightRecord
tight_record = record {
  kind_code = λ k a r s d e. meet;
  kind_of = λ k a r s d e. meet;
  has_one_side = λ k a r s d e. meet;
  item_barred = λ k a r s d e. meet;
  items_move_side = λ k a r s d e. meet;
  side_told = λ k a r s d e. meet;
  opened = λ k a r s d e. meet;
  fresh = λ k a r s d e. meet;
  no_such_seat = λ k a r s d e. meet;
  entry_of = λ T laws copied clone dict k a r s d e. meet;
  set_entry = λ T laws copied clone dict k a r s d e p q. (refl, meet p q);
  flag_of = λ k a r s d e. meet;
  seat_of = λ k a r s d e. meet;
  lesson_seat = λ k a r s d e. meet;
  is_open = λ k a r s d e. meet;
}

pub tight_seats : TightSeats
tight_seats = record {
  open_seat = λ k a r s d e p q. answered_once (told answer_tells p.0 q.0) (meet p.1 q.1);
  close = λ k a r s d e p q. answered_once (told answer_tells p.0 q.0) (meet p.1 q.1);
  seat_verdict = λ k a r s d e. told answer_tells;
  may_key = λ k a r s d e. meet;
  own_id = λ k a r s d e. meet;
  received = λ k a r s d e. meet;
  transmitter = λ k a r s d e. meet;
  side = λ k a r s d e p q. answered_once (told answer_tells p.0 q.0) (meet p.1 q.1);
  silence_cause = λ k a r s d e. meet;
  silent_seats = λ k a r s d e. meet;
  due_seats = λ k a r s d e. meet;
  ticked_bench = λ k a r s d e. meet;
}

pub tight_air : TightAir
tight_air = record {
  keyed = λ k a r s d e. meet;
  aired = λ k a r s d e. meet;
  moved_last = λ k a r s d e. meet;
  order_after = λ k a r s d e. meet;
}

pub tight_hearing : TightHearing
tight_hearing = record {
  packet = λ k a r s d e p q. answered_once (told answer_tells p.0 q.0) (meet p.1 q.1);
  audio = λ k a r s d e p q. (meet p.0 q.0, same_place r s p.1 q.1);
  totals = λ k a r s d e. told answer_tells;
}

pub tight_reporting : TightReporting
tight_reporting = record {
  report = λ k a r s d e p q. (answered_once (told answer_tells p.0 q.0) (meet p.1.1 q.1.1), meet p.1.0 q.1.0);
  report_of = λ k a r s d e. meet;
  next_sequence = λ k a r s d e. meet;
}

pub tight_framing : TightFraming
tight_framing = record {
  put_length = λ k a r s d e p q. (meet p.0 q.0, meet p.1 q.1);
}

pub tight_sending : TightSending
tight_sending = record {
  tick = λ k a r s d e p q.
      (ticked_once (told answer_tells p.0 q.0) (meet p.1.0 q.1.0) (meet p.1.1.1 q.1.1.1), meet p.1.1.0 q.1.1.0);
}

pub tight_text : TightText
tight_text = record {
  new = λ k a r s d e p q. (meet p.1.1.1 q.1.1.1, meet p.1.1.0 q.1.1.0, meet p.0 q.0, meet p.1.0 q.1.0);
  put = λ k a r s d e. put_once;
  put_byte = λ k a r s d e. put_once;
  put_bit = λ k a r s d e. put_once;
  put_number = λ k a r s d e. put_once;
  put_hex = λ k a r s d e. put_once;
  put_bytes = λ k a r s d e. put_once;
  text = λ k a r s d e p q. (meet p.0 q.0, meet p.1 q.1);
}

pub tight_words : TightWords
tight_words = record {
  word = λ k a r s d e p q. (meet p.0 q.0, same_place r s p.1 q.1);
  last = λ k a r s d e p q. (meet p.0 q.0, same_place r s p.1 q.1);
  choice = λ k a r s d e. meet;
  place_of = λ k a r s d e. meet;
  digit = λ k a r s d e p q. meet p.0 q.0;
  number = λ k a r s d e. meet;
  half = λ k a r s d e. meet;
  hex_half = λ k a r s d e. meet;
  byte = λ k a r s d e. meet;
  level = λ k a r s d e. meet;
  dash = λ k a r s d e. meet;
  bytes = λ k a r s d e p q. (meet p.0 q.0, meet p.1 q.1);
}

pub tight_show : TightShow
tight_show = record {
  tx_line = λ k a r s d e. put_once;
  rx_line = λ k a r s d e. put_once;
  refused_line = λ k a r s d e. put_once;
  refusal_line = λ k a r s d e. put_once;
  answer_line = λ k a r s d e. put_once;
  decode = λ k a r s d e. put_once;
}

pub tight_grammar : TightGrammar
tight_grammar = record {
  named = λ k a r s d e. meet;
  parsed = λ k a r s d e p q. (meet p.0 q.0, meet p.1 q.1);
}

pub tight : Tight
tight = record {
  base = tight_base;
  packet = tight_packet;
  items = tight_items;
  reader = tight_reader;
  writer = tight_writer;
  the_record = tight_record;
  seats = tight_seats;
  air = tight_air;
  hearing = tight_hearing;
  framing = tight_framing;
  reporting = tight_reporting;
  sending = tight_sending;
  text = tight_text;
  words = tight_words;
  show = tight_show;
  grammar = tight_grammar;
}
