-- No public function asks anything: what follows from nothing is that nothing is asked.
use base.Logic.{ent, emp, sep, via, id⊢, emp∗, mono_l}
use contract.Fact.{fact, fact_i}
use borrow.Fn.World.{World}
use Rattle.demands.specs.AsksNothing.{AsksNothingBase, AsksNothingPacket, AsksNothingItems, AsksNothingReader, AsksNothingWriter, AsksNothingRecord, AsksNothingSeats, AsksNothingAir, AsksNothingHearing, AsksNothingFraming, AsksNothingReporting, AsksNothingSending, AsksNothingText, AsksNothingWords, AsksNothingShow, AsksNothingGrammar, AsksNothing}

pub nothing : (w : World) → ent w.𝓤 (emp w.𝓤) (emp w.𝓤)
nothing w = id⊢ w.𝓤 (emp w.𝓤)

-- what a loan of values of any type asks is what its type says
outlives_alone : {φ : Type 0} (w : World) → φ → ent w.𝓤 (emp w.𝓤) (sep w.𝓤 (fact w.𝓤 φ) (emp w.𝓤))
outlives_alone {φ} w x = via w.𝓤 _ (emp∗ w.𝓤 (emp w.𝓤)) (mono_l w.𝓤 (emp w.𝓤) (fact_i w.𝓤 φ (emp w.𝓤) x))

pub asks_nothing_base : AsksNothingBase
asks_nothing_base = record {
  byte_at = λ k a. nothing;
  join8 = λ k a. nothing;
  join16 = λ k a. nothing;
  number16_at = λ k a. nothing;
  number32_at = λ k a. nothing;
  least = λ k a. nothing;
  bit = λ k a. nothing;
  part = λ k a. nothing;
  copy_in = λ k a. nothing;
  other_ssrc = λ k a. nothing;
  distance = λ k a. nothing;
  late = λ k a. nothing;
  size = λ k a. nothing;
  missing = λ k a. nothing;
}

pub asks_nothing_packet : AsksNothingPacket
asks_nothing_packet = record {
  number = λ k a. nothing;
  cause = λ k a. nothing;
  quality = λ k a. nothing;
  audio_length = λ k a. nothing;
  ptt_on = λ k a. nothing;
  sqi_allowed = λ k a. nothing;
}

pub asks_nothing_items : AsksNothingItems
asks_nothing_items = record {
  items_in = λ k a. nothing;
}

pub asks_nothing_reader : AsksNothingReader
asks_nothing_reader = record {
  read_tx = λ k a. nothing;
  read_rx = λ k a. nothing;
  payload = λ k a. nothing;
}

pub asks_nothing_writer : AsksNothingWriter
asks_nothing_writer = record {
  write_tx = λ k a. nothing;
  write_rx = λ k a. nothing;
  put_rx = λ k a. nothing;
}

pub asks_nothing_record : AsksNothingRecord
asks_nothing_record = record {
  kind_code = λ k a. nothing;
  kind_of = λ k a. nothing;
  has_one_side = λ k a. nothing;
  item_barred = λ k a. nothing;
  items_move_side = λ k a. nothing;
  side_told = λ k a. nothing;
  opened = λ k a. nothing;
  fresh = λ k a. nothing;
  no_such_seat = λ k a. nothing;
  entry_of = λ T laws copied clone dict k a w. outlives_alone w;
  set_entry = λ T laws copied clone dict k a w. outlives_alone w;
  flag_of = λ k a. nothing;
  seat_of = λ k a. nothing;
  lesson_seat = λ k a. nothing;
  is_open = λ k a. nothing;
}

pub asks_nothing_seats : AsksNothingSeats
asks_nothing_seats = record {
  open_seat = λ k a. nothing;
  close = λ k a. nothing;
  seat_verdict = λ k a. nothing;
  may_key = λ k a. nothing;
  own_id = λ k a. nothing;
  received = λ k a. nothing;
  transmitter = λ k a. nothing;
  side = λ k a. nothing;
  silence_cause = λ k a. nothing;
  silent_seats = λ k a. nothing;
  due_seats = λ k a. nothing;
  ticked_bench = λ k a. nothing;
}

pub asks_nothing_air : AsksNothingAir
asks_nothing_air = record {
  keyed = λ k a. nothing;
  aired = λ k a. nothing;
  moved_last = λ k a. nothing;
  order_after = λ k a. nothing;
}

pub asks_nothing_hearing : AsksNothingHearing
asks_nothing_hearing = record {
  packet = λ k a. nothing;
  audio = λ k a. nothing;
  totals = λ k a. nothing;
}

pub asks_nothing_framing : AsksNothingFraming
asks_nothing_framing = record {
  put_length = λ k a. nothing;
}

pub asks_nothing_reporting : AsksNothingReporting
asks_nothing_reporting = record {
  report = λ k a. nothing;
  report_of = λ k a. nothing;
  next_sequence = λ k a. nothing;
}

pub asks_nothing_sending : AsksNothingSending
asks_nothing_sending = record {
  tick = λ k a. nothing;
}

pub asks_nothing_text : AsksNothingText
asks_nothing_text = record {
  new = λ k a. nothing;
  put_byte = λ k a. nothing;
  put = λ k a. nothing;
  put_bit = λ k a. nothing;
  put_number = λ k a. nothing;
  put_hex = λ k a. nothing;
  put_bytes = λ k a. nothing;
  text = λ k a. nothing;
}

pub asks_nothing_words : AsksNothingWords
asks_nothing_words = record {
  word = λ k a. nothing;
  last = λ k a. nothing;
  choice = λ k a. nothing;
  place_of = λ k a. nothing;
  digit = λ k a. nothing;
  number = λ k a. nothing;
  half = λ k a. nothing;
  hex_half = λ k a. nothing;
  byte = λ k a. nothing;
  level = λ k a. nothing;
  dash = λ k a. nothing;
  bytes = λ k a. nothing;
}

pub asks_nothing_show : AsksNothingShow
asks_nothing_show = record {
  tx_line = λ k a. nothing;
  rx_line = λ k a. nothing;
  refused_line = λ k a. nothing;
  refusal_line = λ k a. nothing;
  answer_line = λ k a. nothing;
  decode = λ k a. nothing;
}

pub asks_nothing_grammar : AsksNothingGrammar
asks_nothing_grammar = record {
  named = λ k a. nothing;
  parsed = λ k a. nothing;
}

pub asks_nothing : AsksNothing
asks_nothing = record {
  base = asks_nothing_base;
  packet = asks_nothing_packet;
  items = asks_nothing_items;
  reader = asks_nothing_reader;
  writer = asks_nothing_writer;
  the_record = asks_nothing_record;
  seats = asks_nothing_seats;
  air = asks_nothing_air;
  hearing = asks_nothing_hearing;
  framing = asks_nothing_framing;
  reporting = asks_nothing_reporting;
  sending = asks_nothing_sending;
  text = asks_nothing_text;
  words = asks_nothing_words;
  show = asks_nothing_show;
  grammar = asks_nothing_grammar;
}
