-- A line whose bytes were read before says what the line says.
use Rattle.std.proofs.Common.{◌≡◌, ℕ, refl, ap, List, [], length, Option, Some, None}
use Rattle.std.specs.Option.{option_and_then, option_map_or}
use Rattle.words.specs.Input.{word_of}
use Rattle.words.specs.Pairs.{bytes_said, bytes_laid}
use Rattle.packet.specs.declared.message.Direction.TheVariants as direction
use Rattle.packet.specs.declared.message.Direction.{Direction}
use Rattle.grammar.specs.Said.{direction_in}
use Rattle.grammar.specs.Grammar.{setup_in, open_in, packet_in, report_in, read_in, write_tx_in, write_rx_in, plain, write_line, write_in, line_of, named_in, line_in, or_wrong, bytes_in}
use Rattle.grammar.specs.declared.call.Name.{Name}
use Rattle.grammar.specs.declared.call.Name.TheVariants as name
use Rattle.grammar.specs.Pieces.{modes_in, request_in, lent_in, head_in, key_in, tx_in, rx_in, setup_with, open_with, report_with, write_tx_with, write_rx_with, write_way, write_with, said_with, way_bytes, write_bytes, bytes_word}

then_then : {A B C : Type 0} (m : Option A) (f : A → Option B) (g : B → Option C)
    → option_and_then g (option_and_then f m) ≡ option_and_then (λ (a : A). option_and_then g (f a)) m
then_then (Some a) f g = refl
then_then None f g = refl

setup_with_lem : (s : List ℕ) → setup_with s ≡ setup_in s
unfolding modes_in setup_in
setup_with_lem s = simp then_then

open_with_lem : (s : List ℕ) → open_with s ≡ open_in s
unfolding request_in open_in
open_with_lem s = simp then_then

module _ (s : List ℕ) (room : ℕ) where
  report_with_lem : report_with s (bytes_said (word_of s 3) room) ≡ report_in s room
  unfolding report_in lent_in
  report_with_lem = simp then_then

  tx_with : write_tx_with s (bytes_said (word_of s 11) room) ≡ write_tx_in s room
  unfolding write_tx_in tx_in head_in key_in lent_in
  tx_with = simp then_then

  rx_with : write_rx_with s (bytes_said (word_of s 13) room) ≡ write_rx_in s room
  unfolding write_rx_in rx_in head_in key_in lent_in
  rx_with = simp then_then

  write_way_at : (way : Option Direction)
      → option_and_then (write_way s (bytes_said (option_map_or (way_bytes s) way []) room)) way ≡ (option_map_or (write_line s room) way (plain None)).says
  write_way_at None = refl
  write_way_at (Some direction.Tx) = tx_with
  write_way_at (Some direction.Rx) = rx_with

  write_bytes_at : (way : Option Direction) → option_map_or (way_bytes s) way [] ≡ (option_map_or (write_line s room) way (plain None)).bytes
  write_bytes_at None = refl
  write_bytes_at (Some direction.Tx) = refl
  write_bytes_at (Some direction.Rx) = refl

  write_with_lem : write_with s (bytes_said (write_bytes s) room) ≡ (write_in s room).says
  unfolding write_bytes write_in
  write_with_lem = write_way_at (direction_in (word_of s 1))

  write_bytes_lem : write_bytes s ≡ (write_in s room).bytes
  unfolding write_bytes write_in
  write_bytes_lem = write_bytes_at (direction_in (word_of s 1))

  said_at : (named : Option Name) → said_with s named (bytes_said (bytes_word s named) room) ≡ (option_map_or (line_of s room) named (plain None)).says
  unfolding bytes_word packet_in read_in
  said_at None = refl
  said_at (Some name.Setup) = setup_with_lem s
  said_at (Some name.Open) = open_with_lem s
  said_at (Some name.Report) = report_with_lem
  said_at (Some name.Write) = write_with_lem
  said_at (Some name.Close) = refl
  said_at (Some name.Tick) = refl
  said_at (Some name.Packet) = refl
  said_at (Some name.Received) = refl
  said_at (Some name.Transmitter) = refl
  said_at (Some name.Side) = refl
  said_at (Some name.Read) = refl
  said_at (Some name.Quality) = refl
  said_at (Some name.Air) = refl
  said_at (Some name.Totals) = refl
  said_at (Some name.Help) = refl

  bytes_at : (named : Option Name) → bytes_word s named ≡ (option_map_or (line_of s room) named (plain None)).bytes
  unfolding bytes_word
  bytes_at None = refl
  bytes_at (Some name.Write) = write_bytes_lem
  bytes_at (Some name.Setup) = refl
  bytes_at (Some name.Open) = refl
  bytes_at (Some name.Close) = refl
  bytes_at (Some name.Tick) = refl
  bytes_at (Some name.Packet) = refl
  bytes_at (Some name.Report) = refl
  bytes_at (Some name.Received) = refl
  bytes_at (Some name.Transmitter) = refl
  bytes_at (Some name.Side) = refl
  bytes_at (Some name.Read) = refl
  bytes_at (Some name.Quality) = refl
  bytes_at (Some name.Air) = refl
  bytes_at (Some name.Totals) = refl
  bytes_at (Some name.Help) = refl

  -- The whole line, whose bytes the code has read.
  pub call_said : or_wrong (said_with s (named_in s) (bytes_said (bytes_word s (named_in s)) room)) ≡ or_wrong (line_in s room).says
  unfolding line_in
  call_said = ap or_wrong (said_at (named_in s))

pub bytes_said_by_line : (s buffer : List ℕ) → bytes_laid (bytes_word s (named_in s)) buffer ≡ bytes_in s buffer
unfolding bytes_in line_in
bytes_said_by_line s buffer = ap (λ (w : List ℕ). bytes_laid w buffer) (bytes_at s (length buffer) (named_in s))
