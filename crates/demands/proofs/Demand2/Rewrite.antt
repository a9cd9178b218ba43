-- An accepted packet is written again with the same bytes exactly if it is plain and has no type 4 item.
use native.Mathlib.Omega.{arith}
use Prim.Native.Nat.{ℕ, ◌≤◌}
use mathlib.Core.Path.{◌≡◌, refl, ap, sym, subst, ◌∙◌}
use mathlib.Core.List.{List, [], ◌++◌}
use lib.ListN.{length, drop}
use borrow.Author.Tests.{le-ltb}
use Rattle.base.specs.Bytes.{Bytes}
use Rattle.packet.specs.Packet.{word_count, payload_type, payload}
use Rattle.packet.specs.Refusals.{Answer, accepted, mapped}
use Rattle.reader.specs.Reading.{message_of, items_here, read, read_tx, read_rx}
use Rattle.writer.specs.Writing.{fewest_words, kind_for, encode, writer_refusals, write, buffered}
use Rattle.packet.specs.declared.message.Direction.{Direction}
use Rattle.packet.specs.declared.message.Direction.TheVariants.{Tx, Rx}
use Rattle.packet.specs.declared.message.Message.{Message}
use Rattle.demands.specs.Plain.{Plain}
use Rattle.demands.specs.Inversion.{laid, csrc_words}
use Rattle.demands.specs.Rewrite.{WithoutDdc, Rewritten, Rewrite, RewriteTx, RewriteRx}
use Rattle.packet.specs.Messages.{as_tx, as_rx, from_tx, from_rx}
use Rattle.reader.proofs.Passed.{Passed, accepted_passed}
use Rattle.demands.proofs.Demand2.Inversion.{laid_out}
use Rattle.demands.proofs.Demand2.AllowedItems.{rising_are_kept}
use Rattle.demands.proofs.Demand2.Written.{items_for}
use Rattle.demands.proofs.Demand2.RoundTrip.{laid_plain, plain_written, never_written}
use Rattle.demands.proofs.Demand2.Accepted.{items_stand, kind_is, numbers_fit, message_writable, tx_says_all, rx_says_all}

module _ (d : Direction) (ext : ℕ) (p : List ℕ) (small : Bytes p) (h : Passed d ext p) where
  abbrev m : Message
  m = message_of p

  same_items : Plain p → WithoutDdc p → items_for m ≡ items_here p
  unfolding message_of items_here
  same_items plain none = rising_are_kept d (items_here p) (items_stand d ext p small h) none plain.rising

  no_csrc : Plain p → csrc_words p ≡ []
  unfolding csrc_words
  no_csrc plain = simp plain.no_csrc

  same_bytes : Plain p → WithoutDdc p → encode ext m (payload p) ≡ p
  same_bytes plain none =
      let chosen : laid (csrc_words p) (payload_type p) ext (word_count p) m (items_here p) (payload p)
      ≡ laid [] (kind_for (length (payload p))) ext (fewest_words (items_for m)) m (items_for m) (payload p) =
      simp (no_csrc plain, kind_is d ext p small h, plain.fewest, same_items plain none) in
      sym (laid_out d ext p small h ∙ chosen ∙ laid_plain ext m (payload p))

  plain_if_same : encode ext m (payload p) ≡ p → Plain p × WithoutDdc p
  plain_if_same e = grind (arith, message_writable, never_written, numbers_fit, plain_written)

  stands_again : Plain p → WithoutDdc p → (buffer : List ℕ) → length p ≤ length buffer
      → (write ext m (payload p) (length buffer) ≡ accepted (length p)) × (buffered ext m (payload p) buffer ≡ p ++ drop (length p) buffer)
  unfolding write writer_refusals buffered
  stands_again plain none buffer room =
      simp (same_bytes plain none, message_writable d ext p small h, le-ltb (length buffer) (length p) room) (refl, refl)

  rewritten : Rewritten ext p m
  rewritten =
      record {
        writes = message_writable d ext p small h;
        same = (plain_if_same, λ (both : Plain p × WithoutDdc p). same_bytes both.0 both.1);
        stands = stands_again;
      }

pub rewrite : Rewrite
rewrite d ext p m small e =
    let known = accepted_passed d ext p m e in
    subst (Rewritten ext p) known.1 (rewritten d ext p small known.0)

-- a value made from a value was made from an accepted one
pub from_mapped : {A B : Type 0} (f : A → B) (a : Answer A) (b : B) → mapped f a ≡ accepted b → (m : A) × (a ≡ accepted m) × (f m ≡ b)
from_mapped f a b e = grind arith

pub rewrite_tx : RewriteTx
unfolding read_tx
rewrite_tx ext p t small e =
    let (m, r, same) = from_mapped as_tx (read Tx ext p) t e in
    subst (Rewritten ext p) (sym (tx_says_all ext p m small r) ∙ ap from_tx same) (rewrite Tx ext p m small r)

pub rewrite_rx : RewriteRx
unfolding read_rx
rewrite_rx ext p t small e =
    let (m, r, same) = from_mapped as_rx (read Rx ext p) t e in
    subst (Rewritten ext p) (sym (rx_says_all ext p m small r) ∙ ap from_rx same) (rewrite Rx ext p m small r)
