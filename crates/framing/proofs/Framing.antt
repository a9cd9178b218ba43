-- A frame reads back; and a packet laid behind its place, then its length in front of it, are the frame.
use Prim.Native.Nat.{ℕ, ◌-◌, ◌≤◌}
use mathlib.Core.Path.{◌≡◌, refl, ap, ◌∙◌}
use mathlib.Core.List.{List, ◌++◌}
use native.Mathlib.Omega.{arith}
use lib.ListN.{length, take, drop}
use lib.Seq.{take_at, drop_at}
use borrow.Rule.Slice.PartMut.{put_mid}
use Rattle.base.specs.Bytes.{bytes16, overlaid}
use Rattle.base.proofs.Buffers.{overlaid_before}
use Rattle.framing.specs.Framing.{framed, length_read, FramesReadBack}

pub frames_read_back : FramesReadBack
unfolding framed
frames_read_back p rest short =
    let long : length_read (framed p ++ rest) ≡ length p = omega arith in
    record {
      its_length = long;
      its_packet = rw long (take_at p rest (length p) refl);
      its_rest = rw long (drop_at p rest (length p) refl);
    }

pub length_last : (p out out₁ out₂ part : List ℕ) (n : ℕ) → n ≡ length p → 2 ≤ length out → part ≡ overlaid p (take (length out - 2) (drop 2 out))
    → out₁ ≡ put_mid 2 (length out - 2) out part → out₂ ≡ overlaid (bytes16 n) out₁ → out₂ ≡ overlaid (framed p) out
unfolding framed
length_last p out out₁ out₂ part n e room f d g =
    g ∙ ap (λ (k : ℕ). overlaid (bytes16 k) out₁) e ∙ overlaid_before (bytes16 (length p)) p out refl room f d
