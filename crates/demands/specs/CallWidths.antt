-- Second witness of `seats`, `hearing`, `reporting`, `sending`: 01's ranges of what a call is given, as the code's parameters have them:
-- any number of so many bits is taken, with or without a sign, and none is cut off before the call sees it.
use Rattle.std.specs.Prelude.{ℕ, ◌≡◌, List, [], ◌∷◌, ◌++◌}
use mir.Syntax.{Sym, Ty, tnil, tcons, ty_int, ty_struct, w8, w16, w32}
use borrow.Fn.Kinds.{ParamKind, p_num, p_s_num, p_bool}
use Rattle.seats.proofs as seats
use Rattle.hearing.proofs as hearing
use Rattle.reporting.proofs as reporting
use Rattle.sending.proofs as sending

-- Behind the bench a function is given parameters of these kinds first: p_num a number of so many bits, p_s_num one with a sign, p_bool a
-- truth.
pub record Given {n : ℕ} (first parameters : List (ParamKind n)) : Type 3 where
  pub bench : ParamKind n
  pub more : List (ParamKind n)
  pub are : parameters ≡ bench ∷ first ++ more

-- A seat of 8 bits, so that 13 can be met; and the request, whose fields are a call type, "R2S period 20 to 1000 ms, multiplier 2 to 50,
-- SSRC and first sequence number": 16, 8, 32 and 16 bits.
pub record OpenGiven (parameters : List (ParamKind 0)) : Type 3 where
  pub bench : ParamKind 0
  pub request : ParamKind 0
  pub are : parameters ≡ bench ∷ p_num w8 ∷ request ∷ []
  pub name : Sym
  pub call : Ty
  pub fields : request.is.ty ≡ ty_struct name (tcons call (tcons (ty_int w16) (tcons (ty_int w8) (tcons (ty_int w32) (tcons (ty_int w16) tnil)))))

pub record CallWidths : Type 3 where
  -- "signals received (0 to 255) with a level .. (any 16-bit signed number)"
  pub received : Given (p_num w8 ∷ p_s_num w16 ∷ []) seats.received.Kinds.ps
  pub transmitter : Given (p_bool ∷ []) seats.transmitter.Kinds.ps
  pub side : Given (p_bool ∷ []) seats.side.Kinds.ps
  pub opening : OpenGiven seats.open.Kinds.ps
  pub closing : Given (p_num w8 ∷ []) seats.close.Kinds.ps
  pub totals : Given (p_num w8 ∷ []) hearing.totals.Kinds.ps
  pub packet : Given (p_num w8 ∷ []) hearing.packet.Kinds.ps
  -- a seat and a timestamp; ms, so that 24 can be met, and a timestamp
  pub report : Given (p_num w8 ∷ p_num w32 ∷ []) reporting.report.Kinds.ps
  pub tick : Given (p_num w16 ∷ p_num w32 ∷ []) sending.tick.Kinds.ps
