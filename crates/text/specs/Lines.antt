-- What it means to put text on a line.
use Rattle.std.specs.Prelude.{ℕ, ◌≡◌, List}
use Rattle.text.specs.Text.{Written}
use Rattle.text.specs.declared.out.Line.{Line}

-- The line stays in its buffer, and the text is written from its place on.
pub record Puts (before after : Line) (t : List ℕ) : Type 0 where
  pub same_buffer : after.out.ghost_name ≡ before.out.ghost_name
  pub same_place : after.out.ref_ptr ≡ before.out.ref_ptr
  pub text : Written before.out.now after.out.now before.at after.at t
