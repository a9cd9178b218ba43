-- From what the code tested to the value of the same test in a definition: the set that most answers search.
use borrow.Author.Tests.{lt-ltb, le-ltb, le-leb, lt-leb, eq-eqb, ne_eqb}
use native.Mathlib.Nat.{div-one}
use native.Mathlib.Omega.{arith}

pub ruleset tests = (tt, div-one, lt-ltb, le-ltb, le-leb, lt-leb, eq-eqb, ne_eqb, arith)
