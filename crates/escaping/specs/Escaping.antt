-- 01, "Frames": escaping, and 11 to 13 of unescaping.
use Rattle.std.specs.Prelude.{ℕ, List, [], ◌∷◌, ◌++◌, length, ltb, eqb}
use Rattle.base.specs.Outcome.{Outcome, accepted, refused, pick, on_accepted}
use Rattle.base.specs.Writing.{WriteEffect, over, zeros}

-- "START `3E`, END `3C`, SENTRY `3D`"
abbrev pub START : ℕ
START = 0x3E

abbrev pub END : ℕ
END = 0x3C

abbrev pub SENTRY : ℕ
SENTRY = 0x3D

-- "Escaping turns `3C`, `3D`, `3E` into `3D 2C`, `3D 2D`, `3D 2E`"
unfoldable pub escaped_byte : ℕ → List ℕ
escaped_byte b =
    pick (eqb b END) (SENTRY ∷ 0x2C ∷ [])
    (pick (eqb b SENTRY) (SENTRY ∷ 0x2D ∷ [])
    (pick (eqb b START) (SENTRY ∷ 0x2E ∷ [])
    (b ∷ [])))

-- what g gives for each byte, in order
unfoldable pub each_of : (ℕ → List ℕ) → List ℕ → List ℕ
each_of g [] = []
each_of g (b ∷ bs) = g b ++ each_of g bs

abbrev pub escape_of : List ℕ → List ℕ
escape_of bytes = each_of escaped_byte bytes

-- between the markers
abbrev pub framed : List ℕ → List ℕ
framed body = START ∷ escape_of body ++ (END ∷ [])

abbrev pub then_byte : ℕ → Outcome (List ℕ) → Outcome (List ℕ)
then_byte b rest = on_accepted (λ (bs : List ℕ). b ∷ bs) rest

-- the byte that an escapee stands for, before the rest; 13 with the escapee's byte
unfoldable pub escapee_then : ℕ → Outcome (List ℕ) → Outcome (List ℕ)
escapee_then e rest =
    pick (eqb e 0x2C) (then_byte END rest)
    (pick (eqb e 0x2D) (then_byte SENTRY rest)
    (pick (eqb e 0x2E) (then_byte START rest)
    (refused 13 (e ∷ []))))

-- the bytes unescaped, where the first is an escapee or not; 12 where a SENTRY is the last byte
unfoldable mutual
  pub unescape_of : List ℕ → Outcome (List ℕ)
  unescape_of [] = accepted []
  unescape_of (b ∷ bs) = pick (eqb b SENTRY) (escapee_of bs) (then_byte b (unescape_of bs))

  pub escapee_of : List ℕ → Outcome (List ℕ)
  escapee_of [] = refused 12 []
  escapee_of (e ∷ bs) = escapee_then e (unescape_of bs)

-- 11 before 12 and 13; "unescape's 12 and 13 zero its output"
abbrev pub unescape_left : Outcome (List ℕ) → List ℕ → List ℕ
unescape_left (accepted bytes) out = over bytes out
unescape_left (refused n vs) out = zeros out

unfoldable pub unescape_call : List ℕ → List ℕ → WriteEffect
unescape_call src out =
    pick (ltb (length out) (length src))
    (record { answer = refused 11 []; out = out })
    (record { answer = on_accepted length (unescape_of src); out = unescape_left (unescape_of src) out })
