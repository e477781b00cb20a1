-- 01, "Messages and decoders": RFC 3629's forms of text; 02, C-13: how many characters they are.
use Rattle.std.specs.Prelude.{ℕ, ◌+◌, ◌-◌, Bool, true, false, List, [], ◌∷◌, leb, eqb, Option, Some, None}
use Rattle.base.specs.Outcome.{pick}

-- what the next byte must be: the first of a form; a follower from low to high, and then so many more; or nothing will do, since no form
-- begins or goes on so
pub data Place : Type 0 where
  Lead : Place
  Follower : (low high more : ℕ) → Place
  Failed : Place

abbrev pub in_range : ℕ → ℕ → ℕ → Bool
in_range low high b = pick (leb low b) (leb b high) false

-- "`00-7F`; `C2-DF` and one follower `80-BF`; `E0` then `A0-BF`; `ED` then `80-9F`; other `E1-EF`, any follower; each `E` form one
-- follower more; `F0` then `90-BF`, `F1-F3` any follower, `F4` then `80-8F`, each two more"
unfoldable pub after_lead : ℕ → Place
after_lead b =
    pick (in_range 0x00 0x7F b) Lead (
    pick (in_range 0xC2 0xDF b) (Follower 0x80 0xBF 0) (
    pick (eqb b 0xE0) (Follower 0xA0 0xBF 1) (
    pick (eqb b 0xED) (Follower 0x80 0x9F 1) (
    pick (in_range 0xE1 0xEF b) (Follower 0x80 0xBF 1) (
    pick (eqb b 0xF0) (Follower 0x90 0xBF 2) (
    pick (in_range 0xF1 0xF3 b) (Follower 0x80 0xBF 2) (
    pick (eqb b 0xF4) (Follower 0x80 0x8F 2) (
    Failed))))))))

-- a follower in its range, then so many more of `80-BF`, then a new form
unfoldable pub after_follower : ℕ → ℕ → ℕ → ℕ → Place
after_follower low high more b =
    pick (in_range low high b)
    (pick (eqb more 0) Lead (Follower 0x80 0xBF (more - 1)))
    Failed

abbrev pub next : Place → ℕ → Place
next Lead b = after_lead b
next (Follower low high more) b = after_follower low high more b
next Failed b = Failed

-- the bytes may end where a form may begin
abbrev pub complete : Place → Bool
complete Lead = true
complete (Follower low high more) = false
complete Failed = false

-- the place after bytes, from a place on
unfoldable pub place_after : Place → List ℕ → Place
place_after p [] = p
place_after p (b ∷ bs) = place_after (next p b) bs

abbrev pub text_from : Place → List ℕ → Bool
text_from p bytes = complete (place_after p bytes)

-- whether bytes are text by RFC 3629: forms one after the other, to the end
abbrev pub is_text_of : List ℕ → Bool
is_text_of bytes = text_from Lead bytes

-- a character for each form: how many begin among bytes, from a place on
abbrev pub begun : Place → ℕ
begun Lead = 1
begun (Follower low high more) = 0
begun Failed = 0

unfoldable pub forms_from : Place → List ℕ → ℕ
forms_from p [] = 0
forms_from p (b ∷ bs) = begun p + forms_from (next p b) bs

-- "the number of characters when the bytes are text by RFC 3629, and none otherwise"
abbrev pub characters_from : Place → List ℕ → Option ℕ
characters_from p bytes = pick (text_from p bytes) (Some (forms_from p bytes)) None

unfoldable pub characters_of : List ℕ → Option ℕ
characters_of bytes = characters_from Lead bytes
