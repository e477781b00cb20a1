-- 01, "Messages and decoders", and 02, C-16: what every decoder tries, in this order.
use Rattle.std.specs.Prelude.{ℕ, Bool, true, false, List, [], eqb, ltb, length, get_or}
use Rattle.base.specs.Outcome.{Outcome, accepted, refused, pick}
use Rattle.reading.specs.Message.{kind_of}
use Rattle.reading.specs.Items.{Size, fixed, Items, counted, length_by}

-- "A payload under two bytes, or a kind the decoder doesn't serve" is 25; then "a served kind whose bytes run out, are too many, or don't
-- match the count" is 26; then the contents decide
unfoldable pub reading_of : {A : Type 0} → (serves : ℕ → Bool) → (items : List ℕ → Items) → (contents : List ℕ → Outcome A) → List ℕ → Outcome A
reading_of serves items contents payload =
    pick (ltb (length payload) 2) (refused 25 [])
    (pick (serves (kind_of payload))
    (pick (eqb (length_by (items payload) payload) (length payload)) (contents payload)
    (refused 26 []))
    (refused 25 []))

-- the reading whose answer is the count of its items
abbrev pub count_reading : (serves : ℕ → Bool) → (place : ℕ) → Size → (behind : ℕ) → List ℕ → Outcome ℕ
count_reading serves place size behind = reading_of serves (counted place size behind) (λ p. accepted (get_or p place 0))

-- whether a kind is served, the length of its payload, and the contents
pub record Layout (A : Type 0) : Type 0 where
  pub serves : Bool
  pub len : ℕ
  pub contents : List ℕ → Outcome A

-- that of a served kind
abbrev pub layout : {A : Type 0} → (len : ℕ) → (contents : List ℕ → Outcome A) → Layout A
layout len contents = record { serves = true; len = len; contents = contents }

-- that of any other kind: its length and contents are not asked
abbrev pub no_layout : {A : Type 0} → Layout A
no_layout = record { serves = false; len = 0; contents = λ p. refused 25 [] }

-- a payload whose kind gives its length is one item
abbrev pub by_kind : (ℕ → ℕ) → List ℕ → Items
by_kind len payload = record { first = 0; count = 1; size = fixed (len (kind_of payload)); behind = 0 }

-- and its reading
abbrev pub layout_reading : {A : Type 0} → (ℕ → Layout A) → List ℕ → Outcome A
layout_reading layouts = reading_of (λ k. (layouts k).serves) (by_kind (λ k. (layouts k).len)) (λ p. (layouts (kind_of p)).contents p)
